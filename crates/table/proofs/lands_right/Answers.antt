-- `table::lands_right` meets its contract. Assumes nothing.
use mathlib.Core.Path.{◌≡◌, refl}
use mathlib.Core.Bool.{false}
use Rattle.table.specs.declared.groups.Group.{Group}
use Rattle.table.specs.Groups.{skip_by}
use Rattle.table.proofs.lands_right.Goals as goal

-- a group of the other arm is no skip
others : (g : Group) → (g ≡ Group.Skip → ⊥) → skip_by g ≡ false
others Group.Int32 k = refl
others Group.Wide k = refl
others Group.Text k = refl
others Group.Name k = refl
others Group.Change k = refl
others Group.Not k = refl
others Group.Test k = refl
others Group.Combine k = refl
others Group.Compare k = refl
others Group.Connect k = refl
others Group.Many k = refl
others Group.Skip k = absurd (k refl)
others Group.Unknown k = refl

pub returns-in-Skip : goal.returns-in-Skip
returns-in-Skip c = rw c.in-Skip.is c.land.ensures

pub returns-in_default : goal.returns-in_default
returns-in_default c =
    let n = others c.args.g c.in_default.not-Skip in
    record { answer = rw n; wants = λ t. rw n }
