-- `same_name` meets its contract: the two names as they are. Assumes nothing.
use mathlib.Core.Path.{ap₂, ◌∙◌}
use Rattle.octets.specs.Octets.{same_of}
use Rattle.octets.proofs.Theorems.{not_folded}
use Rattle.mend.proofs.fields.same_name.Goals as goal

pub returns : goal.returns
returns c =
    c.same.ensures ∙ ap₂ same_of (not_folded c.name_at.result.now ∙ c.name_at.ensures) (not_folded c.name_at-2.result.now ∙ c.name_at-2.ensures)
