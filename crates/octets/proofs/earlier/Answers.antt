-- `earlier` meets its contract: by bytes or by words. Assumes nothing.
use mathlib.Core.Path.{ap₂, ◌∙◌}
use Rattle.octets.specs.Octets.{before_of}
use Rattle.octets.proofs.Theorems.{not_folded}
use Rattle.octets.proofs.earlier.Goals as goal

pub returns-then-s-t : goal.returns-then-s-t
returns-then-s-t c =
    let a = c.args in c.before-then-s-t.ensures ∙ ap₂ before_of (not_folded a.s.now) (not_folded a.t.now)
