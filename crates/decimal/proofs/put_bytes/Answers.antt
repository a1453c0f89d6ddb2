use mathlib.Core.Path.{refl}
use Rattle.decimal.proofs.put_bytes.Goals as goal

pub returns : goal.returns
returns c = record { stored = c.copy_to.ensures; next = refl }
