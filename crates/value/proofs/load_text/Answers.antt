use mathlib.Core.Path.{ap, ◌∙◌}
use Rattle.octets.proofs.Theorems.{not_folded}
use Rattle.value.specs.Value.{text, value}
use Rattle.value.proofs.load_text.Goals as goal

pub returns : goal.returns
returns c = λ p q. c.valued.ensures p q ∙ (rw c.in_pool.ensures (ap (λ s. value (text s)) (not_folded _)))
