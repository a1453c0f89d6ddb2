use mathlib.Core.Path.{sym, ap}
use Rattle.value.specs.Value.{text}
use Rattle.value.specs.Held.{part_of}
use Rattle.value.proofs.Parts.{refold}
use Rattle.value.proofs.values.fold_case.Goals as goal

pub returns-in-Text : goal.returns-in-Text
returns-in-Text c =
    λ p q. let x = c.in-Text.p in
    rw (c.in-Text.is, c.fold_piece.ensures) (sym (ap text (refold x.folded (part_of p q x))))
