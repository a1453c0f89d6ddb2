use Prim.Native.Nat.{ℕ, ◌+◌, ◌-◌, ◌*◌}
use mathlib.Core.List.{List}
use lib.ListN.{length}
use Rattle.lexer.specs.Token.{Token}
use Rattle.grammar.specs.Parse.{prefix_of}
use Rattle.postfix.specs.Marked.{Marked}
use Rattle.postfix.specs.Packed.{next_in}
use Rattle.postfix.specs.Answer.{Answered}
use Rattle.postfix.proofs.Climbing.{Climbing, ahead, Arguing}
use Rattle.postfix.proofs.+level.Given as goal

abbrev pub decreases-arguments : goal.decreases-arguments
decreases-arguments l = (length l.marks.now - l.at) * 16

abbrev pub decreases-first : goal.decreases-first
decreases-first l = (length l.marks.now - l.at) * 16 + 3

abbrev pub decreases-level : goal.decreases-level
decreases-level l = (length l.marks.now - l.at) * 16 + (15 - l.l)

abbrev pub decreases-operand : goal.decreases-operand
decreases-operand l = (length l.marks.now - l.at) * 16 + 1

abbrev pub decreases-prefix : goal.decreases-prefix
decreases-prefix l = (length l.marks.now - l.at) * 16 + 2

abbrev pub decreases-tighter : goal.decreases-tighter
decreases-tighter l = (length l.marks.now - l.at) * 16 + (16 - l.l)

abbrev pub invariant-arguments-loop-codes : goal.invariant-arguments-loop-codes
invariant-arguments-loop-codes l = (ks : List Token) → Marked l.marks ks → Arguing ks l.at l.i l.initial.codes l.codes l.args.0

abbrev pub decreases-arguments-loop-codes : goal.decreases-arguments-loop-codes
decreases-arguments-loop-codes l = length l.marks - next_in l.args.0

abbrev pub invariant-level-loop-left : goal.invariant-level-loop-left
invariant-level-loop-left l = (ks : List Token) → Marked l.marks ks → (was : List ℕ) → Answered (prefix_of ks l.at) l.i was l.initial.codes l.initial.left.0 → Climbing ks l.at l.l l.i was l.codes l.left.0

abbrev pub decreases-level-loop-left : goal.decreases-level-loop-left
decreases-level-loop-left l = ahead (length l.marks) l.left.0
