use Prim.Native.Nat.{ℕ, ◌≤◌}
use lib.ListN.{length, replicate, length-replicate}
use Rattle.lexer.specs.Token.{string_at}
use native.Mathlib.Omega.{arith}
use mathlib.Core.Path.{◌∙◌, ap}
use Rattle.grammar.specs.Judge.{pattern_test}
use Rattle.operands.proofs.Literals.{copied_is}
use Rattle.operands.proofs.literal.judge.Goals as goal

pub whole_as_slice-copy_string : goal.whole_as_slice-copy_string
whole_as_slice-copy_string g c = omega arith

pub shared_whole_as_front-is_pattern : goal.shared_whole_as_front-is_pattern
shared_whole_as_front-is_pattern g c = (omega (arith, c.copy_string-n.ensures.value), omega arith)

pub returns : goal.returns
returns g c =
    let a = c.args in
    let n = c.copy_string-n in
    let fits : length (string_at a.text.now a.at) ≤ length (replicate {A = ℕ} g.row.N 0) = omega (arith, length-replicate {A = ℕ} g.row.N 0) in
    c.is_pattern.ensures ∙ ap (pattern_test a.function) (copied_is a.text.now a.at (replicate g.row.N 0) fits n.ensures.value n.ensures.part_after)
