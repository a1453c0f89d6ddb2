use Prim.Native.Nat.{◌≤◌}
use native.Mathlib.Omega.{arith}
use lib.Dec.{lit≤}
use lib.ListN.{length}
use Rattle.lexer.specs.Token.{string_at}
use Rattle.grammar.proofs.Streams.{string_small}
use Rattle.operands.proofs.literal.literal_right.Goals as goal

pub judge-requires : goal.judge-requires
judge-requires c =
    let a = c.args in
    let h : length (string_at a.text.now a.at) ≤ 4096 = omega (arith, string_small a.text.now a.at, c.requires) in
    (h, lit≤ tt)
