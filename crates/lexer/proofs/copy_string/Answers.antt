use Prim.Native.Nat.{◌+◌, ◌-◌}
use mathlib.Core.Path.{◌≡◌}
use native.Mathlib.Omega.{arith}
use lib.ListN.{drop, length-take}
use Rattle.lexer.specs.Token.{string_at}
use Rattle.lexer.proofs.Scans.{stand_length}
use Rattle.lexer.proofs.copy_string.Goals as goal

pub copy_to-requires : goal.copy_to-requires
copy_to-requires c =
    let t = c.args in
    let n = c.in-Some.n in
    omega (arith, length-take (t.at + 1 + n - (t.at + 1)) (drop (t.at + 1) t.text.now), c.if-n-part.true)

pub returns-then-n-part-clause-part_after : goal.returns-then-n-part-clause-part_after
returns-then-n-part-clause-part_after c =
    let t = c.args in
    let n = c.in-Some.n in
    let k : t.at + 1 + n - (t.at + 1) ≡ n = omega arith in
    rw (k, c.in-Some.ensures.1) at c.copy_to.ensures

pub returns : goal.returns
returns c =
    (rw (c.byte_at.ensures, c.rest.ensures, c.rest-from.ensures) at c.copy_plain.ensures)
