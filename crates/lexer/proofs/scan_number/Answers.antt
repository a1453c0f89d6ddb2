use Prim.Native.Nat.{◌-◌}
use mathlib.Core.Path.{◌∙◌, sym}
use mathlib.Core.Bool.{◌&&◌, ◌||◌}
use native.Mathlib.Omega.{arith}
use lib.Dec.{eqb, ltb}
use lib.ListN.{get_or}
use borrow.Author.Tests.{ltb-true}
use Rattle.octets.proofs.Theorems.{and_parts}
use Rattle.lexer.specs.Byte.{within}
use Rattle.lexer.proofs.Wholes.{digits_fit}
use Rattle.lexer.proofs.Scans.{short_number, long_number}
use Rattle.lexer.proofs.scan_number.Goals as goal

pub returns-then-leads-n : goal.returns-then-leads-n
returns-then-leads-n c =
    let t = c.args in
    let d = c.digits-d in
    let b = within 49 57 (get_or t.text.now t.at 0) || eqb (d.result.end - t.at) 1 in
    let p = and_parts (b && ltb d.result.value 2147483648) c.ended.result c.if-leads-n.true in
    let q = and_parts b (ltb d.result.value 2147483648) p.0 in
    short_number t.text.now t.at d.result.end d.result.value (omega arith) d.ensures.0 d.ensures.1 q.0 (ltb-true d.result.value 2147483648 q.1) (sym c.ended.ensures ∙ p.1)

pub overflow_add-d : goal.overflow_add-d
overflow_add-d c =
    omega (arith, c.digits-d.ensures.0, digits_fit 10 c.args.at c.args.text.now, c.requires.0, c.requires.1)

pub overflow_add-result : goal.overflow_add-result
overflow_add-result c =
    omega (arith, c.digits-d.ensures.0, digits_fit 10 c.args.at c.args.text.now, c.requires.0)

pub returns-then-leads-b : goal.returns-then-leads-b
returns-then-leads-b c =
    let t = c.args in
    let d = c.digits-d in
    let x = c.byte_at-b in
    let a = within 49 57 (get_or t.text.now t.at 0) in
    let l = eqb x.result 108 || eqb x.result 76 in
    let p = and_parts ((a && l) && ltb d.result.value 9223372036854775808) c.ended-2.result c.if-leads-b.true in
    let q = and_parts (a && l) (ltb d.result.value 9223372036854775808) p.0 in
    let o = and_parts a l q.0 in
    long_number t.text.now t.at d.result.end d.result.value (omega arith) d.ensures.0 d.ensures.1 o.0 (rw x.ensures at o.1) (ltb-true d.result.value 9223372036854775808 q.1) (sym c.ended-2.ensures ∙ p.1)
