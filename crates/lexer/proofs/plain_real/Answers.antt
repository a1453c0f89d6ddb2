use Prim.Native.Nat.{◌-◌}
use mathlib.Core.Path.{sym, ◌∙◌}
use mathlib.Core.Bool.{◌&&◌}
use native.Mathlib.Omega.{arith}
use lib.Dec.{leb, ltb}
use borrow.Author.Tests.{ltb-true, leb-true}
use Rattle.octets.proofs.Theorems.{and_parts}
use Rattle.lexer.proofs.Wholes.{digits_fit}
use Rattle.lexer.proofs.Points.{plain_real}
use Rattle.lexer.proofs.plain_real.Goals as goal

pub overflow_add-point : goal.overflow_add-point
overflow_add-point c =
    omega (arith, c.requires.3.0, digits_fit 10 c.args.at c.args.text.now, c.requires.0, c.requires.1)

pub returns-then-at-point : goal.returns-then-at-point
returns-then-at-point c =
    let a = c.args in
    let g = c.digits-all in
    let v = g.result.value in
    let n = g.result.end - a.whole.end in
    let h = ltb a.at a.whole.end in
    let few = leb 2 n && leb n 23 in
    let p = and_parts ((h && few) && ltb v 1000000000000000) c.ended.result c.if-at-point.true in
    let q = and_parts (h && few) (ltb v 1000000000000000) p.0 in
    let o = and_parts h few q.0 in
    let w = and_parts (leb 2 n) (leb n 23) o.1 in
    plain_real a.text.now a.at a.whole.end g.result.end a.whole.value v c.requires.3.0 c.requires.3.1 c.requires.2 g.ensures.0 g.ensures.1 (ltb-true a.at a.whole.end o.0) (leb-true 2 n w.0) (leb-true n 23 w.1) (ltb-true v 1000000000000000 q.1) (sym c.ended.ensures ∙ p.1)
