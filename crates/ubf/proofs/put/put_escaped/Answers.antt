use mathlib.Core.Path.{refl, ◌∙◌}
use native.Mathlib.Omega.{arith}
use Rattle.ubf.proofs.Laws.{rest_escapes, no_escapes, escaped_one, escaped_end}
use Rattle.ubf.proofs.put.put_escaped.Goals as goal

pub loop-b-init : goal.loop-b-init
loop-b-init c = (omega arith, refl, refl, refl)

pub put_escape-p-requires : goal.put_escape-p-requires
put_escape-p-requires c = let l = c.loop-b in let e = rest_escapes c.args.s.now l.b-index c.loop-b-test.true in omega arith

pub loop-b-preserved : goal.loop-b-preserved
loop-b-preserved c =
    let l = c.loop-b in let e = rest_escapes c.args.s.now l.b-index c.loop-b-test.true in let z = c.put_escape-p.ensures.next in (omega arith, omega arith, omega arith, escaped_one c.args.s.now l.out l.p l.b-index c.loop-b-test.true c.put_escape-p.ensures ∙ l.invariant.3)

pub returns : goal.returns
returns c =
    let l = c.loop-b in let a = c.args in let e = no_escapes a.s.now l.b-index c.loop-b-test.false in record { stored = escaped_end a.s.now l.out l.p l.b-index c.loop-b-test.false ∙ l.invariant.3; next = omega arith }
