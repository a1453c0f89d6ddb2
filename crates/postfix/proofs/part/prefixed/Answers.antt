use mathlib.Core.Path.{◌≡◌, refl, ap, ◌∙◌}
use native.Mathlib.Omega.{arith}
use lib.ListN.{length}
use Rattle.postfix.proofs.Prefixes.{unary_length, wrapped_one}
use Rattle.postfix.proofs.part.prefixed.Goals as goal

pub loop-n-init : goal.loop-n-init
loop-n-init c = (refl, λ ks i was m run few room h. (run.upto, omega arith, h))

pub loop-n-preserved : goal.loop-n-preserved
loop-n-preserved c = (
  ap length c.unary-x.ensures.1 ∙ unary_length c.kind.result c.loop-n.x.0 c.loop-n.codes ∙ c.loop-n.invariant.0,
  λ ks i was m run few room h.
      let v = c.loop-n.invariant.1 ks i was m run few room h in
      (omega (arith, c.loop-n-test.true), omega (arith, v.1), wrapped_one m c.args.at c.args.first c.loop-n.n i run few room c.loop-n-test.true v.1 c.kind.result v.2 c.kind.ensures c.unary-x.ensures.0 c.unary-x.ensures.1),
)

pub shape_of-codes : goal.shape_of-codes
shape_of-codes c = c.loop-n.invariant.0

pub returns : goal.returns
returns c =
    λ ks i was m run few room h.
    let v = c.loop-n.invariant.1 ks i was m run few room h in
    let e : c.args.at ≡ c.loop-n.n = omega (arith, v.0, c.loop-n-test.false) in
    rw e v.2
