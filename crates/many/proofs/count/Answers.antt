-- `count` meets its contract: the tables so far and those that are left are all. Assumes nothing.
use Rattle.std.proofs.Common.{◌≡◌, sym, ap, ◌∙◌, ℕ, List, length, drop, arith}
use borrow.Author.Tests.{eqb-true, eqb-false}
use Rattle.many.specs.Many.{extent_of, stretches_of}
use Rattle.many.proofs.Stretches.{none_left, one_less}
use Rattle.many.proofs.count.Goals as goal

pub returns-then-is_empty : goal.returns-then-is_empty
returns-then-is_empty c =
    let e = none_left c.loop-n.rest.now (eqb-true _ _ (sym c.is_empty.ensures ∙ c.if-is_empty.true)) in
    omega arith

pub loop-n-preserved : goal.loop-n-preserved
loop-n-preserved c =
    let r = c.loop-n.rest.now in
    let some = eqb-false (length r) 0 (sym c.is_empty.ensures ∙ c.if-is_empty.false) in
    let back : c.split_at.result.1.now ≡ drop (extent_of r) r = c.split_at.ensures.back ∙ ap (λ (n : ℕ). drop n r) c.extent.ensures.0 in
    omega (arith, one_less r (omega (arith, some)), ap (λ (t : List ℕ). length (stretches_of t)) back)
