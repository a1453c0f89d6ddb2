use native.Mathlib.Omega.{arith}
use Rattle.ubf.proofs.Scans.{counts_none, counts_one, counts_end}
use Rattle.ubf.proofs.Machine.{digit_bounds}
use mathlib.Core.Path.{refl, sym, ◌∙◌}
use Rattle.ubf.proofs.scanning.digits.Goals as goal

pub loop-i-init : goal.loop-i-init
loop-i-init c = let a = c.args in counts_none a.text.now a.first c.requires

pub digit_more-size-requires : goal.digit_more-size-requires
digit_more-size-requires c = digit_bounds _ (sym c.is_digit.ensures ∙ c.if-not-is_digit.false)

pub loop-i-preserved : goal.loop-i-preserved
loop-i-preserved c =
    let l = c.loop-i in
    let a = c.args in
    counts_one a.text.now a.first l.i l.size l.invariant c.digit_more-size.result (omega arith) (sym c.is_digit.ensures ∙ c.if-not-is_digit.false) c.digit_more-size.ensures

pub returns-after-loop-i : goal.returns-after-loop-i
returns-after-loop-i c =
    let l = c.loop-i in
    let a = c.args in
    (counts_end a.text.now a.first l.i l.size l.invariant (λ m. absurd (omega arith)), refl)

pub returns-then-not-is_digit : goal.returns-then-not-is_digit
returns-then-not-is_digit c =
    let l = c.loop-i in
    let a = c.args in
    (counts_end a.text.now a.first l.i l.size l.invariant (λ m. sym c.is_digit.ensures ∙ c.if-not-is_digit.true), refl)
