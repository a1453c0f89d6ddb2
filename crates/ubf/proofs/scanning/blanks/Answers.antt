use mathlib.Core.Path.{sym, ◌∙◌}
use native.Mathlib.Omega.{arith}
use Rattle.ubf.proofs.Scans.{skips_none, skips_space, skips_comment, blanks_cut, blanks_item, blanks_end}
use Rattle.ubf.proofs.scanning.blanks.Goals as goal

pub loop-i-init : goal.loop-i-init
loop-i-init c = let a = c.args in skips_none a.text.now a.at c.requires

pub loop-i-preserved-then-is_space : goal.loop-i-preserved-then-is_space
loop-i-preserved-then-is_space c =
    let l = c.loop-i in
    let a = c.args in
    skips_space a.text.now a.at l.i l.invariant (omega arith) (sym c.is_space.ensures ∙ c.if-is_space.true)

pub returns-then-b-ne37 : goal.returns-then-b-ne37
returns-then-b-ne37 c =
    let l = c.loop-i in
    let a = c.args in
    blanks_item a.text.now a.at l.i l.invariant (sym c.is_space.ensures ∙ c.if-is_space.false) c.if-b-ne37.true

pub returns-then-end-text : goal.returns-then-end-text
returns-then-end-text c =
    let l = c.loop-i in
    let a = c.args in
    blanks_cut a.text.now a.at l.i l.invariant _ _ c.quoted_at-end.ensures (omega arith) c.if-b-ne37.false c.if-end-text.true

pub loop-i-smaller : goal.loop-i-smaller
loop-i-smaller c = omega (arith, (c.quoted_at-end.ensures.closes (omega arith)).after)

pub loop-i-preserved : goal.loop-i-preserved
loop-i-preserved c =
    let l = c.loop-i in
    let a = c.args in
    skips_comment a.text.now a.at l.i l.invariant _ _ c.quoted_at-end.ensures (omega arith) c.if-b-ne37.false (omega arith)

pub returns : goal.returns
returns c =
    let l = c.loop-i in
    let a = c.args in
    blanks_end a.text.now a.at l.i l.invariant (omega arith)
