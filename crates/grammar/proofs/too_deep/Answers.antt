use mathlib.Core.Path.{refl, sym, ◌∙◌}
use native.Mathlib.Omega.{arith}
use Rattle.grammar.specs.Nesting.{too_deep}
use Rattle.grammar.proofs.Streams.{deep_opened, deep_row, deep_on, deep_flat, deep_end}
use Rattle.grammar.proofs.too_deep.Goals as goal

pub loop-k-init : goal.loop-k-init
unfolding too_deep
loop-k-init c = (omega arith, omega arith, omega arith, refl)

pub loop-k-preserved-then-is_flat : goal.loop-k-preserved-then-is_flat
loop-k-preserved-then-is_flat c =
    let l = c.loop-k in
    let e = sym c.is_flat.ensures ∙ c.if-is_flat.true in
    (omega arith, l.invariant.1, omega arith, deep_flat c.args.kinds.now l.k-index l.opened l.row (omega arith) l.invariant.1 e ∙ l.invariant.3)

pub returns-then-opened-gt24 : goal.returns-then-opened-gt24
returns-then-opened-gt24 c =
    let l = c.loop-k in
    deep_opened c.args.kinds.now l.k-index l.opened l.row (omega arith)
    (rw c.open_after-opened.ensures at c.if-opened-gt24.true) ∙ l.invariant.3

pub returns-then-row-gt24 : goal.returns-then-row-gt24
returns-then-row-gt24 c =
    let l = c.loop-k in
    deep_row c.args.kinds.now l.k-index l.opened l.row (omega arith)
    (rw c.row_after-row.ensures at c.if-row-gt24.true) ∙ l.invariant.3

pub loop-k-preserved : goal.loop-k-preserved
loop-k-preserved c =
    let l = c.loop-k in
    let e = c.open_after-opened.ensures in
    let f = c.row_after-row.ensures in (
      omega arith,
      omega arith,
      omega arith,
      rw (e, f) (deep_on c.args.kinds.now l.k-index l.opened l.row (omega arith)
          (rw e at c.if-opened-gt24.false) (rw f at c.if-row-gt24.false) ∙ l.invariant.3),
    )

pub returns : goal.returns
returns c =
    let l = c.loop-k in
    deep_end c.args.kinds.now l.k-index l.opened l.row (omega arith) ∙ l.invariant.3
