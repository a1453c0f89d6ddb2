use mathlib.Core.Path.{sym, ◌∙◌}
use native.Mathlib.Omega.{arith}
use Rattle.octets.proofs.Theorems.{and_parts}
use Rattle.ubf.proofs.Advances.{tag_none, tag_told, tag_other, tag_found}
use Rattle.ubf.proofs.spans.tagged_value.Goals as goal

pub returns-then-end-text : goal.returns-then-end-text
returns-then-end-text c =
    let a = c.args in
    let q = c.quoted_at-end in
    tag_none a.text.now a.at a.negative a.n q.result.end q.result.escapes c.requires.0 c.requires.1 q.ensures c.no_value.result c.if-end-text.true c.no_value.ensures

pub slice_bounds-same-count : goal.slice_bounds-same-count
slice_bounds-same-count c = omega (arith, (c.quoted_at-end.ensures.closes (omega arith)).after)

pub slice_bounds-same-start : goal.slice_bounds-same-start
slice_bounds-same-start c = omega (arith, (c.quoted_at-end.ensures.closes (omega arith)).after)

pub returns-then-not-tagged-fits8 : goal.returns-then-not-tagged-fits8
returns-then-not-tagged-fits8 c =
    let a = c.args in
    let q = c.quoted_at-end in
    tag_other a.text.now a.at a.negative a.n q.result.end q.result.escapes c.requires.0 c.requires.1 q.ensures (omega arith) c.no_value-then-not-tagged-fits8.result (tag_told a.text.now a.at a.negative a.n q.result.end c.same-tagged.result c.fits8.result c.same-tagged.ensures c.fits8.ensures ∙ c.if-not-tagged-fits8.true) c.no_value-then-not-tagged-fits8.ensures

pub bits8-requires : goal.bits8-requires
bits8-requires c =
    sym c.fits8.ensures ∙ (and_parts c.same-tagged.result c.fits8.result c.if-not-tagged-fits8.false).1

pub returns : goal.returns
returns c =
    let a = c.args in
    let q = c.quoted_at-end in
    tag_found a.text.now a.at a.negative a.n q.result.end q.result.escapes c.requires.0 c.requires.1 q.ensures (omega arith) c.bits8.result c.blanks.result (tag_told a.text.now a.at a.negative a.n q.result.end c.same-tagged.result c.fits8.result c.same-tagged.ensures c.fits8.ensures ∙ c.if-not-tagged-fits8.false) c.bits8.ensures c.blanks.ensures
