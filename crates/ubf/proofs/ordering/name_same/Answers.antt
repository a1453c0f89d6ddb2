-- `name_same` meets its contract: names without escapes are parts of the text, and others are the same if neither is before the other. Assumes nothing.
use mathlib.Core.Path.{ap₂, ◌∙◌}
use native.Mathlib.Omega.{arith}
use Rattle.octets.specs.Octets.{same_of}
use Rattle.ubf.proofs.Names.{same_neither, Plain, plain_names}
use mathlib.Core.Bool.{Bool, not, ◌&&◌}
use Rattle.ubf.specs.Span.{name_in}
use Rattle.ubf.proofs.ordering.name_same.Lts as lts
use Rattle.ubf.proofs.ordering.name_same.Tie as tie
use Rattle.ubf.proofs.ordering.name_same.Reads as reads
use Rattle.ubf.proofs.ordering.name_same.Goals as goal

plain : (c : lts.Else1 tie.the-claims reads.Pre reads.Post) → Plain c.args.text.now c.args.s × Plain c.args.text.now c.args.t
plain c =
    let a = c.args in
    plain_names a.text.now a.s a.t c.requires.0 c.requires.1 c.if-s-t.false

pub returns-then-s-t : goal.returns-then-s-t
returns-then-s-t c =
    let a = c.args in
    ap₂ (λ (x y : Bool). not x && not y) c.name_before.ensures c.name_before-then-s-t.ensures ∙ same_neither (name_in a.text.now a.s) (name_in a.text.now a.t)

pub overflow_add-j : goal.overflow_add-j
overflow_add-j c = let p = plain c.before.before in omega (arith, p.0.fits)

pub overflow_add-l : goal.overflow_add-l
overflow_add-l c = let p = plain c.before.before.before in omega (arith, p.1.fits)

pub slice_bounds-same-end : goal.slice_bounds-same-end
slice_bounds-same-end c = let p = plain c.before.before.before in omega (arith, p.0.fits)

pub slice_bounds-same-end-2 : goal.slice_bounds-same-end-2
slice_bounds-same-end-2 c = let p = plain c.before.before.before.before in omega (arith, p.1.fits)

pub returns : goal.returns
returns c =
    let p = plain c.before.before.before.before.before.before in c.same.ensures ∙ ap₂ same_of p.0.bytes p.1.bytes
