-- `name_before` meets its contract: names without escapes are parts of the text. Assumes nothing.
use mathlib.Core.Path.{ap₂, ◌∙◌}
use native.Mathlib.Omega.{arith}
use Rattle.octets.specs.Octets.{before_of}
use Rattle.ubf.proofs.Names.{Plain, plain_names}
use Rattle.ubf.proofs.ordering.name_before.Lts as lts
use Rattle.ubf.proofs.ordering.name_before.Tie as tie
use Rattle.ubf.proofs.ordering.name_before.Reads as reads
use Rattle.ubf.proofs.ordering.name_before.Goals as goal

plain : (c : lts.Else1 tie.the-claims reads.Pre reads.Post) → Plain c.args.text.now c.args.s × Plain c.args.text.now c.args.t
plain c =
    let a = c.args in
    plain_names a.text.now a.s a.t c.requires.0 c.requires.1 c.if-s-t.false

pub overflow_add-j : goal.overflow_add-j
overflow_add-j c = let p = plain c.before.before in omega (arith, p.0.fits)

pub overflow_add-l : goal.overflow_add-l
overflow_add-l c = let p = plain c.before.before.before in omega (arith, p.1.fits)

pub slice_bounds-before-end : goal.slice_bounds-before-end
slice_bounds-before-end c = let p = plain c.before.before.before in omega (arith, p.0.fits)

pub slice_bounds-before-end-2 : goal.slice_bounds-before-end-2
slice_bounds-before-end-2 c = let p = plain c.before.before.before.before in omega (arith, p.1.fits)

pub returns : goal.returns
returns c =
    let p = plain c.before.before.before.before.before.before in c.before-2.ensures ∙ ap₂ before_of p.0.bytes p.1.bytes
