-- `put_part` meets its contract: by whether there are escapes. Assumes nothing.
use mathlib.Core.Path.{◌≡◌, sym, ap, ◌∙◌}
use mathlib.Core.Bool.{Bool, true, false}
use Prim.Native.Nat.{ℕ, ◌+◌, ◌-◌, ◌≤◌}
use native.Mathlib.Omega.{arith}
use borrow.Author.Tests.{lt-ltb, le-ltb}
use lib.Dec.{ltb}
use lib.ListN.{length, take, drop}
use lib.Seq.{sets}
use Rattle.ubf.specs.Escape.{bytes_in}
use Rattle.ubf.proofs.placing.put_part.Lts as lts
use Rattle.ubf.proofs.placing.put_part.Tie as tie
use Rattle.ubf.proofs.placing.put_part.Reads as reads
use Rattle.ubf.proofs.placing.put_part.Goals as goal

escaped : (c : lts.Then1 tie.the-claims reads.Pre reads.Post) → ltb 0 c.args.escapes ≡ true
escaped c = lt-ltb 0 c.args.escapes (omega (arith, c.if-escapes-ne0.true))

plain : (c : lts.Else1 tie.the-claims reads.Pre reads.Post) → ltb 0 c.args.escapes ≡ false
plain c = le-ltb 0 c.args.escapes (omega (arith, c.if-escapes-ne0.false))

fits : (c : lts.Else1 tie.the-claims reads.Pre reads.Post) → c.args.from + c.args.n ≤ length c.args.text.now
fits c = rw (plain c) at c.requires.0

pub put_unescaped-requires : goal.put_unescaped-requires
put_unescaped-requires c = (rw (escaped c.before.before) at c.requires.0, c.requires.1)

pub returns-then-escapes-ne0 : goal.returns-then-escapes-ne0
returns-then-escapes-ne0 c =
    let a = c.args in
    c.put_unescaped.ensures ∙ ap (λ (e : Bool). sets a.buffer.now a.at (bytes_in a.text.now a.from a.n e)) (sym (escaped c.before.before.before.before.before))

pub overflow_add-end : goal.overflow_add-end
overflow_add-end c = omega (arith, fits c.before)

pub slice_bounds-copy_to-end : goal.slice_bounds-copy_to-end
slice_bounds-copy_to-end c = let f = fits c.before.before in omega arith

pub returns : goal.returns
returns c =
    let a = c.args in
    let n : a.from + a.n - a.from ≡ a.n = omega arith in
    c.copy_to.ensures ∙ (ap (λ (k : ℕ). sets a.buffer.now a.at (take k (drop a.from a.text.now))) n ∙ ap (λ (e : Bool). sets a.buffer.now a.at (bytes_in a.text.now a.from a.n e)) (sym (plain c.before.before.before.before.before.before)))
