use Prim.Native.Nat.{◌+◌, ◌-◌, ◌<◌}
use mathlib.Core.Path.{◌≡◌, refl, sym, ◌∙◌}
use native.Mathlib.Omega.{arith}
use lib.ListN.{length, get_or, length-set}
use Rattle.octets.specs.Octets.{folded}
use Rattle.octets.specs.Borders.{Longest}
use Rattle.octets.proofs.Borders.{begun, later, widens, border_at, border_more, goes_on, begins_anew, falls}
use Rattle.octets.proofs.searching.set_borders.Goals as goal

pub loop-i-init : goal.loop-i-init
loop-i-init c =
    let a = c.args in
    let t = folded a.p_mark a.p.now in (
      omega arith,
      refl,
      border_more t a.out.now 0 0 (λ i l. absurd (omega arith)) (omega arith) (begun t t 1 1),
      begun t t 2 1,
    )

pub bounds-out-i : goal.bounds-out-i
bounds-out-i c =
    let l = c.loop-i in
    let a = c.args in
    let h : l.i < length l.out = omega (arith, length-set a.out.now 0 0) in
    h

pub loop-i-smaller-then-fold : goal.loop-i-smaller-then-fold
loop-i-smaller-then-fold c = omega arith

pub loop-i-preserved-then-fold : goal.loop-i-preserved-then-fold
loop-i-preserved-then-fold c =
    let b = c.before.before in
    let l = b.loop-i in
    let a = b.args in
    let t = folded a.p_mark a.p.now in
    let n : Longest 1 t t (l.i + 1) (l.i + 1) (l.k + 1) =
    goes_on 1 a.p_mark a.p_mark a.p.now a.p.now l.i l.k l.invariant.3
    (sym b.fold.ensures ∙ c.if-fold.true ∙ b.fold-in-loop-i.ensures) in (
      omega arith,
      length-set l.out l.i (l.k + 1) ∙ l.invariant.1,
      border_more t l.out l.i (l.k + 1) l.invariant.2 (omega (arith, length-set a.out.now 0 0)) n,
      later 1 t t l.i (l.k + 1) n,
    )

pub bounds-out-i-then-k-eq0 : goal.bounds-out-i-then-k-eq0
bounds-out-i-then-k-eq0 c =
    let l = c.loop-i in
    let a = c.args in
    let h : l.i < length l.out = omega (arith, length-set a.out.now 0 0) in
    h

pub loop-i-smaller-then-k-eq0 : goal.loop-i-smaller-then-k-eq0
loop-i-smaller-then-k-eq0 c = omega arith

pub loop-i-preserved-then-k-eq0 : goal.loop-i-preserved-then-k-eq0
loop-i-preserved-then-k-eq0 c =
    let b = c.before.before.before in
    let l = b.loop-i in
    let a = b.args in
    let t = folded a.p_mark a.p.now in
    let n : Longest 1 t t (l.i + 1) (l.i + 1) l.k =
    begins_anew 1 a.p_mark a.p_mark a.p.now a.p.now l.i l.k l.invariant.3 (omega (arith, l.invariant.3.fits))
    (λ q. c.if-fold.false (b.fold.ensures ∙ q ∙ sym b.fold-in-loop-i.ensures)) c.if-k-eq0.true in (
      omega arith,
      length-set l.out l.i 0 ∙ l.invariant.1,
      border_more t l.out l.i 0 l.invariant.2 (omega (arith, length-set a.out.now 0 0)) (rw c.if-k-eq0.true at n),
      later 1 t t l.i l.k n,
    )

pub bounds-out-k : goal.bounds-out-k
bounds-out-k c =
    let l = c.loop-i in
    let a = c.args in
    let h : l.k - 1 < length l.out = omega (arith, length-set a.out.now 0 0, l.invariant.3.fits) in
    h

pub overflow_cast-k : goal.overflow_cast-k
overflow_cast-k c = widens (c.slice_known-in-loop-i-1.given _)

pub loop-i-smaller : goal.loop-i-smaller
loop-i-smaller c =
    let b = c.before.before.before.before in
    let l = b.loop-i in
    let a = b.args in
    let r = border_at (folded a.p_mark a.p.now) l.out l.i l.k l.invariant.2 (omega arith) (omega (arith, l.invariant.3.fits)) in
    omega (arith, r.fits)

pub loop-i-preserved : goal.loop-i-preserved
loop-i-preserved c =
    let b = c.before.before.before.before in
    let l = b.loop-i in
    let a = b.args in
    let r = border_at (folded a.p_mark a.p.now) l.out l.i l.k l.invariant.2 (omega arith) (omega (arith, l.invariant.3.fits)) in (
      omega arith,
      l.invariant.1,
      l.invariant.2,
      falls 1 a.p_mark a.p_mark a.p.now a.p.now l.i l.k l.invariant.3 (omega (arith, l.invariant.3.fits))
          (λ q. c.if-fold.false (b.fold.ensures ∙ q ∙ sym b.fold-in-loop-i.ensures))
          (get_or l.out (l.k - 1) 0) r,
    )

pub shape_of-out : goal.shape_of-out
shape_of-out c = c.loop-i.invariant.1 ∙ length-set c.args.out.now 0 0

pub returns : goal.returns
returns c =
    let l = c.loop-i in
    let e : l.i ≡ length c.args.p.now = omega arith in
    (rw e at l.invariant.2)
