use Prim.Native.Nat.{◌+◌, ◌-◌}
use mathlib.Core.Path.{sym, ◌∙◌}
use native.Mathlib.Omega.{arith}
use lib.ListN.{length, get_or, length-map}
use Rattle.octets.specs.Octets.{fold, folded}
use Rattle.octets.proofs.Borders.{begun, later, widens, border_at, goes_on, begins_anew, falls, whole, nowhere}
use Rattle.octets.proofs.searching.follow.Goals as goal

pub loop-i-init : goal.loop-i-init
loop-i-init c = (omega arith, omega arith, begun _ _ 1 0)

pub returns-then-k-p : goal.returns-then-k-p
returns-then-k-p c =
    let b = c.before.before.before in
    let l = b.loop-i in
    let a = b.args in
    let n = length-map a.s.now (fold a.s_mark) in
    let m = length-map a.p.now (fold a.p_mark) in
    whole (folded a.s_mark a.s.now) (folded a.p_mark a.p.now) (l.i + 1) (l.i + 1) (l.k + 1)
    (goes_on 0 a.s_mark a.p_mark a.s.now a.p.now l.i l.k l.invariant.2
    (sym b.fold.ensures ∙ c.if-fold.true ∙ b.fold-in-loop-i.ensures))
    (c.if-k-p.true ∙ sym m) (omega (arith, n))

pub loop-i-smaller-then-fold : goal.loop-i-smaller-then-fold
loop-i-smaller-then-fold c = omega arith

pub loop-i-preserved-then-fold : goal.loop-i-preserved-then-fold
loop-i-preserved-then-fold c =
    let b = c.before.before.before in
    let l = b.loop-i in
    let a = b.args in (
      omega arith,
      omega arith,
      later 0 (folded a.s_mark a.s.now) (folded a.p_mark a.p.now) l.i (l.k + 1)
          (goes_on 0 a.s_mark a.p_mark a.s.now a.p.now l.i l.k l.invariant.2
          (sym b.fold.ensures ∙ c.if-fold.true ∙ b.fold-in-loop-i.ensures)),
    )

pub loop-i-smaller-then-k-eq0 : goal.loop-i-smaller-then-k-eq0
loop-i-smaller-then-k-eq0 c = omega arith

pub loop-i-preserved-then-k-eq0 : goal.loop-i-preserved-then-k-eq0
loop-i-preserved-then-k-eq0 c =
    let b = c.before.before.before in
    let l = b.loop-i in
    let a = b.args in (
      omega arith,
      omega arith,
      later 0 (folded a.s_mark a.s.now) (folded a.p_mark a.p.now) l.i l.k
          (begins_anew 0 a.s_mark a.p_mark a.s.now a.p.now l.i l.k l.invariant.2 (omega arith)
          (λ q. c.if-fold.false (b.fold.ensures ∙ q ∙ sym b.fold-in-loop-i.ensures)) c.if-k-eq0.true),
    )

pub overflow_sub-k : goal.overflow_sub-k
overflow_sub-k c = omega arith

pub offset_bounds-borders-k : goal.offset_bounds-borders-k
offset_bounds-borders-k c = omega arith

pub bounds-borders-k : goal.bounds-borders-k
bounds-borders-k c = omega arith

pub overflow_cast-k : goal.overflow_cast-k
overflow_cast-k c = widens (c.shared_slice_known-in-loop-i-3-1.given _)

pub loop-i-smaller : goal.loop-i-smaller
loop-i-smaller c =
    let b = c.before.before.before.before in
    let l = b.loop-i in
    let a = b.args in
    let r = border_at (folded a.p_mark a.p.now) a.borders.now (length a.p.now) l.k
    b.requires.3 (omega arith) (omega arith) in
    omega (arith, r.fits)

pub loop-i-preserved : goal.loop-i-preserved
loop-i-preserved c =
    let b = c.before.before.before.before in
    let l = b.loop-i in
    let start = b.before.before.before.before.before.before.before.before.before in
    let a = start.args in
    let r = border_at (folded a.p_mark a.p.now) a.borders.now (length a.p.now) l.k
    start.requires.3 (omega arith) (omega arith) in (
      omega arith,
      omega (arith, r.fits),
      falls 0 a.s_mark a.p_mark a.s.now a.p.now l.i l.k l.invariant.2 (omega arith)
          (λ q. c.if-fold.false (b.fold.ensures ∙ q ∙ sym b.fold-in-loop-i.ensures))
          (get_or a.borders.now (l.k - 1) 0) r,
    )

pub returns : goal.returns
returns c =
    let l = c.loop-i in
    let a = c.args in
    let n = length-map a.s.now (fold a.s_mark) in
    let m = length-map a.p.now (fold a.p_mark) in
    nowhere (folded a.s_mark a.s.now) (folded a.p_mark a.p.now) (l.i + 1) l.i l.k l.invariant.2
    (omega (arith, m)) (omega (arith, n))
