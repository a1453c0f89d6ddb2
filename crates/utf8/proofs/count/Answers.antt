use native.Mathlib.Omega.{arith}
use Rattle.utf8.specs.Scan.{characters_in}
use Rattle.utf8.proofs.Strings.{starts, goes_on, finishes, refuses, fits_at_lem}
use Rattle.utf8.proofs.count.Goals as goal

pub loop-i-init : goal.loop-i-init
loop-i-init c = (omega arith, omega arith, starts c.args.s.now)

pub returns-in_err-k : goal.returns-in_err-k
returns-in_err-k c =
    let l = c.loop-i in
    rw c.from_residual.ensures (refuses c.args.s.now l.i l.n l.invariant.2 c.in_err-k.ensures)

pub overflow_add-i : goal.overflow_add-i
overflow_add-i c =
    let l = c.loop-i in
    let k = c.in_ok-k.k in
    omega (arith, fits_at_lem c.args.s.now l.i k (characters_in k) l.invariant.0 c.in_ok-k.ensures)

pub overflow_add-n : goal.overflow_add-n
overflow_add-n c =
    let l = c.loop-i in
    let k = c.in_ok-k.k in
    let b = c.in_ok-k.ensures in
    omega (arith, fits_at_lem c.args.s.now l.i k (characters_in k) l.invariant.0 b, b.few, c.characters-n.ensures, l.invariant.1)

pub loop-i-smaller : goal.loop-i-smaller
loop-i-smaller c =
    let l = c.loop-i in
    let k = c.in_ok-k.k in
    let b = c.in_ok-k.ensures in
    omega (arith, fits_at_lem c.args.s.now l.i k (characters_in k) l.invariant.0 b, b.some)

pub loop-i-preserved : goal.loop-i-preserved
loop-i-preserved c =
    let s = c.args.s.now in
    let l = c.loop-i in
    let k = c.in_ok-k.k in
    let b = c.in_ok-k.ensures in
    let f = fits_at_lem s l.i k (characters_in k) l.invariant.0 b in
    rw c.characters-n.ensures (f, omega (arith, b.few, l.invariant.1), goes_on s l.i l.n k (characters_in k) l.invariant.2 b)

pub returns : goal.returns
returns c = finishes c.args.s.now c.loop-i.i c.loop-i.n (omega arith) c.loop-i.invariant.2
