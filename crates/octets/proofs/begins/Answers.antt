use Prim.Native.Nat.{◌-◌}
use mathlib.Core.Path.{◌≡◌, ◌∙◌}
use native.Mathlib.Omega.{arith}
use lib.ListN.{length}
use Rattle.octets.specs.Octets.{fold}
use Rattle.octets.proofs.Laws.{starts, no_start}
use Rattle.octets.proofs.begins.Goals as goal

pub returns-then-s-n : goal.returns-then-s-n
returns-then-s-n c =
    let a = c.args in
    no_start (fold a.s_mark) (fold a.p_mark) a.s.now a.p.now c.if-s-n.true

pub returns : goal.returns
returns c =
    let a = c.args in
    let n : length a.p.now - 0 ≡ length a.p.now = omega arith in
    (rw n at c.same.ensures) ∙ starts (fold a.s_mark) (fold a.p_mark) a.s.now a.p.now (omega arith)
