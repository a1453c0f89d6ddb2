use native.Mathlib.Omega.{arith}
use Rattle.octets.specs.Octets.{fold}
use Rattle.octets.proofs.Places.{empty_held, no_place}
use Rattle.octets.proofs.contains.Goals as goal

pub returns-then-p-eq0 : goal.returns-then-p-eq0
returns-then-p-eq0 c =
    let a = c.args in
    empty_held (fold a.s_mark) (fold a.p_mark) a.s.now a.p.now c.if-p-eq0.true

pub returns-then-s-p : goal.returns-then-s-p
returns-then-s-p c =
    let a = c.args in
    no_place (fold a.s_mark) (fold a.p_mark) a.s.now a.p.now 0 (omega arith) (omega arith)
