use mathlib.Core.Path.{◌∙◌}
use Prim.Native.Nat.{◌-◌}
use native.Mathlib.Omega.{arith}
use lib.ListN.{length}
use Rattle.octets.specs.Octets.{fold}
use Rattle.octets.proofs.Laws.{finishes, no_finish, rest}
use Rattle.octets.proofs.ends.Goals as goal

pub returns-then-s-n : goal.returns-then-s-n
returns-then-s-n c =
    let a = c.args in
    no_finish (fold a.s_mark) (fold a.p_mark) a.s.now a.p.now c.if-s-n.true

pub returns : goal.returns
returns c =
    let a = c.args in
    (rw (rest a.s.now (length a.s.now - length a.p.now)) at c.same.ensures)
    ∙ finishes (fold a.s_mark) (fold a.p_mark) a.s.now a.p.now (omega arith)
