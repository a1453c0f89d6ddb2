use mathlib.Core.Path.{◌∙◌}
use mathlib.Core.Logic.{inl, inr, ⊎_elim}
use lib.ListN.{length}
use Rattle.octets.specs.Octets.{fold}
use Rattle.octets.proofs.Laws.{run_out}
use Rattle.octets.proofs.before.Goals as goal

pub returns : goal.returns
returns c =
    let a = c.args in
    let l = c.loop-a in
    run_out (fold a.s_mark) (fold a.t_mark) l.a-iterator.a.rest.now l.a-iterator.b.rest.now (length a.s.now) (length a.t.now)
    (⊎_elim (λ h. inl h.1.0) (λ h. inr h.1.0) c.in-None.ensures.steps) l.invariant.0 ∙ l.invariant.1
