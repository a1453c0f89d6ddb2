-- `router::matching::match_text` meets its contract: the notice's refusal, or what translation, check and run answer. Assumes nothing.
use native.Mathlib.Omega.{arith}
use mathlib.Core.Path.{refl, sym, ◌∙◌}
use Rattle.router.proofs.Demand.{fault_matches, run_matches}
use Rattle.router.proofs.matching.match_text.Goals as goal

pub translate_and_run-requires : goal.translate_and_run-requires
translate_and_run-requires c = sym c.check-layout.ensures ∙ c.in-Ok.is

pub returns-in-Ok : goal.returns-in-Ok
returns-in-Ok c =
    let a = c.args in
    let n = c.check-layout in
    let r = c.translate_and_run in
    run_matches a.edition a.text.now a.buffer.now a.notice.now _ a.visits r.result n.result n.ensures c.in-Ok.is
    (λ i. omega (arith, c.shared_slice_known-1.given i)) r.ensures

pub returns-in-Err : goal.returns-in-Err
returns-in-Err c =
    let a = c.args in
    let n = c.check-layout in
    fault_matches a.edition a.text.now a.buffer.now a.notice.now _ a.visits c.refused.result n.result _ n.ensures c.in-Err.is refl (rw (← c.number.ensures, ← c.place.ensures) c.refused.ensures)
