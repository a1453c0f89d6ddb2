-- `router::matching::translate_and_run` meets its contract: translation's refusal, or what is answered of the table that stands in the buffer. Assumes nothing.
use Prim.Native.Nat.{ℕ, ◌-◌}
use native.Mathlib.Nat.{sub-zero}
use native.Mathlib.Omega.{arith}
use mathlib.Core.Path.{refl, ap₂, subst, ◌∙◌}
use lib.ListN.{length}
use Rattle.std.specs.Prelude.{Result}
use Rattle.refusal.specs.declared.Refusal.{Refusal}
use Rattle.refusal.proofs.Numbers.{refuses}
use Rattle.translator.specs.Translation.{translation_of, answered, Answers}
use Rattle.router.specs.Demand.{refused as refusedWith}
use Rattle.router.proofs.Demand.{fits, refused_run, table_run}
use Rattle.router.proofs.matching.translate_and_run.Goals as goal

pub slice_bounds-check_and_run-end : goal.slice_bounds-check_and_run-end
slice_bounds-check_and_run-end c =
    let a = c.args in
    let t = subst (λ (r : Result ℕ Refusal). Answers (translation_of a.edition a.text.now (length a.buffer.now)) a.buffer.now c.translate.new.buffer (answered r)) c.in-Ok.is c.translate.ensures in
    fits a.edition a.text.now a.buffer.now a.notice.now _ a.visits _ t

pub returns-in-Ok : goal.returns-in-Ok
returns-in-Ok c =
    let a = c.args in
    let t = subst (λ (r : Result ℕ Refusal). Answers (translation_of a.edition a.text.now (length a.buffer.now)) a.buffer.now c.translate.new.buffer (answered r)) c.in-Ok.is c.translate.ensures in
    table_run a.edition a.text.now a.buffer.now a.notice.now _ a.visits _ t c.check_and_run.result (c.in-Ok.end - 0) (sub-zero _) refl
    (λ i. omega (arith, c.shared_slice_known-1.given i)) c.check_and_run.ensures

pub returns-in-Err : goal.returns-in-Err
returns-in-Err c =
    let a = c.args in
    let t = subst (λ (r : Result ℕ Refusal). Answers (translation_of a.edition a.text.now (length a.buffer.now)) a.buffer.now c.translate.new.buffer (answered r)) c.in-Err.is c.translate.ensures in
    refused_run a.edition a.text.now a.buffer.now a.notice.now _ a.visits _ t c.refused.result (λ z. refuses c.in-Err.r z) (c.refused.ensures ∙ ap₂ refusedWith c.number.ensures c.place.ensures)
