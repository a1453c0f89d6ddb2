-- `interpreter::run_kept` meets its contract: 11, then the answer of the whole run. Assumes nothing.
use mathlib.Core.Path.{◌≡◌, refl, sym, ap, ◌∙◌}
use mathlib.Core.List.{List}
use Prim.Native.Nat.{ℕ, ◌-◌}
use lib.ListN.{length, take}
use lib.Seq.{take_all}
use native.Mathlib.Omega.{arith}
use Rattle.std.proofs.lemmas.Result.{err_from_is_err_and}
use Rattle.notice.specs.Layout.{check_of}
use Rattle.notice.specs.Layout.{Layout}
use Rattle.interpreter.proofs.Answers.{indexed, notice_refused, neither_refused}
use Rattle.interpreter.proofs.run_kept.Goals as goal

-- the part that is lent is the whole notice, and what the check tells of it
whole : (s : List ℕ) → take (length s - 0) s ≡ s
whole s = take_all (length s - 0) s (omega arith)

layout_is : (s : List ℕ) {told l : Layout} → told ≡ check_of (take (length s - 0) s) → told ≡ l → check_of s ≡ l
layout_is s t e = sym (ap check_of (whole s)) ∙ sym t ∙ e

pub run_whole-requires : goal.run_whole-requires
run_whole-requires c =
    let s = c.args.notice.now in
    let well = layout_is s c.index.ensures.value c.in_ok-index.was in
    (c.requires, well, indexed _ _ _ (whole s) well c.index.ensures.starts_after refl)

pub returns : goal.returns
returns c =
    let a = c.args in
    c.run_whole.ensures ∙ neither_refused a.table.now a.notice.now c.requires (layout_is a.notice.now c.index.ensures.value c.in_ok-index.was)

pub returns-in_err-index : goal.returns-in_err-index
returns-in_err-index c =
    let a = c.args in
    let p = err_from_is_err_and c.from_residual.result c.from_residual.ensures.1 in
    rw (p.1, p.2) (notice_refused a.table.now a.notice.now _ c.requires (layout_is a.notice.now c.index.ensures.value c.in_err-index.was))
