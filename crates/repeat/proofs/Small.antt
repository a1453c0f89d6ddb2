-- What one run adds, and that it is small. Assumes nothing.
use Rattle.std.specs.Prelude.{Ok, Err}
use mathlib.Core.Path.{◌≡◌, refl, sym, ap, ◌∙◌}
use mathlib.Core.Bool.{true, false}
use mathlib.Core.List.{List}
use Prim.Native.Nat.{ℕ, ◌+◌, ◌*◌, ◌≤◌}
use native.Mathlib.Nat.{suc-mul}
use native.Mathlib.Numerals.{add-one}
use native.Mathlib.Omega.{arith}
use denote.Enum.Declared.{tag_of}
use Rattle.truth.specs.contracts.Truth.{the_type}
use Rattle.truth.specs.declared.Truth.{Truth}
use Rattle.truth.specs.declared.Truth.TheVariants.{False, Bottom, True}
use Rattle.truth.specs.Truth.{rank}
use Rattle.refusal.specs.declared.Refusal.{Refusal}
use Rattle.notice.specs.Layout.{check_of as noticeCheck}
use Rattle.table.specs.Table.{count_of, decode}
use Rattle.table.specs.Check.{check_of as tableCheck}
use Rattle.table.proofs.Theorems.{checked_layout}
use Rattle.table.proofs.Laid.{laid}
use Rattle.interpreter.specs.declared.Ran.{Ran}
use Rattle.interpreter.specs.Run.{run_of}
use Rattle.interpreter.specs.Running.{RunAnswer, answered, answer_of}
use Rattle.interpreter.proofs.Theorems.{run_steps}
use Rattle.repeat.specs.Repeat.{weight_of, repeat_of}

-- a verdict's number in the code is its rank
pub as_rank : (t : Truth) → (tag_of the_type t ≡ rank t) × (tag_of the_type t ≤ 2)
as_rank False = (refl, omega arith)
as_rank Bottom = (refl, omega arith)
as_rank True = (refl, omega arith)

module _ (table notice : List ℕ) (checked : tableCheck table ≡ true) (r : Ran) (ran : answered (Ok r) ≡ answer_of (decode table) notice) where
  pub few : r.steps ≤ 512
  few =
      let same : r.steps ≡ (run_of (decode table) notice).steps = ap (λ (x : RunAnswer). x.steps) ran in
      let most : (run_of (decode table) notice).steps ≤ count_of table = run_steps table notice checked in
      let n : count_of table ≤ 512 = (laid table (checked_layout table checked)).few in
      omega arith

  pub is_weight : (k : ℕ) → k ≡ rank r.verdict → 4096 * r.undecided + 4 * r.steps + k ≡ weight_of (answer_of (decode table) notice)
  is_weight k e = ap (λ (j : ℕ). 4096 * r.undecided + 4 * r.steps + j) e ∙ ap weight_of ran

-- one run more
pub one_more : (i total w v : ℕ) → total ≡ i * v → w ≡ v → total + w ≡ (i + 1) * v
one_more i total w v e f = ap (λ (k : ℕ). k + w) e ∙ ap (λ (k : ℕ). i * v + k) f ∙ sym (ap (λ (k : ℕ). k * v) (add-one i) ∙ suc-mul i v)

-- the answer where a check fails, and where both pass
module _ (table notice : List ℕ) (times : ℕ) where
  pub nothing : tableCheck table ≡ false → 0 ≡ repeat_of table notice times
  nothing e = rw e

  pub no_notice : (r : Refusal) → tableCheck table ≡ true → noticeCheck notice ≡ Err r → 0 ≡ repeat_of table notice times
  no_notice r e f = rw (e, f)

  pub whole : tableCheck table ≡ true → noticeCheck notice ≡ Ok tt → times * weight_of (answer_of (decode table) notice) ≡ repeat_of table notice times
  whole e f = rw (e, f)
