-- Bytes that differ in their first eight only: every field is the same, and so is the walk. Assumes nothing.
use mathlib.Core.Path.{◌≡◌, refl, sym, ap, ap₂, ◌∙◌}
use mathlib.Core.Bool.{Bool, true, false, cond, ◌&&◌}
use mathlib.Core.List.{List, [], ◌∷◌, ◌++◌}
use Prim.Native.Nat.{ℕ, zero, suc, ◌+◌, ◌-◌, ◌*◌, ◌≤◌}
use native.Mathlib.Omega.{arith}
use lib.Dec.{leb, ltb}
use lib.ListN.{length, get_or, take, drop}
use lib.Seq.{get_or-drop, drop-drop}
use Rattle.common.specs.Choice.{pick}
use Rattle.common.proofs.Choice.{true_false, false_true}
use Rattle.word.specs.Word.{word_at}
use Rattle.notice.specs.Field.{Field, field_right}
use Rattle.notice.specs.Layout.{size_at, name_size_at, value_start, next_at, name_at, value_at, field_at, right_at}
use Rattle.notice.specs.Write.{field}
use Rattle.mend.specs.Mend.{Entry, cut_at, code_among, code_at, stays, kept_with, list_from, list_of, kept_in, kept_of}

module _ (s t : List ℕ) (l : length s ≡ length t) (e : drop 8 s ≡ drop 8 t) where
  byte : (i : ℕ) → 8 ≤ i → get_or s i 0 ≡ get_or t i 0
  byte i h =
      let n : 8 + (i - 8) ≡ i = omega arith in
      ap (λ (k : ℕ). get_or s k 0) (sym n) ∙ (sym (get_or-drop 8 s (i - 8) 0) ∙ (ap (λ (x : List ℕ). get_or x (i - 8) 0) e ∙ (get_or-drop 8 t (i - 8) 0 ∙ ap (λ (k : ℕ). get_or t k 0) n)))

  rest : (i : ℕ) → 8 ≤ i → drop i s ≡ drop i t
  rest i h =
      let n : 8 + (i - 8) ≡ i = omega arith in
      ap (λ (k : ℕ). drop k s) (sym n) ∙ (sym (drop-drop (i - 8) 8 s) ∙ (ap (drop (i - 8)) e ∙ (drop-drop (i - 8) 8 t ∙ ap (λ (k : ℕ). drop k t) n)))

  word : (k at : ℕ) → 8 ≤ at → word_at k s at ≡ word_at k t at
  unfolding word_at
  word zero at h = refl
  word (suc k) at h = ap₂ (λ (a b : ℕ). a + 256 * b) (byte at h) (word k (suc at) (omega arith))

  module _ (at : ℕ) (h : 8 ≤ at) where
    size : size_at s at ≡ size_at t at
    size = word 2 at h

    name_size : name_size_at s at ≡ name_size_at t at
    name_size = byte (at + 4) (omega arith)

    next : next_at s at ≡ next_at t at
    next = ap (λ (n : ℕ). at + 2 + n) size

    name : name_at s at ≡ name_at t at
    name = ap₂ take name_size (rest (at + 5) (omega arith))

    value : value_at s at ≡ value_at t at
    value =
        let start : value_start s at ≡ value_start t at = ap (λ (n : ℕ). at + 5 + n) name_size in
        ap₂ take (ap₂ (λ (a b : ℕ). a - (3 + b)) size name_size) (rest (value_start s at) (omega arith) ∙ ap (λ (n : ℕ). drop n t) start)

    same_field : field_at s at ≡ field_at t at
    same_field = of_parts (word 2 (at + 2) (omega arith)) name value
      where
        of_parts : {k k' : ℕ} {n n' v v' : List ℕ} → k ≡ k' → n ≡ n' → v ≡ v' → field k n v ≡ field k' n' v'
        of_parts p q r = cc

    right : right_at s at ≡ right_at t at
    right =
        let a : leb (3 + name_size_at s at) (size_at s at) ≡ leb (3 + name_size_at t at) (size_at t at) = ap₂ (λ (x y : ℕ). leb (3 + x) y) name_size size in
        let b : leb (next_at s at) (length s) ≡ leb (next_at t at) (length t) = ap₂ leb next l in
        ap₂ (λ (x : Bool) (f : Field). x && field_right f) (ap₂ (λ (x y : Bool). x && y) a b) same_field

    same_code : (kept : List Field) → code_at s kept at ≡ code_at t kept at
    same_code kept =
        ap₂ (λ (x y : Bool). cond x 4 (cond y (code_among kept (name_at s at)) 3)) (ap₂ ltb l next) right
        ∙ ap (λ (x : List ℕ). cond (cut_at t at) 4 (cond (right_at t at) (code_among kept x) 3)) name

    same_kept : (kept : List Field) → kept_with s kept at ≡ kept_with t kept at
    same_kept kept = ap₂ (λ (c : ℕ) (f : Field). cond (stays c) (kept ++ (f ∷ [])) kept) (same_code kept) same_field

  pub same_walk : (n : ℕ) (kept : List Field) (at : ℕ) → 8 ≤ at → (list_from n s kept at ≡ list_from n t kept at) × (kept_in s (list_from n s kept at) ≡ kept_in t (list_from n t kept at))
  unfolding list_from
  same_walk zero kept at h = (refl, refl)
  same_walk (suc n) kept at h = go (ltb at (length s)) (ltb at (length t)) (ap (ltb at) l) (same_walk n (kept_with s kept at) (next_at s at) (omega arith))
    where
      to : list_from n t (kept_with s kept at) (next_at s at) ≡ list_from n t (kept_with t kept at) (next_at t at)
      to = ap₂ (λ (k : List Field) (i : ℕ). list_from n t k i) (same_kept at h kept) (next at h)

      go : (a b : Bool) → a ≡ b
          → (list_from n s (kept_with s kept at) (next_at s at) ≡ list_from n t (kept_with s kept at) (next_at s at))
          × (kept_in s (list_from n s (kept_with s kept at) (next_at s at)) ≡ kept_in t (list_from n t (kept_with s kept at) (next_at s at)))
          → (pick a (λ _. record { offset = at; code = code_at s kept at } ∷ list_from n s (kept_with s kept at) (next_at s at)) (λ _. [])
          ≡ pick b (λ _. record { offset = at; code = code_at t kept at } ∷ list_from n t (kept_with t kept at) (next_at t at)) (λ _. []))
          × (kept_in s (pick a (λ _. record { offset = at; code = code_at s kept at } ∷ list_from n s (kept_with s kept at) (next_at s at)) (λ _. []))
          ≡ kept_in t (pick b (λ _. record { offset = at; code = code_at t kept at } ∷ list_from n t (kept_with t kept at) (next_at t at)) (λ _. [])))
      go true true p ih = (
        ap₂ (λ (c : ℕ) (es : List Entry). record { offset = at; code = c } ∷ es) (same_code at h kept) (ih.0 ∙ to),
        ap (λ (fs : List Field). cond (stays (code_at s kept at)) (field_at s at ∷ fs) fs) (ih.1 ∙ ap (kept_in t) to)
            ∙ ap₂ (λ (c : ℕ) (f : Field). cond (stays c) (f ∷ kept_in t (list_from n t (kept_with t kept at) (next_at t at))) (kept_in t (list_from n t (kept_with t kept at) (next_at t at)))) (same_code at h kept) (same_field at h),
      )
      go false false p ih = (refl, refl)
      go true false p ih = true_false p
      go false true p ih = false_true p

  pub same_list : list_of s ≡ list_of t
  same_list = ap (λ (n : ℕ). list_from n s [] 8) l ∙ (same_walk (length t) [] 8 (omega arith)).0

  pub same_fields : kept_of s ≡ kept_of t
  same_fields = ap (λ (n : ℕ). kept_in s (list_from n s [] 8)) l ∙ (same_walk (length t) [] 8 (omega arith)).1
