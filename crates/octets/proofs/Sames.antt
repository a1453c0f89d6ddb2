-- Two strings, some bytes at a time. Assumes nothing.
use mathlib.Core.Path.{◌≡◌, refl, sym, ap, ap₂, ◌∙◌}
use mathlib.Core.Bool.{Bool, true, false}
use mathlib.Core.List.{List, ◌++◌}
use Prim.Native.Nat.{ℕ, ◌+◌, ◌≤◌, ◌<◌}
use native.Mathlib.Omega.{arith}
use lib.ListN.{length, get_or, take, drop}
use lib.Seq.{take-add, take-take, take_all}
use Rattle.common.proofs.Choice.{true_false}
use Rattle.word.specs.Word.{word_at, word_bytes, Bytes}
use Rattle.word.proofs.Theorems.{read_bytes_lem}
use Rattle.word.proofs.Laws.{word_one}
use Rattle.octets.specs.Octets.{folded, same_of}
use Rattle.octets.proofs.Theorems.{same}

module _ (s t : List ℕ) where
  -- what differs in a word is not the same
  pub other_word : (k at : ℕ) → (word_at k s at ≡ word_at k t at → ⊥) → false ≡ same_of s t
  other_word k at h = go (same_of s t) refl
    where
      go : (b : Bool) → same_of s t ≡ b → false ≡ b
      go true e = absurd (h (ap (λ (l : List ℕ). word_at k l at) ((same s t).0 e)))
      go false e = refl

  pub other_byte : (at : ℕ) → (get_or s at 0 ≡ get_or t at 0 → ⊥) → false ≡ same_of s t
  other_byte at h = other_word 1 at (λ e. h (sym (word_one at s) ∙ (e ∙ word_one at t)))

  -- what is the same as far as it goes
  pub all_same : (at : ℕ) → length s ≤ at → length t ≤ at → take at s ≡ take at t → true ≡ same_of s t
  all_same at h l p = sym ((same s t).1 (sym (take_all at s h) ∙ (p ∙ take_all at t l)))

  -- a shorter start
  pub less_alike : (m at : ℕ) → m ≤ at → take at s ≡ take at t → take m s ≡ take m t
  less_alike m at h p = sym (take-take m at s h) ∙ (ap (take m) p ∙ take-take m at t h)

  module _ (bs : Bytes s) (bt : Bytes t) where
    -- a word more
    pub more_alike : (k at : ℕ) → at + k ≤ length s → at + k ≤ length t → word_at k s at ≡ word_at k t at → take at s ≡ take at t → take (at + k) s ≡ take (at + k) t
    more_alike k at h l e p =
        let w : take k (drop at s) ≡ take k (drop at t) = sym (read_bytes_lem k at s bs h) ∙ (ap (word_bytes k) e ∙ read_bytes_lem k at t bt l) in
        take-add at k s ∙ (ap₂ (λ (x y : List ℕ). x ++ y) p w ∙ sym (take-add at k t))

  module _ (bs : Bytes s) (bt : Bytes t) (n : length s ≡ length t) where
    pub next_word : (k at : ℕ) → at + k ≤ length s → word_at k s at ≡ word_at k t at → take at s ≡ take at t → take (at + k) s ≡ take (at + k) t
    next_word k at h e p = more_alike bs bt k at h (omega arith) e p

    pub next_byte : (at : ℕ) → at < length s → get_or s at 0 ≡ get_or t at 0 → take at s ≡ take at t → take (at + 1) s ≡ take (at + 1) t
    next_byte at h e p = next_word 1 at (omega arith) (word_one at s ∙ (e ∙ sym (word_one at t))) p

    -- the last word, which may lie in part before `at`
    pub last_word : (k at last : ℕ) → last ≤ at → last + k ≡ length s → word_at k s last ≡ word_at k t last → take at s ≡ take at t → true ≡ same_of s t
    last_word k at last h m e p = all_same (last + k) (omega arith) (omega arith) (next_word k last (omega arith) e (less_alike last at h p))

turned : (s t : List ℕ) → same_of s t ≡ same_of t s
turned s t = go (same_of s t) (same_of t s) refl refl
  where
    go : (a b : Bool) → same_of s t ≡ a → same_of t s ≡ b → a ≡ b
    go true true e f = refl
    go false false e f = refl
    go true false e f = true_false (sym ((same t s).1 (sym ((same s t).0 e))) ∙ f)
    go false true e f = true_false (sym ((same s t).1 (sym ((same t s).0 f))) ∙ e)

-- the answers of `same`, by the marks
module _ (m w : Bool) (s t : List ℕ) (r : Bool) where
  pub left_folded : m ≡ true → r ≡ same_of (folded true s) (folded w t) → r ≡ same_of (folded m s) (folded w t)
  left_folded e h = rw e h

  pub right_folded : m ≡ false → w ≡ true → r ≡ same_of (folded true t) (folded false s) → r ≡ same_of (folded m s) (folded w t)
  right_folded e f h = rw (e, f) (h ∙ turned (folded true t) (folded false s))
