-- Words that are read without a look at the others. Assumes nothing.
use mathlib.Core.Path.{◌≡◌, refl, sym, ◌∙◌}
use mathlib.Core.Logic.{◌⊎◌, inl, inr, ⊎_elim}
use mathlib.Core.Bool.{Bool, true, false, not, ◌&&◌, ◌||◌, or-false}
use mathlib.Core.List.{List}
use Prim.Native.Nat.{ℕ, ◌+◌, ◌≤◌, ◌<◌}
use lib.ListN.{length, get_or, drop, drop_of_length-le}
use lib.Seq.{drop-cons}
use lib.Dec.{eqb, ltb}
use borrow.Author.Tests.{ltb-true, ltb-false, eqb-true, eqb-false, not-true}
use Rattle.common.proofs.Choice.{true_false, false_true}
use Rattle.octets.proofs.Theorems.{and_parts, or_parts}
use Rattle.regexp.specs.Language.{Mark}
use Rattle.regexp.specs.Words.{repeats, word_of, plain_byte, repeat_byte, easy_at}
use Rattle.regexp.specs.Promise.{WordAt}
use Rattle.regexp.specs.declared.Read.TheVariants.{Item}
use Rattle.regexp.proofs.Parts.{word-star, word-plus, word-optional, word_plain}
use Rattle.regexp.proofs.Walks.{Walks, item_walk, repeat_walk}

neither : (a b : Bool) → (a || b) ≡ false → (a ≡ false) × (b ≡ false)
neither true b h = true_false h
neither false b h = (refl, h)

-- a repeat mark behind a piece
abbrev Again : List ℕ → ℕ → Bool → Type 0
Again text i some = (some ≡ true) × ((m : Mark) × (word_of (drop i text) ≡ repeats m (drop (i + 1) text)))

module _ (text : List ℕ) (i : ℕ) (some : Bool) where
  abbrev b : ℕ
  b = get_or text i 0

  byte_word : i < length text → plain_byte b ≡ true → (some || not (repeat_byte b)) ≡ true → WordAt text i (Item 0 i (i + 1)) ⊎ Again text i some
  byte_word h p q = go (repeat_byte b) refl
    where
      n1 : (((((((eqb b 92 || eqb b 91) || eqb b 40) || eqb b 41) || eqb b 124) || eqb b 46) || eqb b 94) ≡ false) × (eqb b 36 ≡ false)
      n1 = neither ((((((eqb b 92 || eqb b 91) || eqb b 40) || eqb b 41) || eqb b 124) || eqb b 46) || eqb b 94) (eqb b 36) (not-true (((((((eqb b 92 || eqb b 91) || eqb b 40) || eqb b 41) || eqb b 124) || eqb b 46) || eqb b 94) || eqb b 36) p)

      n2 : ((((((eqb b 92 || eqb b 91) || eqb b 40) || eqb b 41) || eqb b 124) || eqb b 46) ≡ false) × (eqb b 94 ≡ false)
      n2 = neither (((((eqb b 92 || eqb b 91) || eqb b 40) || eqb b 41) || eqb b 124) || eqb b 46) (eqb b 94) n1.0

      n3 : (((((eqb b 92 || eqb b 91) || eqb b 40) || eqb b 41) || eqb b 124) ≡ false) × (eqb b 46 ≡ false)
      n3 = neither ((((eqb b 92 || eqb b 91) || eqb b 40) || eqb b 41) || eqb b 124) (eqb b 46) n2.0

      n4 : ((((eqb b 92 || eqb b 91) || eqb b 40) || eqb b 41) ≡ false) × (eqb b 124 ≡ false)
      n4 = neither (((eqb b 92 || eqb b 91) || eqb b 40) || eqb b 41) (eqb b 124) n3.0

      n5 : (((eqb b 92 || eqb b 91) || eqb b 40) ≡ false) × (eqb b 41 ≡ false)
      n5 = neither ((eqb b 92 || eqb b 91) || eqb b 40) (eqb b 41) n4.0

      n6 : ((eqb b 92 || eqb b 91) ≡ false) × (eqb b 40 ≡ false)
      n6 = neither (eqb b 92 || eqb b 91) (eqb b 40) n5.0

      n7 : (eqb b 92 ≡ false) × (eqb b 91 ≡ false)
      n7 = neither (eqb b 92) (eqb b 91) n6.0

      a1 : b ≡ 92 → ⊥
      a1 = eqb-false b 92 n7.0

      a2 : b ≡ 91 → ⊥
      a2 = eqb-false b 91 n7.1

      mark : (b ≡ 42) ⊎ ((b ≡ 43) ⊎ (b ≡ 63)) → (m : Mark) × (word_of (drop i text) ≡ repeats m (drop (i + 1) text))
      mark (inl e) = let w = word-star text i h a1 a2 e in (w.0, w.1)
      mark (inr (inl e)) = let w = word-plus text i h a1 a2 e in (w.0, w.1)
      mark (inr (inr e)) = let w = word-optional text i h a1 a2 e in (w.0, w.1)

      which : repeat_byte b ≡ true → (b ≡ 42) ⊎ ((b ≡ 43) ⊎ (b ≡ 63))
      which t = ⊎_elim (λ u. ⊎_elim (λ v. inl (eqb-true b 42 v)) (λ v. inr (inl (eqb-true b 43 v))) (or_parts (eqb b 42) (eqb b 43) u)) (λ u. inr (inr (eqb-true b 63 u))) (or_parts (eqb b 42 || eqb b 43) (eqb b 63) t)

      go : (t : Bool) → repeat_byte b ≡ t → WordAt text i (Item 0 i (i + 1)) ⊎ Again text i some
      go true t = inr (sym (or-false some) ∙ (rw t at q), mark (which t))
      go false t =
          let r1 = neither (eqb b 42 || eqb b 43) (eqb b 63) t in
          let r2 = neither (eqb b 42) (eqb b 43) r1.0 in
          inl (word_plain text i h a1 a2 (eqb-false b 40 n6.1) (eqb-false b 41 n5.1) (eqb-false b 124 n4.1) (eqb-false b 42 r2.0) (eqb-false b 43 r2.1) (eqb-false b 63 r1.1) (eqb-false b 46 n3.1) (eqb-false b 94 n2.1) (eqb-false b 36 n1.1))

  pub easy_inside : easy_at some (drop i text) ≡ true → i < length text
  easy_inside e = go (ltb i (length text)) refl
    where
      go : (t : Bool) → ltb i (length text) ≡ t → i < length text
      go true t = ltb-true i (length text) t
      go false t = false_true (rw (drop_of_length-le text (ltb-false i (length text) t)) at e)

  easy_word : easy_at some (drop i text) ≡ true → WordAt text i (Item 0 i (i + 1)) ⊎ Again text i some
  easy_word e =
      let h = easy_inside e in
      let p = and_parts (plain_byte b) (some || not (repeat_byte b)) (rw (drop-cons text i 0 h) at e) in
      byte_word h p.0 p.1

  pub easy_walk : (from room : ℕ) → Walks text from room some i → easy_at some (drop i text) ≡ true → Walks text from room true (i + 1)
  easy_walk from room s e = go (easy_word e)
    where
      go : WordAt text i (Item 0 i (i + 1)) ⊎ Again text i some → Walks text from room true (i + 1)
      go (inl q) = item_walk text from room some i s q.0.0 (i + 1) q.0.1
      go (inr q) = rw q.0 at (repeat_walk text from room some i s q.1.0 q.1.1 q.0)

-- where no piece stands before
pub easy_plain : (text : List ℕ) (i : ℕ) → easy_at false (drop i text) ≡ true → WordAt text i (Item 0 i (i + 1))
easy_plain text i e = go (easy_word text i false e)
  where
    go : WordAt text i (Item 0 i (i + 1)) ⊎ Again text i false → WordAt text i (Item 0 i (i + 1))
    go (inl q) = q
    go (inr q) = false_true q.0

pub easy_none : (text : List ℕ) (i : ℕ) (some : Bool) → length text ≤ i → false ≡ easy_at some (drop i text)
easy_none text i some h = rw (drop_of_length-le text h)

pub easy_some : (text : List ℕ) (i : ℕ) (some p q : Bool) → i < length text → p ≡ plain_byte (get_or text i 0) → q ≡ repeat_byte (get_or text i 0) → (p && (some || not q)) ≡ easy_at some (drop i text)
easy_some text i some p q h ep eq = rw (drop-cons text i 0 h, ep, eq)
