-- Cells as a word and back, and what is told of words. Assumes nothing.
use mathlib.Core.Path.{◌≡◌, refl, sym, ap, ◌∙◌}
use mathlib.Core.Logic.{◌⊎◌, inl, inr}
use mathlib.Core.Bool.{Bool, true, false, ◌&&◌, ◌||◌}
use mathlib.Core.List.{List, [], ◌∷◌, ◌++◌, map, append_assoc}
use Prim.Native.Nat.{ℕ, zero, suc, ◌+◌, ◌-◌, ◌*◌, ◌/◌, ◌%◌, ◌^◌, ◌≤◌, ◌<◌, max}
use native.Mathlib.Numerals.{add-one}
use native.Mathlib.Omega.{arith}
use lib.ListN.{length, get_or, set, take, drop, replicate}
use lib.Seq.{take-suc, take-suc-set, take_all, get_or-set_same, get_or-set_other}
use lib.Dec.{eqb}
use borrow.Author.Tests.{eqb-true, eqb-false}
use Rattle.automaton.specs.Pass.{Token, started, left, pass}
use Rattle.automaton.specs.Word.{bits_of, bit_if, cells_in, ended_in, Leads}
use Rattle.automaton.specs.declared.Level.{Level}
use Rattle.automaton.specs.Decide.{walk_on, decide}
use Rattle.automaton.proofs.Value.{seen, ran}
use Rattle.automaton.proofs.Word.{bits_more, doubled, word_on}

-- ---- cells as a word and back

pub unpack_one : (ms : List Bool) (i n rest : ℕ) → i < n → length ms ≡ n
    → take (i + 1) (set ms i (eqb (rest % 2) 1)) ++ bits_of (n - (i + 1)) (rest / 2) ≡ take i ms ++ bits_of (n - i) rest
unpack_one ms i n rest h l =
    let p : i < length ms = omega arith in
    let e : n - i ≡ suc (n - suc i) = omega arith in
    rw (add-one i, take-suc-set ms i (eqb (rest % 2) 1) p, e) (append_assoc (take i ms) (eqb (rest % 2) 1 ∷ []) (bits_of (n - suc i) (rest / 2)))

pub pack_one : (ms : List Bool) (i out bit b : ℕ) → i < length ms → bit ≡ 2 ^ i → out < 2 ^ i → bits_of i out ≡ take i ms → b ≡ bit_if (get_or ms i false) bit
    → bits_of (i + 1) (out + b) ≡ take (i + 1) ms
pack_one ms i out bit b h e o t eb =
    rw (add-one i, eb, e) (bits_more i out (get_or ms i false) o ∙ ap (λ (l : List Bool). l ++ (get_or ms i false ∷ [])) t ∙ sym (take-suc ms i false h))

pub pack_all : (ms : List Bool) (i out b : ℕ) (fin : Bool) → i ≤ length ms → length ms ≤ i → bits_of i out ≡ take i ms → b ≡ bit_if fin 1
    → (cells_in (length ms) (out * 2 + b) ≡ ms) × (ended_in (out * 2 + b) ≡ fin)
pack_all ms i out b fin h g t eb =
    let d = doubled out fin in
    let n : length ms ≡ i = omega arith in
    (rw (eb, d.0, n) (t ∙ take_all i ms g), rw (eb, d.1))

-- ---- where words lead

-- the greater of two numbers
pub most : (a b r : ℕ) → r ≡ max a b → (a ≤ r) × (b ≤ r) × ((u : ℕ) → a ≤ u → b ≤ u → r ≤ u)
most a b r e = (omega (arith, e), omega (arith, e), λ u f g. omega (arith, e, f, g))

module _ (ts : List Token) (n : ℕ) (k : Bool) where
  -- by the cells
  pub led : (c w x : ℕ) (as' bs : List Bool) (l : Level) (f : Bool) → as' ≡ cells_in n w → pass ts as' c (started k) [] ≡ left bs l → cells_in n x ≡ bs → ended_in x ≡ f → l.fin ≡ f → Leads ts n k c w x
  led c w x as' bs l f ea p eb ef el = (l, rw eb ((rw ea at p)), el ∙ sym ef)

  -- what is told of the first words: from the word j % 8 the byte j / 8 leads to the one whose number stands at j, if one does
  abbrev pub Told : List ℕ → List ℕ → ℕ → Type 0
  Told next held count =
      (j : ℕ) → (get_or next j 0 ≡ 0) ⊎ ((get_or next j 0 ≤ count) × (j % 8 ≤ count) × Leads ts n k (j / 8) (get_or held (j % 8) 0) (get_or held (get_or next j 0) 0))

  untold : (m j : ℕ) → ◌≡◌ {A = ℕ} (get_or (replicate m 0) j 0) 0
  untold zero j = refl
  untold (suc m) zero = refl
  untold (suc m) (suc j) = untold m j

  pub told_none : (m : ℕ) (held : List ℕ) (count : ℕ) → Told (replicate m 0) held count
  told_none m held count j = inl (untold m j)

  pub told_at : (next held : List ℕ) (count : ℕ) → Told next held count → (c s j t : ℕ) → s < 8 → j ≡ c * 8 + s → t ≡ get_or next j 0 → 0 < t
      → (t ≤ count) × Leads ts n k c (get_or held s 0) (get_or held t 0)
  told_at next held count h c s j t hs ej et ht = go (h j)
    where
      go : (get_or next j 0 ≡ 0) ⊎ ((get_or next j 0 ≤ count) × (j % 8 ≤ count) × Leads ts n k (j / 8) (get_or held (j % 8) 0) (get_or held (get_or next j 0) 0)) → (t ≤ count) × Leads ts n k c (get_or held s 0) (get_or held t 0)
      go (inl z) = absurd (omega arith)
      go (inr q) =
          let ed : j / 8 ≡ c = omega arith in
          let em : j % 8 ≡ s = omega arith in
          (omega (arith, q.0, et), rw (ed, em, ← et) at q.2)

  -- a word is held, and the byte that leads to it is told
  module _ (next held : List ℕ) (count : ℕ) (h : Told next held count) (c s j m x : ℕ) (hs : s ≤ count) (hc : count ≤ 7) (ej : j ≡ c * 8 + s) (hj : j < length next)
      (m1 : m ≤ count + 1) (m2 : m ≤ count → get_or held m 0 ≡ x) (mh : m < length held) (l : Leads ts n k c (get_or held s 0) x) where
    kept : (i : ℕ) → i ≤ count → get_or (set held m x) i 0 ≡ get_or held i 0
    kept i hi = go (eqb i m) refl
      where
        go : (b : Bool) → eqb i m ≡ b → get_or (set held m x) i 0 ≡ get_or held i 0
        go true e = let q = eqb-true i m e in rw q (get_or-set_same held m x 0 mh ∙ sym (m2 (omega arith)))
        go false e = get_or-set_other held m i x 0 (eqb-false i m e)

    pub told_more : (count2 : ℕ) → count2 ≡ max count m → Told (set next j m) (set held m x) count2
    told_more count2 ec i = go (eqb i j) refl
      where
        up : (count ≤ count2) × (m ≤ count2) × ((u : ℕ) → count ≤ u → m ≤ u → count2 ≤ u)
        up = most count m count2 ec

        old : (get_or next i 0 ≡ 0) ⊎ ((get_or next i 0 ≤ count) × (i % 8 ≤ count) × Leads ts n k (i / 8) (get_or held (i % 8) 0) (get_or held (get_or next i 0) 0))
            → (get_or next i 0 ≡ 0) ⊎ ((get_or next i 0 ≤ count2) × (i % 8 ≤ count2) × Leads ts n k (i / 8) (get_or (set held m x) (i % 8) 0) (get_or (set held m x) (get_or next i 0) 0))
        old (inl z) = inl z
        old (inr q) =
            let u = up.0 in
            inr (omega (arith, q.0, u), omega (arith, q.1, u), rw (kept (i % 8) q.1, kept (get_or next i 0) q.0) q.2)

        go : (b : Bool) → eqb i j ≡ b
            → (get_or (set next j m) i 0 ≡ 0)
            ⊎ ((get_or (set next j m) i 0 ≤ count2) × (i % 8 ≤ count2) × Leads ts n k (i / 8) (get_or (set held m x) (i % 8) 0) (get_or (set held m x) (get_or (set next j m) i 0) 0))
        go true e =
            let q = eqb-true i j e in
            let ed : j / 8 ≡ c = omega arith in
            let em : j % 8 ≡ s = omega arith in
            let u = up.0 in
            rw (q, get_or-set_same next j m 0 hj, ed, em, kept s hs, get_or-set_same held m x 0 mh) (inr (up.1, omega (arith, hs, u), l))
        go false e = rw (get_or-set_other next j i m 0 (eqb-false i j e)) (old (h i))

-- ---- the first byte

module _ (ts : List Token) (n : ℕ) (sf ef : Bool) (f : ℕ → ℕ) (v : List ℕ) (i : ℕ) (zs ms : List Bool) (l : Level) (ez : zs ≡ replicate n false) (p : pass ts zs 0 (started false) [] ≡ left ms l) (hv : i < length v) where
  from_run : (r : Bool) → r ≡ walk_on ts sf ef l.emp ms false true (map f (drop i v)) → r ≡ decide ts n sf ef (map f (drop i v))
  from_run r h = ran ts (replicate n false) ms l sf ef r (map f (drop i v)) (rw ez at p) h

  pub long_seen : (ef && l.emp) ≡ true → true ≡ decide ts n sf ef (map f (drop i v))
  long_seen t = from_run true (seen ts sf ef l.emp f v ms false true i hv t)

  pub long_first : (ef && l.emp) ≡ false → (w : ℕ) → cells_in n w ≡ ms → ended_in w ≡ false → (b : ℕ) → b ≡ f (get_or v i 0) → (x : ℕ) → Leads ts n true b w x
      → (r : Bool) → r ≡ walk_on ts sf ef l.emp (cells_in n x) (ended_in x) sf (map f (drop (i + 1) v)) → r ≡ decide ts n sf ef (map f (drop i v))
  long_first t w ew ee b eb x d r h =
      let q : (ef && (ended_in w || (true && l.emp))) ≡ false = rw ee t in
      let o = word_on ts sf ef l.emp f v n w true i hv q b eb x d in
      from_run r (h ∙ (rw (ew, ee) at o))
