-- Strings of characters: one list at most, and the turns of the count. Assumes nothing.
use Prim.Native.Nat.{ℕ, zero, suc, ◌+◌, ◌<◌, ◌≤◌}
use Prim.{tt}
use mathlib.Core.Path.{◌≡◌, refl, sym, ap, ◌∙◌}
use mathlib.Core.Logic.{inl}
use mathlib.Core.List.{List, [], ◌∷◌, ◌++◌, append_assoc, append-nil}
use native.Mathlib.Nat.{add-zero}
use native.Mathlib.Omega.{arith}
use lib.ListN.{length, get_or, take, drop, length-append, length-drop, take-append-drop, drop_of_length-le}
use lib.Seq.{drop-drop, get_or-drop, get_or-take, length-take-le}
use borrow.Author.Tests.{lt-ltb, le-ltb}
use Rattle.common.specs.Each.{Each}
use Rattle.common.proofs.Each.{each_append}
use Rattle.utf8.specs.Utf8.{Scalar, encode, encode_all, HasCharacters, WellFormed}
use Rattle.utf8.specs.Scan.{width_at, Ascii, Begins, Advances, unless_zero}
use Rattle.utf8.proofs.Encoding.{width_of_lem, width_most, char, prefix_free, encode_some, width_of}

pub encode_append : (cs ds : List ℕ) → encode_all (cs ++ ds) ≡ encode_all cs ++ encode_all ds
encode_append [] ds = refl
encode_append (c ∷ cs) ds = ap (λ (l : List ℕ). encode c ++ l) (encode_append cs ds) ∙ sym (append_assoc (encode c) (encode_all cs) (encode_all ds))

some_bytes : {A : Type 0} (c : ℕ) (l : List ℕ) → encode c ++ l ≡ [] → A
some_bytes c l e = let s = encode_some c in absurd (omega (arith, simp length-append at (ap length e)))

pub one_list : (cs ds : List ℕ) → Each Scalar cs → Each Scalar ds → encode_all cs ≡ encode_all ds → cs ≡ ds
one_list [] [] p q e = refl
one_list [] (d ∷ ds) p q e = some_bytes d (encode_all ds) (sym e)
one_list (c ∷ cs) [] p q e = some_bytes c (encode_all cs) e
one_list (c ∷ cs) (d ∷ ds) p q e =
    let o = prefix_free c d (encode_all cs) (encode_all ds) p.0 q.0 e in
    cc (o.0, one_list cs ds p.1 q.1 o.1)

-- what stands behind characters of a well-formed string is well-formed
rest_of : (cs ds z : List ℕ) → Each Scalar cs → Each Scalar ds → encode_all cs ++ z ≡ encode_all ds → WellFormed z
rest_of [] ds z p q e = (ds, record { scalars = q; bytes = sym e })
rest_of (c ∷ cs) [] z p q e = some_bytes c (encode_all cs ++ z) (sym (append_assoc (encode c) (encode_all cs) z) ∙ e)
rest_of (c ∷ cs) (d ∷ ds) z p q e =
    let o = prefix_free c d (encode_all cs ++ z) (encode_all ds) p.0 q.0 (sym (append_assoc (encode c) (encode_all cs) z) ∙ e) in
    rest_of cs ds z p.1 q.1 o.1

-- a string that no character begins is ill-formed
pub ill_formed : (z : List ℕ) → 0 < length z → width_of z ≡ 0 → WellFormed z → ⊥
ill_formed z h e w = go w.0 w.1.scalars w.1.bytes
  where
    go : (cs : List ℕ) → Each Scalar cs → encode_all cs ≡ z → ⊥
    go [] p f = omega (arith, ap length f)
    go (c ∷ cs) p f =
        let s = encode_some c in
        let k : length (encode c) ≡ 0 = sym (width_of_lem c (encode_all cs) p.0) ∙ ap width_of f ∙ e in
        omega arith

-- the first i bytes of s are n characters
abbrev pub Passed : List ℕ → ℕ → ℕ → Type 0
Passed s i n = (cs : List ℕ) × Each Scalar cs × (encode_all cs ++ drop i s ≡ s) × (length cs ≡ n)

pub starts : (s : List ℕ) → Passed s 0 0
starts s = ([], tt, refl, refl)

pub goes_on : (s : List ℕ) (i n k m : ℕ) → Passed s i n → Begins (drop i s) k m → Passed s (i + k) (n + m)
goes_on s i n k m p b =
    let e : encode_all (p.0 ++ b.cs) ++ drop (i + k) s ≡ s =
    rw (encode_append p.0 b.cs, append_assoc (encode_all p.0) (encode_all b.cs) (drop (i + k) s), ← drop-drop k i s, b.bytes) p.2 in
    (p.0 ++ b.cs, each_append Scalar p.0 b.cs p.1 b.scalars, e, length-append p.0 b.cs ∙ cc (p.3, b.many))

pub finishes : (s : List ℕ) (i n : ℕ) → length s ≤ i → Passed s i n → HasCharacters s n
finishes s i n h p = (p.0, record { scalars = p.1; bytes = sym (append-nil (encode_all p.0)) ∙ (rw (drop_of_length-le s h) at p.2) }, p.3)

pub refuses : (s : List ℕ) (i n : ℕ) → Passed s i n → (WellFormed (drop i s) → ⊥) → WellFormed s → ⊥
refuses s i n p b w = b (rest_of p.0 w.0 (drop i s) p.1 w.1.scalars (p.2 ∙ sym w.1.bytes))

pub fits_at_lem : (s : List ℕ) (i k m : ℕ) → i ≤ length s → Begins (drop i s) k m → i + k ≤ length s
fits_at_lem s i k m h b = let f = simp length-drop at b.fits in omega arith

-- the character at i, or none
width_drop : (s : List ℕ) (i : ℕ) → width_of (drop i s) ≡ width_at s i
width_drop s i = rw (get_or-drop i s 0 0, get_or-drop i s 1 0, get_or-drop i s 2 0, get_or-drop i s 3 0, add-zero i)

by_width : (z : List ℕ) (w : ℕ) → 0 < length z → width_of z ≡ w → Advances z (unless_zero w)
by_width z zero h e = ill_formed z h e
by_width z (suc k) h e =
    let m = width_most z in
    let c : Begins z (suc k) 1 = rw e at (char z h (λ f. omega (arith, sym e ∙ f))) in
    rw (le-ltb 4 (suc k) (omega arith)) c

pub at_width : (s : List ℕ) (i : ℕ) → i < length s → Advances (drop i s) (unless_zero (width_at s i))
at_width s i h = by_width (drop i s) (width_at s i) (simp length-drop (omega arith)) (width_drop s i)

-- ASCII
low_scalars : (l : List ℕ) → ((j : ℕ) → j < length l → get_or l j 0 < 128) → Each Scalar l
low_scalars [] h = tt
low_scalars (b ∷ l) h =
    let f : b < 128 = h 0 (omega arith) in
    ((omega arith, inl (omega arith)), low_scalars l (λ j p. h (suc j) (omega arith)))

low_bytes : (l : List ℕ) → ((j : ℕ) → j < length l → get_or l j 0 < 128) → encode_all l ≡ l
low_bytes [] h = refl
low_bytes (b ∷ l) h = rw (lt-ltb b 128 (h 0 (omega arith))) (ap (λ (r : List ℕ). b ∷ r) (low_bytes l (λ j p. h (suc j) (omega arith))))

pub ascii_begins : (s : List ℕ) (i n : ℕ) → 0 < n → Ascii s i n → Begins (drop i s) n n
ascii_begins s i n p h =
    let t = h.there in
    let len : length (take n (drop i s)) ≡ n = length-take-le n (drop i s) (simp length-drop (omega arith)) in
    let low : (j : ℕ) → j < length (take n (drop i s)) → get_or (take n (drop i s)) j 0 < 128 =
    λ j q. let r : j < n = omega arith in rw (get_or-take n (drop i s) j 0 r, get_or-drop i s j 0) (h.low j r) in
    record {
      cs = take n (drop i s);
      scalars = low_scalars (take n (drop i s)) low;
      bytes = rw (low_bytes (take n (drop i s)) low) (take-append-drop n (drop i s));
      many = len;
      some = p;
      fits = simp length-drop (omega arith);
      few = omega arith;
    }
