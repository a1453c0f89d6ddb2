-- The theorems that specs/Theorems.antt states. Assumes nothing.
use Prim.Native.Nat.{ℕ, zero, suc, ◌+◌, ◌<◌, ◌≤◌}
use Prim.{tt}
use mathlib.Core.Path.{◌≡◌, refl, sym, ap, ◌∙◌}
use mathlib.Core.Logic.{inl}
use mathlib.Core.Bool.{Bool, true, false, cond, ◌&&◌}
use mathlib.Core.List.{List, [], ◌∷◌, ◌++◌, map-append}
use native.Mathlib.Decide.{dec_lt}
use native.Mathlib.Omega.{arith}
use lib.Dec.{leb}
use lib.ListN.{length, drop, length-append, length-map, length-drop}
use borrow.Author.Tests.{lt-ltb, le-leb, lt-leb, leb-true}
use Rattle.common.specs.Each.{Each}
use Rattle.common.proofs.Each.{each_append}
use Rattle.octets.specs.Octets.{fold, folded}
use Rattle.octets.proofs.Theorems.{and_parts}
use Rattle.utf8.specs.Utf8.{Scalar, encode, encode_all, WellFormed, Counts}
use Rattle.utf8.specs.Scan.{width_at, Begins, one_more, start_by, count_from, count_of}
use Rattle.std.specs.Prelude.{Option, Some, None}
use Rattle.utf8.specs.Theorems.{Unique, OneAnswer, BothWays, Few, Right, FoldedSame, CountedIs}
use Rattle.utf8.proofs.Encoding.{encode_some, Form, form, form1, form2, form3, form4, char}
use Rattle.utf8.proofs.Strings.{one_list, encode_append, ill_formed, refuses}

pub unique : Unique
unique s cs ds p q = one_list cs ds p.scalars q.scalars (p.bytes ∙ sym q.bytes)

pub one_answer : OneAnswer
one_answer s (Some n) (Some m) p q = let e = unique s p.0 q.0 p.1 q.1 in cc (p.2, q.2, e)
one_answer s (Some n) None p q = absurd (q (p.0, p.1))
one_answer s None (Some m) p q = absurd (p (q.0, q.1))
one_answer s None None p q = refl

pub both_ways : BothWays
both_ways s r h n = (λ e. rw e at h, λ q. one_answer s r (Some n) h q)

few_from : (cs : List ℕ) → length cs ≤ length (encode_all cs)
few_from [] = omega arith
few_from (c ∷ cs) =
    let h = few_from cs in
    let s = encode_some c in
    omega (arith, length-append (encode c) (encode_all cs))

pub few : Few
few s n h = omega (arith, few_from h.0, ap length h.1.bytes, h.2)

-- the count as a function
from_drop : (k : ℕ) (z : List ℕ) → count_from k z ≡ count_of (drop k z)
from_drop zero z = refl
from_drop (suc k) [] = refl
from_drop (suc k) (b ∷ r) = from_drop k r

more : (z : List ℕ) (k : ℕ) (q : Option ℕ) → Begins z k 1 → Counts (drop k z) q → Counts z (one_more q)
more z k (Some n) b h =
    let c = h.0 in
    let e = h.1.bytes in
    (b.cs ++ c, record { scalars = each_append Scalar b.cs c b.scalars h.1.scalars; bytes = encode_append b.cs c ∙ ap (λ (l : List ℕ). encode_all b.cs ++ l) e ∙ b.bytes }, length-append b.cs c ∙ omega (arith, b.many, h.2))
more z k None b h = refuses z k 1 (b.cs, b.scalars, b.bytes, b.many) h

right_of : (n : ℕ) → ((s : List ℕ) → length s < n → Counts s (count_of s)) → (s : List ℕ) → length s ≤ n → Counts s (count_of s)
right_of n ih [] h = ([], record { scalars = tt; bytes = refl }, refl)
right_of n ih (b ∷ r) h = go (λ k. ih (drop k r) (simp length-drop (omega arith))) (width_at (b ∷ r) 0) refl
  where
    go : ((k : ℕ) → Counts (drop k r) (count_of (drop k r))) → (w : ℕ) → width_at (b ∷ r) 0 ≡ w → Counts (b ∷ r) (start_by w (λ k. count_from k r))
    go ih zero e = ill_formed (b ∷ r) (omega arith) e
    go ih (suc k) e =
        let c : Begins (b ∷ r) (suc k) 1 = rw e at (char (b ∷ r) (omega arith) (λ f. omega (arith, sym e ∙ f))) in
        more (b ∷ r) (suc k) (count_from k r) c (rw (from_drop k r) (ih k))

right_by : (n : ℕ) (s : List ℕ) → length s < n → Counts s (count_of s)
right_by zero s h = absurd (omega arith)
right_by (suc n) s h = right_of n (right_by n) s (omega arith)

pub right : Right
right s = right_by (suc (length s)) s (omega arith)

-- folding: bytes below 128 stay below, others stay as they are
low_fold : (m : Bool) (b : ℕ) → b < 128 → fold m b < 128
low_fold false b h = h
low_fold true b h = go (leb 65 b && leb b 90) refl
  where
    go : (t : Bool) → (leb 65 b && leb b 90) ≡ t → cond t (b + 32) b < 128
    go true e = let p = and_parts (leb 65 b) (leb b 90) e in let q : b ≤ 90 = leb-true _ _ p.1 in omega arith
    go false e = h

high_fold : (m : Bool) (b : ℕ) → 128 ≤ b → fold m b ≡ b
high_fold false b h = refl
high_fold true b h = rw (le-leb 65 b (omega arith), lt-leb b 90 (omega arith))

fold_low : (m : Bool) (b : ℕ) → fold m b < 128 → b < 128
fold_low m b h = go (dec_lt b 128)
  where
    go : Dec (b < 128) → b < 128
    go (yes d) = d
    go (no d) = let e = high_fold m b (omega arith) in absurd (omega arith)

fold_high : (m : Bool) (b : ℕ) → 128 ≤ fold m b → fold m b ≡ b
fold_high m b h = go (dec_lt b 128)
  where
    go : Dec (b < 128) → fold m b ≡ b
    go (yes d) = let e = low_fold m b d in absurd (omega arith)
    go (no d) = high_fold m b (omega arith)

abbrev High : List ℕ → Type 0
High l = Each (λ (b : ℕ). 128 ≤ b) l

encode_high : (c : ℕ) → 128 ≤ c → High (encode c)
encode_high c h = go (form c)
  where
    go : Form c → High (encode c)
    go (form1 p e) = absurd (omega arith)
    go (form2 p q e) = rw e (omega arith, (omega arith, tt))
    go (form3 p q e) = rw e (omega arith, (omega arith, (omega arith, tt)))
    go (form4 p e) = rw e (omega arith, (omega arith, (omega arith, (omega arith, tt))))

high_folded : (m : Bool) (l : List ℕ) → High l → folded m l ≡ l
high_folded m [] h = refl
high_folded m (b ∷ l) h = cc (high_fold m b h.0, high_folded m l h.1)

encode_low : (c : ℕ) → c < 128 → encode c ≡ c ∷ []
encode_low c h = rw (lt-ltb c 128 h)

fold_character : (m : Bool) (c : ℕ) → folded m (encode c) ≡ encode (fold m c)
fold_character m c = go (dec_lt c 128)
  where
    go : Dec (c < 128) → folded m (encode c) ≡ encode (fold m c)
    go (yes d) = rw (encode_low c d, encode_low (fold m c) (low_fold m c d))
    go (no d) =
        let h : 128 ≤ c = omega arith in
        rw (high_fold m c h) (high_folded m (encode c) (encode_high c h))

fold_scalar : (m : Bool) (c : ℕ) → Scalar c → Scalar (fold m c)
fold_scalar m c p = go (dec_lt c 128)
  where
    go : Dec (c < 128) → Scalar (fold m c)
    go (yes d) = let l = low_fold m c d in (omega arith, inl (omega arith))
    go (no d) = rw (high_fold m c (omega arith)) p

fold_scalars : (m : Bool) (cs : List ℕ) → Each Scalar cs → Each Scalar (folded m cs)
fold_scalars m [] p = tt
fold_scalars m (c ∷ cs) p = (fold_scalar m c p.0, fold_scalars m cs p.1)

fold_encode : (m : Bool) (cs : List ℕ) → encode_all (folded m cs) ≡ folded m (encode_all cs)
fold_encode m [] = refl
fold_encode m (c ∷ cs) = cc (fold_character m c, fold_encode m cs, map-append (fold m) (encode c) (encode_all cs))

-- and back: what is read under the mark is there without it
strip : (m : Bool) (x y s : List ℕ) → High x → x ++ y ≡ folded m s → (t : List ℕ) × (s ≡ x ++ t) × (y ≡ folded m t)
strip m [] y s h e = (s, refl, e)
strip m (a ∷ x) y [] h e = absurd (omega (arith, ap length e))
strip m (a ∷ x) y (b ∷ s) h e =
    let p : a ≡ fold m b = cc in
    let q : x ++ y ≡ folded m s = cc in
    let f : fold m b ≡ b = fold_high m b (rw p at h.0) in
    let r = strip m x y s h.1 q in
    (r.0, cc (p, f, r.1), r.2)

unfold_from : (m : Bool) (cs s : List ℕ) → Each Scalar cs → encode_all cs ≡ folded m s → WellFormed s
unfold_from m [] [] p e = ([], record { scalars = tt; bytes = refl })
unfold_from m [] (b ∷ s) p e = absurd (omega (arith, ap length e))
unfold_from m (c ∷ cs) s p e = go (λ t f. unfold_from m cs t p.1 f) s e (dec_lt c 128)
  where
    one : (b : ℕ) (s : List ℕ) → b < 128 → WellFormed s → WellFormed (b ∷ s)
    one b s h w = (b ∷ w.0, record { scalars = ((omega arith, inl (omega arith)), w.1.scalars); bytes = rw (encode_low b h) (ap (λ (l : List ℕ). b ∷ l) w.1.bytes) })

    go : ((t : List ℕ) → encode_all cs ≡ folded m t → WellFormed t) → (s : List ℕ) → encode c ++ encode_all cs ≡ folded m s → Dec (c < 128) → WellFormed s
    go ih [] e (yes d) = let f = rw (encode_low c d) at e in absurd (omega (arith, ap length f))
    go ih (b ∷ s) e (yes d) =
        let f : c ∷ encode_all cs ≡ fold m b ∷ folded m s = rw (encode_low c d) at e in
        let p : c ≡ fold m b = cc in
        let q : encode_all cs ≡ folded m s = cc in
        one b s (fold_low m b (rw p at d)) (ih s q)
    go ih s e (no d) =
        let r = strip m (encode c) (encode_all cs) s (encode_high c (omega arith)) e in
        let w = ih r.0 r.2 in
        (c ∷ w.0, record { scalars = (p.0, w.1.scalars); bytes = ap (λ (l : List ℕ). encode c ++ l) w.1.bytes ∙ sym r.1 })

pub folded_same : FoldedSame
folded_same m s (Some n) h =
    (folded m h.0, record { scalars = fold_scalars m h.0 h.1.scalars; bytes = fold_encode m h.0 ∙ ap (folded m) h.1.bytes }, length-map h.0 (fold m) ∙ h.2)
folded_same m s None h = λ w. h (unfold_from m w.0 s w.1.scalars w.1.bytes)

pub counted_is : CountedIs
counted_is m s r h = one_answer (folded m s) r (count_of (folded m s)) (folded_same m s r h) (right (folded m s))
