-- The theorems that specs/Theorems.antt states. Assumes nothing.
use mathlib.Core.Path.{◌≡◌, refl, sym, ap, ap₂, ◌∙◌}
use mathlib.Core.Bool.{Bool, true, false, cond, ◌&&◌}
use mathlib.Core.List.{List, ◌++◌}
use mathlib.Core.Logic.{◌⊎◌, inl, inr, ⊎_elim}
use Prim.Native.Nat.{ℕ, zero, suc, ◌+◌, ◌≤◌}
use native.Mathlib.Omega.{arith}
use lib.Dec.{ltb, leb, eqb}
use lib.ListN.{length, get_or, length-append, get_or-append}
use Rattle.word.specs.Word.{word_at}
use borrow.Author.Tests.{ltb-true, ltb-false, leb-true, leb-false, eqb-true, le-ltb, ne_eqb}
use Rattle.record.specs.declared.Record.{Record}
use Rattle.record.specs.declared.Record.TheVariants.{End, Whole, Cut, Wrong}
use Rattle.record.specs.Record.{length_of, kind_of, length_right}
use Rattle.record.specs.Theorems.{WholeLies, CutShort, EndEmpty, WholeGrows, WrongGrows}
use Rattle.record.proofs.Laws.{found_whole}

-- a word that lies in s stays where more comes after it
word_grows : (k at : ℕ) (s t : List ℕ) → at + k ≤ length s → word_at k (s ++ t) at ≡ word_at k s at
unfolding word_at
word_grows zero at s t h = refl
word_grows (suc k) at s t h =
    let g : get_or (s ++ t) at 0 ≡ get_or s at 0 = get_or-append s t 0 at (omega arith) in
    let ih = word_grows k (suc at) s t (omega arith) in
    rw (g, ih)

-- the reader's four tests
abbrev by_tests : Bool → Bool → Bool → Bool → Record → Record
by_tests none short right there whole = cond none End (cond short Cut (cond right (cond there whole Cut) Wrong))

differ : {A : Type 0} → ◌≡◌ {A = ℕ} 0 1 → A
differ e = absurd (omega arith)

whole_tests : (a b c d : Bool) (k n kind size : ℕ) → by_tests a b c d (Whole k n) ≡ Whole kind size → (c ≡ true) × (d ≡ true) × (n ≡ size)
whole_tests true b c d k n kind size e = differ (cc)
whole_tests false true c d k n kind size e = differ (cc)
whole_tests false false false d k n kind size e = differ (cc)
whole_tests false false true false k n kind size e = differ (cc)
whole_tests false false true true k n kind size e = (refl, refl, cc)

cut_tests : (a b c d : Bool) (k n : ℕ) → by_tests a b c d (Whole k n) ≡ Cut → (b ≡ true) ⊎ ((c ≡ true) × (d ≡ false))
cut_tests true b c d k n e = differ (cc)
cut_tests false true c d k n e = inl refl
cut_tests false false false d k n e = differ (cc)
cut_tests false false true true k n e = differ (cc)
cut_tests false false true false k n e = inr (refl, refl)

right_parts : (a b : Bool) → (a && b) ≡ true → (a ≡ true) × (b ≡ true)
right_parts true true e = (refl, refl)
right_parts true false e = differ (cc)
right_parts false b e = differ (cc)

length_right_lem : (n : ℕ) → length_right n ≡ true → (2 ≤ n) × (n ≤ 16380)
length_right_lem n e = let p = right_parts (leb 2 n) (leb n 16380) e in (leb-true 2 n p.0, leb-true n 16380 p.1)

pub whole_lies : WholeLies
whole_lies s kind size e =
    let n = length_of s in
    let t = whole_tests (eqb (length s) 0) (ltb (length s) 4) (length_right n) (leb (4 + n) (length s)) (kind_of s) (4 + n) kind size e in
    let r = length_right_lem n t.0 in
    let h = leb-true (4 + n) (length s) t.1 in
    (omega (arith, t.2), omega (arith, t.2), omega (arith, t.2))

pub cut_short : CutShort
cut_short s e =
    let n = length_of s in
    ⊎_elim (λ h. let l = ltb-true (length s) 4 h in omega arith)
    (λ p. let r = length_right_lem n p.0 in let h = leb-false (4 + n) (length s) p.1 in omega arith)
    (cut_tests (eqb (length s) 0) (ltb (length s) 4) (length_right n) (leb (4 + n) (length s)) (kind_of s) (4 + n) e)

end_tests : (a b c d : Bool) (k n : ℕ) → by_tests a b c d (Whole k n) ≡ End → a ≡ true
end_tests true b c d k n e = refl
end_tests false true c d k n e = differ (cc)
end_tests false false false d k n e = differ (cc)
end_tests false false true true k n e = differ (cc)
end_tests false false true false k n e = differ (cc)

pub end_empty : EndEmpty
end_empty s e =
    let n = length_of s in
    eqb-true (length s) 0 (end_tests (eqb (length s) 0) (ltb (length s) 4) (length_right n) (leb (4 + n) (length s)) (kind_of s) (4 + n) e)

wrong_tests : (a b c d : Bool) (k n : ℕ) → by_tests a b c d (Whole k n) ≡ Wrong → (a ≡ false) × (b ≡ false) × (c ≡ false)
wrong_tests true b c d k n e = differ (cc)
wrong_tests false true c d k n e = differ (cc)
wrong_tests false false false d k n e = (refl, refl, refl)
wrong_tests false false true true k n e = differ (cc)
wrong_tests false false true false k n e = differ (cc)

pub whole_grows : WholeGrows
whole_grows s t kind size e =
    let n = length_of s in
    let w = whole_tests (eqb (length s) 0) (ltb (length s) 4) (length_right n) (leb (4 + n) (length s)) (kind_of s) (4 + n) kind size e in
    let r = length_right_lem n w.0 in
    let h = leb-true (4 + n) (length s) w.1 in
    let l = length-append s t in
    let el : length_of (s ++ t) ≡ n = word_grows 4 0 s t (omega arith) in
    let ek : kind_of (s ++ t) ≡ kind_of s = word_grows 2 4 s t (omega arith) in
    let h4 : 4 ≤ length (s ++ t) = omega arith in
    let hw : 4 + length_of (s ++ t) ≤ length (s ++ t) = omega arith in
    sym (found_whole (s ++ t) h4 (length_of (s ++ t)) refl (kind_of (s ++ t)) refl (omega (arith, r.0)) (omega (arith, r.1)) hw)
    ∙ ap₂ (λ (x y : ℕ). Whole x (4 + y)) ek el
    ∙ found_whole s (omega arith) n refl (kind_of s) refl r.0 r.1 h
    ∙ e

pub wrong_grows : WrongGrows
wrong_grows s t e =
    let n = length_of s in
    let w = wrong_tests (eqb (length s) 0) (ltb (length s) 4) (length_right n) (leb (4 + n) (length s)) (kind_of s) (4 + n) e in
    let h : 4 ≤ length s = ltb-false (length s) 4 w.1 in
    let l = length-append s t in
    let g : 4 ≤ length (s ++ t) = omega arith in
    let el : length_of (s ++ t) ≡ n = word_grows 4 0 s t (omega arith) in
    let f : length_right (length_of (s ++ t)) ≡ false = ap length_right el ∙ w.2 in
    rw (ne_eqb (length (s ++ t)) 0 (λ z. omega arith), le-ltb (length (s ++ t)) 4 g, f)
