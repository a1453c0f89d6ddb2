-- A pattern's text under its folding mark, byte by byte. Assumes nothing.
use mathlib.Core.Path.{◌≡◌, refl, sym, ap, ◌∙◌}
use mathlib.Core.Bool.{Bool, true, false}
use mathlib.Core.List.{List, [], ◌∷◌}
use Prim.Native.Nat.{ℕ, suc, ◌+◌, ◌≤◌, ◌<◌}
use native.Mathlib.Numerals.{add-one}
use native.Mathlib.Decide.{dec_le, dec_lt}
use native.Mathlib.Omega.{arith}
use lib.Dec.{eqb}
use lib.ListN.{length, get_or, drop, drop_of_length-le, length-map, get_or-map}
use lib.Seq.{drop-cons}
use borrow.Author.Tests.{eq-eqb, ne_eqb, eqb-true, le-leb, lt-leb}
use Rattle.octets.specs.Octets.{lower, fold, folded}
use Rattle.common.proofs.Choice.{true_false}
use Rattle.pattern.specs.Steps.{begins}

-- a byte that folding neither changes nor makes: every sign of a pattern is one
abbrev pub Sign : ℕ → Type 0
Sign k = (b : ℕ) → 65 ≤ b → b ≤ 90 → (b ≡ k → ⊥) × (b + 32 ≡ k → ⊥)

low_sign : (k : ℕ) → k < 65 → Sign k
low_sign k h b l u = (λ e. omega arith, λ e. omega arith)

mid_sign : (k : ℕ) → 90 < k → k < 97 → Sign k
mid_sign k h g b l u = (λ e. omega arith, λ e. omega arith)

pub mark_sign : Sign 33
mark_sign = low_sign 33 (omega arith)

pub run_sign : Sign 42
run_sign = low_sign 42 (omega arith)

pub dash_sign : Sign 45
dash_sign = low_sign 45 (omega arith)

pub any_sign : Sign 63
any_sign = low_sign 63 (omega arith)

pub set_sign : Sign 91
set_sign = mid_sign 91 (omega arith) (omega arith)

pub back_sign : Sign 92
back_sign = mid_sign 92 (omega arith) (omega arith)

pub close_sign : Sign 93
close_sign = mid_sign 93 (omega arith) (omega arith)

pub keeps : (m : Bool) (b k : ℕ) → Sign k → eqb (fold m b) k ≡ eqb b k
keeps false b k g = refl
keeps true b k g = go (dec_le 65 b) (dec_le b 90)
  where
    go : Dec (65 ≤ b) → Dec (b ≤ 90) → eqb (lower b) k ≡ eqb b k
    go (no h) d = rw (lt-leb 65 b (omega arith))
    go (yes h) (no l) = rw (le-leb 65 b h, lt-leb b 90 (omega arith))
    go (yes h) (yes l) = rw (le-leb 65 b h, le-leb b 90 l, ne_eqb b k (g b h l).0, ne_eqb (b + 32) k (g b h l).1)

fold_zero : (m : Bool) → fold m 0 ≡ 0
fold_zero true = refl
fold_zero false = refl

module _ (m : Bool) (p : List ℕ) (i : ℕ) where
  folded_byte : get_or (folded m p) i 0 ≡ fold m (get_or p i 0)
  folded_byte = ap (λ (d : ℕ). get_or (folded m p) i d) (sym (fold_zero m)) ∙ get_or-map (fold m) p i 0

  pub here : i < length p → drop i (folded m p) ≡ fold m (get_or p i 0) ∷ drop (i + 1) (folded m p)
  here h =
      let l : i < length (folded m p) = rw (length-map p (fold m)) h in
      rw (add-one) (drop-cons (folded m p) i 0 l ∙ ap (λ (b : ℕ). b ∷ drop (suc i) (folded m p)) folded_byte)

  pub past : length p ≤ i → drop i (folded m p) ≡ []
  past h = drop_of_length-le (folded m p) {i = i} (rw (length-map p (fold m)) h)

  -- a sign stands in the folded text where it stands in the text
  pub sign_same : (k : ℕ) → Sign k → begins k (drop i (folded m p)) ≡ begins k (drop i p)
  sign_same k g = go (dec_lt i (length p))
    where
      go : Dec (i < length p) → begins k (drop i (folded m p)) ≡ begins k (drop i p)
      go (yes h) = rw (here h, drop-cons p i 0 h) (keeps m (get_or p i 0) k g)
      go (no h) = rw (past (omega arith), drop_of_length-le p {i = i} (omega arith))

  module _ (k : ℕ) (g : Sign k) where
    pub is_sign : get_or p i 0 ≡ k → eqb (fold m (get_or p i 0)) k ≡ true
    is_sign e = keeps m (get_or p i 0) k g ∙ eq-eqb (get_or p i 0) k e

    pub no_sign : (get_or p i 0 ≡ k → ⊥) → eqb (fold m (get_or p i 0)) k ≡ false
    no_sign e = keeps m (get_or p i 0) k g ∙ ne_eqb (get_or p i 0) k e

-- a sign stands inside the text
pub begins_inside : (p : List ℕ) (i k : ℕ) → begins k (drop i p) ≡ true → i < length p
begins_inside p i k e = go (dec_lt i (length p))
  where
    go : Dec (i < length p) → i < length p
    go (yes h) = h
    go (no h) = true_false (sym (rw (drop_of_length-le p {i = i} (omega arith)) at e))

-- a text at an index inside it
pub inside : (t : List ℕ) (i : ℕ) → i < length t → drop i t ≡ get_or t i 0 ∷ drop (i + 1) t
inside t i h = rw (add-one) (drop-cons t i 0 h)

pub sign_here : (t : List ℕ) (i k : ℕ) → begins k (drop i t) ≡ true → drop i t ≡ k ∷ drop (i + 1) t
sign_here t i k e =
    let h = begins_inside t i k e in
    let q : eqb (get_or t i 0) k ≡ true = (rw (inside t i h) at e) in
    inside t i h ∙ ap (λ (b : ℕ). b ∷ drop (i + 1) t) (eqb-true (get_or t i 0) k q)
