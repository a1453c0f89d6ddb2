-- Decimal digits, and stores one after the other. Assumes nothing.
use mathlib.Core.Path.{◌≡◌, refl, sym, ap, ap₂, ◌∙◌}
use mathlib.Core.List.{List, [], ◌∷◌, ◌++◌}
use Prim.Native.Nat.{ℕ, zero, suc, ◌+◌, ◌*◌, ◌/◌, ◌%◌, ◌^◌, ◌≤◌, ◌<◌}
use native.Mathlib.Decide.{dec_lt}
use native.Mathlib.Nat.{pow-suc}
use native.Mathlib.Omega.{arith}
use borrow.Author.Tests.{lt-ltb, le-ltb}
use lib.ListN.{length, set, length-append}
use lib.Seq.{sets, set_comm}
use Rattle.common.proofs.Stores.{sets_append}
use Rattle.std.specs.Prelude.{Option, Some, None, IfSome, IfNone, unwrap_or}
use Rattle.decimal.specs.Decimal.{digits, decimal_of, Put}

-- ---- decimal digits

-- any number above n is enough for the digits of n
digits_any : (k m n : ℕ) → n < k → n < m → digits k n ≡ digits m n
unfolding digits
digits_any zero m n h g = absurd (omega arith)
digits_any (suc k) zero n h g = absurd (omega arith)
digits_any (suc k) (suc m) n h g = go (dec_lt n 10) (λ f. digits_any k m (n / 10) (omega arith) (omega arith))
  where
    go : Dec (n < 10) → (10 ≤ n → digits k (n / 10) ≡ digits m (n / 10)) → digits (suc k) n ≡ digits (suc m) n
    go (yes l) ih = simp (lt-ltb n 10 l)
    go (no l) ih =
        let f : 10 ≤ n = omega arith in
        rw (le-ltb n 10 f, ih f)

digits_more : (k n : ℕ) → 10 ≤ n → digits (suc k) n ≡ digits k (n / 10) ++ ((48 + n % 10) ∷ [])
unfolding digits
digits_more k n h = rw (le-ltb n 10 h)

pub decimal_small : (n : ℕ) → n < 10 → decimal_of n ≡ (48 + n) ∷ []
unfolding digits
decimal_small n h = rw (lt-ltb n 10 h)

digits_last : (k n : ℕ) → n < 10 → digits (suc k) n ≡ (48 + n) ∷ []
unfolding digits
digits_last k n h = rw (lt-ltb n 10 h)

digits_none : (n : ℕ) → digits 0 n ≡ []
unfolding digits
digits_none n = refl

pub decimal_more : (n : ℕ) → 10 ≤ n → decimal_of n ≡ decimal_of (n / 10) ++ ((48 + n % 10) ∷ [])
decimal_more n h =
    digits_more n n h
    ∙ ap (λ (l : List ℕ). l ++ ((48 + n % 10) ∷ [])) (digits_any n (suc (n / 10)) (n / 10) (omega arith) (omega arith))

pub length_small : (n : ℕ) → n < 10 → length (decimal_of n) ≡ 1
length_small n h = ap length (decimal_small n h)

pub length_more : (n : ℕ) → 10 ≤ n → length (decimal_of n) ≡ suc (length (decimal_of (n / 10)))
length_more n h =
    let e = ap length (decimal_more n h) in
    let a = length-append (decimal_of (n / 10)) ((48 + n % 10) ∷ []) in
    let o : length (decimal_of (n / 10)) + 1 ≡ suc (length (decimal_of (n / 10))) = omega arith in
    e ∙ a ∙ o

pub length_some : (n : ℕ) → 1 ≤ length (decimal_of n)
length_some n = go (dec_lt n 10)
  where
    go : Dec (n < 10) → 1 ≤ length (decimal_of n)
    go (yes l) = let e = length_small n l in omega arith
    go (no l) = let e = length_more n (omega arith) in omega arith

length_most : (k n : ℕ) → n < 10 ^ suc k → length (decimal_of n) ≤ suc k
length_most zero n h = let l : n < 10 = h in let e = length_small n l in omega arith
length_most (suc k) n h =
    let m : n < 10 ^ suc k * 10 = rw (pow-suc 10 (suc k)) at h in
    go (dec_lt n 10) (length_most k (n / 10) (omega arith))
  where
    go : Dec (n < 10) → length (decimal_of (n / 10)) ≤ suc k → length (decimal_of n) ≤ suc (suc k)
    go (yes l) ih = let e = length_small n l in omega arith
    go (no l) ih = let e = length_more n (omega arith) in omega arith

-- a number of 64 bits has at most 20 digits
pub twenty : (n : ℕ) → n < 18446744073709551616 → length (decimal_of n) ≤ 20
twenty n h = let l : n < 100000000000000000000 = omega arith in length_most 19 n l

-- as many digits as the power of ten below it says
pub length_between : (k n : ℕ) → 10 ^ k ≤ n → n < 10 * 10 ^ k → length (decimal_of n) ≡ k + 1
length_between zero n p q = let s : 10 * 10 ^ zero ≡ 10 = refl in length_small n (omega arith)
length_between (suc k) n p q =
    let e = pow-suc 10 k in
    let o : 1 ≤ 10 ^ k = one_at_least k in
    let m = length_more n (omega arith) in
    let ih = length_between k (n / 10) (omega arith) (omega arith) in
    omega arith
  where
    one_at_least : (k : ℕ) → 1 ≤ 10 ^ k
    one_at_least zero = omega arith
    one_at_least (suc k) = let e = pow-suc 10 k in let h = one_at_least k in omega arith

-- as many places as there are digits are enough
pub enough : (k n : ℕ) → length (decimal_of n) ≤ k → digits k n ≡ decimal_of n
enough zero n h = let s = length_some n in absurd (omega arith)
enough (suc k) n h = go (dec_lt n 10) (λ f. enough k (n / 10) (let m = length_more n f in omega arith))
  where
    go : Dec (n < 10) → (10 ≤ n → digits k (n / 10) ≡ decimal_of (n / 10)) → digits (suc k) n ≡ decimal_of n
    go (yes l) ih = digits_last k n l ∙ sym (decimal_small n l)
    go (no l) ih =
        let f : 10 ≤ n = omega arith in
        digits_more k n f ∙ ap (λ (l : List ℕ). l ++ ((48 + n % 10) ∷ [])) (ih f) ∙ sym (decimal_more n f)

-- how many digits n has, by the greatest power of ten that is not above it
pub counted : (o : Option ℕ) (n : ℕ) → n < 18446744073709551616 → IfNone o (n ≡ 0) → IfSome o (λ k. 10 ^ k ≤ n) → IfSome o (λ k. n < 10 * 10 ^ k)
    → (unwrap_or o 0 + 1 ≡ length (decimal_of n)) × (unwrap_or o 0 + 1 ≤ 20)
counted None n l z p q = let e = length_small n (omega arith) in (omega arith, omega arith)
counted (Some k) n l z p q = let e = length_between k n p q in (omega arith, omega (arith, twenty n l))

-- ---- stores one after the other

-- a store after a run of stores is as good before it
sets_set : (xs d : List ℕ) (at j v : ℕ) → at + length xs ≤ j → sets (set d j v) at xs ≡ set (sets d at xs) j v
sets_set [] d at j v h = refl
sets_set (x ∷ xs) d at j v h =
    let c : set (set d j v) at x ≡ set (set d at x) j v = set_comm d j at v x (λ e. omega arith) in
    ap (λ (l : List ℕ). sets l (suc at) xs) c ∙ sets_set xs (set d at x) (suc at) j v (omega arith)

-- what the k digits of n that are left make of the bytes d from `at` on
pub record Left (d : List ℕ) (at k n : ℕ) (all : List ℕ) : Type 0 where
  pub many : length (digits k n) ≡ k
  pub same : sets d at (digits k n) ≡ all

pub all_left : (d : List ℕ) (at n k : ℕ) → k ≡ length (decimal_of n) → Left d at k n (sets d at (decimal_of n))
all_left d at n k e =
    let m : digits k n ≡ decimal_of n = enough k n (omega arith) in
    record { many = ap length m ∙ sym e; same = ap (sets d at) m }

-- the last of them is stored
pub one_stored : (d : List ℕ) (at k n j : ℕ) (all : List ℕ) → Left d at (suc k) n all → j ≡ at + k → Left (set d j (48 + n % 10)) at k (n / 10) all
one_stored d at k n j all p e = go (dec_lt n 10)
  where
    go : Dec (n < 10) → Left (set d j (48 + n % 10)) at k (n / 10) all
    go (yes l) =
        let f = digits_last k n l in
        let m : k ≡ 0 = omega (arith, p.many, ap length f) in
        let v : n % 10 ≡ n = omega arith in
        let i : j ≡ at = omega arith in
        let x : digits k (n / 10) ≡ [] = ap (λ (u : ℕ). digits u (n / 10)) m ∙ digits_none (n / 10) in
        record { many = ap length x ∙ sym m; same = rw (x, i, v) (rw f at p.same) }
    go (no l) =
        let xs = digits k (n / 10) in
        let f : digits (suc k) n ≡ xs ++ ((48 + n % 10) ∷ []) = digits_more k n (omega arith) in
        let m : length xs ≡ k = omega (arith, p.many, ap length f, length-append xs ((48 + n % 10) ∷ [])) in
        let i : j ≡ at + length xs = omega arith in
        record {
          many = m;
          same = sets_set xs d at j (48 + n % 10) (omega arith) ∙ ap (λ (u : ℕ). set (sets d at xs) u (48 + n % 10)) i ∙ sym (sets_append xs ((48 + n % 10) ∷ []) d at) ∙ ap (sets d at) (sym f) ∙ p.same;
        }

-- what is put after what was put
pub joined : {d d1 d2 : List ℕ} {at a b : ℕ} (xs ys : List ℕ) → Put d at xs d1 a → Put d1 a ys d2 b → Put d at (xs ++ ys) d2 b
joined {d} {d1} {d2} {at} {a} {b} xs ys p q =
    let l = length-append xs ys in
    let n : b ≡ at + length (xs ++ ys) = omega (arith, p.next, q.next) in
    record {
      stored = q.stored ∙ ap₂ (λ (u : List ℕ) (i : ℕ). sets u i ys) p.stored p.next ∙ sym (sets_append xs ys d at);
      next = n;
    }

-- the same bytes by another name
pub renamed : {d d1 : List ℕ} {at r : ℕ} {xs ys : List ℕ} → xs ≡ ys → Put d at xs d1 r → Put d at ys d1 r
renamed {d} {d1} {at} {r} e p = record { stored = p.stored ∙ ap (λ (l : List ℕ). sets d at l) e; next = p.next ∙ ap (λ (l : List ℕ). at + length l) e }
