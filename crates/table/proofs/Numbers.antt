-- The kinds of a stack as one number: what the number's size and lowest bit say. Assumes nothing.
use mathlib.Core.Path.{◌≡◌, refl, ap}
use mathlib.Core.Bool.{Bool, true, false, cond}
use mathlib.Core.List.{List, [], ◌∷◌}
use mathlib.Core.Option.{Option, none, some}
use Prim.Native.Nat.{ℕ, zero, suc, ◌+◌, ◌*◌, ◌-◌, ◌/◌, ◌%◌, ◌^◌, ◌≤◌, ◌<◌}
use native.Mathlib.Nat.{pow-zero, pow-suc, pow-le-pow_right, not-suc-le-zero}
use native.Mathlib.Numerals.{sub-one}
use native.Mathlib.Decide.{ℕ_discrete}
use native.Mathlib.Omega.{arith}
use lib.Dec.{ltb, lit<}
use lib.ListN.{length, replicate}
use borrow.Author.Tests.{ltb-true, ltb-false}
use Rattle.common.proofs.Choice.{false_true}
use Rattle.opcode.specs.Opcode.{Kind, logic, value}
use Rattle.table.specs.Check.{same_kind, pop_one, pop, push, same_kinds, same_shape}
use Rattle.table.specs.Number.{bit_of, kinds_number, number_of}
use Rattle.table.proofs.Tests.{both_true}

bit_two : (k : Kind) → bit_of k < 2
bit_two logic = omega arith
bit_two value = omega arith

-- a list of k kinds has a number of k + 1 binary digits
digits : (ks : List Kind) → (2 ^ length ks ≤ kinds_number ks) × (kinds_number ks < 2 ^ suc (length ks))
digits [] = (rw (pow-zero 2) (omega arith), lit< tt)
digits (k ∷ ks) =
    let h = digits ks in
    let p = pow-suc 2 (length ks) in
    let q = pow-suc 2 (suc (length ks)) in
    let b = bit_two k in
    (omega arith, omega arith)

some_number : (ks : List Kind) → 0 < kinds_number ks
some_number [] = omega arith
some_number (k ∷ ks) = let h = some_number ks in omega arith

deep : (ks : List Kind) → 32 ≤ length ks → 2 ^ 32 ≤ kinds_number ks
deep ks h = let m : 2 ^ 32 ≤ 2 ^ length ks = pow-le-pow_right (lit< tt) h in let d = digits ks in omega arith

shallow : (ks : List Kind) → length ks < 32 → kinds_number ks < 2 ^ 32
shallow ks h = let m : 2 ^ suc (length ks) ≤ 2 ^ 32 = pow-le-pow_right (lit< tt) h in let d = digits ks in omega arith

-- ---- equal numbers, equal kinds

bits_same : (k l : Kind) → bit_of k ≡ bit_of l → k ≡ l
bits_same logic logic e = refl
bits_same logic value e = absurd (omega arith)
bits_same value logic e = absurd (omega arith)
bits_same value value e = refl

pub kinds_same : (ks ls : List Kind) → kinds_number ks ≡ kinds_number ls → ks ≡ ls
kinds_same [] [] e = refl
kinds_same [] (l ∷ ls) e = let p = some_number ls in absurd (omega arith)
kinds_same (k ∷ ks) [] e = let p = some_number ks in absurd (omega arith)
kinds_same (k ∷ ks) (l ∷ ls) e =
    let p = bit_two k in
    let q = bit_two l in
    let a : k ≡ l = bits_same k l (omega arith) in
    let b : ks ≡ ls = kinds_same ks ls (omega arith) in
    cc

pub shapes_same : (s t : Option (List Kind)) → number_of s ≡ number_of t → s ≡ t
shapes_same none none e = refl
shapes_same none (some ls) e = let p = some_number ls in absurd (omega arith)
shapes_same (some ks) none e = let p = some_number ks in absurd (omega arith)
shapes_same (some ks) (some ls) e = ap some (kinds_same ks ls e)

-- the tests of kinds, as equality
pub kind_eq : (k l : Kind) → same_kind k l ≡ true → k ≡ l
kind_eq logic logic e = refl
kind_eq logic value e = false_true e
kind_eq value logic e = false_true e
kind_eq value value e = refl

pub kind_self : (k : Kind) → same_kind k k ≡ true
kind_self logic = refl
kind_self value = refl

kinds_eq : (ks ls : List Kind) → same_kinds ks ls ≡ true → ks ≡ ls
kinds_eq [] [] e = refl
kinds_eq [] (l ∷ ls) e = false_true e
kinds_eq (k ∷ ks) [] e = false_true e
kinds_eq (k ∷ ks) (l ∷ ls) e =
    let h = both_true (same_kind k l) (same_kinds ks ls) e in
    let a = kind_eq k l h.0 in
    let b = kinds_eq ks ls h.1 in
    cc

kinds_self : (ks : List Kind) → same_kinds ks ks ≡ true
kinds_self [] = refl
kinds_self (k ∷ ks) = rw (kind_self k, kinds_self ks)

pub shape_eq : (s t : Option (List Kind)) → same_shape s t ≡ true → s ≡ t
shape_eq none none e = refl
shape_eq none (some ls) e = false_true e
shape_eq (some ks) none e = false_true e
shape_eq (some ks) (some ls) e = ap some (kinds_eq ks ls e)

shape_self : (s : Option (List Kind)) → same_shape s s ≡ true
shape_self none = refl
shape_self (some ks) = kinds_self ks

pub eq_shape : (s t : Option (List Kind)) → s ≡ t → same_shape s t ≡ true
eq_shape s t e = rw e (shape_self t)

-- ---- one operand off

pub pop_low : (t : Kind) (s : Option (List Kind)) → number_of s ≤ 1 → 0 ≡ number_of (pop_one t s)
pop_low t none h = refl
pop_low t (some []) h = refl
pop_low t (some (k ∷ ks)) h = let p = some_number ks in absurd (omega arith)

pub pop_other : (t : Kind) (s : Option (List Kind)) → (number_of s % 2 ≡ bit_of t → ⊥) → 0 ≡ number_of (pop_one t s)
pop_other t none h = refl
pop_other t (some []) h = refl
pop_other t (some (k ∷ ks)) h =
    let p = bit_two k in
    go (same_kind t k) refl
  where
    go : (b : Bool) → same_kind t k ≡ b → 0 ≡ number_of (cond b (some ks) none)
    go true e = let f : bit_of t ≡ bit_of k = ap bit_of (kind_eq t k e) in let p = bit_two k in absurd (h (omega arith))
    go false e = refl

pub pop_right : (t : Kind) (s : Option (List Kind)) → 1 < number_of s → number_of s % 2 ≡ bit_of t → number_of s / 2 ≡ number_of (pop_one t s)
pop_right t none h e = absurd (omega arith)
pop_right t (some []) h e = absurd (omega arith)
pop_right t (some (k ∷ ks)) h e =
    let p = bit_two k in
    let a : t ≡ k = bits_same t k (omega arith) in
    rw (a, kind_self k) (omega arith)

-- ---- two operands of one kind off

-- what comes off has half the number, or there is none
pop_half : (t : Kind) (s : Option (List Kind)) → number_of (pop_one t s) ≤ number_of s / 2
pop_half t none = omega arith
pop_half t (some []) = omega arith
pop_half t (some (k ∷ ks)) = go (same_kind t k)
  where
    go : (b : Bool) → number_of (cond b (some ks) none) ≤ (2 * kinds_number ks + bit_of k) / 2
    go true = omega arith
    go false = omega arith

pub pop_two_low : (t : Kind) (s : Option (List Kind)) → number_of s < 4 → 0 ≡ number_of (pop_one t (pop_one t s))
pop_two_low t s h = let p = pop_half t s in pop_low t (pop_one t s) (omega arith)

pub pop_two_other : (t : Kind) (s : Option (List Kind)) → 4 ≤ number_of s → (number_of s % 4 ≡ 3 * bit_of t → ⊥) → 0 ≡ number_of (pop_one t (pop_one t s))
pop_two_other t s l h = go (ℕ_discrete (number_of s % 2) (bit_of t))
  where
    go : Dec (number_of s % 2 ≡ bit_of t) → 0 ≡ number_of (pop_one t (pop_one t s))
    go (yes e) = let p = pop_right t s (omega arith) e in pop_other t (pop_one t s) (λ f. h (omega arith))
    go (no e) = let p = pop_other t s e in pop_low t (pop_one t s) (omega arith)

both_bits : (t : Kind) (c : ℕ) → c % 4 ≡ 3 * bit_of t → (c % 2 ≡ bit_of t) × (c / 2 % 2 ≡ bit_of t)
both_bits logic c e = (omega arith, omega arith)
both_bits value c e = (omega arith, omega arith)

pub pop_two_right : (t : Kind) (s : Option (List Kind)) → 4 ≤ number_of s → number_of s % 4 ≡ 3 * bit_of t → number_of s / 4 ≡ number_of (pop_one t (pop_one t s))
pop_two_right t s l e =
    let b = both_bits t (number_of s) e in
    let p = pop_right t s (omega arith) b.0 in
    let q = pop_right t (pop_one t s) (omega arith) (rw p at b.1) in
    omega arith

-- ---- a result on

pub push_none : (g : Kind) (s : Option (List Kind)) → number_of s ≡ 0 → 0 ≡ number_of (push g s)
push_none g none h = refl
push_none g (some ks) h = let p = some_number ks in absurd (omega arith)

pub push_full : (g : Kind) (s : Option (List Kind)) → 4294967295 < number_of s → 0 ≡ number_of (push g s)
push_full g none h = refl
push_full g (some ks) h = go (ltb (length ks) 32) refl
  where
    go : (b : Bool) → ltb (length ks) 32 ≡ b → 0 ≡ number_of (cond b (some (g ∷ ks)) none)
    go true e = let m = shallow ks (ltb-true (length ks) 32 e) in absurd (omega arith)
    go false e = refl

pub push_right : (g : Kind) (s : Option (List Kind)) → (number_of s ≡ 0 → ⊥) → number_of s ≤ 4294967295 → 2 * number_of s + bit_of g ≡ number_of (push g s)
push_right g none z h = absurd (z refl)
push_right g (some ks) z h = go (ltb (length ks) 32) refl
  where
    go : (b : Bool) → ltb (length ks) 32 ≡ b → 2 * kinds_number ks + bit_of g ≡ number_of (cond b (some (g ∷ ks)) none)
    go true e = refl
    go false e = let m = deep ks (ltb-false (length ks) 32 e) in absurd (omega arith)

-- ---- several operands off: `left` are still to come off the stack that d stands for, and then it is `end`

pub record Popping (left d : ℕ) (end : Option (List Kind)) : Type 0 where
  pub stack : Option (List Kind)
  pub is : d ≡ number_of stack
  pub rest : pop (replicate left value) stack ≡ end

pub pop_more : (left d r : ℕ) (end : Option (List Kind)) → 0 < left → Popping left d end
    → ((t : Kind) (s : Option (List Kind)) → 1 ≡ bit_of t → d ≡ number_of s → r ≡ number_of (pop_one t s)) → Popping (left - 1) r end
pop_more zero d r end h p f = absurd (not-suc-le-zero h)
pop_more (suc left) d r end h p f =
    record { stack = pop_one value p.stack; is = f value p.stack refl p.is; rest = rw sub-one p.rest }
