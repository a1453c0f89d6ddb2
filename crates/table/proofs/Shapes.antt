-- The kinds along the entries: from one entry to the next, past the end, and over lists that are joined. Assumes nothing.
use mathlib.Core.Path.{◌≡◌, refl}
use mathlib.Core.Bool.{Bool, true, false, cond}
use mathlib.Core.List.{List, [], ◌∷◌, ◌++◌}
use mathlib.Core.Option.{Option, none, some}
use Prim.Native.Nat.{ℕ, zero, suc, ◌+◌, ◌≤◌, ◌<◌}
use native.Mathlib.Nat.{not-suc-le-zero, le_of_suc-le-suc}
use native.Mathlib.Decide.{dec_lt}
use native.Mathlib.Omega.{arith}
use lib.ListN.{length, get_or}
use Rattle.opcode.specs.Opcode.{Kind, op_of, takes_of}
use Rattle.table.specs.Table.{Entry, blank}
use Rattle.table.specs.Check.{same_kind, pop, after, shape_from}
use Rattle.table.proofs.Numbers.{kind_eq, kind_self}

-- ---- one entry

pop_none : (ts : List Kind) → pop ts none ≡ none
pop_none [] = refl
pop_none (t ∷ ts) = pop_none ts

pub after_none : (e : Entry) → after e none ≡ none
after_none e = rw (pop_none (takes_of (op_of e.op) e.a))

-- operands that are there come off
pub pop_front : (ts ks : List Kind) → pop ts (some (ts ++ ks)) ≡ some ks
pop_front [] ks = refl
pop_front (t ∷ ts) ks = rw (kind_self t) (pop_front ts ks)

-- what came off was there
pub pop_back : (ts ks rest : List Kind) → pop ts (some ks) ≡ some rest → ks ≡ ts ++ rest
pop_back [] ks rest e = cc
pop_back (t ∷ ts) [] rest e = absurd (let z : ◌≡◌ {A = ℕ} 0 1 = cc (pop_none ts) in omega arith)
pop_back (t ∷ ts) (k ∷ ks) rest e = go (same_kind t k) refl e (pop_back ts ks rest)
  where
    go : (b : Bool) → same_kind t k ≡ b → pop ts (cond b (some ks) none) ≡ some rest → (pop ts (some ks) ≡ some rest → ks ≡ ts ++ rest) → ◌≡◌ {A = List Kind} (k ∷ ks) (t ∷ (ts ++ rest))
    go true f h ih = let a = kind_eq t k f in let b = ih h in cc
    go false f h ih = absurd (let z : ◌≡◌ {A = ℕ} 0 1 = cc (pop_none ts) in omega arith)

-- ---- along the entries

from_none : (es : List Entry) (i : ℕ) → shape_from es none i ≡ none
unfolding shape_from
from_none es zero = refl
from_none [] (suc i) = refl
from_none (e ∷ es) (suc i) = rw (after_none e) (from_none es i)

pub from_next : (es : List Entry) (s : Option (List Kind)) (i : ℕ) → i < length es → shape_from es s (suc i) ≡ after (get_or es i blank) (shape_from es s i)
unfolding shape_from
from_next [] s i h = absurd (not-suc-le-zero h)
from_next (e ∷ es) s zero h = refl
from_next (e ∷ es) s (suc i) h = from_next es (after e s) i (le_of_suc-le-suc h)

pub from_past : (es : List Entry) (s : Option (List Kind)) (i : ℕ) → length es ≤ i → shape_from es s (suc i) ≡ none
unfolding shape_from
from_past [] s i h = refl
from_past (e ∷ es) s zero h = absurd (not-suc-le-zero h)
from_past (e ∷ es) s (suc i) h = from_past es (after e s) i (le_of_suc-le-suc h)

-- no kinds once, no kinds later
pub from_stuck : (es : List Entry) (s : Option (List Kind)) (i d : ℕ) → shape_from es s i ≡ none → shape_from es s (d + i) ≡ none
from_stuck es s i zero e = let z : 0 + i ≡ i = omega arith in rw z e
from_stuck es s i (suc d) e = go (dec_lt (d + i) (length es)) (from_stuck es s i d e)
  where
    z : suc d + i ≡ suc (d + i)
    z = omega arith

    go : Dec (d + i < length es) → shape_from es s (d + i) ≡ none → shape_from es s (suc d + i) ≡ none
    go (yes h) ih = rw (z, from_next es s (d + i) h, ih) (after_none (get_or es (d + i) blank))
    go (no h) ih = rw z (from_past es s (d + i) (omega arith))

-- joined lists: what comes first is read first
pub from_append : (xs ys : List Entry) (s : Option (List Kind)) (i : ℕ) → shape_from (xs ++ ys) s (length xs + i) ≡ shape_from ys (shape_from xs s (length xs)) i
unfolding shape_from
from_append [] ys s i = let z : 0 + i ≡ i = omega arith in rw z
from_append (x ∷ xs) ys s i = let z : suc (length xs) + i ≡ suc (length xs + i) = omega arith in rw z (from_append xs ys (after x s) i)

pub from_front : (xs ys : List Entry) (s : Option (List Kind)) (i : ℕ) → i ≤ length xs → shape_from (xs ++ ys) s i ≡ shape_from xs s i
unfolding shape_from
from_front xs ys s zero h = refl
from_front [] ys s (suc i) h = absurd (not-suc-le-zero h)
from_front (x ∷ xs) ys s (suc i) h = from_front xs ys (after x s) i (le_of_suc-le-suc h)
