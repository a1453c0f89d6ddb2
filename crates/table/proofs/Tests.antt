-- Tests that are joined. Assumes nothing.
use mathlib.Core.Path.{◌≡◌, refl}
use mathlib.Core.Bool.{Bool, true, false, ◌&&◌, ◌||◌, and-true}
use Prim.Native.Nat.{ℕ, ◌+◌, ◌-◌, ◌^◌, ◌≤◌, ◌<◌}
use native.Mathlib.Omega.{arith}
use lib.Dec.{leb, ltb}
use borrow.Author.Tests.{leb-true, leb-false, le-leb, lt-leb, lt-ltb}
use Rattle.common.proofs.Choice.{false_true}
use Rattle.table.specs.Check.{in_range}

pub both_true : (a b : Bool) → (a && b) ≡ true → (a ≡ true) × (b ≡ true)
both_true true b e = (refl, e)
both_true false b e = false_true e

pub are_true : (a b : Bool) → a ≡ true → b ≡ true → (a && b) ≡ true
are_true a b e f = rw (e, f)

-- ---- on numbers

-- a sum that could wrap is not made
pub room_left : (a b n : ℕ) → b ≤ n → leb a (n - b) ≡ leb (a + b) n
room_left a b n h = go (leb (a + b) n) refl
  where
    go : (t : Bool) → leb (a + b) n ≡ t → leb a (n - b) ≡ t
    go true e = let m = leb-true (a + b) n e in le-leb a (n - b) (omega arith)
    go false e = let m = leb-false (a + b) n e in lt-leb a (n - b) (omega arith)

pub word_range : (b : ℕ) → b < 2 ^ 64 → (ltb b (2 ^ 31) || leb (2 ^ 64 - 2 ^ 31) b) ≡ in_range b
word_range b h = rw (lt-ltb b (2 ^ 64) h, and-true (leb (2 ^ 64 - 2 ^ 31) b))
