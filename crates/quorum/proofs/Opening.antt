-- The refusals of an opening, in their order, and what is promised of it. Assumes nothing.
use mathlib.Core.Path.{◌≡◌, refl}
use mathlib.Core.Bool.{Bool, true, false}
use mathlib.Core.List.{List}
use Prim.Native.Nat.{ℕ, ◌+◌, ◌≤◌, ◌<◌}
use native.Mathlib.Omega.{arith}
use native.Mathlib.Decide.{dec_le}
use lib.ListN.{length}
use borrow.Author.Tests.{le-leb, lt-leb}
use Rattle.table.specs.Table.{most_bytes}
use Rattle.table.specs.Check.{check_of as tableCheck}
use Rattle.table.proofs.Theorems.{checked_short}
use Rattle.quorum.specs.Showing.{open_refusal}

module _ (room : ℕ) (table : List ℕ) (needed : ℕ) where
  pub bad_table : tableCheck table ≡ false → 12 ≡ open_refusal room table needed
  bad_table e = rw e

  module _ (e : tableCheck table ≡ true) where
    pub too_few : needed < 1 → 21 ≡ open_refusal room table needed
    too_few h = rw (e, lt-leb 1 needed h)

    pub too_many : 1 ≤ needed → 8 < needed → 21 ≡ open_refusal room table needed
    too_many g h = rw (e, le-leb 1 needed g, lt-leb needed 8 h)

    module _ (g : 1 ≤ needed) (h : needed ≤ 8) where
      pub no_room : room < 528 + length table → 9 ≡ open_refusal room table needed
      no_room l = rw (e, le-leb 1 needed g, le-leb needed 8 h, lt-leb (528 + length table) room l)

      pub may-open : 528 + length table ≤ room → 0 ≡ open_refusal room table needed
      may-open l = rw (e, le-leb 1 needed g, le-leb needed 8 h, le-leb (528 + length table) room l)

-- an opening that is not refused
pub record Openable (room : ℕ) (table : List ℕ) (needed : ℕ) : Type 0 where
  pub checked : tableCheck table ≡ true
  pub some_needed : 1 ≤ needed
  pub few_needed : needed ≤ 8
  pub fits : 528 + length table ≤ room
  pub short : length table ≤ most_bytes

pub openable : (room : ℕ) (table : List ℕ) (needed : ℕ) → open_refusal room table needed ≡ 0 → Openable room table needed
openable room table needed e = go (tableCheck table) (dec_le 1 needed) (dec_le needed 8) (dec_le (528 + length table) room) refl
  where
    never : {A : Type 0} {n : ℕ} → n ≡ open_refusal room table needed → 0 < n → A
    never p q = absurd (omega (arith, p, e))

    go : (a : Bool) → Dec (1 ≤ needed) → Dec (needed ≤ 8) → Dec (528 + length table ≤ room) → tableCheck table ≡ a → Openable room table needed
    go false b c d p = never (bad_table room table needed p) (omega arith)
    go true (no b) c d p = never (too_few room table needed p (omega arith)) (omega arith)
    go true (yes b) (no c) d p = never (too_many room table needed p b (omega arith)) (omega arith)
    go true (yes b) (yes c) (no d) p = never (no_room room table needed p b c (omega arith)) (omega arith)
    go true (yes b) (yes c) (yes d) p = record { checked = p; some_needed = b; few_needed = c; fits = d; short = checked_short table p }
