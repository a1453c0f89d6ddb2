-- A mark that is no binary operator has the level 11. Assumes nothing.
use mathlib.Core.Path.{◌≡◌, refl, sym}
use mathlib.Core.Bool.{Bool}
use mathlib.Core.List.{List, [], ◌∷◌}
use Prim.Native.Nat.{ℕ, ◌≤◌, ◌<◌}
use native.Mathlib.Decide.{dec_lt}
use native.Mathlib.Omega.{arith}
use lib.Dec.{eqb}
use borrow.Author.Tests.{eqb-true}
use Rattle.opcode.proofs.Unknown.{Rest, among, all_below, below_but}
use Rattle.grammar.specs.Grammar.{rank}
use Rattle.grammar.proofs.Streams.{rank_high}

-- the binary operators, the last first
abbrev keys : List ℕ
keys = 43 ∷ 42 ∷ 41 ∷ 37 ∷ 36 ∷ 35 ∷ 34 ∷ 33 ∷ 32 ∷ 26 ∷ 25 ∷ 24 ∷ 23 ∷ 22 ∷ 21 ∷ 20 ∷ 19 ∷ 18 ∷ 17 ∷ 16 ∷ []

is_11 : ℕ → Bool
is_11 m = eqb (rank m) 11

pub others : (m : ℕ) → Rest keys m → (11 ≡ rank m) × (11 ≤ 11)
unfolding rank all_below among is_11
others m r = go (dec_lt m 44)
  where
    go : Dec (m < 44) → (11 ≡ rank m) × (11 ≤ 11)
    go (yes h) = (sym (eqb-true (rank m) 11 (below_but is_11 keys 44 m refl r h)), omega arith)
    go (no h) = rank_high m (omega arith)
