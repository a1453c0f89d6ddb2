-- The decision over a table: the same walk of the value as `walk` of specs/Marks.antt, a pass a byte.
use Rattle.std.specs.Prelude.{ℕ, Bool, true, false, ◌&&◌, ◌||◌, List, [], ◌∷◌, replicate}
use Rattle.automaton.specs.Pass.{Token, started, pass, level_of, cells_of}

abbrev pub walk_on : List Token → Bool → Bool → Bool → List Bool → Bool → Bool → List ℕ → Bool
walk_on ts sf ef e ms fin k [] = fin || (k && e)
walk_on ts sf ef e ms fin k (c ∷ x) =
    (ef && (fin || (k && e)))
    || walk_on ts sf ef e (cells_of (pass ts ms c (started k) [])) (level_of (pass ts ms c (started k) [])).fin sf x

-- A first pass, into which nothing enters, tells whether nothing fits.
abbrev pub run_on : List Token → List Bool → Bool → Bool → List ℕ → Bool
run_on ts ms sf ef x = walk_on ts sf ef (level_of (pass ts ms 0 (started false) [])).emp (cells_of (pass ts ms 0 (started false) [])) false true x

abbrev pub decide : List Token → ℕ → Bool → Bool → List ℕ → Bool
decide ts n sf ef x = run_on ts (replicate n false) sf ef x
