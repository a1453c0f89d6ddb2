-- Turns of the walk over the value. Assumes nothing.
use mathlib.Core.Path.{◌≡◌}
use mathlib.Core.Bool.{Bool, true, false, ◌&&◌, ◌||◌}
use mathlib.Core.List.{List, [], map}
use Prim.Native.Nat.{ℕ, ◌+◌, ◌≤◌, ◌<◌}
use native.Mathlib.Numerals.{add-one}
use lib.ListN.{length, get_or, drop, drop_of_length-le}
use lib.Seq.{drop-cons}
use Rattle.automaton.specs.Pass.{Token, started, pass, left}
use Rattle.automaton.specs.Decide.{walk_on, run_on}
use Rattle.automaton.specs.declared.Level.{Level}

module _ (ts : List Token) (sf ef e : Bool) (f : ℕ → ℕ) (v : List ℕ) (ms : List Bool) (fin k : Bool) (i : ℕ) where
  pub seen : i < length v → (ef && (fin || (k && e))) ≡ true → true ≡ walk_on ts sf ef e ms fin k (map f (drop i v))
  seen h q = rw (drop-cons v i 0 h, q)

  pub onward : i < length v → (ef && (fin || (k && e))) ≡ false → (b : ℕ) → b ≡ f (get_or v i 0) → (ns : List Bool) (l : Level) → pass ts ms b (started k) [] ≡ left ns l
      → walk_on ts sf ef e ns l.fin sf (map f (drop (i + 1) v)) ≡ walk_on ts sf ef e ms fin k (map f (drop i v))
  onward h q b eb ns l p = let p2 = rw eb at p in rw (add-one, drop-cons v i 0 h, q, p2)

  pub over : length v ≤ i → (fin || (k && e)) ≡ walk_on ts sf ef e ms fin k (map f (drop i v))
  over h = rw (drop_of_length-le v h)

pub ran : (ts : List Token) (ms ns : List Bool) (l : Level) (sf ef r : Bool) (x : List ℕ) → pass ts ms 0 (started false) [] ≡ left ns l → r ≡ walk_on ts sf ef l.emp ns false true x → r ≡ run_on ts ms sf ef x
ran ts ms ns l sf ef r x p w = rw p w
