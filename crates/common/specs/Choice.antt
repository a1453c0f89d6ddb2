-- A choice between two, of which only the one that is taken is worked out: `cond` works out both.
use Rattle.std.specs.Prelude.{Bool, true, false}

abbrev pub pick : {A : Type 0} → Bool → (Unit {0} → A) → (Unit {0} → A) → A
pick true x y = x tt
pick false x y = y tt
