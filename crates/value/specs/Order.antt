-- The order of what is known: bottom is below all else, and nothing else is below anything but itself. Document 02, request 10, rests on it: what is known of a notice with more fields is the same or was bottom.
use Rattle.std.specs.Prelude.{◌≡◌, ◌⊎◌, List, [], ◌∷◌}
use Rattle.truth.specs.declared.Truth.{Truth}
use Rattle.truth.specs.declared.Truth.TheVariants.{Bottom}
use Rattle.value.specs.Value.{Value, bottom, Item, logic, value}

-- x is the least, or y itself
abbrev pub Below : {A : Type 0} → A → A → A → Type 0
Below least x y = (x ≡ least) ⊎ (x ≡ y)

abbrev pub TruthBelow : Truth → Truth → Type 0
TruthBelow s t = Below Bottom s t

abbrev pub ValueBelow : Value → Value → Type 0
ValueBelow v w = Below bottom v w

-- items of one kind, by what they hold
abbrev pub ItemBelow : Item → Item → Type 0
ItemBelow (logic s) (logic t) = TruthBelow s t
ItemBelow (logic s) (value w) = ⊥
ItemBelow (value v) (logic t) = ⊥
ItemBelow (value v) (value w) = ValueBelow v w

-- as many, each below the one at its place
abbrev pub EachBelow : {A : Type 0} → (A → A → Type 0) → List A → List A → Type 0
EachBelow R [] [] = Unit {0}
EachBelow R [] (y ∷ ys) = ⊥
EachBelow R (x ∷ xs) [] = ⊥
EachBelow R (x ∷ xs) (y ∷ ys) = R x y × EachBelow R xs ys
