-- The table that a pattern is made into: a byte of kind and a number for each token, over the pattern's own text.
use Rattle.std.specs.Prelude.{ℕ, ◌/◌, ◌%◌, Bool, true, false, ◌||◌, List, [], ◌∷◌, Option, Some, None, get_or, drop, eqb, ltb}
use Rattle.pattern.specs.Steps.{turned, test_at}
use Rattle.pattern.specs.declared.sets.SetTest.{SetTest}
use Rattle.automaton.specs.Pass.{Token, one, opens, bar, closes, started, passed, barred, closed}
use Rattle.automaton.specs.declared.Level.{Level}

-- the flags of a kind: it may repeat, it may be absent, the complement of its set
unfoldable pub repeats : ℕ → Bool
repeats k = eqb (k % 2) 1

unfoldable pub absent : ℕ → Bool
absent k = eqb (k / 2 % 2) 1

unfoldable pub outside : ℕ → Bool
outside k = eqb (k / 4 % 2) 1

-- the sorts: 0 a byte of the text, 1 any byte, 2 a set, 3 a group's start, 4 a bar, 5 a group's end
unfoldable pub sort : ℕ → ℕ
sort k = k / 8

-- whether a set that was read has the byte
abbrev pub held_of : Option SetTest → Bool
held_of (Some t) = t.hit
held_of None = false

-- by the sort: no set of bytes, plain, any, set
abbrev pub hit_by : Bool → Bool → Bool → Bool → Bool → Bool → Bool
hit_by true x y same out inside = false
hit_by false true y same out inside = same
hit_by false false true same out inside = true
hit_by false false false same out inside = turned out inside

abbrev pub hits : List ℕ → ℕ → ℕ → ℕ → Bool
hits text k a c = hit_by (ltb 2 (sort k)) (eqb (sort k) 0) (eqb (sort k) 1) (eqb (get_or text a 256) c) (outside k) (held_of (test_at a (drop a text) c))

abbrev pub token_by : Bool → Bool → Bool → (ℕ → Bool) → Bool → Bool → ℕ → Token
token_by true y z f r o a = opens r a
token_by false true z f r o a = bar
token_by false false true f r o a = closes o
token_by false false false f r o a = one f r o

abbrev pub token_of : List ℕ → ℕ → ℕ → Token
token_of text k a = token_by (eqb (sort k) 3) (eqb (sort k) 4) (eqb (sort k) 5) (hits text k a) (repeats k) (absent k) a

abbrev pub tokens_of : List ℕ → List ℕ → List ℕ → List Token
tokens_of text [] xs = []
tokens_of text (k ∷ ks) [] = []
tokens_of text (k ∷ ks) (a ∷ xs) = token_of text k a ∷ tokens_of text ks xs

-- the cell and the level that a token leaves
abbrev pub mark_by : Bool → Bool → Bool → Bool → Bool → Level → Bool
mark_by true y z hit was l = was
mark_by false true z hit was l = was
mark_by false false true hit was l = l.done || l.fin
mark_by false false false hit was l = hit

abbrev pub level_by : Bool → Bool → Bool → Bool → Bool → Bool → Bool → Level → Level → Level
level_by true y z enter o was hit up l = started enter
level_by false true z enter o was hit up l = barred l
level_by false false true enter o was hit up l = closed up l o
level_by false false false enter o was hit up l = passed l o was hit
