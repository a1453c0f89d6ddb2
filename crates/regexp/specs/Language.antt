-- Regular expressions as trees, and the byte strings that fit them. Document 02, request 13. No matcher stands here.
use Rattle.std.specs.Prelude.{ℕ, ◌≡◌, ◌⊎◌, Bool, true, List, [], ◌∷◌, ◌++◌, eqb}
use Rattle.pattern.specs.Sets.{Span, in_spans}
use Rattle.pattern.specs.Steps.{turned}
use Rattle.automaton.specs.Language.{One, Cat, Either, Nothing, Stretch}

-- What takes one byte.
pub data Atom : Type 0 where
  -- "plain bytes"
  plain : ℕ → Atom
  -- "`.` for any byte"
  any : Atom
  -- "bracket sets as in request 1 with `^` for `!`": whether it is the complement, and the ranges
  set : Bool → List Span → Atom

abbrev pub takes : Atom → ℕ → Bool
takes (plain b) c = eqb b c
takes any c = true
takes (set out xs) c = turned out (in_spans xs c)

-- "`* + ?`"
pub data Mark : Type 0 where
  star : Mark
  plus : Mark
  optional : Mark

pub data Tree : Type 0 where
  one : Atom → Tree
  group : Tree → Tree
  repeat : Mark → Tree → Tree
  seq : Tree → Tree → Tree
  alt : Tree → Tree → Tree
  -- what stands between the anchors of "a branch of anchors alone"
  nil : Tree

-- any number of rounds, each of which fits; a round may be empty
pub data Rounds (P : List ℕ → Type 0) : List ℕ → Type 0 where
  done : Rounds P []
  round : {u v w : List ℕ} → P u → Rounds P v → u ++ v ≡ w → Rounds P w

-- P under a repeat mark
abbrev pub By : Mark → (List ℕ → Type 0) → List ℕ → Type 0
By star P = Rounds P
By plus P = Cat P (Rounds P)
By optional P = Either Nothing P

-- The strings that fit a tree. "A repeat mark may follow another": `a+?` is (a+)?.
abbrev pub Fits : Tree → List ℕ → Type 0
Fits (one a) = One (takes a)
Fits (group t) = Fits t
Fits (repeat m t) = By m (Fits t)
Fits (seq t u) = Cat (Fits t) (Fits u)
Fits (alt t u) = Either (Fits t) (Fits u)
Fits nil = Nothing

-- A branch of the whole pattern: whether its start and its end are free, that is without an anchor, and its tree.
pub data Anchored : Type 0 where
  anchored : Bool → Bool → Tree → Anchored

-- "True if some stretch of the value fits": one of some branch, which stands where that branch's anchors say
abbrev pub Holds : List Anchored → List ℕ → Type 0
Holds [] x = ⊥
Holds (anchored sf ef t ∷ bs) x = Stretch sf ef (Fits t) x ⊎ Holds bs x
