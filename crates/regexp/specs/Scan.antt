-- A branch of the whole pattern read from the left, a word a step.
use Rattle.std.specs.Prelude.{ℕ, zero, suc, ◌≡◌, Bool, true, false, List, [], ◌∷◌, length}
use Rattle.common.specs.Choice.{pick}
use Rattle.regexp.specs.Language.{Tree, one, group, repeat, seq, alt, nil}
use Rattle.regexp.specs.Words.{Word, item, repeats, opening, bars, closing, stops, none, word_of, ends}

-- A group that is open: its branches that have ended, and the pieces of the branch so far; of both the last first.
pub data Frame : Type 0 where
  frame : List Tree → List Tree → Frame

-- How many more groups may open, the innermost open group, and those around it.
pub data Spot : Type 0 where
  spot : ℕ → List Tree → List Tree → List Frame → Spot

pub data Now : Type 0 where
  goes : List ℕ → Spot → Now
  stuck : Now

-- the pieces of a branch from the last one on; the branches of a group
abbrev pub sequence : Tree → List Tree → Tree
sequence u [] = u
sequence u (t ∷ ps) = sequence (seq t u) ps

abbrev pub choice : Tree → List Tree → Tree
choice u [] = u
choice u (t ∷ bs) = choice (alt t u) bs

abbrev pub next : Word → Spot → Now
next (item a r) (spot k bs ps out) = goes r (spot k bs (one a ∷ ps) out)
next (repeats m r) (spot k bs [] out) = stuck
next (repeats m r) (spot k bs (t ∷ ps) out) = goes r (spot k bs (repeat m t ∷ ps) out)
next (opening r) (spot zero bs ps out) = stuck
next (opening r) (spot (suc k) bs ps out) = goes r (spot k [] [] (frame bs ps ∷ out))
next (bars r) (spot k bs ps []) = stuck
next (bars r) (spot k bs [] (f ∷ out)) = stuck
next (bars r) (spot k bs (t ∷ ps) (f ∷ out)) = goes r (spot k (sequence t ps ∷ bs) [] (f ∷ out))
next (closing r) (spot k bs ps []) = stuck
next (closing r) (spot k bs [] (f ∷ out)) = stuck
next (closing r) (spot k bs (t ∷ ps) (frame cs qs ∷ out)) = goes r (spot (suc k) cs (group (choice (sequence t ps) bs) ∷ qs) out)
next stops s = stuck
next none s = stuck

abbrev pub advance : Now → Now
advance (goes z s) = next (word_of z) s
advance stuck = stuck

pub data Steps : Now → Now → Type 0 where
  here : {x y : Now} → x ≡ y → Steps x y
  there : {x y z : Now} → advance x ≡ y → Steps y z → Steps x z

abbrev pub start : Spot
start = spot 8 [] [] []

-- the tree of a branch, and whether it has a piece
abbrev pub tree_of : List Tree → Tree
tree_of [] = nil
tree_of (t ∷ ps) = sequence t ps

abbrev pub has : List Tree → Bool
has [] = false
has (t ∷ ps) = true

-- ---- the same by computation

-- the pieces of a branch, the last first, and what stands behind it
pub data Scan : Type 0 where
  read : List Tree → List ℕ → Scan
  broken : Scan

-- whether the branch may end before a word: outside all groups
abbrev pub ends_at : Word → Spot → Bool
ends_at w (spot k bs ps []) = ends w
ends_at w (spot k bs ps (f ∷ out)) = false

abbrev pub pieces_of : Spot → List Tree
pieces_of (spot k bs ps out) = ps

-- so many words at most
abbrev pub through : ℕ → Now → Scan
through zero x = broken
through (suc n) stuck = broken
through (suc n) (goes z s) = pick (ends_at (word_of z) s) (λ _. read (pieces_of s) z) (λ _. through n (next (word_of z) s))

-- the branch that begins here
abbrev pub branch_of : List ℕ → Scan
branch_of z = through (suc (length z)) (goes z start)
