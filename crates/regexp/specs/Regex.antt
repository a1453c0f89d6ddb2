-- Patterns and fits by computation, which the promises name; joined to specs/Grammar.antt and specs/Language.antt by specs/Theorems.antt.
use Rattle.std.specs.Prelude.{ℕ, zero, suc, Bool, true, false, not, ◌&&◌, ◌||◌, List, [], ◌∷◌, eqb, leb, length, drop}
use Rattle.std.proofs.Math.Option.{Option, none, some}
use Rattle.common.specs.Choice.{pick}
use Rattle.pattern.specs.Steps.{begins}
use Rattle.pattern.specs.Wildcard.{is_none}
use Rattle.automaton.specs.Language.{Re, leaf, group as grouping, nil as nothing, seq as then, alt as or}
use Rattle.automaton.specs.Marks.{walk}
use Rattle.regexp.specs.Language.{takes, Mark, star, plus, optional, Tree, one, group, repeat, seq, alt, nil, Anchored, anchored}
use Rattle.regexp.specs.Scan.{Scan, read, broken, branch_of, tree_of, has}

-- ---- the text of a pattern

-- the first branch of a text: the last one, or one with what stands behind its bar
pub data Part : Type 0 where
  last : Anchored → Part
  more : Anchored → List ℕ → Part
  fault : Part

-- what stands behind a branch: whether it has a piece or an anchor, whether `^` stands before it, and its tree
abbrev pub end_of : Bool → Bool → Tree → List ℕ → Part
end_of full hat t [] = pick full (λ _. last (anchored (not hat) true t)) (λ _. fault)
end_of full hat t (b ∷ r) =
    pick (eqb b 124) (λ _. pick full (λ _. more (anchored (not hat) true t) r) (λ _. fault))
    (λ _. pick (eqb b 36 && is_none r) (λ _. last (anchored (not hat) false t)) (λ _. fault))

abbrev pub ended : Bool → Scan → Part
ended hat (read ps r) = end_of (has ps || hat) hat (tree_of ps) r
ended hat broken = fault

-- whether a `^` stands here, where it may
abbrev pub hat_of : Bool → List ℕ → Bool
hat_of first z = first && begins 94 z

abbrev pub one_if : Bool → ℕ
one_if true = 1
one_if false = 0

abbrev pub part_of : Bool → List ℕ → Part
part_of first z = ended (hat_of first z) (branch_of (drop (one_if (hat_of first z)) z))

abbrev pub with_first : Anchored → Option (List Anchored) → Option (List Anchored)
with_first b none = none
with_first b (some bs) = some (b ∷ bs)

abbrev pub on_part : Part → (List ℕ → Option (List Anchored)) → Option (List Anchored)
on_part (last b) rest = some (b ∷ [])
on_part (more b r) rest = with_first b (rest r)
on_part fault rest = none

-- so many branches at most
abbrev pub branches_from : ℕ → Bool → List ℕ → Option (List Anchored)
branches_from zero first z = none
branches_from (suc n) first z = on_part (part_of first z) (λ r. branches_from n false r)

abbrev pub branches : Bool → List ℕ → Option (List Anchored)
branches first z = branches_from (suc (length z)) first z

-- the branches of a pattern
abbrev pub branches_of : List ℕ → Option (List Anchored)
branches_of p = branches true p

abbrev pub is_some : Option (List Anchored) → Bool
is_some none = false
is_some (some bs) = true

-- whether a text is a pattern: 18 if not
abbrev pub well_formed : List ℕ → Bool
well_formed p = is_some (branches_of p)

-- ---- the values that fit

-- a repeat mark is two flags: what stands before it may repeat, it may be absent
abbrev pub repeats : Mark → Bool
repeats star = true
repeats plus = true
repeats optional = false

abbrev pub absent : Mark → Bool
absent star = true
absent plus = false
absent optional = true

abbrev pub remark : Mark → Re → Re
remark m (leaf f r o x) = leaf f (r || repeats m) (o || absent m) x
remark m (grouping r o t) = grouping (r || repeats m) (o || absent m) t
remark m nothing = nothing
remark m (then p q) = grouping (repeats m) (absent m) (then p q)
remark m (or p q) = grouping (repeats m) (absent m) (or p q)

-- a tree as the automaton takes it
abbrev pub re_of : Tree → Re
re_of (one a) = leaf (takes a) false false false
re_of (group t) = grouping false false (re_of t)
re_of (repeat m t) = remark m (re_of t)
re_of (seq t u) = then (re_of t) (re_of u)
re_of (alt t u) = or (re_of t) (re_of u)
re_of nil = nothing

abbrev pub held_by : List Anchored → List ℕ → Bool
held_by [] x = false
held_by (anchored sf ef t ∷ bs) x = walk sf ef (re_of t) true x || held_by bs x

abbrev pub held_in : Option (List Anchored) → List ℕ → Bool
held_in none x = false
held_in (some bs) x = held_by bs x

-- the longest pattern: the longest text that is translated, and the longest pool of a table, have as many bytes
abbrev pub longest : ℕ
longest = 4096

-- whether the value x fits the pattern p
abbrev pub regex_of : List ℕ → List ℕ → Bool
regex_of x p = leb (length p) longest && held_in (branches_of p) x
