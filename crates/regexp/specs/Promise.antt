-- What the code answers: of one word, of a branch, of a branch and what stands behind it.
use Rattle.std.specs.Prelude.{ℕ, ◌+◌, ◌<◌, ◌≤◌, ◌≡◌, Bool, true, false, ◌||◌, List, Option, Some, None, length, take, drop}
use Rattle.automaton.specs.Pass.{tokens}
use Rattle.automaton.specs.Table.{hits, repeats as kindRepeats, absent as kindAbsent, sort, tokens_of}
use Rattle.regexp.specs.Language.{Atom, takes, Mark, Tree, anchored}
use Rattle.regexp.specs.Words.{Word, item, repeats, opening, bars, closing, stops, none, word_of, set_of, ends}
use Rattle.regexp.specs.Scan.{Frame, spot, stuck, next, read, broken, branch_of, ends_at, tree_of, has}
use Rattle.regexp.specs.Regex.{last, more, fault, end_of, part_of, repeats as markRepeats, absent as markAbsent, re_of}
use Rattle.regexp.specs.declared.Read.{Read}
use Rattle.regexp.specs.declared.Read.TheVariants.{Item, Repeat, Open, Bar, Close, Stop, Bad}
use Rattle.regexp.specs.declared.Made.{Made}
use Rattle.regexp.specs.declared.Turn.{Turn}
use Rattle.regexp.specs.declared.Turn.TheVariants.{Last, More}

-- a word of the text at i
abbrev pub Reads : List ℕ → Word → ℕ → Read → Type 0
Reads text w i (Item k a j) =
    ((x : Atom) × (w ≡ item x (drop j text)) × (hits text k a ≡ takes x))
    × (sort k < 3) × (a < length text) × (i < j) × (j ≤ length text) × (k < 256) × (kindRepeats k ≡ false) × (kindAbsent k ≡ false)
Reads text w i (Repeat r o) = (m : Mark) × (w ≡ repeats m (drop (i + 1) text)) × (markRepeats m ≡ r) × (markAbsent m ≡ o)
Reads text w i Open = w ≡ opening (drop (i + 1) text)
Reads text w i Bar = w ≡ bars (drop (i + 1) text)
Reads text w i Close = w ≡ closing (drop (i + 1) text)
Reads text w i Stop = w ≡ stops
Reads text w i Bad = w ≡ none

-- the set behind a `[`
abbrev pub SetAt : List ℕ → ℕ → Read → Type 0
SetAt text i (Item k a j) = Reads text (set_of (drop i text)) i (Item k a j)
SetAt text i (Repeat r o) = ⊥
SetAt text i Open = ⊥
SetAt text i Bar = ⊥
SetAt text i Close = ⊥
SetAt text i Stop = ⊥
SetAt text i Bad = set_of (drop i text) ≡ none

abbrev pub WordAt : List ℕ → ℕ → Read → Type 0
WordAt text i r = Reads text (word_of (drop i text)) i r

-- the same where room more groups may open: the word may stand there, or the branch ends before it, or neither
abbrev pub AllowedAt : List ℕ → ℕ → ℕ → Bool → Read → Type 0
AllowedAt text i room some (Item k a j) = WordAt text i (Item k a j)
AllowedAt text i room some (Repeat r o) = WordAt text i (Repeat r o) × (some ≡ true) × (i < length text)
AllowedAt text i room some Open = WordAt text i Open × (0 < room) × (i < length text)
AllowedAt text i room some Bar = WordAt text i Bar × (room ≡ 8 → ⊥) × (some ≡ true) × (i < length text)
AllowedAt text i room some Close = WordAt text i Close × (room ≡ 8 → ⊥) × (some ≡ true) × (i < length text)
AllowedAt text i room some Stop = (ends (word_of (drop i text)) ≡ true) × (room ≡ 8)
AllowedAt text i room some Bad =
    (bs ps : List Tree) (out : List Frame) → some ≡ has ps → room + length out ≡ 8 →
    (next (word_of (drop i text)) (spot room bs ps out) ≡ stuck) × (ends_at (word_of (drop i text)) (spot room bs ps out) ≡ false)

-- a branch that begins at an index: whether it has a piece, and where it ends
abbrev pub EndAt : List ℕ → ℕ → Option Made → Type 0
EndAt text i (Some m) = (i ≤ m.end) × (m.end ≤ length text) × ((ps : List Tree) × (branch_of (drop i text) ≡ read ps (drop m.end text)) × (m.some ≡ has ps))
EndAt text i None = branch_of (drop i text) ≡ broken

-- the first n tokens of a table are those of a tree
abbrev pub TableOf : List ℕ → List ℕ → List ℕ → ℕ → Tree → Type 0
TableOf text ks xs n t = (n ≤ length text) × (tokens_of text (take n ks) (take n xs) ≡ tokens (re_of t))

-- the same with its table
abbrev pub BranchAt : List ℕ → ℕ → List ℕ → List ℕ → Option Made → Type 0
BranchAt text i ks xs (Some m) =
    (i ≤ m.end) × (m.end ≤ length text) × ((ps : List Tree) × (branch_of (drop i text) ≡ read ps (drop m.end text)) × (m.some ≡ has ps) × TableOf text ks xs m.tokens (tree_of ps))
BranchAt text i ks xs None = branch_of (drop i text) ≡ broken

-- what stands at j behind a branch, which has a table of n tokens
abbrev pub BehindAt : List ℕ → Bool → ℕ → Bool → ℕ → Option Turn → Type 0
BehindAt text hat n some j (Some (Last m sf ef)) = (m ≡ n) × ((t : Tree) → end_of (some || hat) hat t (drop j text) ≡ last (anchored sf ef t))
BehindAt text hat n some j (Some (More m sf k)) =
    (m ≡ n) × (j < k) × (k ≤ length text) × ((t : Tree) → end_of (some || hat) hat t (drop j text) ≡ more (anchored sf true t) (drop k text))
BehindAt text hat n some j None = (t : Tree) → end_of (some || hat) hat t (drop j text) ≡ fault

-- the first branch of what stands at i, with its anchors
abbrev pub TurnAt : List ℕ → ℕ → Bool → Option Turn → Type 0
TurnAt text i first (Some (Last n sf ef)) = (t : Tree) × (part_of first (drop i text) ≡ last (anchored sf ef t))
TurnAt text i first (Some (More n sf j)) = (i < j) × (j ≤ length text) × ((t : Tree) × (part_of first (drop i text) ≡ more (anchored sf true t) (drop j text)))
TurnAt text i first None = part_of first (drop i text) ≡ fault

-- the same with its table
abbrev pub TableAt : List ℕ → ℕ → Bool → List ℕ → List ℕ → Option Turn → Type 0
TableAt text i first ks xs (Some (Last n sf ef)) = (t : Tree) × (part_of first (drop i text) ≡ last (anchored sf ef t)) × TableOf text ks xs n t
TableAt text i first ks xs (Some (More n sf j)) =
    (i < j) × (j ≤ length text) × ((t : Tree) × (part_of first (drop i text) ≡ more (anchored sf true t) (drop j text)) × TableOf text ks xs n t)
TableAt text i first ks xs None = part_of first (drop i text) ≡ fault
