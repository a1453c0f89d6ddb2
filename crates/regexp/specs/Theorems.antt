-- What the computing definitions of specs/Regex.antt say, and what is ill-formed. The proofs are in proofs/Theorems.antt, under the same names.
use Rattle.std.specs.Prelude.{ℕ, ◌≤◌, ◌≡◌, ◌↔◌, Bool, true, false, List, length}
use Rattle.std.proofs.Math.Option.{some}
use Rattle.automaton.specs.Language.{Fits as FitsRe}
use Rattle.regexp.specs.Language.{Tree, Fits, Anchored}
use Rattle.regexp.specs.Grammar.{Derives, WellFormed, Accepts}
use Rattle.regexp.specs.Causes.{IllFormed}
use Rattle.regexp.specs.Regex.{branches_of, well_formed, re_of, longest, regex_of}

-- What is computed from a text are the branches that the grammar derives.
abbrev pub ReadsExactly : Type 0
ReadsExactly = (p : List ℕ) (bs : List Anchored) → (branches_of p ≡ some bs) ↔ Derives p bs

-- A text has one reading at most.
abbrev pub OneReading : Type 0
OneReading = (p : List ℕ) (bs cs : List Anchored) → Derives p bs → Derives p cs → bs ≡ cs

-- `well_formed`, which promises to answer `well_formed p`, answers true exactly for the patterns.
abbrev pub WellFormedExactly : Type 0
WellFormedExactly = (p : List ℕ) (answer : Bool) → answer ≡ well_formed p → (answer ≡ true) ↔ WellFormed p

-- "Ill-formed are ..": a text is no pattern exactly if one of the causes that the request names is in it.
abbrev pub IllFormedExactly : Type 0
IllFormedExactly = (p : List ℕ) → (WellFormed p → ⊥) ↔ IllFormed p

-- `well_formed` answers false exactly for those texts.
abbrev pub RefusesExactly : Type 0
RefusesExactly = (p : List ℕ) (answer : Bool) → answer ≡ well_formed p → (answer ≡ false) ↔ IllFormed p

-- The flags of the automaton's expressions say what the repeat marks say.
abbrev pub SameLanguage : Type 0
SameLanguage = (t : Tree) (w : List ℕ) → FitsRe (re_of t) w ↔ Fits t w

-- "Yes and no must equal the expression's language, written without the matcher, also for a star over what fits the empty string": `fits`, which promises to answer `regex_of x p` for value and pattern under their folding marks, answers true exactly where the value fits the pattern.
abbrev pub FitsExactly : Type 0
FitsExactly = (x p : List ℕ) (answer : Bool) → answer ≡ regex_of x p → length p ≤ longest → (answer ≡ true) ↔ Accepts p x
