-- What is promised of the decision. `Decides` is proved in proofs/Search.antt (`decides`), `Passes` in proofs/Pass.antt (`passes`), `Finds` in proofs/Found.antt (`finds`).
use Rattle.std.specs.Prelude.{ℕ, ◌+◌, ◌≤◌, ◌≡◌, ◌↔◌, Bool, true, List, ◌++◌, length}
use Rattle.automaton.specs.Language.{Re, Fits, Stretch, Fresh}
use Rattle.automaton.specs.Marks.{empty, final, shift, walk}
use Rattle.automaton.specs.declared.Level.{Level}
use Rattle.automaton.specs.Pass.{Token, passed, onto, pass, tokens, cells, Flat}
use Rattle.automaton.specs.Decide.{decide}

-- Yes and no equal the language.
abbrev pub Decides : Type 0
Decides = (sf ef : Bool) (t : Re) → Fresh t → (x : List ℕ) → (walk sf ef t true x ≡ true) ↔ Stretch sf ef (Fits t) x

-- A pass over a sequence's tokens and cells leaves the cells of the sequence after one byte, and goes on behind it.
abbrev pub Passes : Type 0
Passes =
    (t : Re) (d : ℕ) → Flat t d → (l : Level) (s : List Level) → length s + d ≤ 8 → (ts : List Token) (ms : List Bool) (c : ℕ) →
    pass (tokens t ++ ts) (cells t ++ ms) c l s
    ≡ onto (cells (shift l.cur t c)) (pass ts ms c (passed l (empty t) (final t) (final (shift l.cur t c))) s)

-- What `finds` answers over the table of an expression is the language.
abbrev pub Finds : Type 0
Finds =
    (sf ef : Bool) (t : Re) → Fresh t → Flat t 8 → (x : List ℕ) →
    (decide (tokens t) (length (tokens t)) sf ef x ≡ true) ↔ Stretch sf ef (Fits t) x
