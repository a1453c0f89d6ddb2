-- What request 10 does not say, by examples: bottom may turn, and a checked table that no text gives may turn round. The proofs are in proofs/Examples.antt, under the same names.
use Rattle.std.specs.Prelude.{ℕ, ◌≡◌, true, List, [], ◌∷◌}
use Rattle.std.proofs.Math.Option.{some}
use Rattle.truth.specs.declared.Truth.TheVariants.{False, Bottom, True}
use Rattle.notice.specs.More.{More}
use Rattle.opcode.specs.declared.Edition.{Edition}
use Rattle.lexer.specs.Ascii.{ascii}
use Rattle.table.specs.Table.{encode}
use Rattle.table.specs.Check.{check_of}
use Rattle.interpreter.specs.Running.{running_of}
use Rattle.meaning.specs.Meaning.{text_meaning}
use Rattle.meaning.specs.Theorems.{op42, empty}
use Rattle.translator.specs.Compile.{entry}

-- The notice with the field `Op` holds every field of the empty one.
abbrev pub OneMore : Type 0
OneMore = More empty op42

-- A field that was missing decides: bottom turns.
abbrev pub BottomTurns : Type 0
BottomTurns = (e : Edition) → (text_meaning e (ascii "Op == 42") empty ≡ some Bottom) × (text_meaning e (ascii "Op == 42") op42 ≡ some True)

-- `Op == 42`, skip if true, `1 == 2`, `&&`: the skip is that of `||`
abbrev pub turning : Edition → List ℕ
turning e =
    encode
    record {
      edition = e;
      entries = entry 5 2 0 ∷ entry 1 0 42 ∷ entry 32 0 0 ∷ entry 45 4 0 ∷ entry 1 0 1 ∷ entry 1 0 2 ∷ entry 32 0 0 ∷ entry 41 0 0 ∷ [];
      pool = 0x4f ∷ 0x70 ∷ [];
    }

-- It passes the check, and its run is false without the field and true with it. So request 10 is of texts, and not of every table.
abbrev pub TableTurns : Type 0
TableTurns = (e : Edition) → (check_of (turning e) ≡ true) × ((running_of (turning e) empty).verdict ≡ False) × ((running_of (turning e) op42).verdict ≡ True)
