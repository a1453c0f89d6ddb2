-- What holds of the program's whole output. The proofs are in proofs/Theorems.antt, under the same names.
use Rattle.std.specs.Prelude.{◌≡◌, Bool, true, List, [], ◌++◌, ℕ, ◌≤◌, length, take, drop}
use Rattle.truth.specs.declared.Truth.TheVariants.{Bottom}
use Rattle.record.specs.Line.{notice_line}
use Rattle.session.specs.declared.Stop.{Stop}
use Rattle.session.specs.declared.Stop.TheVariants.{Full, Waiting, Ended}
use Rattle.session.specs.declared.Next.TheVariants.{Done}
use Rattle.session.specs.declared.State.{State}
use Rattle.session.specs.Session.{line_of, output_from, output_after, output_of}
use Rattle.session.specs.Serving.{serving_of}
use Rattle.session.specs.State.{pending, Ready}
use Rattle.session.specs.History.{Session, to_come}

-- what is printed after a stretch was answered
abbrev pub rest_of : Stop → List ℕ → List ℕ
rest_of Full rest = rest
rest_of Waiting rest = rest
rest_of Ended rest = []

-- However the input is cut into pieces s and t, and however few lines leave at a time: the lines for a stretch and then what is printed for the rest of it and all that follows, from the table that it
-- leaves, are what is printed for the whole.
abbrev pub InPieces : Type 0
InPieces = (n m : ℕ) (last : Bool) (table buffer s t : List ℕ) → (last ≡ true → t ≡ []) → length (s ++ t) ≤ m
    → ((serving_of n last table buffer s).lines ++ rest_of (serving_of n last table buffer s).stop (output_from m (length buffer) (serving_of n last table buffer s).table (drop (serving_of n last table buffer s).taken s ++ t)))
    ≡ output_from m (length buffer) table (s ++ t)

-- A session's state lies in its buffers, always.
abbrev pub AlwaysReady : Type 0
AlwaysReady = (input table read written : List ℕ) (s : State) → Session input table s read written → Ready input table s

-- Of every session: what was handed to `write`, and then what is printed for the bytes that are not answered yet and all t that may follow, is the whole output for all that was read and t.
abbrev pub Printed : Type 0
Printed = (input table read written : List ℕ) (s : State) → Session input table s read written → (t : List ℕ) → (s.last ≡ true → t ≡ [])
    → (written ++ to_come s.next (output_after (take s.held table) (pending input s ++ t))) ≡ output_of (read ++ t)

-- So a session that is done has handed over the whole output for the whole input: for what was read and, where it was done before the input ended, whatever else the input holds.
abbrev pub WholeOutput : Type 0
WholeOutput = (input table read written : List ℕ) (s : State) → Session input table s read written → s.next ≡ Done → (t : List ℕ) → (s.last ≡ true → t ≡ []) → written ≡ output_of (read ++ t)

-- "no table gives 12", whatever the notice is.
abbrev pub NoTable : Type 0
NoTable = (room : ℕ) (r : List ℕ) → line_of room [] 1 r ≡ notice_line 12 Bottom 0 0 65535
