-- What the program `verdict` prints. Document 01, "Examples": "Kind 3 is a subscription text, which replaces the last one even if refused; kind 1 a notice. It prints `S number place length` or
-- `N number verdict steps place` (.. no table gives 12), `X kind` for another kind, and `E` and stops where a record is cut, or its length is under 2 or over 16,380."
-- Document 02, request 7: "The `N` line of `verdict` gains it at its end": the number of the first undecided entry, 65535 where there is none.
use Rattle.std.specs.Prelude.{ℕ, zero, suc, true, List, [], ◌++◌, ◌⊎◌, ◌≡◌, eqb, length, take, drop}
use Rattle.common.specs.Choice.{pick}
use Rattle.record.specs.declared.Record.{Record}
use Rattle.record.specs.declared.Record.TheVariants.{End, Whole, Cut, Wrong}
use Rattle.record.specs.Record.{record_of}
use Rattle.record.specs.Line.{text_line, notice_line, kind_line, error_line}
use Rattle.table.specs.Table.{most_bytes}
use Rattle.table.specs.Check.{check_of}
use Rattle.translator.specs.Translation.{Outcome, translation_of}
use Rattle.interpreter.specs.Running.{RunAnswer, running_of}

-- request 9: "`verdict` names 1"
abbrev pub edition : ℕ
edition = 1

-- the text of a record of kind 3: what follows its length and its kind
abbrev pub text_of : List ℕ → List ℕ
text_of r = drop 6 r

abbrev pub translated_line : Outcome → List ℕ
translated_line o = text_line o.number o.place (length o.table)

abbrev pub ran_line : RunAnswer → List ℕ
ran_line a = notice_line a.number a.verdict a.steps a.place a.undecided

-- The line for a record of a kind, where `table` is the last text's table, empty if it was refused or there was none, and tables have room for so many bytes. A record of kind 1 is the notice, with its own
-- six first bytes. An empty table fails the check: "no table gives 12".
abbrev pub line_of : ℕ → List ℕ → ℕ → List ℕ → List ℕ
line_of room table kind r =
    pick (eqb kind 3) (λ _. translated_line (translation_of edition (text_of r) room)) (λ _. pick (eqb kind 1) (λ _. ran_line (running_of table r)) (λ _. kind_line kind))

-- "a subscription text, which replaces the last one even if refused": a refused one leaves no table
abbrev pub table_after : ℕ → List ℕ → ℕ → List ℕ → List ℕ
table_after room table kind r = pick (eqb kind 3) (λ _. (translation_of edition (text_of r) room).table) (λ _. table)

-- what is kept of the texts: no table, or one that passes the check, as the table of every accepted text does
abbrev pub Sound : List ℕ → Type 0
Sound table = (table ≡ []) ⊎ (check_of table ≡ true)

abbrev pub on_record : {A : Type 0} → Record → (Unit {0} → A) → (ℕ → ℕ → A) → (Unit {0} → A) → A
on_record End none whole error = none tt
on_record (Whole kind size) none whole error = whole kind size
on_record Cut none whole error = error tt
on_record Wrong none whole error = error tt

-- what is printed for the bytes s, of at most so many records
unfoldable pub output_from : ℕ → ℕ → List ℕ → List ℕ → List ℕ
output_from zero room table s = []
output_from (suc n) room table s =
    on_record (record_of s) (λ _. [])
    (λ kind size. line_of room table kind (take size s) ++ output_from n room (table_after room table kind (take size s)) (drop size s))
    (λ _. error_line)

-- What is printed for the bytes s, where `table` is the last text's and tables have room for the longest. A record takes at least six bytes, so there are fewer than s has.
abbrev pub output_after : List ℕ → List ℕ → List ℕ
output_after table s = output_from (length s) most_bytes table s

-- the whole output for the whole input
abbrev pub output_of : List ℕ → List ℕ
output_of s = output_after [] s
