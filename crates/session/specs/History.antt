-- A session's history: a start, and then steps that each leave what its function promises.
use Rattle.std.specs.Prelude.{ℕ, ◌≤◌, List, [], ◌++◌, ◌≡◌, length, take}
use Rattle.table.specs.Table.{most_bytes}
use Rattle.session.specs.declared.Next.{Next}
use Rattle.session.specs.declared.Next.TheVariants.{Answer, Read, Done}
use Rattle.session.specs.declared.Brought.{Brought}
use Rattle.session.specs.declared.State.{State}
use Rattle.session.specs.State.{first, Turns, MakesRoom, Reads, arrived, received_of}

-- The input's buffer, the table's and the state, after all of `read` was read and all of `written` was handed to `write`. What a read brings is free: the operating system's.
pub data Session : List ℕ → List ℕ → State → List ℕ → List ℕ → Type 0 where
  begins : {input table : List ℕ} → 16384 ≤ length input → length table ≡ most_bytes → Session input table first [] []
  answers : {input table out table' out' read written : List ℕ} {s r : State}
      → Session input table s read written → s.next ≡ Answer → Turns input table out s table' out' r → Session input table' r read (written ++ take r.written out')
  moves : {input table input' read written : List ℕ} {s r : State}
      → Session input table s read written → s.next ≡ Read → MakesRoom input s input' r → Session input' table r read written
  reads : {input table input' read written : List ℕ} {s : State} {b : Brought}
      → Session input table s read written → s.next ≡ Read → Reads input s.end input' b → Session input' table (received_of s b) (read ++ arrived input' s.end b) written

-- what is printed after what was written
abbrev pub to_come : Next → List ℕ → List ℕ
to_come Answer rest = rest
to_come Read rest = rest
to_come Done rest = []
