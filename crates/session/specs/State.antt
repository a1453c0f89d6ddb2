-- A session over lent buffers: what is kept between its steps, and what each step leaves.
use Rattle.std.specs.Prelude.{ℕ, ◌+◌, ◌-◌, ◌/◌, ◌≤◌, ◌<◌, Bool, true, false, cond, List, [], ◌≡◌, ltb, eqb, length, take, drop}
use Rattle.std.proofs.lemmas.List.Edits.{sets}
use Rattle.decimal.specs.Decimal.{Put}
use Rattle.record.specs.Line.{line_room}
use Rattle.session.specs.declared.Stop.{Stop}
use Rattle.session.specs.declared.Stop.TheVariants.{Full, Waiting, Ended}
use Rattle.session.specs.declared.Next.{Next}
use Rattle.session.specs.declared.Next.TheVariants.{Answer, Read, Done}
use Rattle.session.specs.declared.Brought.{Brought}
use Rattle.session.specs.declared.Brought.TheVariants.{UpTo, Again}
use Rattle.session.specs.declared.State.{State}
use Rattle.session.specs.Session.{Sound}
use Rattle.session.specs.Serving.{Serving, serving_of}

-- the bytes that are not answered yet
abbrev pub pending : List ℕ → State → List ℕ
pending input s = take (s.end - s.from) (drop s.from input)

-- the start: no byte has come, there is no table, and the input is to be read
abbrev pub first : State
first = record { from = 0; end = 0; held = 0; written = 0; last = false; next = Read }

-- The bytes that are not answered yet lie in the input's buffer, which holds a longest record; where more is to be read, they are fewer than such a record has.
pub record Stands (input : List ℕ) (s : State) : Type 0 where
  pub order : s.from ≤ s.end
  pub within : s.end ≤ length input
  pub large : 16384 ≤ length input
  pub short : s.next ≡ Read → length (pending input s) < 16384

-- .. and the table lies in its own and is sound
pub record Ready (input table : List ℕ) (s : State) : Type 0 where
  pub stands : Stands input s
  pub held : s.held ≤ length table
  pub sound : Sound (take s.held table)

-- ---- a turn: what is there is answered

-- where a stretch stops, what is done next: `last` is whether the input has ended
abbrev pub next_of : Stop → Bool → Next
next_of Full last = Answer
next_of Waiting true = Done
next_of Waiting false = Read
next_of Ended last = Done

-- what is answered of the bytes that are there, as many lines as `out` has room for
abbrev pub serving_now : List ℕ → List ℕ → List ℕ → State → Serving
serving_now input table out s = serving_of (length out / line_room) s.last (take s.held table) table (pending input s)

-- what is answered is no longer pending, its lines stand at the output's start, and the other bytes of the output stay
pub record Turned (σ : Serving) (input table out : List ℕ) (s : State) (table' out' : List ℕ) (r : State) : Type 0 where
  pub from : r.from ≡ s.from + σ.taken
  pub end : r.end ≡ s.end
  pub last : r.last ≡ s.last
  pub next : r.next ≡ next_of σ.stop s.last
  pub kept : take r.held table' ≡ σ.table
  pub size : length table' ≡ length table
  pub buffer : table' ≡ σ.buffer
  pub stored : Put out 0 σ.lines out' r.written
  pub short : r.written ≤ length out'
  pub lines : take r.written out' ≡ σ.lines
  pub ready : Ready input table' r

abbrev pub Turns : List ℕ → List ℕ → List ℕ → State → List ℕ → List ℕ → State → Type 0
Turns input table out s table' out' r = Turned (serving_now input table out s) input table out s table' out' r

-- ---- room for more

-- whether a longest record has no room behind what is there
abbrev pub crowded : List ℕ → State → Bool
crowded input s = ltb (length input - s.end) 16384

-- the same bytes at the buffer's start
abbrev pub moved : State → State
moved s = record { from = 0; end = s.end - s.from; held = s.held; written = s.written; last = s.last; next = s.next }

-- no byte that is not answered yet is lost, and there is room for one more at least, so that a read of none means the end of the input
pub record MakesRoom (input : List ℕ) (s : State) (input' : List ℕ) (r : State) : Type 0 where
  pub bytes : input' ≡ cond (crowded input s) (sets input 0 (pending input s)) input
  pub state : r ≡ cond (crowded input s) (moved s) s
  pub same : pending input' r ≡ pending input s
  pub room : r.end < length input'
  pub stands : Stands input' r

-- ---- a read

abbrev pub Reaches : ℕ → ℕ → Brought → Type 0
Reaches end most (UpTo e) = (end ≤ e) × (e ≤ most)
Reaches end most Again = Unit {0}

-- one read of at least one byte behind `end`: no byte before `end` changes
pub record Reads (input : List ℕ) (end : ℕ) (input' : List ℕ) (b : Brought) : Type 0 where
  pub room : end < length input
  pub size : length input' ≡ length input
  pub before : take end input' ≡ take end input
  pub reach : Reaches end (length input) b

-- the bytes that it brought
abbrev pub arrived : List ℕ → ℕ → Brought → List ℕ
arrived input end (UpTo e) = take (e - end) (drop end input)
arrived input end Again = []

-- a read that brought none at all was at the end of the input
abbrev pub received_of : State → Brought → State
received_of s (UpTo e) = record { from = s.from; end = e; held = s.held; written = s.written; last = eqb e s.end; next = Answer }
received_of s Again = s
