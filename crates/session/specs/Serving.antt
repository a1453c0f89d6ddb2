-- The input comes in pieces and the lines leave through a buffer: what is answered of a stretch of the input.
use Rattle.std.specs.Prelude.{ℕ, zero, suc, ◌+◌, ◌≤◌, Bool, List, [], ◌++◌, ◌≡◌, length, take, drop}
use Rattle.std.proofs.lemmas.List.Edits.{sets}
use Rattle.common.specs.Choice.{pick}
use Rattle.record.specs.Record.{record_of, waits_of}
use Rattle.decimal.specs.Decimal.{Put}
use Rattle.record.specs.Line.{error_line, line_room}
use Rattle.session.specs.declared.Stop.{Stop}
use Rattle.session.specs.declared.Stop.TheVariants.{Full, Waiting, Ended}
use Rattle.session.specs.declared.Answered.{Answered}
use Rattle.session.specs.declared.Served.{Served}
use Rattle.session.specs.Session.{line_of, table_after, Sound, on_record}

-- the lent buffer after a record: a table is stored at its start, and no byte changes where there is none
abbrev pub buffer_after : List ℕ → ℕ → List ℕ → List ℕ
buffer_after buffer kind r = sets buffer 0 (table_after (length buffer) [] kind r)

-- the lines, the table and its buffer, the bytes of the input that were answered, and why no more were
pub record Serving : Type 0 where
  pub lines : List ℕ
  pub table : List ℕ
  pub buffer : List ℕ
  pub taken : ℕ
  pub stop : Stop

abbrev pub stopped : Stop → List ℕ → List ℕ → List ℕ → Serving
stopped stop lines table buffer = record { lines = lines; table = table; buffer = buffer; taken = 0; stop = stop }

-- the same after a line for so many bytes
abbrev pub prepend : List ℕ → ℕ → Serving → Serving
prepend line size σ = record { lines = line ++ σ.lines; table = σ.table; buffer = σ.buffer; taken = size + σ.taken; stop = σ.stop }

-- at most so many records of the stretch s, after which more input comes unless `last`
unfoldable pub serving_of : ℕ → Bool → List ℕ → List ℕ → List ℕ → Serving
serving_of zero last table buffer s = stopped Full [] table buffer
serving_of (suc n) last table buffer s =
    pick (waits_of (record_of s) last) (λ _. stopped Waiting [] table buffer)
    (λ _. on_record (record_of s) (λ _. stopped Waiting [] table buffer)
    (λ kind size. prepend (line_of (length buffer) table kind (take size s)) size
    (serving_of n last (table_after (length buffer) table kind (take size s)) (buffer_after buffer kind (take size s)) (drop size s)))
    (λ _. stopped Ended error_line table buffer))

-- what a record of a kind leaves: the table and its length, a sound table, every byte of its buffer, and the line stored in the lent output, whose other bytes stay
pub record Answers (kind : ℕ) (r t b out : List ℕ) (at : ℕ) (b' out' : List ℕ) (a : Answered) : Type 0 where
  pub within : a.held ≤ length b'
  pub table : take a.held b' ≡ table_after (length b) t kind r
  pub sound : Sound (take a.held b')
  pub buffer : b' ≡ buffer_after b kind r
  pub line : Put out at (line_of (length b) t kind r) out' a.next
  pub short : a.next ≤ at + line_room

-- what a stretch leaves: a sound table, no more was taken than there is, and the lines have room
pub record Serves (σ : Serving) (input out b' out' : List ℕ) (a : Served) : Type 0 where
  pub within : a.held ≤ length b'
  pub inside : a.taken ≤ length input
  pub short : a.written ≤ length out'
  pub table : take a.held b' ≡ σ.table
  pub sound : Sound (take a.held b')
  pub buffer : b' ≡ σ.buffer
  pub lines : Put out 0 σ.lines out' a.written
  pub taken : a.taken ≡ σ.taken
  pub stop : a.stop ≡ σ.stop
