-- What holds of every table. The proofs are in proofs/Theorems.antt, under the same names.
use Rattle.std.specs.Prelude.{ℕ, ◌+◌, ◌*◌, ◌-◌, ◌^◌, ◌≤◌, ◌<◌, ◌≡◌, true, List, [], ◌∷◌, ◌++◌, ◌↔◌, ◌⊎◌, ℤ, length, take, drop, get_or}
use Rattle.std.proofs.Math.Option.{some}
use Rattle.std.specs.Int.{w32, w64}
use Rattle.std.proofs.Common.{SFits, of_z}
use Rattle.word.specs.Word.{Bytes}
use Rattle.opcode.specs.Opcode.{op_of, Kind, logic, takes_of, gives_of}
use Rattle.table.specs.Table.{Entry, blank, Program, encode, decode, layout_of, count_of, entry_at, entries_of, pool_of}
use Rattle.table.specs.Check.{in_range, part_of, entry_right, entries_right, shape_at, is_skip, program_right, check_of}
use Rattle.table.specs.Ways.{Reaches, EveryWay, EveryPattern}
use Rattle.table.specs.Parts.{parts_of}

-- ---- layout

-- an entry's numbers fit their words
pub record Fits (e : Entry) : Type 0 where
  pub op : e.op < 2 ^ 16
  pub a : e.a < 2 ^ 16
  pub b : e.b < 2 ^ 64

-- "entry count N 1..512"; "pool length 0..4,096"
pub record Limits (p : Program) : Type 0 where
  pub some_entry : 1 ≤ length p.entries
  pub few : length p.entries ≤ 512
  pub fit : (i : ℕ) → i < length p.entries → Fits (get_or p.entries i blank)
  pub small : length p.pool ≤ 4096
  pub bytes : Bytes p.pool

-- What is written is read back as the same entries and pool; so a table's bytes are those of one program.
abbrev pub DecodeEncode : Type 0
DecodeEncode = (p : Program) → Limits p → decode (encode p) ≡ p

-- What keeps the layout is read, and written again has the same bytes.
abbrev pub EncodeDecode : Type 0
EncodeDecode = (s : List ℕ) → Bytes s → layout_of s ≡ true → Limits (decode s) × (encode (decode s) ≡ s)

-- Bytes keep the layout exactly if they are those of some program within the limits.
abbrev pub Layout : Type 0
Layout = (s : List ℕ) → (Bytes s × (layout_of s ≡ true)) ↔ ((p : Program) × Limits p × (s ≡ encode p))

-- ---- the check

-- The b of an int32 is right exactly if it is the 64-bit two's complement of a number in the int32 range.
abbrev pub Widened : Type 0
Widened = (b : ℕ) → (in_range b ≡ true) ↔ ((z : ℤ) × SFits w32 z × (b ≡ of_z w64 z))

-- The bytes of a program within the limits pass the check exactly if the program does.
abbrev pub CheckEncode : Type 0
CheckEncode = (p : Program) → Limits p → check_of (encode p) ≡ program_right p

-- A table passes the check exactly if its layout and each entry by itself are right, and every way of reaching an entry finds enough operands of the right kind, every two
-- ways of reaching the same entry or the end find the same depth and kinds, depth is at most 32, every skip lands at or before N, and the end has one logic slot;
-- and the patterns of each entry that takes patterns are right.
abbrev pub CheckWays : Type 0
CheckWays =
    (s : List ℕ)
    → (check_of s ≡ true) ↔ ((layout_of s ≡ true) × (entries_right (pool_of s) (entries_of s) ≡ true) × EveryWay (entries_of s) × EveryPattern (pool_of s) (entries_of s))

-- No entry of a checked table escapes: some way reaches each entry, and the end, with the kinds along the entries.
abbrev pub EveryReached : Type 0
EveryReached = (s : List ℕ) → check_of s ≡ true → (i : ℕ) → i ≤ count_of s → (ks : List Kind) × Reaches (entries_of s) i ks × (shape_at (entries_of s) i ≡ some ks)

-- ---- what a run of a checked table rests on

-- the entry i lies in the table and is right by itself; its operands are on top of the stack, over `rest`; and its result in their place is what stands before the next entry
pub record Known (s : List ℕ) (i : ℕ) : Type 0 where
  pub rest : List Kind
  pub inside : 22 + 12 * i ≤ length s
  pub right : entry_right (pool_of s) (entry_at s i) ≡ true
  pub before : shape_at (entries_of s) i ≡ some (takes_of (op_of (entry_at s i).op) (entry_at s i).a ++ rest)
  pub next : shape_at (entries_of s) (i + 1) ≡ some (gives_of (op_of (entry_at s i).op) ∷ rest)
  pub shallow : length (takes_of (op_of (entry_at s i).op) (entry_at s i).a ++ rest) ≤ 32
  pub room : length rest < 32

-- Each entry of a checked table is known so.
abbrev pub CheckedEntry : Type 0
CheckedEntry = (s : List ℕ) → check_of s ≡ true → (i : ℕ) → i < count_of s → Known s i

-- A skip of a checked table lands at or before N, at the kinds that it was reached with.
abbrev pub CheckedSkip : Type 0
CheckedSkip =
    (s : List ℕ) → check_of s ≡ true → (i : ℕ) → i < count_of s → is_skip (entry_at s i) ≡ true
    → (i + (entry_at s i).a + 1 ≤ count_of s) × (shape_at (entries_of s) (i + (entry_at s i).a + 1) ≡ shape_at (entries_of s) i)

-- A checked table starts with an empty stack and ends with one logic slot.
abbrev pub CheckedEnds : Type 0
CheckedEnds = (s : List ℕ) → check_of s ≡ true → (shape_at (entries_of s) 0 ≡ some []) × (shape_at (entries_of s) (count_of s) ≡ some (logic ∷ []))

-- ---- what an entry is

-- Of a string or a name of a checked table, what is answered from start to end lies in the table, and is the entry's bytes in the pool.
abbrev pub PartsName : Type 0
PartsName =
    (s : List ℕ) → check_of s ≡ true → (k : ℕ) → k < count_of s → ((entry_at s k).op ≡ 4) ⊎ ((entry_at s k).op ≡ 5)
    → ((parts_of s k).start ≤ (parts_of s k).end) × ((parts_of s k).end ≤ length s)
    × (take ((parts_of s k).end - (parts_of s k).start) (drop (parts_of s k).start s) ≡ part_of (pool_of s) (entry_at s k))
