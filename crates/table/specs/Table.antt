-- Tables as bytes, and the reading of one. Document 01, "Table": "u32 length of all after it; u16 kind 2; u16 entry count N 1..512; u16 pool length 0..4,096;
-- N entries of 12 bytes; pool; nothing more. Entry: u16 op, u16 a, u64 b." Little-endian, as notices are. Document 02, request 9: "Tables of kind 4 shall be second edition .. kind 2 keeps the first."
use Rattle.std.specs.Prelude.{ℕ, zero, suc, ◌+◌, ◌*◌, Bool, cond, ◌&&◌, ◌||◌, List, [], ◌∷◌, ◌++◌, eqb, leb, length, drop}
use Rattle.word.specs.Word.{word_at, word_bytes}
use Rattle.opcode.specs.declared.Edition.{Edition}
pub use Rattle.table.specs.declared.Entry.{Entry}

pub record Program : Type 0 where
  pub edition : Edition
  pub entries : List Entry
  pub pool : List ℕ

-- what stands for an entry past the last; its op is unknown
abbrev pub blank : Entry
blank = record { op = 0; a = 0; b = 0 }

-- "Entry: u16 op, u16 a, u64 b."
abbrev pub entry_bytes : Entry → List ℕ
entry_bytes e = word_bytes 2 e.op ++ (word_bytes 2 e.a ++ word_bytes 8 e.b)

unfoldable pub entries_bytes : List Entry → List ℕ
entries_bytes [] = []
entries_bytes (e ∷ es) = entry_bytes e ++ entries_bytes es

-- "u16 kind 2"; request 9: "Tables of kind 4 shall be second edition"
abbrev pub table_kind : Edition → ℕ
table_kind Edition.First = 2
table_kind Edition.Second = 4

-- the most bytes of a table: the header, 512 entries and a pool of 4,096
abbrev pub most_bytes : ℕ
most_bytes = 10 + 12 * 512 + 4096

-- "u16 kind 2; u16 entry count N ..; u16 pool length ..; N entries of 12 bytes; pool"
unfoldable pub body_bytes : Program → List ℕ
body_bytes p =
    word_bytes 2 (table_kind p.edition) ++ (word_bytes 2 (length p.entries) ++ (word_bytes 2 (length p.pool) ++ (entries_bytes p.entries ++ p.pool)))

-- "u32 length of all after it"
unfoldable pub encode : Program → List ℕ
encode p = word_bytes 4 (length (body_bytes p)) ++ body_bytes p

-- ---- reading

-- the kind that the table tells, and its edition: "kind 2 keeps the first"
abbrev pub kind_at : List ℕ → ℕ
kind_at s = word_at 2 s 4

abbrev pub edition_of : List ℕ → Edition
edition_of s = cond (eqb (kind_at s) (table_kind Edition.Second)) Edition.Second Edition.First

abbrev pub count_of : List ℕ → ℕ
count_of s = word_at 2 s 6

abbrev pub pool_length_of : List ℕ → ℕ
pool_length_of s = word_at 2 s 8

-- the entry i, wherever it lies
abbrev pub entry_at : List ℕ → ℕ → Entry
entry_at s i = record { op = word_at 2 s (10 + 12 * i); a = word_at 2 s (12 + 12 * i); b = word_at 8 s (14 + 12 * i) }

-- n entries, from the entry i on
unfoldable pub entries_from : List ℕ → ℕ → ℕ → List Entry
entries_from s i zero = []
entries_from s i (suc n) = entry_at s i ∷ entries_from s (suc i) n

abbrev pub entries_of : List ℕ → List Entry
entries_of s = entries_from s 0 (count_of s)

abbrev pub pool_of : List ℕ → List ℕ
pool_of s = drop (10 + 12 * count_of s) s

abbrev pub decode : List ℕ → Program
decode s = record { edition = edition_of s; entries = entries_of s; pool = pool_of s }

-- the layout: the length word, the kind of either edition, the two counts, and "nothing more"
unfoldable pub layout_of : List ℕ → Bool
layout_of s =
    leb 10 (length s)
    && (eqb (4 + word_at 4 s 0) (length s)
    && ((eqb (kind_at s) (table_kind Edition.First) || eqb (kind_at s) (table_kind Edition.Second))
    && ((leb 1 (count_of s) && leb (count_of s) 512)
    && (leb (pool_length_of s) 4096 && eqb (10 + 12 * count_of s + pool_length_of s) (length s)))))
