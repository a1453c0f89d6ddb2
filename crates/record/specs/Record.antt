-- The records of standard input. Document 01, "Examples": "The program `verdict` reads records (u32 length, u16 kind) from standard input."
use Rattle.std.specs.Prelude.{ℕ, ◌+◌, Bool, true, false, cond, not, ◌&&◌, List, ltb, leb, eqb, length}
use Rattle.word.specs.Word.{word_at}
use Rattle.record.specs.declared.Record.{Record}
use Rattle.record.specs.declared.Record.TheVariants.{End, Whole, Cut, Wrong}

-- the length of all after the length word, as in a notice
abbrev pub length_of : List ℕ → ℕ
length_of s = word_at 4 s 0

abbrev pub kind_of : List ℕ → ℕ
kind_of s = word_at 2 s 4

-- ".. or its length is under 2 or over 16,380"
abbrev pub length_right : ℕ → Bool
length_right n = leb 2 n && leb n 16380

-- the record that the bytes s start with: its kind and how many bytes it takes in all, or that s ends before it does
abbrev pub record_of : List ℕ → Record
record_of s =
    cond (eqb (length s) 0) End
    (cond (ltb (length s) 4) Cut
    (cond (length_right (length_of s))
    (cond (leb (4 + length_of s) (length s)) (Whole (kind_of s) (4 + length_of s)) Cut)
    Wrong))

-- whether nothing can be said before more bytes come: none are left, or the record is cut and the input has not ended
abbrev pub waits_of : Record → Bool → Bool
waits_of End last = true
waits_of (Whole kind size) last = false
waits_of Cut last = not last
waits_of Wrong last = false
