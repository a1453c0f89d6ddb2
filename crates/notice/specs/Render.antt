-- A list of fields as bytes. Document 01, "Notice".
use Rattle.std.specs.Prelude.{◌≡◌, ℕ, ◌+◌, ◌≤◌, true, List, [], ◌∷◌, ◌++◌, length}
use Rattle.word.specs.Word.{word_bytes}
use Rattle.notice.specs.Field.{Field, all_right, rising}

-- "Field: u16 length of all after it; u16 kind; u8 name length 1..64; name (bytes 32..126); the value takes the rest."
abbrev pub field_bytes : Field → List ℕ
field_bytes f = word_bytes 2 (3 + length f.name + length f.value) ++ (word_bytes 2 f.kind ++ (length f.name ∷ (f.name ++ f.value)))

abbrev pub fields_bytes : List Field → List ℕ
fields_bytes [] = []
fields_bytes (f ∷ fs) = field_bytes f ++ fields_bytes fs

-- "u32 length of all after it; u16 kind 1; u16 field count 0..64"
abbrev pub header_bytes : ℕ → ℕ → List ℕ
header_bytes size count = word_bytes 4 (4 + size) ++ (word_bytes 2 1 ++ word_bytes 2 count)

-- "u32 length of all after it; u16 kind 1; u16 field count 0..64; fields"
abbrev pub render : List Field → List ℕ
render fs = header_bytes (length (fields_bytes fs)) (length fs) ++ fields_bytes fs

-- the lists of fields that are those of a notice: "field count 0..64", right fields, "Names rise strictly", "Whole notice at most 16,384 bytes"
pub record NoticeFields (fs : List Field) : Type 0 where
  pub few : length fs ≤ 64
  pub right : all_right fs ≡ true
  pub rises : rising fs ≡ true
  pub short : length (render fs) ≤ 16384
