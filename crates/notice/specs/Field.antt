-- A field, what is right of one field by itself, and the order of names. Document 01, "Notice".
use Rattle.std.specs.Prelude.{ℕ, Bool, true, false, cond, ◌&&◌, ◌||◌, List, [], ◌∷◌, length, ◌==◌, nat_le}
use Rattle.octets.specs.Octets.{before_of}

pub record Field : Type 0 where
  pub kind : ℕ
  pub name : List ℕ
  pub value : List ℕ

-- "name (bytes 32..126)"
abbrev pub printable : List ℕ → Bool
printable [] = true
printable (b ∷ bs) = (nat_le 32 b && nat_le b 126) && printable bs

-- "u8 name length 1..64; name (bytes 32..126)"
abbrev pub name_right : List ℕ → Bool
name_right name = (nat_le 1 (length name) && nat_le (length name) 64) && printable name

-- "Kinds: 1 int32 (4 bytes), 2 int64 (8), 3 real64 (8, bits), 4 string, 5 opaque (each 0..1,024)."
abbrev pub size_right : ℕ → ℕ → Bool
size_right kind size =
    cond (kind == 1) (size == 4)
    (cond (kind == 2 || kind == 3) (size == 8)
    (cond (kind == 4 || kind == 5) (nat_le size 1024)
    false))

-- a field that is right by itself
abbrev pub field_right : Field → Bool
field_right f = name_right f.name && size_right f.kind (length f.value)

abbrev pub all_right : List Field → Bool
all_right [] = true
all_right (f ∷ fs) = field_right f && all_right fs

-- whether a name is before that of the first of some fields
abbrev pub before_first : List ℕ → List Field → Bool
before_first name [] = true
before_first name (f ∷ fs) = before_of name f.name

-- "Names rise strictly by bytes, a prefix before the longer."
abbrev pub rising : List Field → Bool
rising [] = true
rising (f ∷ fs) = before_first f.name fs && rising fs
