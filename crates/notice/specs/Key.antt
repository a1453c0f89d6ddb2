-- A name's key: its first eight bytes as one number. Names with other keys have the keys' order. Document 01, "Notice": "Names rise strictly by bytes, a prefix before the longer."
use Rattle.std.specs.Prelude.{◌≡◌, ℕ, true, cond, List, [], ◌==◌, ◌≢◌}
use Rattle.octets.specs.Octets.{lead}
use Rattle.notice.specs.Field.{printable, name_right}
use Rattle.notice.specs.Layout.{name_at, lies_at, right_at}

abbrev pub key_of : List ℕ → ℕ
key_of name = lead 8 0 name

-- the key of a name that is right, 0 of any other: no right name has the key 0
abbrev pub right_key : List ℕ → ℕ
right_key name = cond (name_right name) (key_of name) 0

-- .. of the name of a field that is right by itself
abbrev pub key_at : List ℕ → ℕ → ℕ
key_at s at = cond (right_at s at) (key_of (name_at s at)) 0

-- the name of the last field, which starts at `last`; before the first field there is none, and `last` is 0
abbrev pub last_name_at : List ℕ → ℕ → List ℕ
last_name_at s last = cond (last == 0) [] (name_at s last)

-- what is known of the last field: it lies within the notice, its name is right, and this is its key
pub record Last (s : List ℕ) (last key : ℕ) : Type 0 where
  pub lies : (last ≢ 0) → lies_at s last ≡ true
  pub right : printable (last_name_at s last) ≡ true
  pub key_is : key ≡ key_of (last_name_at s last)
