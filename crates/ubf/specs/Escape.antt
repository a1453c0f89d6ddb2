-- The bytes of a quoted item as they stand in a text. Source document 001: "([^\\"] | '\\\\' | '\\"')*", and likewise for the other delimiters.
use Rattle.std.specs.Prelude.{ℕ, suc, ◌≤◌, ◌<◌, ◌≡◌, Bool, true, false, cond, not, ◌&&◌, ◌||◌, List, [], ◌∷◌, ◌++◌, eqb, ltb, length, get_or, take, drop}
use Rattle.ubf.specs.Byte.{is}

-- "escapes only where needed": the delimiter and the backslash have one
abbrev pub needs_escape : ℕ → ℕ → Bool
needs_escape q b = eqb b q || is "\\" b

abbrev pub escape_of : ℕ → ℕ → List ℕ
escape_of q b = cond (needs_escape q b) (92 ∷ b ∷ []) (b ∷ [])

unfoldable pub escapes : ℕ → List ℕ → List ℕ
escapes q [] = []
escapes q (b ∷ bs) = escape_of q b ++ escapes q bs

-- the same bytes without escapes; whether a backslash that escapes was just read
unfoldable pub unescapes_by : Bool → List ℕ → List ℕ
unescapes_by after [] = []
unescapes_by true (b ∷ bs) = b ∷ unescapes_by false bs
unescapes_by false (b ∷ bs) = cond (is "\\" b) (unescapes_by true bs) (b ∷ unescapes_by false bs)

abbrev pub unescaped : List ℕ → List ℕ
unescaped s = unescapes_by false s

-- whether the backslash at a place stands before itself or the delimiter
abbrev pub escape_right : List ℕ → ℕ → ℕ → Bool
escape_right text at q = ltb (suc at) (length text) && needs_escape q (get_or text (suc at) 0)

-- n bytes that stand in a text from a place on, with escapes or without any
abbrev pub bytes_in : List ℕ → ℕ → ℕ → Bool → List ℕ
bytes_in text at n true = take n (unescaped (drop at text))
bytes_in text at n false = take n (drop at text)

-- where the byte that starts at a place itself stands: after its backslash, if it has one
abbrev pub byte_place : List ℕ → ℕ → Bool → ℕ
byte_place text at escaped = cond (escaped && eqb (get_or text at 0) 92) (suc at) at

-- none of the bytes is q
abbrev pub lacking : ℕ → List ℕ → Bool
lacking q [] = true
lacking q (b ∷ bs) = not (eqb b q) && lacking q bs

-- from a place to another no byte has an escape
abbrev pub Plain : List ℕ → ℕ → ℕ → ℕ → Type 0
Plain s q at end = (i : ℕ) → at ≤ i → i < end → needs_escape q (get_or s i 0) ≡ false

-- .. and r is the place of the first that has one, or the length
pub record PlainTo (s : List ℕ) (q at r : ℕ) : Type 0 where
  pub after : at ≤ r
  pub near : r ≤ length s
  pub plain : Plain s q at r
  pub stops : r < length s → needs_escape q (get_or s r 0) ≡ true
