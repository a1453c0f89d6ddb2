-- The bytes of a name, of a number and of a string, with the escapes in them. Document 01, "Tokens".
-- The Bool of a definition says whether a backslash before takes the first byte.
use Rattle.std.specs.Prelude.{ℕ, zero, suc, ◌+◌, ◌≤◌, ◌≡◌, Bool, true, false, not, cond, ◌&&◌, ◌||◌, List, [], ◌∷◌, ◌++◌, eqb, length, get_or, take, drop}
use Rattle.lexer.specs.Byte.{is, within, is_delimiter, is_plain, is_common}

-- "A backslash takes the next byte": a byte is such a backslash if it is not taken itself
abbrev pub takes : Bool → ℕ → Bool
takes taken b = not taken && is "\\" b

-- what ends a string is its quote; what ends a name or a number (quote 0) is "whitespace, end, `(`, `)` or `,`"
abbrev pub ends : ℕ → ℕ → Bool
ends zero b = is_delimiter b
ends (suc q) b = eqb b (suc q)

-- the bytes up to the first one that ends them and is not taken
abbrev pub run_from : ℕ → Bool → List ℕ → List ℕ
run_from quote taken [] = []
run_from quote taken (b ∷ s) = cond (not taken && ends quote b) [] (b ∷ run_from quote (takes taken b) s)

abbrev pub run_of : ℕ → List ℕ → List ℕ
run_of quote s = run_from quote false s

-- the bytes without the backslashes that take another
abbrev pub unescaped : Bool → List ℕ → List ℕ
unescaped taken [] = []
unescaped taken (b ∷ s) = cond (takes taken b) (unescaped true s) (b ∷ unescaped false s)

-- Inside the code: the run that stands first in s, without escapes, has n bytes more than what is left of it after n bytes of s.
abbrev pub Free : ℕ → List ℕ → ℕ → Type 0
Free quote s n = (n ≤ length s) × (n + length (unescaped false (run_of quote (drop n s))) ≡ length (unescaped false (run_of quote s)))

-- Inside the code: the first n bytes of s end nothing and take nothing. The run that stands first is these and what is left of it, with and without escapes.
abbrev pub Passes : ℕ → List ℕ → ℕ → Type 0
Passes quote s n =
    (n ≤ length s)
    × (n + length (run_of quote (drop n s)) ≡ length (run_of quote s))
    × (take n s ++ unescaped false (run_of quote (drop n s)) ≡ unescaped false (run_of quote s))

-- whether there is an escape: the first backslash is one
abbrev pub has_escape : List ℕ → Bool
has_escape [] = false
has_escape (b ∷ s) = is "\\" b || has_escape s

-- "A backslash takes the next byte, which must be 32..126. Unescaped bytes must be 33..126 and none of `[ ] ' "`."
abbrev pub legal_byte : Bool → ℕ → Bool
legal_byte true b = within 32 126 b
legal_byte false b = is_plain b

abbrev pub legal_name : Bool → List ℕ → Bool
legal_name taken [] = not taken
legal_name taken (b ∷ s) = legal_byte taken b && legal_name (takes taken b) s

-- Inside the code: the name that stands first in s is as legal as what is left of it after n bytes, which end nothing and take nothing.
abbrev pub GoesOn : List ℕ → ℕ → Type 0
GoesOn s n = Passes 0 s n × (legal_name false (run_of 0 (drop n s)) ≡ legal_name false (run_of 0 s))

-- Inside the code: a word of bytes that most names have.
abbrev pub all_common : List ℕ → Bool
all_common [] = true
all_common (b ∷ s) = is_common b && all_common s

-- "After removing escapes 1..64 bytes."
abbrev pub name_fits : List ℕ → Bool
name_fits bytes = within 1 64 (length bytes)

-- "Strings stand in single or double quotes": the bytes between the quotes, and whether the closing one is there
abbrev pub body_of : List ℕ → List ℕ
body_of s = run_of (get_or s 0 0) (drop 1 s)

abbrev pub is_empty : List ℕ → Bool
is_empty s = eqb (length s) 0

abbrev pub is_closed : List ℕ → Bool
is_closed s = not (is_empty (drop (length (body_of s) + 1) s))
