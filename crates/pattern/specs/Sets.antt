-- Bracket sets: what stands behind the `[` and the mark of a complement, up to the first unescaped `]`. Document 02, requests 1 and 13.
use Rattle.std.specs.Prelude.{ℕ, suc, Bool, true, false, ◌&&◌, ◌||◌, List, [], ◌∷◌, eqb, leb}
use Rattle.common.specs.Choice.{pick}

-- a member: whether it is escaped, and its byte
pub data Member : Type 0 where
  member : Bool → ℕ → Member

-- the bytes from the first to the second
pub data Span : Type 0 where
  span : ℕ → ℕ → Span

abbrev pub byte_of : Member → ℕ
byte_of (member escaped b) = b

-- an unescaped `-`
abbrev pub is_dash : Member → Bool
is_dash (member true b) = false
is_dash (member false b) = eqb b 45

-- a byte that is not escaped: it closes the set, escapes the next one, or is a member
abbrev pub member_by : Bool → Bool → ℕ → (Bool → List Member) → List Member
member_by true escape b more = []
member_by false true b more = more true
member_by false false b more = member false b ∷ more false

-- "a backslash makes the next byte plain, in a set too. In a set the first unescaped `]` closes"; the first argument: whether the next byte is escaped
abbrev pub members : Bool → List ℕ → List Member
members escaped [] = []
members true (b ∷ r) = member true b ∷ members false r
members false (b ∷ r) = member_by (eqb b 93) (eqb b 92) b (λ escaped. members escaped r)

-- "a member, `-` and a member is a range, read from the left; other bytes are plain"
abbrev pub spans : List Member → List Span
spans [] = []
spans (a ∷ []) = span (byte_of a) (byte_of a) ∷ []
spans (a ∷ d ∷ []) = span (byte_of a) (byte_of a) ∷ (span (byte_of d) (byte_of d) ∷ [])
spans (a ∷ d ∷ b ∷ r) =
    pick (is_dash d) (λ _. span (byte_of a) (byte_of b) ∷ spans r) (λ _. span (byte_of a) (byte_of a) ∷ spans (d ∷ b ∷ r))

abbrev pub spans_of : List ℕ → List Span
spans_of s = spans (members false s)

abbrev pub in_span : Span → ℕ → Bool
in_span (span low high) c = leb low c && leb c high

-- whether a byte is in a set
abbrev pub in_spans : List Span → ℕ → Bool
in_spans [] c = false
in_spans (x ∷ xs) c = in_span x c || in_spans xs c

-- whether an unescaped `]` closes the set
abbrev pub closes_by : Bool → Bool → (Bool → Bool) → Bool
closes_by true escape more = true
closes_by false true more = more true
closes_by false false more = more false

abbrev pub closes : Bool → List ℕ → Bool
closes escaped [] = false
closes true (b ∷ r) = closes false r
closes false (b ∷ r) = closes_by (eqb b 93) (eqb b 92) (λ escaped. closes escaped r)

abbrev pub is_closed : List ℕ → Bool
is_closed s = closes false s

-- no range falls
abbrev pub rises : List Span → Bool
rises [] = true
rises (span low high ∷ xs) = leb low high && rises xs

abbrev pub is_empty : List Span → Bool
is_empty [] = true
is_empty (x ∷ xs) = false

-- how many bytes the set takes, with the `]`
abbrev pub width_by : Bool → Bool → (Bool → ℕ) → ℕ
width_by true escape more = 1
width_by false true more = suc (more true)
width_by false false more = suc (more false)

abbrev pub width_from : Bool → List ℕ → ℕ
width_from escaped [] = 0
width_from true (b ∷ r) = suc (width_from false r)
width_from false (b ∷ r) = width_by (eqb b 93) (eqb b 92) (λ escaped. width_from escaped r)

abbrev pub width_of : List ℕ → ℕ
width_of s = width_from false s
