-- The count as a function, by the first bytes of each character, for what cites it in a term. specs/Theorems.antt says that it is the count of specs/Utf8.antt.
use Rattle.std.specs.Prelude.{ℕ, zero, suc, ◌+◌, ◌*◌, ◌<◌, ◌≤◌, ◌≡◌, Bool, cond, ◌&&◌, ◌||◌, List, [], ◌∷◌, ◌++◌, leb, ltb, length, get_or, drop, Option, Some, None}
use Rattle.common.specs.Each.{Each}
use Rattle.utf8.specs.Utf8.{Scalar, encode_all, WellFormed}

-- section 4: "UTF8-tail = %x80-BF"
abbrev pub is_continuation : ℕ → Bool
is_continuation b = leb 0x80 b && ltb b 0xC0

-- the first two bytes, as a number
abbrev pub first_two : ℕ → ℕ → ℕ
first_two b c = 256 * b + c

-- "UTF8-2 = %xC2-DF UTF8-tail", for a lead byte below E0
abbrev pub is_two : ℕ → ℕ → Bool
is_two b c = leb 0xC2 b && is_continuation c

-- "UTF8-3 = %xE0 %xA0-BF UTF8-tail / %xE1-EC 2( UTF8-tail ) / %xED %x80-9F UTF8-tail / %xEE-EF 2( UTF8-tail )", for one below F0: the first two bytes are E0 A0 to ED 9F or from EE on
abbrev pub is_three : ℕ → ℕ → ℕ → Bool
is_three b c d = (is_continuation c && is_continuation d) && (leb 0xE0A0 (first_two b c) && (ltb (first_two b c) 0xEDA0 || leb 0xEE00 (first_two b c)))

-- "UTF8-4 = %xF0 %x90-BF 2( UTF8-tail ) / %xF1-F3 3( UTF8-tail ) / %xF4 %x80-8F 2( UTF8-tail )": the first two bytes are F0 90 to F4 8F
abbrev pub is_four : ℕ → ℕ → ℕ → ℕ → Bool
is_four b c d e = (is_continuation c && (is_continuation d && is_continuation e)) && (leb 0xF090 (first_two b c) && ltb (first_two b c) 0xF490)

-- how many bytes the character has that begins with these, 0 if none does: a lead byte from E0 on, and any
abbrev pub long_width : ℕ → ℕ → ℕ → ℕ → ℕ
long_width b c d e = cond (ltb b 0xF0) (cond (is_three b c d) 3 0) (cond (is_four b c d e) 4 0)

abbrev pub width_by : ℕ → ℕ → ℕ → ℕ → ℕ
width_by b c d e = cond (ltb b 0x80) 1 (cond (ltb b 0xE0) (cond (is_two b c) 2 0) (long_width b c d e))

-- the same of the character at i; past the end stand zeros, which are no continuation bytes
abbrev pub width_at : List ℕ → ℕ → ℕ
width_at s i = width_by (get_or s i 0) (get_or s (i + 1) 0) (get_or s (i + 2) 0) (get_or s (i + 3) 0)

-- a width of 0 is none
abbrev pub unless_zero : ℕ → Option ℕ
unless_zero zero = None
unless_zero (suc k) = Some (suc k)

-- one character more
abbrev pub one_more : Option ℕ → Option ℕ
one_more (Some n) = Some (suc n)
one_more None = None

-- a character of that width, and what its other bytes lead to
abbrev pub start_by : ℕ → (ℕ → Option ℕ) → Option ℕ
start_by zero f = None
start_by (suc k) f = one_more (f k)

-- the count behind k bytes
abbrev pub count_from : ℕ → List ℕ → Option ℕ
count_from zero [] = Some 0
count_from zero (b ∷ r) = start_by (width_at (b ∷ r) 0) (λ k. count_from k r)
count_from (suc k) [] = Some 0
count_from (suc k) (b ∷ r) = count_from k r

abbrev pub count_of : List ℕ → Option ℕ
count_of s = count_from 0 s

-- n bytes from i on are there and ASCII: each is a character
pub record Ascii (s : List ℕ) (i n : ℕ) : Type 0 where
  pub there : i + n ≤ length s
  pub low : (j : ℕ) → j < n → get_or s (i + j) 0 < 128

-- the first k bytes of z are m characters
pub record Begins (z : List ℕ) (k m : ℕ) : Type 0 where
  pub cs : List ℕ
  pub scalars : Each Scalar cs
  pub bytes : encode_all cs ++ drop k z ≡ z
  pub many : length cs ≡ m
  pub some : 0 < k
  pub fits : k ≤ length z
  pub few : m ≤ k

-- how many characters k bytes are that are one character or a run of ASCII: no character has more than four bytes
abbrev pub characters_in : ℕ → ℕ
characters_in k = cond (ltb 4 k) k 1

-- the first k bytes of z are whole characters; with none no character begins z
abbrev pub Advances : List ℕ → Option ℕ → Type 0
Advances z None = WellFormed z → ⊥
Advances z (Some k) = Begins z k (characters_in k)
