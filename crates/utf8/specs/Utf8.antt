-- UTF-8 as RFC 3629 gives it: the encoding of a character number, and the strings that such encodings make up.
use Rattle.std.specs.Prelude.{ℕ, ◌+◌, ◌/◌, ◌%◌, ◌<◌, ◌≤◌, ◌≡◌, ◌⊎◌, cond, List, [], ◌∷◌, ◌++◌, ltb, length, Option, Some, None}
use Rattle.common.specs.Each.{Each}

-- a Unicode scalar value: "characters from the U+0000..U+10FFFF range"; "prohibits encoding character numbers between U+D800 and U+DFFF"
abbrev pub Scalar : ℕ → Type 0
Scalar c = (c < 0x110000) × ((c < 0xD800) ⊎ (0xE000 ≤ c))

-- a continuation byte: "10xxxxxx", with the last six bits
abbrev pub continuation : ℕ → ℕ
continuation c = 0x80 + c % 64

-- The table of section 3: up to 7F "0xxxxxxx", up to 7FF "110xxxxx 10xxxxxx", up to FFFF "1110xxxx 10xxxxxx 10xxxxxx", and "11110xxx 10xxxxxx 10xxxxxx 10xxxxxx".
abbrev pub encode : ℕ → List ℕ
encode c =
    cond (ltb c 0x80) (c ∷ [])
    (cond (ltb c 0x800) ((0xC0 + c / 64) ∷ (continuation c ∷ []))
    (cond (ltb c 0x10000) ((0xE0 + c / 4096) ∷ (continuation (c / 64) ∷ (continuation c ∷ [])))
    ((0xF0 + c / 262144) ∷ (continuation (c / 4096) ∷ (continuation (c / 64) ∷ (continuation c ∷ []))))))

-- the encodings of characters, one after the other
abbrev pub encode_all : List ℕ → List ℕ
encode_all [] = []
encode_all (c ∷ cs) = encode c ++ encode_all cs

-- s is the encoding of the characters cs
pub record Decodes (s cs : List ℕ) : Type 0 where
  pub scalars : Each Scalar cs
  pub bytes : encode_all cs ≡ s

abbrev pub WellFormed : List ℕ → Type 0
WellFormed s = (cs : List ℕ) × Decodes s cs

-- s is well-formed, of n characters
abbrev pub HasCharacters : List ℕ → ℕ → Type 0
HasCharacters s n = (cs : List ℕ) × Decodes s cs × (length cs ≡ n)

-- an answer that is right of s
abbrev pub Counts : List ℕ → Option ℕ → Type 0
Counts s (Some n) = HasCharacters s n
Counts s None = WellFormed s → ⊥
