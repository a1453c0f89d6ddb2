-- The first word of a pattern's text: what one step from the left reads.
use Rattle.std.specs.Prelude.{ℕ, Bool, true, false, not, ◌&&◌, ◌||◌, List, [], ◌∷◌, eqb, drop}
use Rattle.pattern.specs.Sets.{spans_of, width_of}
use Rattle.pattern.specs.Wildcard.{is_set}
use Rattle.regexp.specs.Language.{Atom, plain, any, set, Mark, star, plus, optional}

-- A word, and what stands behind it.
pub data Word : Type 0 where
  item : Atom → List ℕ → Word
  repeats : Mark → List ℕ → Word
  opening : List ℕ → Word
  bars : List ℕ → Word
  closing : List ℕ → Word
  -- the end of the text, or an anchor
  stops : Word
  none : Word

abbrev pub escaped_of : List ℕ → Word
escaped_of [] = none
escaped_of (b ∷ r) = item (plain b) r

abbrev pub set_by : Bool → Bool → List ℕ → Word
set_by true out s = item (set out (spans_of s)) (drop (width_of s) s)
set_by false out s = none

abbrev pub set_or_not : Bool → ℕ → List ℕ → Word
set_or_not true b s = set_by (is_set s) true s
set_or_not false b s = set_by (is_set (b ∷ s)) false (b ∷ s)

-- what stands behind a `[`
abbrev pub set_of : List ℕ → Word
set_of [] = none
set_of (b ∷ s) = set_or_not (eqb b 94) b s

-- by whether the first byte is one of `\ [ ( ) | * + ? . ^ $`
abbrev pub word_by : Bool → Bool → Bool → Bool → Bool → Bool → Bool → Bool → Bool → Bool → Bool → ℕ → List ℕ → Word
word_by true c d e f g h i j k l b r = escaped_of r
word_by false true d e f g h i j k l b r = set_of r
word_by false false true e f g h i j k l b r = opening r
word_by false false false true f g h i j k l b r = closing r
word_by false false false false true g h i j k l b r = bars r
word_by false false false false false true h i j k l b r = repeats star r
word_by false false false false false false true i j k l b r = repeats plus r
word_by false false false false false false false true j k l b r = repeats optional r
word_by false false false false false false false false true k l b r = item any r
word_by false false false false false false false false false true l b r = stops
word_by false false false false false false false false false false true b r = stops
word_by false false false false false false false false false false false b r = item (plain b) r

abbrev pub word_of : List ℕ → Word
word_of [] = stops
word_of (b ∷ r) = word_by (eqb b 92) (eqb b 91) (eqb b 40) (eqb b 41) (eqb b 124) (eqb b 42) (eqb b 43) (eqb b 63) (eqb b 46) (eqb b 94) (eqb b 36) b r

-- whether a branch of the whole pattern may end before it
abbrev pub ends : Word → Bool
ends (item a r) = false
ends (repeats m r) = false
ends (opening r) = false
ends (bars r) = true
ends (closing r) = false
ends stops = true
ends none = false

-- a byte that is none of `\ [ ( ) | . ^ $`
abbrev pub plain_byte : ℕ → Bool
plain_byte b = not (((((((eqb b 92 || eqb b 91) || eqb b 40) || eqb b 41) || eqb b 124) || eqb b 46) || eqb b 94) || eqb b 36)

-- one of `* + ?`
abbrev pub repeat_byte : ℕ → Bool
repeat_byte b = (eqb b 42 || eqb b 43) || eqb b 63

-- what most words are: a byte that stands for itself, or a repeat mark behind a piece
abbrev pub easy_at : Bool → List ℕ → Bool
easy_at some [] = false
easy_at some (b ∷ r) = plain_byte b && (some || not (repeat_byte b))
