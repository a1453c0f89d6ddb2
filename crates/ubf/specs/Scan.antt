-- Inside the code: what scanning one item of a text answers, by the places where it ends. The machine is that of specs/Item.antt.
use Rattle.std.specs.Prelude.{ℕ, suc, ◌+◌, ◌*◌, ◌-◌, ◌≤◌, ◌<◌, ◌≡◌, Bool, true, false, not, ◌||◌, List, [], ◌∷◌, ◌⊎◌, length, get_or, take, drop}
use Rattle.ubf.specs.Byte.{is, is_space, is_digit, digit_of}
use Rattle.ubf.specs.Escape.{escapes}
use Rattle.ubf.specs.Item.{Item, integer, quoted, binary, mark, between, within, digits, counted, State, state, run, closed}
use Rattle.ubf.specs.Fields.{Said, no_text, said_in, in_syntax}
use Rattle.ubf.specs.declared.syntax.Progress.{Progress}

-- what a text says, where the machine stands in a state before its byte `at`
abbrev pub onward : List ℕ → ℕ → State → Said
onward text at s = said_in (run s (drop at text))

-- the bytes from a place to another
abbrev pub part : List ℕ → ℕ → ℕ → List ℕ
part text a b = take (b - a) (drop a text)

-- a number, or that it is at least 2 ^ 64 - 1: no integer that fits is, and no text has as many bytes
abbrev pub Capped : ℕ → ℕ → Type 0
Capped n c = (c ≡ n) ⊎ ((18446744073709551614 < c) × (18446744073709551614 < n))

-- a size with one digit more
abbrev pub Grows : ℕ → ℕ → ℕ → Type 0
Grows size b r = (n : ℕ) → Capped n size → Capped (n * 10 + digit_of b) r

-- a quoted item, whose bytes start at `at`, closes at `end`: its bytes, and how many of them have an escape
pub record Closes (text : List ℕ) (at q end count : ℕ) : Type 0 where
  pub after : at ≤ end
  pub bytes : List ℕ
  pub stands : part text at end ≡ escapes q bytes
  pub count_is : at + (count + length bytes) ≡ end
  pub goes : (its : List Item) (d : ℕ) → onward text at (state (within q []) its d) ≡ onward text (suc end) (state between (closed q bytes its) d)

-- where it closes, or the text's length if it does not
pub record QuotedIs (text : List ℕ) (at q end count : ℕ) : Type 0 where
  pub near : end ≤ length text
  pub closes : end < length text → Closes text at q end count
  pub unclosed : length text ≤ end → (its : List Item) (d : ℕ) → onward text at (state (within q []) its d) ≡ no_text

-- "White space and comments are ignored": the place after them
abbrev pub is_blank : ℕ → Bool
is_blank b = is_space b || is "%" b

pub record BlanksTo (text : List ℕ) (at r : ℕ) : Type 0 where
  pub after : at ≤ r
  pub near : r ≤ length text
  pub item : r < length text → is_blank (get_or text r 0) ≡ false
  pub goes : (its : List Item) (d : ℕ) → onward text at (state between its d) ≡ onward text r (state between its d)

-- digits from `first` to `end`, after which none stands; a sign may stand before them
pub record DigitsTo (text : List ℕ) (first size end : ℕ) : Type 0 where
  pub after : first ≤ end
  pub near : end ≤ length text
  pub digit : first < end → is_digit (get_or text first 0) ≡ true
  pub none : end ≤ first → first < length text → is_digit (get_or text first 0) ≡ false
  pub exact : ℕ
  pub capped : Capped exact size
  pub goes : (negative : Bool) (its : List Item) (d : ℕ) → onward text first (state (digits negative 0) its d) ≡ onward text end (state between (integer negative exact ∷ its) d)

-- an integer, by sign and size, from `at` to `end`
pub record Reads (text : List ℕ) (at : ℕ) (negative : Bool) (size end : ℕ) : Type 0 where
  pub near : end ≤ length text
  pub exact : ℕ
  pub capped : Capped exact size
  pub goes : (its : List Item) (d : ℕ) → onward text at (state between its d) ≡ onward text end (state between (integer negative exact ∷ its) d)

-- .. or `at` for a sign without a digit
pub record IntegerIs (text : List ℕ) (at : ℕ) (negative : Bool) (size end : ℕ) : Type 0 where
  pub after : at ≤ end
  pub reads : at < end → Reads text at negative size end
  pub none : end ≤ at → (its : List Item) (d : ℕ) → onward text at (state between its d) ≡ no_text

-- a binary of `size` bytes, whose first `~` is at `at`, closes at `end`, or the text's length if it does not
pub record BinaryIs (text : List ℕ) (at size end : ℕ) : Type 0 where
  pub near : end ≤ length text
  pub closes : end < length text → (n : ℕ) → Capped n size → (end ≡ suc at + n) × (n ≡ size) × ((its : List Item) (d : ℕ) → onward text (suc at) (state (counted n []) its d) ≡ onward text (suc end) (state between (binary (part text (suc at) end) ∷ its) d))
  pub unclosed : length text ≤ end → (n : ℕ) → Capped n size → (its : List Item) (d : ℕ) → onward text (suc at) (state (counted n []) its d) ≡ no_text

-- how far the syntax was judged: whether the last item is an integer, which a `~` may take, and which
abbrev pub HeldIs : List Item → Bool → Bool → ℕ → Type 0
HeldIs [] held negative size = held ≡ false
HeldIs (integer sign n ∷ its) held negative size = (held ≡ true) × (negative ≡ sign) × Capped n size
HeldIs (quoted q bs ∷ its) held negative size = held ≡ false
HeldIs (binary bs ∷ its) held negative size = held ≡ false
HeldIs (mark b ∷ its) held negative size = held ≡ false

abbrev pub Held : List Item → Progress → Type 0
Held its p = HeldIs its p.held p.negative p.size

-- after an item that is no integer
abbrev pub passed : ℕ → ℕ → Progress
passed at depth = record { at = at; depth = depth; held = false; negative = false; size = 0 }

-- the delimiters of strings, atoms and tags
abbrev pub is_delimiter : ℕ → Bool
is_delimiter b = is "\"" b || is "'" b || is "`" b

-- a brace, a comma, or a mark of one byte: what starts no other item
abbrev pub is_mark : ℕ → Bool
is_mark b = not (is_blank b || is_delimiter b || is_digit b || is "-" b || is "~" b || is "$" b)

-- the items after one more, and that the text from there on is in the syntax exactly if it is from here on
pub record Onto (text : List ℕ) (its : List Item) (p r : Progress) : Type 0 where
  pub items : List Item
  pub held : Held items r
  pub goes : in_syntax (onward text p.at (state between its p.depth)) ≡ in_syntax (onward text r.at (state between items r.depth))

-- one item more, or the text's length for what is outside the syntax
pub record ItemIs (text : List ℕ) (p r : Progress) : Type 0 where
  pub later : p.at < r.at
  pub near : r.at ≤ length text
  pub deep : r.depth ≤ p.depth + 1
  pub onto : (its : List Item) → Held its p → Onto text its p r
