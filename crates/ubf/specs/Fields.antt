-- From items to fields. Document 02, request 5: "one tuple of name and value by turns, the name a string"; "Untagged integers are int32, integers tagged `int64` are int64,
-- strings are strings, counted binaries are opaque."
use Rattle.std.specs.Prelude.{ℕ, ◌*◌, ◌-◌, ◌^◌, Bool, true, false, cond, List, [], ◌∷◌, ◌++◌, eqb, leb, ltb}
use Rattle.word.specs.Word.{word_bytes}
use Rattle.octets.specs.Octets.{same_of}
use Rattle.notice.specs.Field.{Field}
use Rattle.notice.specs.Write.{field}
use Rattle.ubf.specs.Item.{Item, integer, quoted, binary, mark, between, within, escaped, minus, digits, counted, ended, broken, State, state, start, run}

-- what the items so far are: none; fields, after which a name or `}` comes; fields and a name; fields, a name and an integer, after which a tag may come; fields and the `}`; or what is 23
pub data Phase : Type 0 where
  outside : Phase
  names : List Field → Phase
  value : List Field → List ℕ → Phase
  number : List Field → List ℕ → Bool → ℕ → Phase
  whole : List Field → Phase
  wrong : Phase

abbrev pub add : List Field → Field → List Field
add fs f = fs ++ (f ∷ [])

-- half of the numbers of k bytes: -half .. half - 1 fit, in two's complement
abbrev pub half : ℕ → ℕ
half k = 128 * 256 ^ (k - 1)

abbrev pub fits : ℕ → Bool → ℕ → Bool
fits k true n = leb n (half k)
fits k false n = ltb n (half k)

abbrev pub number_bytes : ℕ → Bool → ℕ → List ℕ
number_bytes k true n = word_bytes k (256 ^ k - n)
number_bytes k false n = word_bytes k n

-- an integer of k bytes is a field of this kind, or does not fit
abbrev pub as_number : ℕ → ℕ → List Field → List ℕ → Bool → ℕ → Phase
as_number kind k fs name negative n = cond (fits k negative n) (names (add fs (field kind name (number_bytes k negative n)))) wrong

abbrev pub int64 : List ℕ
int64 = 105 ∷ 110 ∷ 116 ∷ 54 ∷ 52 ∷ []

abbrev pub as_name : List Field → Item → Phase
as_name fs (integer negative n) = wrong
as_name fs (quoted q bs) = cond (eqb q 34) (value fs bs) wrong
as_name fs (binary bs) = wrong
as_name fs (mark b) = cond (eqb b 125) (whole fs) wrong

abbrev pub as_value : List Field → List ℕ → Item → Phase
as_value fs name (integer negative n) = number fs name negative n
as_value fs name (quoted q bs) = cond (eqb q 34) (names (add fs (field 4 name bs))) wrong
as_value fs name (binary bs) = names (add fs (field 5 name bs))
as_value fs name (mark b) = wrong

-- what comes after a number that has no tag
abbrev pub after_number : Phase → Item → Phase
after_number outside i = wrong
after_number (names fs) i = as_name fs i
after_number (value fs name) i = wrong
after_number (number fs name negative n) i = wrong
after_number (whole fs) i = wrong
after_number wrong i = wrong

abbrev pub as_tag : List Field → List ℕ → Bool → ℕ → Item → Phase
as_tag fs name negative n (integer m k) = wrong
as_tag fs name negative n (quoted q bs) = cond (eqb q 96) (cond (same_of bs int64) (as_number 2 8 fs name negative n) wrong) (after_number (as_number 1 4 fs name negative n) (quoted q bs))
as_tag fs name negative n (binary bs) = wrong
as_tag fs name negative n (mark b) = after_number (as_number 1 4 fs name negative n) (mark b)

abbrev pub as_tuple : Item → Phase
as_tuple (integer negative n) = wrong
as_tuple (quoted q bs) = wrong
as_tuple (binary bs) = wrong
as_tuple (mark b) = cond (eqb b 123) (names []) wrong

-- one item more
unfoldable pub next : Phase → Item → Phase
next outside i = as_tuple i
next (names fs) i = as_name fs i
next (value fs name) i = as_value fs name i
next (number fs name negative n) i = as_tag fs name negative n i
next (whole fs) i = wrong
next wrong i = wrong

-- of items, the last first
unfoldable pub phase_of : List Item → Phase
phase_of [] = outside
phase_of (i ∷ its) = next (phase_of its) i

-- what a text says: outside the syntax; inside it, but no tuple of fields; or the fields in the text's order
pub data Said : Type 0 where
  no_text : Said
  no_tuple : Said
  says : List Field → Said

abbrev pub said_by : Phase → Said
said_by outside = no_tuple
said_by (names fs) = no_tuple
said_by (value fs name) = no_tuple
said_by (number fs name negative n) = no_tuple
said_by (whole fs) = says fs
said_by wrong = no_tuple

abbrev pub said_in : State → Said
said_in (state between its d) = no_text
said_in (state (within q bs) its d) = no_text
said_in (state (escaped q bs) its d) = no_text
said_in (state minus its d) = no_text
said_in (state (digits negative n) its d) = no_text
said_in (state (counted n bs) its d) = no_text
said_in (state ended its d) = said_by (phase_of its)
said_in (state broken its d) = no_text

abbrev pub said : List ℕ → Said
said text = said_in (run start text)

-- whether a text is in the syntax, and whether it is a tuple of fields
abbrev pub in_syntax : Said → Bool
in_syntax no_text = false
in_syntax no_tuple = true
in_syntax (says fs) = true

abbrev pub is_tuple : Said → Bool
is_tuple no_text = false
is_tuple no_tuple = false
is_tuple (says fs) = true
