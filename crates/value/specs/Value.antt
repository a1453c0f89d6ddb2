-- Values and items, and what each operator and function gives on them. Document 01, "Meaning" and "Table"; document 02, requests 1 and 2.
-- `bottom` stands for a name that is missing and for every value that there is not. A text is its bytes, a folded one already folded.
use Rattle.std.specs.Prelude.{ℕ, ◌%◌, ◌^◌, Bool, true, false, cond, ◌&&◌, ◌||◌, List, [], ◌∷◌, map, eqb, ℤ, pos, length, take, drop, Float, Option as Optional, Some, None}
use Rattle.std.proofs.Math.Option.{Option, some, none}
use Rattle.std.specs.Float.{binary64}
use Rattle.std.specs.Float.Ieee.{is_nan, of_bits}
use Rattle.std.specs.Int.{w32, w64}
use Rattle.std.proofs.Common.{to_z}
use Rattle.common.specs.Choice.{pick}
use Rattle.word.specs.Word.{word_at}
use Rattle.truth.specs.declared.Truth.{Truth}
use Rattle.truth.specs.declared.Truth.TheVariants.{False, Bottom, True}
use Rattle.truth.specs.Truth.{not_of, and_of, xor_of, or_of, of_bool}
use Rattle.octets.specs.Octets.{folded, same_of, begins_of, contains_of, ends_of}
use Rattle.utf8.specs.Scan.{count_of}
use Rattle.pattern.specs.Wildcard.{wildcard_of}
use Rattle.regexp.specs.Regex.{regex_of}
use Rattle.opcode.specs.Opcode.{Kind}
use Rattle.opcode.specs.declared.Edition.{Edition}
use Rattle.opcode.specs.declared.Load.{Load}
use Rattle.opcode.specs.declared.Change.{Change}
use Rattle.opcode.specs.declared.Test.{Test}
use Rattle.opcode.specs.declared.Unary.{Unary}
use Rattle.opcode.specs.declared.Combine.{Combine}
use Rattle.opcode.specs.declared.Compare.{Compare}
use Rattle.opcode.specs.declared.Connective.{Connective}
use Rattle.opcode.specs.declared.Binary.{Binary}
use Rattle.opcode.specs.declared.Fit.{Fit}
use Rattle.opcode.specs.declared.Many.{Many}
use Rattle.number.specs.declared.Number.{Number}
use Rattle.number.specs.Number.{arithmetic_of, bitwise_of, complement_of, shift_of, equal_of, order_of}
use Rattle.notice.specs.declared.FoundField.{FoundField}
use Rattle.notice.specs.Field.{Field}
use Rattle.notice.specs.Lookup.{lookup_of}

pub data Value : Type 0 where
  bottom : Value
  int32 : ℤ → Value
  int64 : ℤ → Value
  real : Float → Value
  text : List ℕ → Value
  opaque : List ℕ → Value

-- "A slot holds a truth value or a value of some type"
pub data Item : Type 0 where
  logic : Truth → Item
  value : Value → Item

-- The number that a value is, and the value that a number is; what is no number is bottom.
abbrev pub number_of : Value → Number
number_of bottom = Number.None
number_of (int32 z) = Number.Int32 z
number_of (int64 z) = Number.Int64 z
number_of (real x) = Number.Real x
number_of (text s) = Number.None
number_of (opaque s) = Number.None

abbrev pub value_of : Number → Value
value_of (Number.Int32 z) = int32 z
value_of (Number.Int64 z) = int64 z
value_of (Number.Real x) = real x
value_of Number.None = bottom

-- The type of a value by the number of "Kinds: 1 int32 .., 2 int64 .., 3 real64 .., 4 string, 5 opaque", 0 where it is bottom.
abbrev pub type_of : Value → ℕ
type_of bottom = 0
type_of (int32 z) = 1
type_of (int64 z) = 2
type_of (real x) = 3
type_of (text s) = 4
type_of (opaque s) = 5

abbrev pub is_text : Value → Bool
is_text v = eqb (type_of v) 4

-- the bytes of a text, and none of what is no text
abbrev pub text_in : Value → List ℕ
text_in bottom = []
text_in (int32 z) = []
text_in (int64 z) = []
text_in (real x) = []
text_in (text s) = s
text_in (opaque s) = []

-- "`fold-case` turns A..Z to a..z and keeps other bytes; bottom for a non-string."
abbrev pub fold_case_of : Value → Value
fold_case_of v = cond (is_text v) (text (folded true (text_in v))) bottom

-- Document 02, request 2: "For a string, `size` is to be the number of UTF-8 characters, and bottom if the bytes are not well-formed UTF-8 (RFC 3629). Opaque values keep their byte count."
abbrev pub size_by : Optional ℕ → Value
size_by (Some n) = int32 (pos n)
size_by None = bottom

-- ".. as int32; else bottom."
abbrev pub size_of : Value → Value
size_of bottom = bottom
size_of (int32 z) = bottom
size_of (int64 z) = bottom
size_of (real x) = bottom
size_of (text s) = size_by (count_of s)
size_of (opaque s) = int32 (pos (length s))

-- "6 `fold-case`, 7 `size`, 8 `~`"
abbrev pub change_of : Change → Value → Value
change_of Change.FoldCase v = fold_case_of v
change_of Change.Size v = size_of v
change_of Change.Complement v = value_of (complement_of (number_of v))

-- what holds of a present value, and bottom of bottom
abbrev pub if_present : Value → Truth → Truth
if_present v t = cond (eqb (type_of v) 0) Bottom t

-- "Type tests: bottom if missing."
abbrev pub type_test : ℕ → Value → Truth
type_test type v = if_present v (of_bool (eqb (type_of v) type))

-- "`nan`: false for other present values."
abbrev pub nan_of : Value → Truth
nan_of bottom = Bottom
nan_of (int32 z) = False
nan_of (int64 z) = False
nan_of (real x) = of_bool (is_nan x)
nan_of (text s) = False
nan_of (opaque s) = False

-- "48..54: `int32 int64 real64 string opaque nan require`"; "`require`: true or bottom."
abbrev pub test_of : Test → Value → Truth
test_of Test.Int32 v = type_test 1 v
test_of Test.Int64 v = type_test 2 v
test_of Test.Real64 v = type_test 3 v
test_of Test.Text v = type_test 4 v
test_of Test.Opaque v = type_test 5 v
test_of Test.Nan v = nan_of v
test_of Test.Require v = if_present v True

-- "16..26: `<< >> >>> & ^ | * / % + -`": numbers only
abbrev pub combine_numbers : Edition → Combine → Number → Number → Number
combine_numbers e (Combine.Shift o) a b = shift_of e o a b
combine_numbers e (Combine.Bitwise o) a b = bitwise_of o a b
combine_numbers e (Combine.Arithmetic o) a b = arithmetic_of o a b

abbrev pub combine_of : Edition → Combine → Value → Value → Value
combine_of e o v w = value_of (combine_numbers e o (number_of v) (number_of w))

-- "string with string by bytes, number with number; otherwise bottom"
abbrev pub equal_values : Value → Value → Truth
equal_values v w = cond (is_text v && is_text w) (of_bool (same_of (text_in v) (text_in w))) (equal_of (number_of v) (number_of w))

-- "32..37: `== != < <= > >=`"; "`!=` is the negation of `==`. Order: numbers only."
abbrev pub compare_of : Compare → Value → Value → Truth
compare_of Compare.Equal v w = equal_values v w
compare_of Compare.NotEqual v w = not_of (equal_values v w)
compare_of (Compare.Order o) v w = order_of o (number_of v) (number_of w)

-- "41 `&&`, 42 `^^`, 43 `||`"
abbrev pub connect_of : Connective → Truth → Truth → Truth
connect_of Connective.And s t = and_of s t
connect_of Connective.Xor s t = xor_of s t
connect_of Connective.Or s t = or_of s t

-- whether a literal fits: "`begins-with contains ends-with`"; document 02, request 1: `wildcard`, "Same argument forms as `begins-with`, same bottom rule"; request 13: `regex`, "Argument and bottom rules as for `begins-with`"
abbrev pub fit_of : Fit → List ℕ → List ℕ → Bool
fit_of Fit.BeginsWith s p = begins_of s p
fit_of Fit.Contains s p = contains_of s p
fit_of Fit.EndsWith s p = ends_of s p
fit_of Fit.Wildcard s p = wildcard_of s p
fit_of Fit.Regex s p = regex_of s p

abbrev pub all_texts : List Value → Bool
all_texts [] = true
all_texts (w ∷ ws) = is_text w && all_texts ws

abbrev pub any_fits : Fit → List ℕ → List Value → Bool
any_fits f s [] = false
any_fits f s (w ∷ ws) = fit_of f s (text_in w) || any_fits f s ws

-- "bottom if the first is no string, true if any literal fits, else false"; "In 56..58 a later operand that is no string gives bottom."; 60 and 61 likewise
abbrev pub any_fit : Fit → Value → List Value → Truth
any_fit f v ws = cond (is_text v && all_texts ws) (of_bool (any_fits f (text_in v) ws)) Bottom

-- "`equals` is `==` with each, joined by `||`."
abbrev pub any_equal : Value → List Value → Truth
any_equal v [] = False
any_equal v (w ∷ ws) = or_of (equal_values v w) (any_equal v ws)

-- "56..59: `begins-with contains ends-with equals`", 60: `wildcard`, 61: `regex`, of the first operand and the later ones in their order
abbrev pub many_of : Many → Value → List Value → Truth
many_of (Many.Fit f) v ws = any_fit f v ws
many_of Many.Equals v ws = any_equal v ws

-- On items, for all operands: an item of the other kind counts as bottom.
abbrev pub truth_in : Item → Truth
truth_in (logic t) = t
truth_in (value v) = Bottom

abbrev pub value_in : Item → Value
value_in (logic t) = bottom
value_in (value v) = v

-- whether an item is bottom: the truth value, or a value that there is not
abbrev pub is_bottom : Item → Bool
is_bottom (logic False) = false
is_bottom (logic Bottom) = true
is_bottom (logic True) = false
is_bottom (value v) = eqb (type_of v) 0

abbrev pub unary_of : Unary → Item → Item
unary_of Unary.Not x = logic (not_of (truth_in x))
unary_of (Unary.Change o) x = value (change_of o (value_in x))
unary_of (Unary.Test o) x = logic (test_of o (value_in x))

abbrev pub binary_of : Edition → Binary → Item → Item → Item
binary_of e (Binary.Combine o) x y = value (combine_of e o (value_in x) (value_in y))
binary_of e (Binary.Compare o) x y = logic (compare_of o (value_in x) (value_in y))
binary_of e (Binary.Connect o) x y = logic (connect_of o (truth_in x) (truth_in y))

abbrev pub many_items : Many → Item → List Item → Item
many_items o x ys = logic (many_of o (value_in x) (map value_in ys))

abbrev pub kind_of : Item → Kind
kind_of (logic t) = Kind.logic
kind_of (value v) = Kind.value

-- bottom of either kind
abbrev pub bottom_of : Kind → Item
bottom_of Kind.logic = logic Bottom
bottom_of Kind.value = value bottom

-- the operators of two operands that bottom on either side makes bottom: all but `&&` and `||`
abbrev pub is_strict : Binary → Bool
is_strict (Binary.Combine o) = true
is_strict (Binary.Compare o) = true
is_strict (Binary.Connect Connective.And) = false
is_strict (Binary.Connect Connective.Xor) = true
is_strict (Binary.Connect Connective.Or) = false

-- One later operand after the other: what is known of the first before any of them, and what is known with one more.
abbrev pub start_of : Many → Item → Truth
start_of (Many.Fit f) x = cond (is_text (value_in x)) False Bottom
start_of Many.Equals x = False

-- `||` of two that are known, else bottom
abbrev pub strict_or : Truth → Truth → Truth
strict_or Bottom t = Bottom
strict_or False t = t
strict_or True Bottom = Bottom
strict_or True False = True
strict_or True True = True

abbrev pub join_of : Many → Truth → Truth → Truth
join_of (Many.Fit f) s t = strict_or s t
join_of Many.Equals s t = or_of s t

-- whether one more can change what is known
abbrev pub open_of : Many → Truth → Bool
open_of (Many.Fit f) False = true
open_of (Many.Fit f) Bottom = false
open_of (Many.Fit f) True = true
open_of Many.Equals False = true
open_of Many.Equals Bottom = true
open_of Many.Equals True = false

-- the first operand beside one later one
abbrev pub fit_values : Fit → Value → Value → Truth
fit_values f v w = cond (is_text v && is_text w) (of_bool (fit_of f (text_in v) (text_in w))) Bottom

abbrev pub beside_of : Many → Value → Value → Truth
beside_of (Many.Fit f) v w = fit_values f v w
beside_of Many.Equals v w = equal_values v w

abbrev pub more_of : Many → Item → Truth → Item → Truth
more_of o x known y = join_of o known (beside_of o (value_in x) (value_in y))

abbrev pub tally_of : Many → Item → Truth → List Item → Truth
tally_of o x known [] = known
tally_of o x known (y ∷ ys) = tally_of o x (more_of o x known y) ys

-- A field's value. "Kinds: 1 int32 (4 bytes), 2 int64 (8), 3 real64 (8, bits), 4 string, 5 opaque"; a byte that is not there counts as 0.
abbrev pub field_value : ℕ → List ℕ → Value
field_value kind bytes =
    pick (eqb kind 1) (λ _. int32 (to_z w32 (word_at 4 bytes 0)))
    (λ _. pick (eqb kind 2) (λ _. int64 (to_z w64 (word_at 8 bytes 0)))
    (λ _. pick (eqb kind 3) (λ _. real (of_bits binary64 (word_at 8 bytes 0)))
    (λ _. pick (eqb kind 4) (λ _. text bytes)
    (λ _. pick (eqb kind 5) (λ _. opaque bytes) (λ _. bottom)))))

abbrev pub found_value : List ℕ → Optional FoundField → Value
found_value notice (Some f) = field_value f.kind (take f.len (drop f.start notice))
found_value notice None = bottom

-- "5 the field's or bottom"; "A missing name is bottom"
abbrev pub value_named : List ℕ → List ℕ → Value
value_named notice name = found_value notice (lookup_of notice name)

-- the same of a list of fields
abbrev pub named_value : Option Field → Value
named_value none = bottom
named_value (some f) = field_value f.kind f.value

-- "4 string, 5 name (a length, b pool offset ..)": an offset has 16 bits
abbrev pub in_pool : List ℕ → ℕ → ℕ → List ℕ
in_pool pool a b = take a (drop (b % 2 ^ 16) pool)

-- "Ops 1..4 push their value, 5 the field's or bottom."; "1 int32, 2 int64, 3 real64 (b: two's complement or bits, int32 widened by sign and in range)": an int32 is b's low 32 bits
abbrev pub load_of : List ℕ → List ℕ → Load → ℕ → ℕ → Item
load_of pool notice Load.Int32 a b = value (int32 (to_z w32 (b % 2 ^ 32)))
load_of pool notice Load.Int64 a b = value (int64 (to_z w64 b))
load_of pool notice Load.Real64 a b = value (real (of_bits binary64 b))
load_of pool notice Load.Text a b = value (text (in_pool pool a b))
load_of pool notice Load.Name a b = value (value_named notice (in_pool pool a b))
