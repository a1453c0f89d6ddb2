-- What holds of values and items. The proofs are in proofs/Theorems.antt, under the same names.
use Rattle.std.specs.Prelude.{◌≡◌, ◌↔◌, ◌⊎◌, true, false, ◌&&◌, List, ◌∷◌, ◌++◌, ℕ, ◌<◌, ◌^◌, T, ℤ, pos, take, drop, Float}
use Rattle.std.specs.Float.{binary64}
use Rattle.std.specs.Float.Ieee.{fits, to_bits}
use Rattle.std.specs.Int.{w32, w64}
use Rattle.std.proofs.Common.{SFits, of_z}
use Rattle.truth.specs.declared.Truth.{Truth}
use Rattle.truth.specs.declared.Truth.TheVariants.{Bottom, True}
use Rattle.truth.specs.Truth.{is_false, is_true}
use Rattle.utf8.specs.Utf8.{HasCharacters, WellFormed}
use Rattle.opcode.specs.Opcode.{Kind, unary_takes, unary_gives, binary_takes, binary_gives}
use Rattle.opcode.specs.declared.Edition.{Edition}
use Rattle.opcode.specs.declared.Load.{Load}
use Rattle.opcode.specs.declared.Test.{Test}
use Rattle.opcode.specs.declared.Unary.{Unary}
use Rattle.opcode.specs.declared.Shift.{Shift}
use Rattle.opcode.specs.declared.Combine.{Combine}
use Rattle.opcode.specs.declared.Connective.{Connective}
use Rattle.opcode.specs.declared.Binary.{Binary}
use Rattle.opcode.specs.declared.Fit.{Fit}
use Rattle.opcode.specs.declared.Many.{Many}
use Rattle.number.specs.declared.Number.{Number}
use Rattle.notice.specs.Layout.{fields_of}
use Rattle.notice.specs.Lookup.{field_named}
use Rattle.value.specs.Value.{Value, bottom, int32, int64, real, text, Item, logic, value, number_of, is_text, fold_case_of, size_of, equal_values, truth_in, value_in, unary_of, binary_of, many_items, kind_of, is_bottom, bottom_of, is_strict, start_of, open_of, tally_of, value_named, named_value, load_of}

-- The kind of each answer is the operator's, whatever the operands are.
abbrev pub UnaryKind : Type 0
UnaryKind = (o : Unary) (x : Item) → kind_of (unary_of o x) ≡ unary_gives o

abbrev pub BinaryKind : Type 0
BinaryKind = (e : Edition) (o : Binary) (x y : Item) → kind_of (binary_of e o x y) ≡ binary_gives o

abbrev pub ManyKind : Type 0
ManyKind = (o : Many) (x : Item) (ys : List Item) → kind_of (many_items o x ys) ≡ Kind.logic

abbrev pub LoadKind : Type 0
LoadKind = (pool notice : List ℕ) (o : Load) (a b : ℕ) → kind_of (load_of pool notice o a b) ≡ Kind.value

-- Document 02, request 9: the editions "differ in the three shifts alone".
abbrev pub ShiftsAlone : Type 0
ShiftsAlone = (o : Binary) (x y : Item) → ((q : Shift) × (o ≡ Binary.Combine (Combine.Shift q))) ⊎ (binary_of Edition.First o x y ≡ binary_of Edition.Second o x y)

-- "bottom in a value makes the enclosing value or comparison bottom": every operator of one operand gives bottom on bottom ..
abbrev pub StrictUnary : Type 0
StrictUnary = (o : Unary) → unary_of o (bottom_of (unary_takes o)) ≡ bottom_of (unary_gives o)

-- .. every operator of two but `&&` and `||` does so with bottom on either side, whatever is on the other ..
abbrev pub StrictBinary : Type 0
StrictBinary =
    (e : Edition) (o : Binary) (x : Item) → is_strict o ≡ true
    → (binary_of e o (bottom_of (binary_takes o)) x ≡ bottom_of (binary_gives o)) × (binary_of e o x (bottom_of (binary_takes o)) ≡ bottom_of (binary_gives o))

-- .. and every operator of several does so where the first is bottom.
abbrev pub StrictMany : Type 0
StrictMany = (o : Many) (y : Item) (ys : List Item) → many_items o (value bottom) (y ∷ ys) ≡ logic Bottom

-- `size` of a string is n exactly if it is well-formed UTF-8 of n characters, and bottom exactly if it is not well-formed ..
abbrev pub SizeCharacters : Type 0
SizeCharacters = (s : List ℕ) (n : ℕ) → (size_of (text s) ≡ int32 (pos n)) ↔ HasCharacters s n

abbrev pub SizeBottom : Type 0
SizeBottom = (s : List ℕ) → (size_of (text s) ≡ bottom) ↔ (WellFormed s → ⊥)

-- .. and a folded string has the size of the unfolded one.
abbrev pub SizeFolded : Type 0
SizeFolded = (s : List ℕ) → size_of (fold_case_of (text s)) ≡ size_of (text s)

-- "In 56..58 a later operand that is no string gives bottom", whatever fitted before it.
abbrev pub LaterNoText : Type 0
LaterNoText = (f : Fit) (x y : Item) (ys zs : List Item) → is_text (value_in y) ≡ false → many_items (Many.Fit f) x (ys ++ (y ∷ zs)) ≡ logic Bottom

-- `equals` is true where any of its values is equal, also beside a bottom.
abbrev pub EqualsTrue : Type 0
EqualsTrue = (x y : Item) (ys zs : List Item) → equal_values (value_in x) (value_in y) ≡ True → many_items Many.Equals x (ys ++ (y ∷ zs)) ≡ logic True

-- false && x is false and true || x is true, for every x: what a skip rests on.
abbrev pub FalseAnd : Type 0
FalseAnd = (e : Edition) (x y : Item) → is_false (truth_in x) ≡ true → binary_of e (Binary.Connect Connective.And) x y ≡ x

abbrev pub TrueOr : Type 0
TrueOr = (e : Edition) (x y : Item) → is_true (truth_in x) ≡ true → binary_of e (Binary.Connect Connective.Or) x y ≡ x

-- "string with string by bytes, number with number; otherwise bottom": where not both are strings and one is no number.
abbrev pub EqualOtherwise : Type 0
EqualOtherwise = (v w : Value) → (is_text v && is_text w) ≡ false → (number_of v ≡ Number.None) ⊎ (number_of w ≡ Number.None) → equal_values v w ≡ Bottom

-- One later operand after the other, in their order, gives what the operator gives on all of them.
abbrev pub Tally : Type 0
Tally = (o : Many) (x : Item) (ys : List Item) → logic (tally_of o x (start_of o x) ys) ≡ many_items o x ys

-- What later operands cannot change any more they do not change.
abbrev pub Settled : Type 0
Settled = (o : Many) (x : Item) (known : Truth) (ys : List Item) → open_of o known ≡ false → tally_of o x known ys ≡ known

-- Document 02, request 7: `!`, a type test and `&& ^^ ||` give bottom of bottom alone, so that none of them is the first to leave it on a stack.
abbrev pub KnownNot : Type 0
KnownNot = (x : Item) → kind_of x ≡ Kind.logic → is_bottom x ≡ false → is_bottom (unary_of Unary.Not x) ≡ false

abbrev pub KnownTest : Type 0
KnownTest = (o : Test) (x : Item) → kind_of x ≡ Kind.value → is_bottom x ≡ false → is_bottom (unary_of (Unary.Test o) x) ≡ false

abbrev pub KnownConnect : Type 0
KnownConnect =
    (e : Edition) (o : Connective) (x y : Item) → kind_of x ≡ Kind.logic → kind_of y ≡ Kind.logic → is_bottom x ≡ false → is_bottom y ≡ false
    → is_bottom (binary_of e (Binary.Connect o) x y) ≡ false

-- A name's value is that of the field that has the name, and bottom where none has.
abbrev pub ValueNamed : Type 0
ValueNamed = (notice name : List ℕ) → value_named notice name ≡ named_value (field_named name (fields_of notice))

-- "b: two's complement or bits, int32 widened by sign and in range": what is stored as b is loaded.
abbrev pub LoadInt32 : Type 0
LoadInt32 = (pool notice : List ℕ) (a : ℕ) (z : ℤ) → SFits w32 z → load_of pool notice Load.Int32 a (of_z w64 z) ≡ value (int32 z)

abbrev pub LoadInt64 : Type 0
LoadInt64 = (pool notice : List ℕ) (a : ℕ) (z : ℤ) → SFits w64 z → load_of pool notice Load.Int64 a (of_z w64 z) ≡ value (int64 z)

abbrev pub LoadReal64 : Type 0
LoadReal64 = (pool notice : List ℕ) (a : ℕ) (x : Float) → T (fits binary64 x) → load_of pool notice Load.Real64 a (to_bits binary64 x) ≡ value (real x)

-- "a length, b pool offset": a pool of at most 4,096 bytes has no offset past 16 bits.
abbrev pub LoadText : Type 0
LoadText = (pool notice : List ℕ) (a b : ℕ) → b < 2 ^ 16 → load_of pool notice Load.Text a b ≡ value (text (take a (drop b pool)))

abbrev pub LoadName : Type 0
LoadName = (pool notice : List ℕ) (a b : ℕ) → b < 2 ^ 16 → load_of pool notice Load.Name a b ≡ value (value_named notice (take a (drop b pool)))
