-- What the values of the code stand for, over the pool and the notice. "a string on the stack stands in the table's pool or in the notice, a folded one with a mark beside it"
use Rattle.std.specs.Prelude.{ℕ, ◌%◌, ◌^◌, ◌≡◌, Bool, true, false, ◌||◌, List, eqb, take, drop, Option, Some, None}
use Rattle.octets.specs.Octets.{folded}
use Rattle.value.specs.declared.Origin.{Origin}
use Rattle.value.specs.declared.Piece.{Piece}
use Rattle.value.specs.declared.Typed.{Typed}
use Rattle.value.specs.declared.Held.{Held}
use Rattle.value.specs.declared.Slot.{Slot}
use Rattle.value.specs.Value.{Value, bottom, int32, int64, real, text, opaque, type_of, Item, logic, value, value_in}

abbrev pub source_of : List ℕ → List ℕ → Origin → List ℕ
source_of pool notice Origin.Pool = pool
source_of pool notice Origin.Notice = notice

-- the bytes of a piece, as far as its source has them
abbrev pub part_of : List ℕ → List ℕ → Piece → List ℕ
part_of pool notice p = take p.len (drop p.start (source_of pool notice p.origin))

-- "a string by its bytes, folded where marked"
abbrev pub text_of : List ℕ → List ℕ → Piece → List ℕ
text_of pool notice p = folded p.folded (part_of pool notice p)

abbrev pub typed_of : List ℕ → List ℕ → Typed → Value
typed_of pool notice Typed.Bottom = bottom
typed_of pool notice (Typed.Int32 x) = int32 x
typed_of pool notice (Typed.Int64 x) = int64 x
typed_of pool notice (Typed.Real x) = real x
typed_of pool notice (Typed.Text p) = text (text_of pool notice p)
typed_of pool notice (Typed.Opaque p) = opaque (part_of pool notice p)

abbrev pub item_of : List ℕ → List ℕ → Held → Item
item_of pool notice (Held.Logic t) = logic t
item_of pool notice (Held.Value v) = value (typed_of pool notice v)

-- what a slot holds
abbrev pub item_in : List ℕ → List ℕ → Slot → Item
item_in pool notice s = item_of pool notice s.held

-- whether one of two items is bottom: one of the other kind counts as such
abbrev pub any_bottom : Item → Item → Bool
any_bottom x y = eqb (type_of (value_in x)) 0 || eqb (type_of (value_in y)) 0

-- what a pair says of two items: that one is bottom, or that none is and which values they are
abbrev pub PairOf : List ℕ → List ℕ → Option (Typed × Typed) → Item → Item → Type 0
PairOf pool notice None x y = any_bottom x y ≡ true
PairOf pool notice (Some p) x y = (any_bottom x y ≡ false) × (typed_of pool notice p.0 ≡ value_in x) × (typed_of pool notice p.1 ≡ value_in y)

-- The pieces that the code makes: of a load from the pool, of a field of the notice, and of a folded string.
abbrev pub pooled : ℕ → ℕ → Piece
pooled a b = record { origin = Origin.Pool; start = b % 2 ^ 16; len = a; folded = false }

abbrev pub noticed : ℕ → ℕ → Piece
noticed start len = record { origin = Origin.Notice; start = start; len = len; folded = false }

abbrev pub folded_piece : Piece → Piece
folded_piece p = record { origin = p.origin; start = p.start; len = p.len; folded = true }
