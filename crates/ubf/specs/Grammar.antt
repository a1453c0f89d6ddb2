-- The syntax of a UBF(A) text as a grammar. Source document 001: "input ::= item* '$'"; document 02, request 5, fixes the rest. specs/Theorems.antt says that the machine of specs/Item.antt reads just this syntax.
use Rattle.std.specs.Prelude.{ℕ, ◌+◌, ◌*◌, ◌≡◌, Bool, true, false, not, ◌||◌, List, [], ◌∷◌, ◌++◌, ◌⊎◌, length}
use Rattle.common.specs.Each.{Each}
use Rattle.ubf.specs.Byte.{is, is_space, is_digit, digit_of, is_quote}
use Rattle.ubf.specs.Escape.{escapes}
use Rattle.ubf.specs.Item.{Item, integer, quoted, binary, mark}

-- "White space is any sequence of blank, tab, newline or carriage-return characters"; "comments count as whitespace": a byte of whitespace, or a comment's bytes
pub data Gap : Type 0 where
  white : ℕ → Gap
  comment : List ℕ → Gap

-- what stands at one place: whitespace; "integer ::= '-'?[0-9]+", by sign and digits; an atom, a string or a tag, by its delimiter and its bytes; "binary ::= '~' byte* '~'", after its count, with whitespace between them;
-- `#`, `&` or a register, operators of one byte that stand anywhere: "a register, `&` or tag may follow any value or none"
pub data Piece : Type 0 where
  gap : Gap → Piece
  whole : Bool → List ℕ → Piece
  delimited : ℕ → List ℕ → Piece
  counted : Bool → List ℕ → List Gap → List ℕ → Piece
  operator : ℕ → Piece

-- "item*": nothing, a piece and items, or "tuple ::= '{' item* '}'" and items
pub data Items : Type 0 where
  none : Items
  piece : Piece → Items → Items
  tuple : Items → Items → Items

-- how they are spelled: "'"' ([^\\"] | '\\\\' | '\\"')* '"'", and likewise for the other delimiters
abbrev pub quoted_text : ℕ → List ℕ → List ℕ
quoted_text q bs = q ∷ (escapes q bs ++ (q ∷ []))

abbrev pub gap_text : Gap → List ℕ
gap_text (white b) = b ∷ []
gap_text (comment bs) = quoted_text 37 bs

abbrev pub gaps_text : List Gap → List ℕ
gaps_text [] = []
gaps_text (g ∷ gs) = gap_text g ++ gaps_text gs

abbrev pub integer_text : Bool → List ℕ → List ℕ
integer_text true ds = 45 ∷ ds
integer_text false ds = ds

abbrev pub piece_text : Piece → List ℕ
piece_text (gap g) = gap_text g
piece_text (whole negative ds) = integer_text negative ds
piece_text (delimited q bs) = quoted_text q bs
piece_text (counted negative ds gs bs) = integer_text negative ds ++ (gaps_text gs ++ (126 ∷ (bs ++ (126 ∷ []))))
piece_text (operator b) = b ∷ []

unfoldable pub items_text : Items → List ℕ
items_text none = []
items_text (piece p its) = piece_text p ++ items_text its
items_text (tuple a its) = 123 ∷ (items_text a ++ (125 ∷ items_text its))

-- the number that digits stand for
unfoldable pub value_from : ℕ → List ℕ → ℕ
value_from n [] = n
value_from n (b ∷ bs) = value_from (n * 10 + digit_of b) bs

abbrev pub value_of : List ℕ → ℕ
value_of ds = value_from 0 ds

-- "[0-9]+"
abbrev pub Digits : List ℕ → Type 0
Digits [] = ⊥
Digits (b ∷ bs) = Each (λ d. is_digit d ≡ true) (b ∷ bs)

abbrev pub starts_digit : List ℕ → Bool
starts_digit [] = false
starts_digit (b ∷ bs) = is_digit b

abbrev pub GapRight : Gap → Type 0
GapRight (white b) = is_space b ≡ true
GapRight (comment bs) = Unit {0}

-- `#`, `&`, and "reg ::= [^-%"~'`{}#& \n\r\t,0-9]", which `$` is not: "The first `$` .. ends the text"
abbrev pub is_operator : ℕ → Bool
is_operator b = not (is_space b || is_quote b || is_digit b || is "-" b || is "~" b || is "{" b || is "}" b || is "$" b || is "," b)

-- a piece that is right before a rest: an integer has all the digits that stand there; a binary has as many bytes as its count says, which is not below 0, though `-0` is 0; a string, an atom or a tag
abbrev pub PieceRight : Piece → List ℕ → Type 0
PieceRight (gap g) rest = GapRight g
PieceRight (whole negative ds) rest = Digits ds × (starts_digit rest ≡ false)
PieceRight (delimited q bs) rest = (q ≡ 34) ⊎ ((q ≡ 39) ⊎ (q ≡ 96))
PieceRight (counted negative ds gs bs) rest = Digits ds × Each GapRight gs × (value_of ds ≡ length bs) × ((negative ≡ false) ⊎ (length bs ≡ 0))
PieceRight (operator b) rest = is_operator b ≡ true

unfoldable pub ItemsRight : Items → Type 0
ItemsRight none = Unit {0}
ItemsRight (piece p its) = PieceRight p (items_text its) × ItemsRight its
ItemsRight (tuple a its) = ItemsRight a × ItemsRight its

-- "input ::= item* '$'"; "bytes after it .. break the syntax"
pub record Input (bytes : List ℕ) (its : Items) : Type 0 where
  pub right : ItemsRight its
  pub spelled : items_text its ++ (36 ∷ []) ≡ bytes

-- the items of specs/Item.antt, the last first, after those that stand before: whitespace is none, a brace is a mark
abbrev pub piece_items : Piece → List Item → List Item
piece_items (gap g) before = before
piece_items (whole negative ds) before = integer negative (value_of ds) ∷ before
piece_items (delimited q bs) before = quoted q bs ∷ before
piece_items (counted negative ds gs bs) before = binary bs ∷ before
piece_items (operator b) before = mark b ∷ before

unfoldable pub items_after : Items → List Item → List Item
items_after none before = before
items_after (piece p its) before = items_after its (piece_items p before)
items_after (tuple a its) before = items_after its (mark 125 ∷ items_after a (mark 123 ∷ before))
