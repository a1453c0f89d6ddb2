-- Inside the code: fields as parts of a text, and what reading them one after the other answers.
use Rattle.std.specs.Prelude.{ℕ, zero, suc, ◌+◌, ◌*◌, ◌-◌, ◌/◌, ◌≤◌, ◌<◌, ◌≡◌, Bool, true, false, cond, ◌||◌, List, [], ◌∷◌, map, ◌⊎◌, eqb, ltb, length, get_or, take, drop}
use Rattle.std.proofs.lemmas.List.Edits.{sets}
use Rattle.common.specs.Choice.{pick}
use Rattle.common.specs.Each.{Each}
use Rattle.word.specs.Word.{word_bytes}
use Rattle.notice.specs.Field.{Field, rising}
use Rattle.notice.specs.Write.{field, has_name, sorted}
use Rattle.ubf.specs.Escape.{escapes, bytes_in}
use Rattle.ubf.specs.Item.{Item, integer, between, state}
use Rattle.ubf.specs.Fields.{Phase, outside, names, value, number, whole, wrong, add, as_number, phase_of, says, said, is_tuple}
use Rattle.ubf.specs.Answer.{names_right, sizes_right, repeated, notice_size, read_number, said_fields}
use Rattle.ubf.specs.Scan.{onward, part, is_blank, Capped}
use Rattle.ubf.specs.declared.spans.Value.{Value}
use Rattle.ubf.specs.declared.spans.Span.{Span}
use Rattle.ubf.specs.declared.spans.Tuple.{Tuple}

-- a value: a number's bytes, or bytes of the text
abbrev pub value_in : List ℕ → ℕ → ℕ → ℕ → Bool → List ℕ
value_in text kind at len escaped = cond (eqb kind 1) (word_bytes 4 at) (cond (eqb kind 2) (word_bytes 8 at) (bytes_in text at len escaped))

abbrev pub name_in : List ℕ → Span → List ℕ
name_in text s = bytes_in text s.name s.namelen (ltb 0 s.nameescapes)

abbrev pub field_in : List ℕ → Span → Field
field_in text s = field s.kind (name_in text s) (value_in text s.kind s.value s.len (ltb 0 s.escapes))

-- n bytes stand in the text from a place on
abbrev pub PartIn : List ℕ → ℕ → ℕ → Bool → Type 0
PartIn text at n true = (bs : List ℕ) × (length bs ≡ n) × (at + length (escapes 34 bs) ≤ length text) × (part text at (at + length (escapes 34 bs)) ≡ escapes 34 bs)
PartIn text at n false = at + n ≤ length text

abbrev pub ValuePart : List ℕ → ℕ → ℕ → ℕ → Bool → Type 0
ValuePart text kind at len escaped = ((kind ≡ 1) × (len ≡ 4) × (at < 4294967296)) ⊎ ((kind ≡ 2) × (len ≡ 8)) ⊎ ((kind ≡ 4) × PartIn text at len escaped) ⊎ ((kind ≡ 5) × (escaped ≡ false) × PartIn text at len escaped)

-- a span whose parts lie in the text
pub record SpanIn (text : List ℕ) (s : Span) : Type 0 where
  pub named : PartIn text s.name s.namelen (ltb 0 s.nameescapes)
  pub valued : ValuePart text s.kind s.value s.len (ltb 0 s.escapes)

-- an integer without a tag counts as int32
abbrev pub settled : Phase → Phase
settled outside = outside
settled (names fs) = names fs
settled (value fs name) = value fs name
settled (number fs name negative n) = as_number 1 4 fs name negative n
settled (whole fs) = whole fs
settled wrong = wrong

-- before byte `at`, which starts an item, these fields were read, and a name or `}` may come: neither a tag nor a `~` follows an integer
pub record Ready (text : List ℕ) (at : ℕ) (its : List Item) (fs : List Field) : Type 0 where
  pub item : at < length text → is_blank (get_or text at 0) ≡ false
  pub phase : settled (phase_of its) ≡ names fs
  pub untagged : (phase_of its ≡ names fs) ⊎ ((get_or text at 0 ≡ 96 → ⊥) × (get_or text at 0 ≡ 126 → ⊥))

-- from `at` to `next`, where these fields were read
pub record Advance (text : List ℕ) (at : ℕ) (its : List Item) (d next : ℕ) (fs : List Field) : Type 0 where
  pub items : List Item
  pub ready : Ready text next items fs
  pub goes : onward text at (state between its d) ≡ onward text next (state between items d)

-- a value at `at`, kind 0 for none
pub record ValueFound (text : List ℕ) (at : ℕ) (v : Value) : Type 0 where
  pub later : at < v.next
  pub near : v.next ≤ length text
  pub valued : ValuePart text v.kind v.value v.len (ltb 0 v.escapes)
  pub goes : (fs : List Field) (name : List ℕ) (its : List Item) (d : ℕ) → phase_of its ≡ value fs name → Advance text at its d v.next (add fs (field v.kind name (value_in text v.kind v.value v.len (ltb 0 v.escapes))))

pub record ValueIs (text : List ℕ) (at : ℕ) (v : Value) : Type 0 where
  pub none : v.kind ≡ 0 → (fs : List Field) (name : List ℕ) (its : List Item) (d : ℕ) → phase_of its ≡ value fs name → is_tuple (onward text at (state between its d)) ≡ false
  pub found : (v.kind ≡ 0 → ⊥) → ValueFound text at v

-- .. after an integer, of this sign and size: the integer itself, or what its tag or the binary that it counts makes of it
pub record AfterFound (text : List ℕ) (at : ℕ) (negative : Bool) (size : ℕ) (v : Value) : Type 0 where
  pub later : at ≤ v.next
  pub near : v.next ≤ length text
  pub valued : ValuePart text v.kind v.value v.len (ltb 0 v.escapes)
  pub goes : (exact : ℕ) → Capped exact size → (fs : List Field) (name : List ℕ) (its : List Item) (d : ℕ) → phase_of its ≡ value fs name → Advance text at (integer negative exact ∷ its) d v.next (add fs (field v.kind name (value_in text v.kind v.value v.len (ltb 0 v.escapes))))

pub record AfterIs (text : List ℕ) (at : ℕ) (negative : Bool) (size : ℕ) (v : Value) : Type 0 where
  pub none : v.kind ≡ 0 → (exact : ℕ) → Capped exact size → (fs : List Field) (name : List ℕ) (its : List Item) (d : ℕ) → phase_of its ≡ value fs name → is_tuple (onward text at (state between (integer negative exact ∷ its) d)) ≡ false
  pub found : (v.kind ≡ 0 → ⊥) → AfterFound text at negative size v

-- a field at `at`, kind 0 for none
pub record FieldFound (text : List ℕ) (at : ℕ) (s : Span) : Type 0 where
  pub later : at < s.next
  pub near : s.next ≤ length text
  pub lies : SpanIn text s
  pub goes : (fs : List Field) (its : List Item) (d : ℕ) → Ready text at its fs → Advance text at its d s.next (add fs (field_in text s))

pub record FieldIs (text : List ℕ) (at : ℕ) (s : Span) : Type 0 where
  pub none : s.kind ≡ 0 → (fs : List Field) (its : List Item) (d : ℕ) → Ready text at its fs → is_tuple (onward text at (state between its d)) ≡ false
  pub found : (s.kind ≡ 0 → ⊥) → FieldFound text at s

-- the notice's size, or that it is over 16,384
abbrev pub SizeIs : List Field → ℕ → Type 0
SizeIs fs size = (size ≡ notice_size fs) ⊎ ((16384 < size) × (16384 < notice_size fs))

-- .. with one field more; over 16,384 it need not grow, and a field that is not right need not count
abbrev pub size_more : ℕ → ℕ → ℕ → ℕ
size_more size namelen len = cond (ltb 16384 size || ltb 64 namelen || ltb 1024 len) size (size + 5 + namelen + len)

abbrev pub no_span : Span
no_span = record { kind = 0; name = 0; namelen = 0; nameescapes = 0; value = 0; len = 0; escapes = 0; next = 0 }

-- a span as a row of seven numbers, and the spans of the first rows
abbrev pub span_in : List ℕ → Span
span_in row = record { kind = get_or row 0 0; name = get_or row 1 0; namelen = get_or row 2 0; nameescapes = get_or row 3 0; value = get_or row 4 0; len = get_or row 5 0; escapes = get_or row 6 0; next = 0 }

abbrev pub row_of : Span → List ℕ
row_of s = s.kind ∷ s.name ∷ s.namelen ∷ s.nameescapes ∷ s.value ∷ s.len ∷ s.escapes ∷ []

unfoldable pub spans_in : ℕ → List ℕ → List Span
spans_in zero rows = []
spans_in (suc n) rows = span_in rows ∷ spans_in n (drop 7 rows)

-- one row more, if there is room for it
abbrev pub kept_in : List ℕ → ℕ → Span → List ℕ
kept_in rows k s = pick (ltb k (length rows / 7)) (λ _. sets rows (7 * k) (row_of s)) (λ _. rows)

-- the first fields, as many as there is room for, are stored
abbrev pub Stored : List ℕ → List Field → ℕ → List ℕ → Type 0
Stored text fs count rows = count ≤ length rows / 7 → (map (field_in text) (spans_in count rows) ≡ fs) × Each (SpanIn text) (spans_in count rows)

-- what is known of fields that were read
pub record Known (text : List ℕ) (fs : List Field) (rows : List ℕ) (t : Tuple) : Type 0 where
  pub count : t.count ≡ length fs
  pub named : t.named ≡ names_right fs
  pub sized : t.sized ≡ sizes_right fs
  pub size : names_right fs ≡ true → sizes_right fs ≡ true → SizeIs fs t.size
  pub stored : Stored text fs t.count rows

-- .. of none
abbrev pub tuple_at : Bool → ℕ → Tuple
tuple_at right at = record { right = right; at = at; count = 0; named = true; sized = true; size = 8 }

-- what is known with one field more
pub record Grown (text : List ℕ) (s : Span) (t r : Tuple) : Type 0 where
  pub right : r.right ≡ t.right
  pub at : r.at ≡ s.next
  pub known : (fs : List Field) (rows : List ℕ) → SpanIn text s → Known text fs rows t → Known text (add fs (field_in text s)) (kept_in rows t.count s) r

-- all fields from `at` on, up to `t.at`, where no name stands
pub record Collected (text : List ℕ) (at : ℕ) (rows : List ℕ) (t : Tuple) : Type 0 where
  pub fields : List Field
  pub near : t.at ≤ length text
  pub nameless : get_or text t.at 0 ≡ 34 → ⊥
  pub known : Known text fields rows t
  pub goes : (its : List Item) (d : ℕ) → Ready text at its [] → Advance text at its d t.at fields

pub record CollectedIs (text : List ℕ) (at : ℕ) (rows : List ℕ) (t : Tuple) : Type 0 where
  pub none : t.right ≡ false → (its : List Item) (d : ℕ) → Ready text at its [] → is_tuple (onward text at (state between its d)) ≡ false
  pub found : t.right ≡ true → Collected text at rows t

-- the tuple and the text end at `at`, where no name stands
pub record EndsIs (text : List ℕ) (at : ℕ) (r : Bool) : Type 0 where
  pub none : r ≡ false → (get_or text at 0 ≡ 34 → ⊥) → (fs : List Field) (its : List Item) → Ready text at its fs → is_tuple (onward text at (state between its 1)) ≡ false
  pub ends : r ≡ true → (fs : List Field) (its : List Item) → Ready text at its fs → onward text at (state between its 1) ≡ says fs

-- the one tuple of fields that a text is, if it is one
pub record TupleFound (text : List ℕ) (rows : List ℕ) (t : Tuple) : Type 0 where
  pub fields : List Field
  pub says_them : said text ≡ says fields
  pub known : Known text fields rows t

pub record TupleIs (text : List ℕ) (rows : List ℕ) (t : Tuple) : Type 0 where
  pub none : t.right ≡ false → is_tuple (said text) ≡ false
  pub found : t.right ≡ true → TupleFound text rows t

-- a row by its number, and the fields of some rows
abbrev pub row_in : List ℕ → ℕ → Span
row_in rows k = span_in (drop (7 * k) rows)

abbrev pub row_fields : List ℕ → List ℕ → List ℕ → List Field
row_fields text rows ks = map (λ k. field_in text (row_in rows k)) ks

-- rows whose parts lie in the text
abbrev pub RowsIn : List ℕ → List ℕ → List ℕ → Type 0
RowsIn text rows ks = Each (λ k. (k < 64) × SpanIn text (row_in rows k)) ks

-- rows from `first` on, in name order
pub record Rising (text rows order : List ℕ) (first : ℕ) : Type 0 where
  pub rows_long : length rows ≡ 448
  pub order_long : length order ≡ 64
  pub near : first ≤ 64
  pub lie : RowsIn text rows (drop first order)
  pub rise : rising (row_fields text rows (drop first order)) ≡ true

-- the fields of the first rows in an order, which stands at the end of its room
abbrev pub ordered : List ℕ → List ℕ → ℕ → List ℕ → List Field
ordered text rows count order = row_fields text rows (drop (64 - count) order)

-- rows put in name order, or that a name is repeated
pub record ArrangedIs (text rows : List ℕ) (count : ℕ) (order : List ℕ) (r : Bool) : Type 0 where
  pub again : r ≡ false → repeated (map (field_in text) (spans_in count rows)) ≡ true
  pub once : r ≡ true → repeated (map (field_in text) (spans_in count rows)) ≡ false
  pub within : r ≡ true → Each (λ k. k < count) (drop (64 - count) order)
  pub rises : r ≡ true → ordered text rows count order ≡ sorted (map (field_in text) (spans_in count rows))

-- rows whose parts lie in the text and are no longer than a notice's
abbrev pub RowsShort : List ℕ → List ℕ → List ℕ → Type 0
RowsShort text rows ks = Each (λ k. (k < 64) × SpanIn text (row_in rows k) × ((row_in rows k).namelen ≤ 64) × ((row_in rows k).len ≤ 1024)) ks

-- rows in an order that make a notice of this size, for which there is room
pub record Placing (text rows order : List ℕ) (count size room : ℕ) : Type 0 where
  pub rows_long : length rows ≡ 448
  pub order_long : length order ≡ 64
  pub few : count ≤ 64
  pub lie : RowsShort text rows (drop (64 - count) order)
  pub size_is : size ≡ notice_size (ordered text rows count order)
  pub short : size ≤ 16384
  pub fits : size ≤ room

-- a place in a tuple where a name or its `}` comes
pub record WithinTuple (text : List ℕ) (at : ℕ) : Type 0 where
  pub items : List Item
  pub before : List Field
  pub all : List Field
  pub near : at ≤ length text
  pub ready : Ready text at items before
  pub says_all : onward text at (state between items 1) ≡ says all

-- whether one of the fields from `at` on has a name; those before it are the first of all fields
abbrev pub AmongIs : List ℕ → ℕ → List ℕ → Bool → Type 0
AmongIs text at name r =
    (its : List Item) (before all : List Field) → Ready text at its before → onward text at (state between its 1) ≡ says all →
    (take (length before) all ≡ before) × (r ≡ has_name name (drop (length before) all))

-- whether a name is repeated among the fields that a text is
abbrev pub RepeatsIs : List ℕ → Bool → Type 0
RepeatsIs text r = (fs : List Field) → said text ≡ says fs → r ≡ repeated fs

-- what is refused of a tuple's fields, 0 for nothing; then the rows are in order
pub record RefusalIs (text rows : List ℕ) (t : Tuple) (order : List ℕ) (room r : ℕ) : Type 0 where
  pub number : r ≡ read_number text room
  pub placing : r ≡ 0 → Placing text rows order t.count t.size room
  pub rises : r ≡ 0 → ordered text rows t.count order ≡ sorted (said_fields (said text))
