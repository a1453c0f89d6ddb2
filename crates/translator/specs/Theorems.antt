-- What holds of every translation. The proofs are in proofs/Theorems.antt, that of `GivenExactly` in proofs/Refusals.antt, those of `FitsRoom` and `RefusedEmpty` in proofs/Fits.antt, under the same names.
use Rattle.std.specs.Prelude.{ℕ, ◌≤◌, ◌<◌, ◌≡◌, true, false, ◌&&◌, List, [], map, ◌↔◌, ◌⊎◌, length, get_or}
use Rattle.word.specs.Word.{Bytes}
use Rattle.opcode.specs.declared.Edition.{Edition}
use Rattle.table.specs.Table.{encode, decode}
use Rattle.table.specs.Check.{check_of}
use Rattle.lexer.specs.Token.{Placed, kind_of, tokens, tokens_of}
use Rattle.lexer.specs.Theorems.{Laid, BadToken}
use Rattle.grammar.specs.Tree.{Tree}
use Rattle.grammar.specs.Grammar.{Level}
use Rattle.grammar.specs.Place.{Breaks}
use Rattle.grammar.specs.Nesting.{too_deep}
use Rattle.grammar.specs.Judge.{forms_right, patterns_right, kinds_right, is_logic}
use Rattle.grammar.specs.Size.{entries_of, depth_of}
use Rattle.translator.specs.Compile.{code_of, compile}
use Rattle.translator.specs.Depth.{most_slots}
use Rattle.translator.specs.Translation.{refusal, edition_number, translation_of}

-- A text that is one expression, and its tree: it has legal tokens alone (10, 1, 3), is not nested too deep (6), and the grammar derives the tree from its tokens (2).
pub record Expression (s : List ℕ) (t : Tree) : Type 0 where
  pub placed : List Placed
  pub lexed : tokens_of s ≡ tokens placed
  pub shallow : too_deep (map (λ p. kind_of p.token) placed) ≡ false
  pub derived : Level 0 (map (λ p. p.token) placed) t

-- The tree's forms, patterns and kinds are right (4, 18, 5).
pub record Right (t : Tree) : Type 0 where
  pub forms : forms_right t ≡ true
  pub patterns : patterns_right t ≡ true
  pub kinds : kinds_right t ≡ true
  pub logic : is_logic t ≡ true

-- An accepted text and its tree: no refusal of translation applies "but perhaps that for a short buffer". The sizes are right too (7, 8).
pub record Accepted (s : List ℕ) (t : Tree) : Type 0 where
  pub expression : Expression s t
  pub right : Right t
  pub few : entries_of t ≤ 512
  pub low : depth_of t ≤ 32

-- An accepted text with room for its table is answered by that table; so a translator that refuses all, and one that writes nothing, break their promise.
abbrev pub WritesTable : Type 0
WritesTable =
    (e : Edition) (s : List ℕ) (t : Tree) (room : ℕ) → Accepted s t → length (encode (compile e t)) ≤ room
    → translation_of (edition_number e) s room ≡ record { number = 0; place = 0; table = encode (compile e t) }

-- No refusal is answered exactly for the accepted texts that have room for their table.
abbrev pub AcceptsExactly : Type 0
AcceptsExactly =
    (e : Edition) (s : List ℕ) (room : ℕ) → ((translation_of (edition_number e) s room).number ≡ 0) ↔ ((t : Tree) × Accepted s t × (length (encode (compile e t)) ≤ room))

-- The table of an accepted text is read back as the tree's entries and pool.
abbrev pub Decodes : Type 0
Decodes = (e : Edition) (s : List ℕ) (t : Tree) → Bytes s → Accepted s t → decode (encode (compile e t)) ≡ compile e t

-- The table of an accepted text passes the table check.
abbrev pub PassesCheck : Type 0
PassesCheck = (e : Edition) (s : List ℕ) (t : Tree) → Bytes s → Accepted s t → check_of (encode (compile e t)) ≡ true

-- What the refusals 7 and 8 judge is the table's own, of every text that the grammar derives with right forms and kinds, of whatever size: its entries, and the most
-- slots that it holds at once in their order.
abbrev pub TableSizes : Type 0
TableSizes =
    (s : List ℕ) (ps : List Placed) (t : Tree)
    → Bytes s → tokens_of s ≡ tokens ps → Level 0 (map (λ p. p.token) ps) t → forms_right t ≡ true → kinds_right t ≡ true
    → (length (code_of 0 t) ≡ entries_of t) × (most_slots (code_of 0 t) 0 ≡ depth_of t)

-- "Given exactly if": each number of translation with its place, of the text and the buffer's length alone; and 0 where none is given.
pub data Given (e : Edition) (s : List ℕ) (room : ℕ) : ℕ → ℕ → Type 0 where
  -- "text over 4,096 bytes"
  long : 4096 < length s → Given e s room 10 0
  -- "a token has no legal form": the first bad token, at its start, after legal tokens and whitespace
  formless : (place : ℕ) (ps : List Placed) → length s ≤ 4096 → Laid (BadToken 1 place) 0 ps s → Given e s room 1 place
  -- "legal form, but number or name outside its limits"
  outside : (place : ℕ) (ps : List Placed) → length s ≤ 4096 → Laid (BadToken 3 place) 0 ps s → Given e s room 3 place
  -- "over 24 parentheses open at once .., or over 24 of `!` `~` in a row"
  deep : (ps : List Placed) → tokens_of s ≡ tokens ps → too_deep (map (λ p. kind_of p.token) ps) ≡ true → Given e s room 6 0
  -- "grammar not kept": at "the start of the first token after which the grammar allows no completion, limits aside, or the text's length"
  broken : (ps : List Placed) (q : ℕ) → tokens_of s ≡ tokens ps → too_deep (map (λ p. kind_of p.token) ps) ≡ false → Breaks (map (λ p. p.token) ps) q
      → Given e s room 2 (get_or (map (λ p. p.start) ps) q (length s))
  -- "unknown function, wrong argument count or form"
  form : (t : Tree) → Expression s t → forms_right t ≡ false → Given e s room 4 0
  -- "18 for an ill-formed pattern, after 4 and before 5 in translation"
  pattern : (t : Tree) → Expression s t → forms_right t ≡ true → patterns_right t ≡ false → Given e s room 18 0
  -- "kind wrong"
  kind : (t : Tree) → Expression s t → forms_right t ≡ true → patterns_right t ≡ true → (kinds_right t && is_logic t) ≡ false → Given e s room 5 0
  -- "over 512 entries", of the table
  many : (t : Tree) → Expression s t → Right t → 512 < length (code_of 0 t) → Given e s room 7 0
  -- "stack over 32", of the table
  high : (t : Tree) → Expression s t → Right t → length (code_of 0 t) ≤ 512 → 32 < most_slots (code_of 0 t) 0 → Given e s room 8 0
  -- "lent buffer shorter than the table"
  short : (t : Tree) → Accepted s t → room < length (encode (compile e t)) → Given e s room 9 0
  none : (t : Tree) → Accepted s t → length (encode (compile e t)) ≤ room → Given e s room 0 0

-- Translation answers a number and a place exactly if they are given.
abbrev pub GivenExactly : Type 0
GivenExactly =
    (e : Edition) (s : List ℕ) (room number place : ℕ) → Bytes s
    → (((translation_of (edition_number e) s room).number ≡ number) × ((translation_of (edition_number e) s room).place ≡ place)) ↔ Given e s room number place

-- The table that is answered, none where the text is refused, lies in the buffer.
abbrev pub FitsRoom : Type 0
FitsRoom = (edition : ℕ) (s : List ℕ) (room : ℕ) → length (translation_of edition s room).table ≤ room

-- A refused text has no table: so a refusal changes no byte.
abbrev pub RefusedEmpty : Type 0
RefusedEmpty = (edition : ℕ) (s : List ℕ) (room : ℕ) → ((translation_of edition s room).number ≡ 0) ⊎ ((translation_of edition s room).table ≡ [])

-- Document 02, request 9: "25 for an edition other than 1 or 2, before 10": whatever the text and the buffer are.
abbrev pub OtherEdition : Type 0
OtherEdition = (edition : ℕ) (s : List ℕ) (room : ℕ) → ((e : Edition) → edition ≡ edition_number e → ⊥) → translation_of edition s room ≡ refusal 25 0
