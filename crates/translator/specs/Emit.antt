-- What each step of translation asks of the steps before it: of the arrays that reading fills, of an expression that the parser accepts, and of its codes.
use Rattle.std.specs.Prelude.{ℕ, Ok, Err, Result as Reply, ◌+◌, ◌*◌, ◌≤◌, ◌≡◌, Bool, false, cond, not, ◌&&◌, List, ◌++◌, map, ltb, length, get_or, take}
use Rattle.std.proofs.lemmas.List.Edits.{sets}
use Rattle.common.specs.Choice.{pick}
use Rattle.word.specs.Word.{word_bytes}
use Rattle.refusal.specs.Refusal.{number_of, place_of}
use Rattle.refusal.specs.declared.Refusal.{Refusal}
use Rattle.refusal.specs.declared.Refusal.TheVariants.{Call, Kind, Nesting, Entries, Stack, Pattern}
use Rattle.opcode.specs.declared.Edition.{Edition}
use Rattle.table.specs.Table.{table_kind}
use Rattle.lexer.specs.Token.{Placed, kind_of, tokens, tokens_of}
use Rattle.grammar.specs.Tree.{Tree}
use Rattle.grammar.specs.Parse.{ok, parse_all}
use Rattle.grammar.specs.Nesting.{too_deep}
use Rattle.grammar.specs.Size.{entries_of, pool_of, depth_of}
use Rattle.grammar.specs.Answer.{Found, found_number}
use Rattle.grammar.specs.Stream.{tokens_in}
use Rattle.grammar.specs.Marks.{marks_of}
use Rattle.grammar.specs.Code.{codes_of}
use Rattle.operands.specs.Gather.{operand_places, operand_sizes}
use Rattle.operands.specs.Patterns.{patterns_by}
use Rattle.postfix.specs.Answer.{judged_of}
use Rattle.postfix.specs.declared.Judged.{Judged}
use Rattle.translator.specs.Compile.{code_of, bytes_of}
use Rattle.translator.specs.Expand.{expand, pooled, Sized}
use Rattle.translator.specs.Translation.{refusal, or_short, Translated, of_tree, translation_in}
use Rattle.translator.specs.Theorems.{Right}
use Rattle.translator.specs.declared.read.Reading.{Reading}

-- ---- reading

-- whatever is at most 512, and at most n, is within a size, which may be an array's
abbrev pub Room : ℕ → ℕ → Type 0
Room n size = (m : ℕ) → m ≤ 512 → m ≤ n → m ≤ size

abbrev pub Roomy : ℕ → List ℕ → Type 0
Roomy n array = (m : ℕ) → m ≤ 512 → m ≤ n → m ≤ length array

-- some numbers stand in an array from the first on, as far as it goes
abbrev pub Fronts : List ℕ → List ℕ → Type 0
Fronts xs array = (was : List ℕ) × (array ≡ sets was 0 xs)

abbrev pub kinds_in : List Placed → List ℕ
kinds_in ps = map (λ p. kind_of p.token) ps

abbrev pub starts_in : List Placed → List ℕ
starts_in ps = map (λ p. p.start) ps

-- The tokens of a text are legal (10, 1, 3) and not nested too deep (6); the marks are theirs, the places and sizes, of which there are so many, those of its operands; and it is known whether each pattern is right (18).
pub record Tokened (s marks places sizes : List ℕ) (count : ℕ) (patterns : Bool) : Type 0 where
  pub placed : List Placed
  pub lexed : tokens_of s ≡ tokens placed
  pub shallow : too_deep (kinds_in placed) ≡ false
  pub marks_are : marks ≡ marks_of (tokens_in s (kinds_in placed) (starts_in placed))
  pub places_are : Fronts (operand_places marks (starts_in placed)) places
  pub sizes_are : Fronts (operand_sizes s marks (starts_in placed)) sizes
  pub count_is : count ≡ length (operand_places marks (starts_in placed))
  pub patterns_are : patterns ≡ patterns_by s marks (starts_in placed)

-- what reading answers of the kinds and starts of legal tokens
unfoldable pub read_of : List ℕ → List ℕ → List ℕ → Reply Reading Refusal
read_of s kinds starts =
    let marks = marks_of (tokens_in s kinds starts) in
    pick (too_deep marks) (λ _. Err Nesting) (λ _. Ok (record { tokens = length marks; operands = length (operand_places marks starts); patterns = patterns_by s marks starts }))

-- what reading answers of a text, and leaves in the arrays: the front of the marks are those of its tokens
abbrev pub Reads : List ℕ → List ℕ → List ℕ → List ℕ → Reply Reading Refusal → Type 0
Reads s marks places sizes (Ok r) = (r.tokens ≤ length marks) × Tokened s (take r.tokens marks) places sizes r.operands r.patterns
Reads s marks places sizes (Err r) = (e : Edition) (room : ℕ) → translation_in e s room ≡ refusal (number_of r) (place_of r)

-- the place of a token in a text of legal tokens, or the text's length
abbrev pub PlaceOf : List ℕ → ℕ → ℕ → Type 0
PlaceOf s p r = (ps : List Placed) → tokens_of s ≡ tokens ps → r ≡ get_or (starts_in ps) p (length s)

-- ---- an expression

-- The tokens are one expression, of which this is judged, and its codes stand in an array.
pub record Known (s places sizes codes : List ℕ) (count : ℕ) (patterns : Bool) (j : Judged) : Type 0 where
  pub marks : List ℕ
  pub tokened : Tokened s marks places sizes count patterns
  pub tree : Tree
  pub is_ok : parse_all (tokens_in s (kinds_in tokened.placed) (starts_in tokened.placed)) ≡ ok tree (length (tokens_in s (kinds_in tokened.placed) (starts_in tokened.placed)))
  pub has : j ≡ judged_of tree
  pub codes_are : Fronts (codes_of tree) codes

-- the first of the refusals 4, 18, 5, 7 and 8, if one applies
abbrev pub first_by : Judged → Bool → Reply (Unit {0}) Refusal
first_by j patterns = cond (not j.forms) (Err Call) (cond (not patterns) (Err Pattern) (cond (not (j.kinds && j.logic)) (Err Kind) (cond (ltb 512 j.entries) (Err Entries) (cond (ltb 32 j.depth) (Err Stack) (Ok tt)))))

-- Codes of an expression to which these refusals do not apply: by one pass over them and the places and sizes of the operands come its entries and its pool.
pub record Coded (s places sizes codes : List ℕ) (pool : ℕ) : Type 0 where
  pub tree : Tree
  pub outcome : (e : Edition) (room : ℕ) → translation_in e s room ≡ of_tree e tree room
  pub right : Right tree
  pub few : entries_of tree ≤ 512
  pub low : depth_of tree ≤ 32
  pub small : pool_of tree ≤ 4096
  pub count : length codes ≡ entries_of tree
  pub pool_is : pool ≡ pool_of tree
  pub entries : expand s places codes 0 0 ≡ code_of 0 tree
  pub bytes : pooled s places codes 0 ≡ bytes_of tree
  pub sized : Sized s places sizes codes 0

-- ---- the table

-- "N entries of 12 bytes" after the header of 10: where the entry i stands
abbrev pub entry_start : ℕ → ℕ
entry_start i = 10 + 12 * i

-- the answer of a table of so many entries and pool bytes
abbrev pub table_answer : ℕ → ℕ → Translated
table_answer entries pool = record { number = 0; place = 0; length = entry_start entries + pool }

-- "u32 length of all after it; u16 kind 2; u16 entry count N ..; u16 pool length ..", the kind by the edition
abbrev pub header_bytes : Edition → ℕ → ℕ → List ℕ
header_bytes e entries pool = word_bytes 4 (6 + 12 * entries + pool) ++ (word_bytes 2 (table_kind e) ++ (word_bytes 2 entries ++ word_bytes 2 pool))

-- `refusal_of` of specs/Translation.antt, by what is known of the expression
abbrev pub refusal_by : Found → ℕ → ℕ
refusal_by f room = or_short (found_number f) (entry_start f.entries + f.pool) room
