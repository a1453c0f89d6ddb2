-- Translation: number, place and table for every text and every buffer. Document 01, "Refusals by number".
use Rattle.std.specs.Prelude.{ℕ, ◌≡◌, Ok, Err, Result as Reply, Bool, cond, ◌||◌, List, [], map, eqb, ltb, length, get_or}
use Rattle.std.proofs.lemmas.List.Edits.{sets}
use Rattle.common.specs.Choice.{pick}
use Rattle.refusal.specs.Refusal.{number_of as refusal_number, place_of as refusal_place}
use Rattle.refusal.specs.declared.Refusal.{Refusal}
use Rattle.refusal.specs.declared.Refusal.TheVariants as why
use Rattle.opcode.specs.declared.Edition.{Edition}
use Rattle.lexer.specs.Token.{Token, kind_of, Lexed, tokens, refused, tokens_of}
use Rattle.lexer.specs.Answer as lexing
use Rattle.lexer.specs.Answer.{Refused}
use Rattle.grammar.specs.Tree.{Tree}
use Rattle.grammar.specs.Parse.{Result, ok, bad, parse_all}
use Rattle.grammar.specs.Nesting.{too_deep}
use Rattle.grammar.specs.Function.{or_else}
use Rattle.grammar.specs.Answer.{Broken, found_of, found_number, number_of, place_of}
use Rattle.table.specs.Table.{encode}
use Rattle.translator.specs.Compile.{compile}

-- the number and place of a refusal, and no table; or 0, 0 and the table's bytes
pub record Outcome : Type 0 where
  pub number : ℕ
  pub place : ℕ
  pub table : List ℕ

abbrev pub refusal : ℕ → ℕ → Outcome
refusal number place = record { number = number; place = place; table = [] }

-- "9 | lent buffer shorter than the table", of so many bytes, where no other number is given
abbrev pub or_short : ℕ → ℕ → ℕ → ℕ
or_short number size room = or_else number (cond (ltb room size) 9 0)

-- "4, 5, 7, 8, 9", 18 "after 4 and before 5", the first that applies to a tree, for a buffer of so many bytes; 0 if none does
unfoldable pub refusal_of : Edition → Tree → ℕ → ℕ
refusal_of e t room = or_short (found_number (found_of t)) (length (encode (compile e t))) room

unfoldable pub of_tree : Edition → Tree → ℕ → Outcome
of_tree e t room = pick (eqb (refusal_of e t room) 0) (λ _. record { number = 0; place = 0; table = encode (compile e t) }) (λ _. refusal (refusal_of e t room) 0)

-- "2 | grammar not kept", with its place: the start of the token that the parser names, or the text's length
unfoldable pub of_result : Edition → ℕ → List ℕ → ℕ → Result → Outcome
of_result e long starts room (ok t n) = of_tree e t room
of_result e long starts room (bad p) = refusal (number_of (Broken p)) (get_or starts (place_of (Broken p)) long)

-- "6", then what the parser says; by the tokens' kinds and starts
unfoldable pub of_tokens : Edition → ℕ → List ℕ → List ℕ → ℕ → List Token → Outcome
of_tokens e long kinds starts room ks = pick (too_deep kinds) (λ _. refusal 6 0) (λ _. of_result e long starts room (parse_all ks))

-- "10, then 1 or 3 at the first bad token"
unfoldable pub of_lexed : Edition → ℕ → ℕ → Lexed → Outcome
of_lexed e long room (tokens ps) = of_tokens e long (map (λ p. kind_of p.token) ps) (map (λ p. p.start) ps) room (map (λ p. p.token) ps)
of_lexed e long room (refused number place ps) = refusal (lexing.number_of (Refused number place)) (lexing.place_of (Refused number place))

-- "Translation, first that applies in this order: 10, then 1 or 3 at the first bad token, 6, 2, 4, 18, 5, 7, 8, 9": document 01's order, with 18 "after 4 and before 5" of document 02, request 1.
unfoldable pub translation_in : Edition → List ℕ → ℕ → Outcome
translation_in e text room = of_lexed e (length text) room (tokens_of text)

-- Document 02, request 9: "The caller names the edition when translating", 1 or 2 ..
abbrev pub edition_number : Edition → ℕ
edition_number Edition.First = 1
edition_number Edition.Second = 2

abbrev pub is_edition : ℕ → Bool
is_edition number = eqb number 1 || eqb number 2

abbrev pub edition_by : ℕ → Edition
edition_by number = cond (eqb number 1) Edition.First Edition.Second

-- the same as the code names it
abbrev pub edition_named : ℕ → Reply Edition Refusal
edition_named number = cond (eqb number 1) (Ok Edition.First) (cond (eqb number 2) (Ok Edition.Second) (Err why.Edition))

-- .. "25 for an edition other than 1 or 2, before 10."
unfoldable pub translation_of : ℕ → List ℕ → ℕ → Outcome
translation_of edition text room = pick (is_edition edition) (λ _. translation_in (edition_by edition) text room) (λ _. refusal 25 0)

-- "Translation answers number, place and table length, 0 if refused."
pub record Translated : Type 0 where
  pub number : ℕ
  pub place : ℕ
  pub length : ℕ

abbrev pub answer_of : Outcome → Translated
answer_of o = record { number = o.number; place = o.place; length = length o.table }

-- the same of the answer of the code: a table's length, or a refusal
abbrev pub answered : Reply ℕ Refusal → Translated
answered (Ok n) = record { number = 0; place = 0; length = n }
answered (Err r) = record { number = refusal_number r; place = refusal_place r; length = 0 }

-- What a translation answers and leaves: the table's bytes, none where it is refused, over the start of the buffer, and every later byte as it was.
pub record Answers (o : Outcome) (was now : List ℕ) (r : Translated) : Type 0 where
  pub answer : r ≡ answer_of o
  pub bytes : now ≡ sets was 0 o.table
