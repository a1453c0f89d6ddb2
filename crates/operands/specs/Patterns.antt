-- Refusal 18, "an ill-formed pattern", by one pass over the marked tokens, which knows the functions of the open parentheses. Document 02, requests 1 and 13.
use Rattle.std.specs.Prelude.{ℕ, zero, suc, ◌+◌, ◌-◌, ◌*◌, ◌/◌, ◌%◌, Bool, true, false, cond, ◌&&◌, ◌||◌, List, [], ◌∷◌, eqb, length, get_or}
use Rattle.opcode.specs.Number.{wildcard_op, regex_op}
use Rattle.lexer.specs.Kind.{text_kind, opening, closing, comma, ending}
use Rattle.lexer.specs.Token.{string_at}
use Rattle.grammar.specs.Judge.{takes_patterns, pattern_test}
use Rattle.grammar.specs.Marks.{calling}

-- whether some function that takes patterns is called
unfoldable pub asks_patterns : List ℕ → Bool
asks_patterns [] = false
asks_patterns (m ∷ ms) = takes_patterns (m - calling) || asks_patterns ms

abbrev pub mark_before : List ℕ → ℕ → ℕ
mark_before ms zero = ending
mark_before ms (suc i) = get_or ms i ending

-- The functions of the open parentheses are one number, a digit to the base 4 each, the innermost last: 0 for a parenthesis whose function, if it has one, takes no patterns.
abbrev pub digit_of : ℕ → ℕ
digit_of f = cond (eqb f wildcard_op) 1 (cond (eqb f regex_op) 2 0)

abbrev pub function_by : ℕ → ℕ
function_by d = cond (eqb d 1) wildcard_op (cond (eqb d 2) regex_op 0)

-- what is open after a mark m that stands after the mark `before`
abbrev pub opens_after : ℕ → ℕ → ℕ → ℕ
opens_after m before opens = cond (eqb m opening) (4 * opens + digit_of (before - calling)) (cond (eqb m closing) (opens / 4) opens)

-- whether the token i is a string literal that is a whole argument, and not the first
abbrev pub is_later : List ℕ → ℕ → Bool
is_later ms i =
    eqb (get_or ms i ending) text_kind && (eqb (mark_before ms i) comma && (eqb (get_or ms (i + 1) ending) comma || eqb (get_or ms (i + 1) ending) closing))

-- if it is, it is a pattern of the innermost function
abbrev pub right_at : List ℕ → List ℕ → List ℕ → ℕ → ℕ → Bool
right_at s ms starts opens i = cond (is_later ms i) (pattern_test (function_by (opens % 4)) (string_at s (get_or starts i 0))) true

-- of n tokens, from the token i on
unfoldable pub patterns_from : List ℕ → List ℕ → List ℕ → ℕ → ℕ → ℕ → Bool
patterns_from s ms starts opens i zero = true
patterns_from s ms starts opens i (suc n) =
    right_at s ms starts opens i && patterns_from s ms starts (opens_after (get_or ms i ending) (mark_before ms i) opens) (i + 1) n

abbrev pub patterns_by : List ℕ → List ℕ → List ℕ → Bool
patterns_by s ms starts = patterns_from s ms starts 0 0 (length ms)
