-- Refusal 4, "unknown function, wrong argument count or form", refusal 18, "an ill-formed pattern", and refusal 5, "kind wrong": three verdicts, each over the whole tree. Document 01, "Grammar";
-- document 02, request 1.
use Rattle.std.specs.Prelude.{ℕ, Bool, true, false, cond, not, ◌&&◌, ◌||◌, List, eqb, leb, ltb}
use Rattle.opcode.specs.Number.{fold_case_op, size_op, equal_op, not_op, is_int32_op, require_op, begins_with_op, equals_op, wildcard_op, regex_op}
use Rattle.lexer.specs.Kind.{text_kind, naming}
use Rattle.lexer.specs.Token.{Token, name, int32, int64, real, text, symbol, kind_of}
use Rattle.pattern.specs.Wildcard.{well_formed}
use Rattle.regexp.specs.Regex.{well_formed as regexFormed}
use Rattle.grammar.specs.Tree.{Tree, leaf, group, unary, binary, call, Trees, none, ◌then◌}
use Rattle.grammar.specs.Function.{function_of}
use Rattle.grammar.specs.Size.{count_of}

-- The form of an argument: a name, a string literal, a `fold-case` call; "names and literals asked for take no own parentheses"
pub data Form : Type 0 where
  Name : Form
  Text : Form
  FoldCase : Form
  Other : Form

abbrev pub leaf_form : ℕ → Form
leaf_form k = cond (eqb k naming) Name (cond (eqb k text_kind) Text Other)

abbrev pub call_form : ℕ → Form
call_form f = cond (eqb f fold_case_op) FoldCase Other

abbrev pub form_of : Tree → Form
form_of (leaf x) = leaf_form (kind_of x)
form_of (group t) = Other
form_of (unary k t) = Other
form_of (binary k t u) = Other
form_of (call x ts) = call_form (function_of x)

abbrev pub is_name : Form → Bool
is_name Name = true
is_name Text = false
is_name FoldCase = false
is_name Other = false

abbrev pub is_text : Form → Bool
is_text Name = false
is_text Text = true
is_text FoldCase = false
is_text Other = false

abbrev pub is_folding : Form → Bool
is_folding Name = false
is_folding Text = false
is_folding FoldCase = true
is_folding Other = false

-- the first argument's form, and whether all later ones are string literals
unfoldable pub first_of : Trees → Form
first_of none = Other
first_of (◌then◌ none t) = form_of t
first_of (◌then◌ (◌then◌ ts u) t) = first_of (◌then◌ ts u)

unfoldable pub later_texts : Trees → Bool
later_texts none = true
later_texts (◌then◌ none t) = true
later_texts (◌then◌ (◌then◌ ts u) t) = later_texts (◌then◌ ts u) && is_text (form_of t)

-- "`int32 int64 real64 string opaque nan require size` take one name."
abbrev pub takes_name : Form → ℕ → Bool
takes_name form count = eqb count 1 && is_name form

-- "`begins-with contains ends-with` take a name or a `fold-case` call, then 1..8 string literals."; `wildcard`: "Same argument forms as `begins-with`", `regex`: "Argument and bottom rules as for `begins-with`"
abbrev pub takes_texts : Form → ℕ → Bool → Bool
takes_texts form count texts = (is_name form || is_folding form) && (leb 2 count && (leb count 9 && texts))

-- "`equals` takes a name, then 1..8 values (logic there is 5)."
abbrev pub takes_values : Form → ℕ → Bool
takes_values form count = is_name form && (leb 2 count && leb count 9)

-- "`fold-case` takes one name, string literal or `fold-case` call."
abbrev pub takes_folded : Form → ℕ → Bool
takes_folded form count = eqb count 1 && (is_name form || (is_text form || is_folding form))

-- a call of the function with this op: whether its arguments are right, by the first one's form, their number, and whether the later ones are string literals
abbrev pub call_right : ℕ → Form → ℕ → Bool → Bool
call_right f form count texts =
    cond (eqb f fold_case_op) (takes_folded form count)
    (cond (eqb f equals_op) (takes_values form count)
    (cond (leb begins_with_op f && leb f regex_op) (takes_texts form count texts)
    (cond (eqb f size_op || (leb is_int32_op f && leb f require_op)) (takes_name form count) false)))

-- refusal 4 does not apply
unfoldable mutual
  pub forms_right : Tree → Bool
  forms_right (leaf x) = true
  forms_right (group t) = forms_right t
  forms_right (unary k t) = forms_right t
  forms_right (binary k t u) = forms_right t && forms_right u
  forms_right (call x ts) = forms_in ts && call_right (function_of x) (first_of ts) (count_of ts) (later_texts ts)

  pub forms_in : Trees → Bool
  forms_in none = true
  forms_in (◌then◌ ts t) = forms_in ts && forms_right t

-- the functions that take patterns, and whether a string is a pattern of the function with this op; any string is one of the others
abbrev pub takes_patterns : ℕ → Bool
takes_patterns f = eqb f wildcard_op || eqb f regex_op

abbrev pub pattern_test : ℕ → List ℕ → Bool
pattern_test f p = cond (eqb f wildcard_op) (well_formed p) (cond (eqb f regex_op) (regexFormed p) true)

-- an argument that is a string literal is a pattern of the function; an argument of another form does not count, since it is 4
abbrev pub literal_right : ℕ → Token → Bool
literal_right f (name s escaped) = true
literal_right f (int32 z) = true
literal_right f (int64 z) = true
literal_right f (real x) = true
literal_right f (text p) = pattern_test f p
literal_right f (symbol k) = true

abbrev pub argument_right : ℕ → Tree → Bool
argument_right f (leaf x) = literal_right f x
argument_right f (group t) = true
argument_right f (unary k t) = true
argument_right f (binary k t u) = true
argument_right f (call x ts) = true

-- the argument after n others; the first one is the value, no pattern
abbrev pub later_right : ℕ → ℕ → Tree → Bool
later_right f n t = cond (ltb 0 n) (argument_right f t) true

-- refusal 18 does not apply; the arguments are those of the function with the op f
unfoldable mutual
  pub patterns_right : Tree → Bool
  patterns_right (leaf x) = true
  patterns_right (group t) = patterns_right t
  patterns_right (unary k t) = patterns_right t
  patterns_right (binary k t u) = patterns_right t && patterns_right u
  patterns_right (call x ts) = patterns_in (function_of x) ts

  pub patterns_in : ℕ → Trees → Bool
  patterns_in f none = true
  patterns_in f (◌then◌ ts t) = patterns_in f ts && (patterns_right t && later_right f (count_of ts) t)

-- "Logic: comparisons, `! && ^^ ||`, all functions but `size` and `fold-case`."
abbrev pub gives_logic : ℕ → Bool
gives_logic k = leb equal_op k

-- "`! && ^^ ||` take logic; all other operators take values."
abbrev pub takes_logic : ℕ → Bool
takes_logic k = leb not_op k

unfoldable pub is_logic : Tree → Bool
is_logic (leaf x) = false
is_logic (group t) = is_logic t
is_logic (unary k t) = gives_logic k
is_logic (binary k t u) = gives_logic k
is_logic (call x ts) = gives_logic (function_of x)

-- an operand of the kind that the operator takes
abbrev pub agrees : Bool → Bool → Bool
agrees true logic = logic
agrees false logic = not logic

-- every operand and argument is of the kind asked; an argument is a value, which for all functions but `equals` its form tells already
unfoldable mutual
  pub kinds_right : Tree → Bool
  kinds_right (leaf x) = true
  kinds_right (group t) = kinds_right t
  kinds_right (unary k t) = kinds_right t && agrees (takes_logic k) (is_logic t)
  kinds_right (binary k t u) = (kinds_right t && agrees (takes_logic k) (is_logic t)) && (kinds_right u && agrees (takes_logic k) (is_logic u))
  kinds_right (call x ts) = kinds_in ts

  pub kinds_in : Trees → Bool
  kinds_in none = true
  kinds_in (◌then◌ ts t) = kinds_in ts && (kinds_right t && not (is_logic t))
