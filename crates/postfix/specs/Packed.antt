-- The answer of a step of the parser in one number: the next token, the next code, and what is known of the expression.
use Rattle.std.specs.Prelude.{ℕ, ◌+◌, ◌-◌, ◌*◌, ◌/◌, ◌%◌, min, max, Bool, true, false, cond, not, ◌&&◌, ◌||◌, List, [], ◌∷◌, eqb, leb, ltb, get_or}
use Rattle.std.proofs.lemmas.List.Edits.{sets}
use Rattle.lexer.specs.Kind.{closing, ending}
use Rattle.grammar.specs.Tree.{Tree, Trees}
use Rattle.grammar.specs.Grammar.{rank}
use Rattle.grammar.specs.Parse.{Result, ok, bad}
use Rattle.grammar.specs.Size.{count_of, skips, entries_of, entries_in, depth_of, depth_in}
use Rattle.grammar.specs.Judge.{Form, Name, Text, FoldCase, Other, leaf_form, call_form, form_of, is_text, first_of, later_texts, call_right, forms_right, forms_in, gives_logic, takes_logic, is_logic, agrees, kinds_right, kinds_in}
use Rattle.grammar.specs.Marks.{calling, is_operand}
use Rattle.grammar.specs.Code.{code, skip_codes, call_code}

-- ---- the number

abbrev pub packed : ℕ → ℕ → ℕ → ℕ
packed next end known = next + 65536 * (end + 65536 * known)

abbrev pub next_in : ℕ → ℕ
next_in x = x % 65536

abbrev pub end_in : ℕ → ℕ
end_in x = x / 65536 % 65536

abbrev pub known_in : ℕ → ℕ
known_in x = x / 4294967296

-- ---- what is known: whether it is logic, whether the refusals 4 and 5 do not apply, its form as an argument, and the slots that it holds

abbrev pub bit : Bool → ℕ
bit b = cond b 1 0

abbrev pub form_number : Form → ℕ
form_number Name = 1
form_number Text = 2
form_number FoldCase = 3
form_number Other = 0

abbrev pub form_in : ℕ → Form
form_in n = cond (eqb n 1) Name (cond (eqb n 2) Text (cond (eqb n 3) FoldCase Other))

-- the slots that an expression holds at once are counted up to 63: refusal 8 asks whether they are over 32
abbrev pub counted_to : ℕ → ℕ
counted_to n = min n 63

abbrev pub know : Bool → Bool → Bool → ℕ → ℕ → ℕ
know logic forms kinds form depth = bit logic + 2 * bit forms + 4 * bit kinds + 8 * form + 16777216 * depth

abbrev pub logic_bit : ℕ → Bool
logic_bit f = eqb (f % 2) 1

abbrev pub forms_bit : ℕ → Bool
forms_bit f = eqb (f / 2 % 2) 1

abbrev pub kinds_bit : ℕ → Bool
kinds_bit f = eqb (f / 4 % 2) 1

abbrev pub form_bits : ℕ → ℕ
form_bits f = f / 8 % 4

abbrev pub broken_bit : ℕ → Bool
broken_bit f = eqb (f / 128 % 2) 1

abbrev pub depth_bits : ℕ → ℕ
depth_bits f = f / 16777216 % 64

-- of arguments: their number
abbrev pub count_bits : ℕ → ℕ
count_bits f = f / 256 % 65536

abbrev pub broken : ℕ → Bool
broken x = broken_bit (known_in x)

-- ---- the number of a result whose codes start at i, and of the arguments of a call

abbrev pub broken_at : ℕ → ℕ
broken_at p = packed p 0 128

abbrev pub known_of : Tree → ℕ
known_of t = know (is_logic t) (forms_right t) (kinds_right t) (form_number (form_of t)) (counted_to (depth_of t))

abbrev pub part_of : Result → ℕ → ℕ
part_of (ok t n) i = packed n (i + entries_of t) (known_of t)
part_of (bad p) i = broken_at p

-- the bit of logic tells of arguments whether all but the first are string literals, and the form is the first one's
abbrev pub args_known : Trees → ℕ
args_known ts = know (later_texts ts) (forms_in ts) (kinds_in ts) (form_number (first_of ts)) (counted_to (depth_in ts)) + 256 * count_of ts

abbrev pub args_part : Trees → ℕ → ℕ → ℕ
args_part ts n i = packed n (i + entries_in ts) (args_known ts)

-- ---- what is known of an expression from what is known of its parts

abbrev pub unary_known : ℕ → ℕ → ℕ
unary_known k f = know (gives_logic k) (forms_bit f) (kinds_bit f && agrees (takes_logic k) (logic_bit f)) 0 (depth_bits f)

abbrev pub binary_known : ℕ → ℕ → ℕ → ℕ
binary_known k f g =
    know (gives_logic k) (forms_bit f && forms_bit g) ((kinds_bit f && agrees (takes_logic k) (logic_bit f)) && (kinds_bit g && agrees (takes_logic k) (logic_bit g))) 0
    (max (depth_bits f) (counted_to (depth_bits g + 1)))

-- "names and literals asked for take no own parentheses"
abbrev pub group_known : ℕ → ℕ
group_known f = know (logic_bit f) (forms_bit f) (kinds_bit f) 0 (depth_bits f)

abbrev pub leaf_known : ℕ → ℕ
leaf_known k = know false true true (form_number (leaf_form k)) 1

abbrev pub none_known : ℕ
none_known = know true true true 0 1

abbrev pub more_known : ℕ → ℕ → ℕ
more_known a f =
    know (cond (eqb (count_bits a) 0) true (logic_bit a && is_text (form_in (form_bits f)))) (forms_bit a && forms_bit f)
    (kinds_bit a && (kinds_bit f && not (logic_bit f))) (cond (eqb (count_bits a) 0) (form_bits f) (form_bits a))
    (max (depth_bits a) (counted_to (count_bits a + depth_bits f)))
    + 256 * (count_bits a + 1)

abbrev pub call_known : ℕ → ℕ → ℕ
call_known f a =
    know (gives_logic f) (forms_bit a && call_right f (form_in (form_bits a)) (count_bits a) (logic_bit a)) (kinds_bit a) (form_number (call_form f)) (depth_bits a)

-- ---- the same of the numbers, and the codes that are left

-- the mark after an expression, and the one before what comes next after an argument; `ending` if it is broken
abbrev pub mark_after : List ℕ → ℕ → ℕ
mark_after ms x = cond (broken x) ending (get_or ms (next_in x) ending)

abbrev pub mark_before : List ℕ → ℕ → ℕ
mark_before ms x = cond (broken x) ending (get_or ms (next_in x - 1) ending)

-- whether the mark at a place is a literal's or a name's, and no operator of the level l or a tighter one comes after it
abbrev pub alone_in : List ℕ → ℕ → ℕ → Bool
alone_in ms at l = is_operand (get_or ms at ending) && (ltb (rank (get_or ms (at + 1) ending)) l || leb 11 (rank (get_or ms (at + 1) ending)))

abbrev pub unary_part : ℕ → ℕ → ℕ
unary_part k x = cond (broken x) x (packed (next_in x) (end_in x + 1) (unary_known k (known_in x)))

abbrev pub unary_codes : ℕ → ℕ → List ℕ → List ℕ
unary_codes k x was = cond (broken x) was (sets was (end_in x) (code k 0 ∷ []))

-- where the codes of the right side start
abbrev pub right_start : ℕ → ℕ → ℕ
right_start k x = end_in x + cond (skips k) 1 0

abbrev pub binary_part : ℕ → ℕ → ℕ → ℕ
binary_part k x y = cond (broken y) y (packed (next_in y) (end_in y + 1) (binary_known k (known_in x) (known_in y)))

-- the skip where the left side ends, if there is one, and the operator where the right side ends
abbrev pub binary_codes : ℕ → ℕ → ℕ → List ℕ → List ℕ
binary_codes k x y was = cond (broken y) was (sets (sets was (end_in x) (skip_codes k (end_in y - (end_in x + 1)))) (end_in y) (code k 0 ∷ []))

abbrev pub group_part : List ℕ → ℕ → ℕ
group_part ms x =
    cond (broken x) x (cond (eqb (get_or ms (next_in x) ending) closing) (packed (next_in x + 1) (end_in x) (group_known (known_in x))) (broken_at (next_in x)))

abbrev pub leaf_part : ℕ → ℕ → ℕ → ℕ
leaf_part k at i = cond (is_operand k) (packed (at + 1) (i + 1) (leaf_known k)) (broken_at at)

abbrev pub leaf_codes : ℕ → ℕ → List ℕ → List ℕ
leaf_codes k i was = cond (is_operand k) (sets was i (code k 0 ∷ [])) was

-- one argument more, of which the next token is the one after the `,` or `)` that follows it
abbrev pub more_part : ℕ → ℕ → ℕ
more_part x y = cond (broken y) y (packed (next_in y + 1) (end_in y) (more_known (known_in x) (known_in y)))

abbrev pub function_in : ℕ → ℕ
function_in m = m - calling

-- a call of the function f, if a `)` follows the arguments
abbrev pub call_part : List ℕ → ℕ → ℕ → ℕ
call_part ms f x =
    cond (broken x) x (cond (eqb (mark_before ms x) closing) (packed (next_in x) (end_in x + 1) (call_known f (known_in x))) (broken_at (next_in x - 1)))

abbrev pub call_codes : List ℕ → ℕ → ℕ → List ℕ → List ℕ
call_codes ms f x was = cond (eqb (mark_before ms x) closing) (sets was (end_in x) (call_code f (count_bits (known_in x)) ∷ [])) was
