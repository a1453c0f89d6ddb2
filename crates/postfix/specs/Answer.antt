-- What the parser answers of a result, and the codes that it leaves.
use Rattle.std.specs.Prelude.{ℕ, Ok, Err, ◌*◌, ◌≤◌, ◌<◌, ◌≡◌, true, false, cond, not, ◌||◌, eqb, List, length, get_or}
use Rattle.std.proofs.lemmas.List.Edits.{sets}
use Rattle.std.specs.Prelude.{Result as Reply}
use Rattle.lexer.specs.Kind.{ending}
use Rattle.lexer.specs.Token.{Token}
use Rattle.grammar.specs.Tree.{Tree}
use Rattle.grammar.specs.Grammar.{is_prefix}
use Rattle.grammar.specs.Parse.{Result, ok, bad, prefix_of, parse_all}
use Rattle.grammar.specs.Size.{entries_of, depth_of}
use Rattle.grammar.specs.Judge.{is_logic, forms_right, kinds_right}
use Rattle.grammar.specs.Code.{codes_of}
use Rattle.postfix.specs.Marked.{Marked}
use Rattle.postfix.specs.Packed.{next_in, end_in, known_in, counted_to, logic_bit, forms_bit, kinds_bit, depth_bits, broken, part_of}
use Rattle.postfix.specs.declared.Judged.{Judged}

-- how many entries, whether it is logic, whether the refusals 4 and 5 do not apply, and how many slots it holds at once, up to 63
abbrev pub judged_of : Tree → Judged
judged_of t = record { entries = entries_of t; logic = is_logic t; forms = forms_right t; kinds = kinds_right t; depth = counted_to (depth_of t) }

abbrev pub answer_of : Result → Reply Judged ℕ
answer_of (ok t n) = Ok (judged_of t)
answer_of (bad p) = Err p

-- The codes of a tree stand from i on, as far as there is room, and every other code is as it was. Where there is no tree, nothing is told but the length.
abbrev pub Leaves : Result → ℕ → List ℕ → List ℕ → Type 0
Leaves (ok t n) i was now = now ≡ sets was i (codes_of t)
Leaves (bad p) i was now = length now ≡ length was

-- ---- the steps of the parser

-- the number that a step answers, and the codes that it leaves from i on
pub record Answered (x : Result) (i : ℕ) (was now : List ℕ) (r : ℕ) : Type 0 where
  pub is : r ≡ part_of x i
  pub leaves : Leaves x i was now

-- a step that starts at a token of some tokens, with i codes before it
pub record Ready (marks : List ℕ) (at i : ℕ) : Type 0 where
  pub tokens : List Token
  pub marked : Marked marks tokens
  pub few : length marks ≤ 4096
  pub within : at ≤ length marks
  pub room : i ≤ 2 * at

-- the step's answer is that of the result on all tokens that the marks stand for
abbrev pub Tells : List ℕ → (List Token → Result) → ℕ → List ℕ → List ℕ → ℕ → Type 0
Tells marks f i was now r = (ks : List Token) → Marked marks ks → Answered (f ks) i was now r

-- a run of prefix operators from `at` up to `first`, and no longer
pub record Run (marks : List ℕ) (at first : ℕ) : Type 0 where
  pub upto : at ≤ first
  pub each : (n : ℕ) → at ≤ n → n < first → is_prefix (get_or marks n ending) ≡ true
  pub past : is_prefix (get_or marks first ending) ≡ false

-- the answer of n tokens by the number of the expression that starts them
abbrev pub read_by : ℕ → ℕ → Reply Judged ℕ
read_by n x =
    cond (broken x || not (eqb (next_in x) n)) (Err (next_in x))
    (Ok (record { entries = end_in x; logic = logic_bit (known_in x); forms = forms_bit (known_in x); kinds = kinds_bit (known_in x); depth = depth_bits (known_in x) }))

-- ---- the promises

-- of the whole: on all tokens that the marks stand for, the answer is that of the result, and its codes stand from the first on
abbrev pub Parses : List ℕ → List ℕ → List ℕ → Reply Judged ℕ → Type 0
Parses marks was now r = (ks : List Token) → Marked marks ks → (r ≡ answer_of (parse_all ks)) × Leaves (parse_all ks) 0 was now

-- of a run of prefix operators: the answer for what follows it becomes the answer for the run
abbrev pub Wraps : List ℕ → ℕ → ℕ → ℕ → List ℕ → List ℕ → ℕ → Type 0
Wraps marks at first inner mid now r =
    (ks : List Token) (i : ℕ) (was : List ℕ) → Marked marks ks → Run marks at first → length ks ≤ 4096 → i ≤ 2 * at
    → Answered (prefix_of ks first) i was mid inner → Answered (prefix_of ks at) i was now r
