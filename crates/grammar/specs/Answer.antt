-- The numbers of a result: of a whole expression the first token after it, its sizes and what the refusals 4, 18 and 5 ask; or the token that cannot go on.
use Rattle.std.specs.Prelude.{ℕ, Bool, cond, not, ◌&&◌, ltb}
use Rattle.grammar.specs.Tree.{Tree}
use Rattle.grammar.specs.Parse.{Result, ok, bad}
use Rattle.grammar.specs.Size.{entries_of, pool_of, depth_of}
use Rattle.grammar.specs.Judge.{Form, form_of, forms_right, patterns_right, is_logic, kinds_right}

-- The entries, pool bytes and stack slots of an expression's code, its form as an argument, whether it is logic, and whether the refusals 4, 18 and 5 do not apply to it.
pub record Found : Type 0 where
  pub entries : ℕ
  pub pool : ℕ
  pub depth : ℕ
  pub form : Form
  pub logic : Bool
  pub forms : Bool
  pub patterns : Bool
  pub kinds : Bool

pub data Parsed : Type 0 where
  Whole : ℕ → Found → Parsed
  Broken : ℕ → Parsed

abbrev pub found_of : Tree → Found
found_of t =
    record {
      entries = entries_of t;
      pool = pool_of t;
      depth = depth_of t;
      form = form_of t;
      logic = is_logic t;
      forms = forms_right t;
      patterns = patterns_right t;
      kinds = kinds_right t;
    }

abbrev pub answer_of : Result → Parsed
answer_of (ok t n) = Whole n (found_of t)
answer_of (bad p) = Broken p

-- The number of an answer, "first that applies in this order: .. 2, 4, 5, 7, 8", 18 "after 4 and before 5", and 0 if none does; and its place as a token, since the parser knows tokens and not bytes.
abbrev pub found_number : Found → ℕ
found_number f =
    cond (not f.forms) 4
    (cond (not f.patterns) 18
    (cond (not (f.kinds && f.logic)) 5
    (cond (ltb 512 f.entries) 7
    (cond (ltb 32 f.depth) 8 0))))

abbrev pub number_of : Parsed → ℕ
number_of (Whole n f) = found_number f
number_of (Broken p) = 2

abbrev pub place_of : Parsed → ℕ
place_of (Whole n f) = 0
place_of (Broken p) = p
