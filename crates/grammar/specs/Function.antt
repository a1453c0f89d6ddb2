-- The functions by name. Document 01, "Grammar", "Functions"; the op of each is that of "Table". Document 02, request 1: `wildcard`, "It gets op 60."; request 13: `regex`, "op 61".
use Rattle.std.specs.Prelude.{ℕ, zero, suc, Option, None, Some, Bool, cond, not, ◌&&◌, List, [], ◌∷◌, eqb}
use Rattle.octets.specs.Octets.{same_of}
use Rattle.opcode.specs.Number.{fold_case_op, size_op, is_int32_op, is_int64_op, is_real64_op, is_text_op, is_opaque_op, is_nan_op, require_op, begins_with_op, contains_op, ends_with_op, equals_op, wildcard_op, regex_op}
use Rattle.lexer.specs.Ascii.{ascii}
use Rattle.lexer.specs.Token.{Token, name, int32, int64, real, text, symbol}

-- a name and its op
pub record Function : Type 0 where
  pub word : List ℕ
  pub op : ℕ

abbrev pub changes : List Function
changes = record { word = ascii "fold-case"; op = fold_case_op } ∷ record { word = ascii "size"; op = size_op } ∷ []

abbrev pub tests : List Function
tests =
    record { word = ascii "int32"; op = is_int32_op }
    ∷ record { word = ascii "int64"; op = is_int64_op }
    ∷ record { word = ascii "real64"; op = is_real64_op }
    ∷ record { word = ascii "string"; op = is_text_op }
    ∷ record { word = ascii "opaque"; op = is_opaque_op }
    ∷ record { word = ascii "nan"; op = is_nan_op }
    ∷ record { word = ascii "require"; op = require_op }
    ∷ []

abbrev pub matches : List Function
matches =
    record { word = ascii "begins-with"; op = begins_with_op }
    ∷ record { word = ascii "contains"; op = contains_op }
    ∷ record { word = ascii "ends-with"; op = ends_with_op }
    ∷ record { word = ascii "equals"; op = equals_op }
    ∷ record { word = ascii "wildcard"; op = wildcard_op }
    ∷ record { word = ascii "regex"; op = regex_op }
    ∷ []

-- the op of a name among some functions, 0 if it is none of them; "Function names take no escapes"
abbrev pub among : List Function → List ℕ → Bool → ℕ
among [] s escaped = 0
among (f ∷ fs) s escaped = cond (not escaped && same_of s f.word) f.op (among fs s escaped)

-- the first that is not 0
abbrev pub or_else : ℕ → ℕ → ℕ
or_else a b = cond (eqb a 0) b a

abbrev pub op_of_name : List ℕ → Bool → ℕ
op_of_name s escaped = or_else (among changes s escaped) (or_else (among tests s escaped) (among matches s escaped))

-- Inside the code: an op, and none for 0.
abbrev pub op_if_any : ℕ → Option ℕ
op_if_any zero = None
op_if_any (suc n) = Some (suc n)

-- the op of a called name, 0 if there is no such function
abbrev pub function_of : Token → ℕ
function_of (name s escaped) = op_of_name s escaped
function_of (int32 z) = 0
function_of (int64 z) = 0
function_of (real x) = 0
function_of (text s) = 0
function_of (symbol k) = 0
