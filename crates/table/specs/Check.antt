-- The check of a table (refusal 12 if it fails). Document 01, "Table": "The check: each entry has enough operands of the right kind; depth is at most 32; a skip lands at or
-- before N; every way of reaching an entry, or the end, finds the same depth and kinds, and the end has one logic slot." Document 02, requests 1 and 13: the patterns of `wildcard` and `regex`.
use Rattle.std.specs.Prelude.{ℕ, zero, suc, ◌+◌, ◌-◌, ◌^◌, Bool, true, false, cond, not, ◌&&◌, ◌||◌, List, [], ◌∷◌, eqb, leb, ltb, length, take, drop, get_or}
use Rattle.std.proofs.Math.Option.{Option, none, some}
use Rattle.notice.specs.Field.{name_right}
use Rattle.pattern.specs.Wildcard.{well_formed}
use Rattle.regexp.specs.Regex.{well_formed as regexFormed}
use Rattle.opcode.specs.Opcode.{op_of, Kind, logic, value, takes_of, gives_of}
use Rattle.opcode.specs.declared.Load.{Load}
use Rattle.opcode.specs.declared.Fit.{Fit}
use Rattle.opcode.specs.declared.Many.{Many}
use Rattle.opcode.specs.declared.Op.{Op}
use Rattle.table.specs.Table.{Entry, blank, Program, decode, layout_of}

-- ---- an entry by itself

-- "b: two's complement .., int32 widened by sign and in range"
abbrev pub in_range : ℕ → Bool
in_range b = ltb b (2 ^ 31) || (leb (2 ^ 64 - 2 ^ 31) b && ltb b (2 ^ 64))

-- "a length, b pool offset": the bytes of a string or name
abbrev pub part_of : List ℕ → Entry → List ℕ
part_of pool e = take e.a (drop e.b pool)

-- "a + b at most the pool length": the exact sum
abbrev pub part_right : List ℕ → Entry → Bool
part_right pool e = leb (e.a + e.b) (length pool)

-- "a name keeps the notice's name rules"; "Unused a and b are zero."
abbrev pub load_right : List ℕ → Load → Entry → Bool
load_right pool Load.Int32 e = eqb e.a 0 && in_range e.b
load_right pool Load.Int64 e = eqb e.a 0
load_right pool Load.Real64 e = eqb e.a 0
load_right pool Load.Text e = part_right pool e
load_right pool Load.Name e = part_right pool e && name_right (part_of pool e)

-- "a: entries passed over, at least 1"; "a: literals or values, 1..8"
abbrev pub op_right : List ℕ → Op → Entry → Bool
op_right pool (Op.Load l) e = load_right pool l e
op_right pool (Op.Unary u) e = eqb e.a 0 && eqb e.b 0
op_right pool (Op.Binary b) e = eqb e.a 0 && eqb e.b 0
op_right pool (Op.Many m) e = (leb 1 e.a && leb e.a 8) && eqb e.b 0
op_right pool (Op.Skip s) e = leb 1 e.a && eqb e.b 0
op_right pool Op.Unknown e = false

abbrev pub entry_right : List ℕ → Entry → Bool
entry_right pool e = op_right pool (op_of e.op) e

unfoldable pub entries_right : List ℕ → List Entry → Bool
entries_right pool [] = true
entries_right pool (e ∷ es) = entry_right pool e && entries_right pool es

-- ---- the kinds of the stack, the topmost first, along the entries

abbrev pub same_kind : Kind → Kind → Bool
same_kind logic logic = true
same_kind logic value = false
same_kind value logic = false
same_kind value value = true

-- one operand off; none where there is no slot, or one of the other kind
abbrev pub pop_one : Kind → Option (List Kind) → Option (List Kind)
pop_one t none = none
pop_one t (some []) = none
pop_one t (some (k ∷ ks)) = cond (same_kind t k) (some ks) none

-- "each entry has enough operands of the right kind"
abbrev pub pop : List Kind → Option (List Kind) → Option (List Kind)
pop [] s = s
pop (t ∷ ts) s = pop ts (pop_one t s)

-- "depth is at most 32"
abbrev pub push : Kind → Option (List Kind) → Option (List Kind)
push g none = none
push g (some ks) = cond (ltb (length ks) 32) (some (g ∷ ks)) none

-- an operator's operands off, its result on; "A skip keeps its operand"
abbrev pub flow_by : Op → ℕ → Option (List Kind) → Option (List Kind)
flow_by op a s = push (gives_of op) (pop (takes_of op a) s)

-- what an entry makes of the kinds before it, if there are any
abbrev pub after : Entry → Option (List Kind) → Option (List Kind)
after e s = flow_by (op_of e.op) e.a s

-- the kinds before the entry i, where those before the first are s; the entry's index may be the end, N
unfoldable pub shape_from : List Entry → Option (List Kind) → ℕ → Option (List Kind)
shape_from es s zero = s
shape_from [] s (suc i) = none
shape_from (e ∷ es) s (suc i) = shape_from es (after e s) i

-- "The run starts at entry 0 with an empty stack."
abbrev pub shape_at : List Entry → ℕ → Option (List Kind)
shape_at es i = shape_from es (some []) i

-- ---- where skips land

abbrev pub skip_op : Op → Bool
skip_op (Op.Load l) = false
skip_op (Op.Unary u) = false
skip_op (Op.Binary b) = false
skip_op (Op.Many m) = false
skip_op (Op.Skip s) = true
skip_op Op.Unknown = false

abbrev pub is_skip : Entry → Bool
is_skip e = skip_op (op_of e.op)

abbrev pub same_kinds : List Kind → List Kind → Bool
same_kinds [] [] = true
same_kinds [] (l ∷ ls) = false
same_kinds (k ∷ ks) [] = false
same_kinds (k ∷ ks) (l ∷ ls) = same_kind k l && same_kinds ks ls

abbrev pub same_shape : Option (List Kind) → Option (List Kind) → Bool
same_shape none none = true
same_shape none (some ls) = false
same_shape (some ks) none = false
same_shape (some ks) (some ls) = same_kinds ks ls

-- "44 on a false top and 45 on a true one go a + 1 entries on": where a skip at i lands
abbrev pub landing : List Entry → ℕ → ℕ
landing es i = i + (get_or es i blank).a + 1

-- "a skip lands at or before N", and finds there the kinds that it was reached with
abbrev pub lands_right : List Entry → ℕ → Bool
lands_right es i = leb (landing es i) (length es) && same_shape (shape_at es (landing es i)) (shape_at es i)

abbrev pub skip_right : List Entry → ℕ → Bool
skip_right es i = not (is_skip (get_or es i blank)) || lands_right es i

-- each skip among the first n entries
unfoldable pub skips_right : List Entry → ℕ → Bool
skips_right es zero = true
skips_right es (suc i) = skips_right es i && skip_right es i

-- ---- patterns

-- which texts are patterns, for an operator that takes patterns
abbrev pub fit_pattern : Fit → Option (List ℕ → Bool)
fit_pattern Fit.BeginsWith = none
fit_pattern Fit.Contains = none
fit_pattern Fit.EndsWith = none
fit_pattern Fit.Wildcard = some well_formed
fit_pattern Fit.Regex = some regexFormed

abbrev pub many_pattern : Many → Option (List ℕ → Bool)
many_pattern (Many.Fit f) = fit_pattern f
many_pattern Many.Equals = none

abbrev pub pattern_test : Op → Option (List ℕ → Bool)
pattern_test (Op.Load l) = none
pattern_test (Op.Unary u) = none
pattern_test (Op.Binary b) = none
pattern_test (Op.Many m) = many_pattern m
pattern_test (Op.Skip s) = none
pattern_test Op.Unknown = none

-- an op 4 entry whose string is a pattern
abbrev pub operand_right : (List ℕ → Bool) → List ℕ → Entry → Bool
operand_right test pool e = eqb e.op 4 && test (part_of pool e)

-- so many entries directly before the entry i
unfoldable pub operands_right : (List ℕ → Bool) → List ℕ → List Entry → ℕ → ℕ → Bool
operands_right test pool es i zero = true
operands_right test pool es zero (suc a) = false
operands_right test pool es (suc i) (suc a) = operand_right test pool (get_or es i blank) && operands_right test pool es i a

abbrev pub pattern_by : Option (List ℕ → Bool) → List ℕ → List Entry → ℕ → ℕ → Bool
pattern_by none pool es i a = true
pattern_by (some test) pool es i a = operands_right test pool es i a

-- "the table check gives 12 for it [an ill-formed pattern] and for a pattern operand that is no op 4 entry directly before": all the patterns of e, the entry i
abbrev pub patterns_before : List ℕ → List Entry → ℕ → Entry → Bool
patterns_before pool es i e = pattern_by (pattern_test (op_of e.op)) pool es i e.a

abbrev pub pattern_right : List ℕ → List Entry → ℕ → Bool
pattern_right pool es i = patterns_before pool es i (get_or es i blank)

-- those of each among the first n entries
unfoldable pub patterns_right : List ℕ → List Entry → ℕ → Bool
patterns_right pool es zero = true
patterns_right pool es (suc i) = patterns_right pool es i && pattern_right pool es i

-- ---- all of it

-- "the end has one logic slot"
abbrev pub end_right : List Entry → Bool
end_right es = same_shape (shape_at es (length es)) (some (logic ∷ []))

abbrev pub program_right : Program → Bool
program_right p =
    entries_right p.pool p.entries
    && (end_right p.entries
    && (skips_right p.entries (length p.entries) && patterns_right p.pool p.entries (length p.entries)))

unfoldable pub check_of : List ℕ → Bool
check_of s = layout_of s && program_right (decode s)

-- "12 | table fails layout or check"
abbrev pub refusal_of : Bool → ℕ
refusal_of true = 0
refusal_of false = 12
