-- What holds of the operators' names. The proof is in proofs/Theorems.antt, under the same name.
use Rattle.std.specs.Prelude.{ℕ, ◌≡◌, List, [], ◌∷◌, map}
use Rattle.opcode.specs.Number.{int32_op, int64_op, real64_op, text_op, name_op, fold_case_op, size_op, complement_op, shift_left_op, shift_right_op, shift_right_zero_op, bit_and_op, bit_xor_op, bit_or_op, mul_op, div_op, rem_op, add_op, sub_op, equal_op, not_equal_op, less_op, less_equal_op, greater_op, greater_equal_op, not_op, and_op, xor_op, or_op, skip_if_false_op, skip_if_true_op, is_int32_op, is_int64_op, is_real64_op, is_text_op, is_opaque_op, is_nan_op, require_op, begins_with_op, contains_op, ends_with_op, equals_op, wildcard_op, regex_op}
use Rattle.opcode.specs.Opcode.{ops, op_of}
use Rattle.opcode.specs.declared.Op.{Op}

-- the names in the order of their numbers
abbrev pub names : List ℕ
names =
    int32_op ∷ int64_op ∷ real64_op ∷ text_op ∷ name_op
    ∷ fold_case_op ∷ size_op ∷ complement_op
    ∷ shift_left_op ∷ shift_right_op ∷ shift_right_zero_op ∷ bit_and_op ∷ bit_xor_op ∷ bit_or_op
    ∷ mul_op ∷ div_op ∷ rem_op ∷ add_op ∷ sub_op
    ∷ equal_op ∷ not_equal_op ∷ less_op ∷ less_equal_op ∷ greater_op ∷ greater_equal_op
    ∷ not_op ∷ and_op ∷ xor_op ∷ or_op ∷ skip_if_false_op ∷ skip_if_true_op
    ∷ is_int32_op ∷ is_int64_op ∷ is_real64_op ∷ is_text_op ∷ is_opaque_op ∷ is_nan_op ∷ require_op
    ∷ begins_with_op ∷ contains_op ∷ ends_with_op ∷ equals_op ∷ wildcard_op ∷ regex_op
    ∷ []

-- the operators without the numbers that are none's
abbrev pub known : List Op → List Op
known [] = []
known (Op.Load l ∷ os) = Op.Load l ∷ known os
known (Op.Unary u ∷ os) = Op.Unary u ∷ known os
known (Op.Binary b ∷ os) = Op.Binary b ∷ known os
known (Op.Many m ∷ os) = Op.Many m ∷ known os
known (Op.Skip s ∷ os) = Op.Skip s ∷ known os
known (Op.Unknown ∷ os) = known os

-- The names are those of all operators, in their order.
abbrev pub Named : Type 0
Named = map op_of names ≡ known ops
