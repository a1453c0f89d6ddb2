-- Operators, parentheses and the comma, by their kind numbers. Document 01, "Tokens": "Operators take the longest match", and "Table", "Ops".
-- 0 is no symbol.
use Rattle.std.specs.Prelude.{ℕ, zero, suc, cond, ◌&&◌, eqb}
use Rattle.opcode.specs.Number.{complement_op, shift_left_op, shift_right_op, shift_right_zero_op, bit_and_op, bit_xor_op, bit_or_op, mul_op, div_op, rem_op, add_op, sub_op, equal_op, not_equal_op, less_op, less_equal_op, greater_op, greater_equal_op, not_op, and_op, xor_op, or_op}
use Rattle.lexer.specs.Byte.{is}
use Rattle.lexer.specs.Kind.{opening, closing, comma}

-- `>>>`
abbrev pub three_bytes : ℕ → ℕ → ℕ → ℕ
three_bytes a b c = cond (is ">" a && is ">" b && is ">" c) shift_right_zero_op 0

-- a byte and `=`: `== != <= >=`
abbrev pub with_equal : ℕ → ℕ
with_equal a = cond (is "=" a) equal_op (cond (is "!" a) not_equal_op (cond (is "<" a) less_equal_op (cond (is ">" a) greater_equal_op 0)))

-- a byte twice: `<< >> && ^^ ||`
abbrev pub doubled : ℕ → ℕ
doubled a = cond (is "<" a) shift_left_op (cond (is ">" a) shift_right_op (cond (is "&" a) and_op (cond (is "^" a) xor_op (cond (is "|" a) or_op 0))))

abbrev pub two_bytes : ℕ → ℕ → ℕ
two_bytes a b = cond (is "=" b) (with_equal a) (cond (eqb a b) (doubled a) 0)

-- `~ & ^ | * / %`, `+ - < > !` and `( ) ,`
abbrev pub one_byte : ℕ → ℕ
one_byte a =
    cond (is "~" a) complement_op (cond (is "(" a) opening (cond (is ")" a) closing (cond (is "," a) comma
    (cond (is "&" a) bit_and_op (cond (is "^" a) bit_xor_op (cond (is "|" a) bit_or_op (cond (is "*" a) mul_op
    (cond (is "/" a) div_op (cond (is "%" a) rem_op (cond (is "+" a) add_op (cond (is "-" a) sub_op
    (cond (is "<" a) less_op (cond (is ">" a) greater_op (cond (is "!" a) not_op 0))))))))))))))

abbrev pub first_of : ℕ → ℕ → ℕ
first_of zero k = k
first_of (suc n) k = suc n

-- "the longest match" of the first three bytes; 0 stands for a byte past the end
abbrev pub symbol_of : ℕ → ℕ → ℕ → ℕ
symbol_of a b c = first_of (three_bytes a b c) (first_of (two_bytes a b) (one_byte a))

abbrev pub symbol_length : ℕ → ℕ → ℕ → ℕ
symbol_length a b c = cond (eqb (three_bytes a b c) 0) (cond (eqb (two_bytes a b) 0) 1 2) 3
