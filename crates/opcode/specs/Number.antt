-- The operators of tables by name: the number of each. Document 01, "Table", "Ops".
use Rattle.std.specs.Prelude.{ℕ}

-- what pushes a value
abbrev pub int32_op : ℕ
int32_op = 1

abbrev pub int64_op : ℕ
int64_op = 2

abbrev pub real64_op : ℕ
real64_op = 3

abbrev pub text_op : ℕ
text_op = 4

abbrev pub name_op : ℕ
name_op = 5

-- `fold-case`, `size`, `~`
abbrev pub fold_case_op : ℕ
fold_case_op = 6

abbrev pub size_op : ℕ
size_op = 7

abbrev pub complement_op : ℕ
complement_op = 8

-- `<< >> >>> & ^ |`
abbrev pub shift_left_op : ℕ
shift_left_op = 16

abbrev pub shift_right_op : ℕ
shift_right_op = 17

abbrev pub shift_right_zero_op : ℕ
shift_right_zero_op = 18

abbrev pub bit_and_op : ℕ
bit_and_op = 19

abbrev pub bit_xor_op : ℕ
bit_xor_op = 20

abbrev pub bit_or_op : ℕ
bit_or_op = 21

-- `* / % + -`
abbrev pub mul_op : ℕ
mul_op = 22

abbrev pub div_op : ℕ
div_op = 23

abbrev pub rem_op : ℕ
rem_op = 24

abbrev pub add_op : ℕ
add_op = 25

abbrev pub sub_op : ℕ
sub_op = 26

-- `== != < <= > >=`
abbrev pub equal_op : ℕ
equal_op = 32

abbrev pub not_equal_op : ℕ
not_equal_op = 33

abbrev pub less_op : ℕ
less_op = 34

abbrev pub less_equal_op : ℕ
less_equal_op = 35

abbrev pub greater_op : ℕ
greater_op = 36

abbrev pub greater_equal_op : ℕ
greater_equal_op = 37

-- `! && ^^ ||`
abbrev pub not_op : ℕ
not_op = 40

abbrev pub and_op : ℕ
and_op = 41

abbrev pub xor_op : ℕ
xor_op = 42

abbrev pub or_op : ℕ
or_op = 43

-- skip if false, skip if true
abbrev pub skip_if_false_op : ℕ
skip_if_false_op = 44

abbrev pub skip_if_true_op : ℕ
skip_if_true_op = 45

-- `int32 int64 real64 string opaque nan require`
abbrev pub is_int32_op : ℕ
is_int32_op = 48

abbrev pub is_int64_op : ℕ
is_int64_op = 49

abbrev pub is_real64_op : ℕ
is_real64_op = 50

abbrev pub is_text_op : ℕ
is_text_op = 51

abbrev pub is_opaque_op : ℕ
is_opaque_op = 52

abbrev pub is_nan_op : ℕ
is_nan_op = 53

abbrev pub require_op : ℕ
require_op = 54

-- `begins-with contains ends-with equals`, and of document 02 `wildcard`, `regex`
abbrev pub begins_with_op : ℕ
begins_with_op = 56

abbrev pub contains_op : ℕ
contains_op = 57

abbrev pub ends_with_op : ℕ
ends_with_op = 58

abbrev pub equals_op : ℕ
equals_op = 59

abbrev pub wildcard_op : ℕ
wildcard_op = 60

abbrev pub regex_op : ℕ
regex_op = 61
