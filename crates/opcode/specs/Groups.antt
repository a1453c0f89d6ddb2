-- The operators by what a run does with them, and the operator that a number of a group names.
use Rattle.std.specs.Prelude.{Bool, true, false}
use Rattle.opcode.specs.declared.Arithmetic.{Arithmetic}
use Rattle.opcode.specs.declared.Order.{Order}
use Rattle.opcode.specs.declared.Load.{Load}
use Rattle.opcode.specs.declared.Change.{Change}
use Rattle.opcode.specs.declared.Test.{Test}
use Rattle.opcode.specs.declared.Unary.{Unary}
use Rattle.opcode.specs.declared.Combine.{Combine}
use Rattle.opcode.specs.declared.Compare.{Compare}
use Rattle.opcode.specs.declared.Connective.{Connective}
use Rattle.opcode.specs.declared.Binary.{Binary}
use Rattle.opcode.specs.declared.Fit.{Fit}
use Rattle.opcode.specs.declared.Many.{Many}
use Rattle.opcode.specs.declared.Skip.{Skip}
use Rattle.opcode.specs.declared.Op.{Op}
use Rattle.opcode.specs.declared.groups.Group.{Group}

abbrev pub load_group : Load → Group
load_group Load.Int32 = Group.Int32
load_group Load.Int64 = Group.Int64
load_group Load.Real64 = Group.Real64
load_group Load.Text = Group.Text
load_group Load.Name = Group.Name

abbrev pub unary_group : Unary → Group
unary_group Unary.Not = Group.Not
unary_group (Unary.Change c) = Group.Change
unary_group (Unary.Test t) = Group.Test

abbrev pub binary_group : Binary → Group
binary_group (Binary.Combine c) = Group.Combine
binary_group (Binary.Compare Compare.Equal) = Group.Equality
binary_group (Binary.Compare Compare.NotEqual) = Group.Equality
binary_group (Binary.Compare (Compare.Order o)) = Group.Order
binary_group (Binary.Connect Connective.And) = Group.And
binary_group (Binary.Connect Connective.Xor) = Group.Xor
binary_group (Binary.Connect Connective.Or) = Group.Or

abbrev pub skip_group : Skip → Group
skip_group Skip.IfFalse = Group.SkipIfFalse
skip_group Skip.IfTrue = Group.SkipIfTrue

abbrev pub group_of : Op → Group
group_of (Op.Load l) = load_group l
group_of (Op.Unary u) = unary_group u
group_of (Op.Binary b) = binary_group b
group_of (Op.Many m) = Group.Many
group_of (Op.Skip s) = skip_group s
group_of Op.Unknown = Group.Unknown

-- ---- the operator in each group that has several, and the group's last for those of other groups

abbrev pub change_in : Op → Change
change_in (Op.Load l) = Change.Complement
change_in (Op.Unary Unary.Not) = Change.Complement
change_in (Op.Unary (Unary.Change c)) = c
change_in (Op.Unary (Unary.Test t)) = Change.Complement
change_in (Op.Binary b) = Change.Complement
change_in (Op.Many m) = Change.Complement
change_in (Op.Skip s) = Change.Complement
change_in Op.Unknown = Change.Complement

abbrev pub combine_in : Op → Combine
combine_in (Op.Load l) = Combine.Arithmetic Arithmetic.Sub
combine_in (Op.Unary u) = Combine.Arithmetic Arithmetic.Sub
combine_in (Op.Binary (Binary.Combine c)) = c
combine_in (Op.Binary (Binary.Compare c)) = Combine.Arithmetic Arithmetic.Sub
combine_in (Op.Binary (Binary.Connect c)) = Combine.Arithmetic Arithmetic.Sub
combine_in (Op.Many m) = Combine.Arithmetic Arithmetic.Sub
combine_in (Op.Skip s) = Combine.Arithmetic Arithmetic.Sub
combine_in Op.Unknown = Combine.Arithmetic Arithmetic.Sub

abbrev pub is_not_equal : Op → Bool
is_not_equal (Op.Load l) = false
is_not_equal (Op.Unary u) = false
is_not_equal (Op.Binary (Binary.Combine c)) = false
is_not_equal (Op.Binary (Binary.Compare Compare.Equal)) = false
is_not_equal (Op.Binary (Binary.Compare Compare.NotEqual)) = true
is_not_equal (Op.Binary (Binary.Compare (Compare.Order o))) = false
is_not_equal (Op.Binary (Binary.Connect c)) = false
is_not_equal (Op.Many m) = false
is_not_equal (Op.Skip s) = false
is_not_equal Op.Unknown = false

-- `==`, or `!=` where it is negated
abbrev pub equality_by : Bool → Compare
equality_by false = Compare.Equal
equality_by true = Compare.NotEqual

abbrev pub order_in : Op → Order
order_in (Op.Load l) = Order.GreaterEqual
order_in (Op.Unary u) = Order.GreaterEqual
order_in (Op.Binary (Binary.Combine c)) = Order.GreaterEqual
order_in (Op.Binary (Binary.Compare Compare.Equal)) = Order.GreaterEqual
order_in (Op.Binary (Binary.Compare Compare.NotEqual)) = Order.GreaterEqual
order_in (Op.Binary (Binary.Compare (Compare.Order o))) = o
order_in (Op.Binary (Binary.Connect c)) = Order.GreaterEqual
order_in (Op.Many m) = Order.GreaterEqual
order_in (Op.Skip s) = Order.GreaterEqual
order_in Op.Unknown = Order.GreaterEqual

abbrev pub test_in : Op → Test
test_in (Op.Load l) = Test.Require
test_in (Op.Unary Unary.Not) = Test.Require
test_in (Op.Unary (Unary.Change c)) = Test.Require
test_in (Op.Unary (Unary.Test t)) = t
test_in (Op.Binary b) = Test.Require
test_in (Op.Many m) = Test.Require
test_in (Op.Skip s) = Test.Require
test_in Op.Unknown = Test.Require

abbrev pub many_in : Op → Many
many_in (Op.Load l) = Many.Fit Fit.Regex
many_in (Op.Unary u) = Many.Fit Fit.Regex
many_in (Op.Binary b) = Many.Fit Fit.Regex
many_in (Op.Many m) = m
many_in (Op.Skip s) = Many.Fit Fit.Regex
many_in Op.Unknown = Many.Fit Fit.Regex
