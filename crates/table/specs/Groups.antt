-- The operators by what the check asks of an entry. Each group has one rule for the entry by itself, and takes and gives the same kinds.
use Rattle.std.specs.Prelude.{ℕ, suc, Bool, true, false, ◌&&◌, List, [], ◌∷◌, eqb, leb, replicate}
use Rattle.opcode.specs.Opcode.{Kind, logic, value}
use Rattle.opcode.specs.declared.Load.{Load}
use Rattle.opcode.specs.declared.Unary.{Unary}
use Rattle.opcode.specs.declared.Binary.{Binary}
use Rattle.opcode.specs.declared.Op.{Op}
use Rattle.table.specs.declared.groups.Group.{Group}
use Rattle.table.specs.Table.{Entry}
use Rattle.table.specs.Check.{load_right}

abbrev pub load_group : Load → Group
load_group Load.Int32 = Group.Int32
load_group Load.Int64 = Group.Wide
load_group Load.Real64 = Group.Wide
load_group Load.Text = Group.Text
load_group Load.Name = Group.Name

abbrev pub unary_group : Unary → Group
unary_group Unary.Not = Group.Not
unary_group (Unary.Change c) = Group.Change
unary_group (Unary.Test t) = Group.Test

abbrev pub binary_group : Binary → Group
binary_group (Binary.Combine c) = Group.Combine
binary_group (Binary.Compare c) = Group.Compare
binary_group (Binary.Connect c) = Group.Connect

abbrev pub group_of : Op → Group
group_of (Op.Load l) = load_group l
group_of (Op.Unary u) = unary_group u
group_of (Op.Binary b) = binary_group b
group_of (Op.Many m) = Group.Many
group_of (Op.Skip s) = Group.Skip
group_of Op.Unknown = Group.Unknown

-- ---- what holds of an operator by its group: `op_right`, `takes_of`, `gives_of` and `skip_op` in these terms

abbrev pub right_by : List ℕ → Group → Entry → Bool
right_by pool Group.Int32 e = load_right pool Load.Int32 e
right_by pool Group.Wide e = eqb e.a 0
right_by pool Group.Text e = load_right pool Load.Text e
right_by pool Group.Name e = load_right pool Load.Name e
right_by pool Group.Change e = eqb e.a 0 && eqb e.b 0
right_by pool Group.Not e = eqb e.a 0 && eqb e.b 0
right_by pool Group.Test e = eqb e.a 0 && eqb e.b 0
right_by pool Group.Combine e = eqb e.a 0 && eqb e.b 0
right_by pool Group.Compare e = eqb e.a 0 && eqb e.b 0
right_by pool Group.Connect e = eqb e.a 0 && eqb e.b 0
right_by pool Group.Many e = (leb 1 e.a && leb e.a 8) && eqb e.b 0
right_by pool Group.Skip e = leb 1 e.a && eqb e.b 0
right_by pool Group.Unknown e = false

abbrev pub takes_by : Group → ℕ → List Kind
takes_by Group.Int32 a = []
takes_by Group.Wide a = []
takes_by Group.Text a = []
takes_by Group.Name a = []
takes_by Group.Change a = value ∷ []
takes_by Group.Not a = logic ∷ []
takes_by Group.Test a = value ∷ []
takes_by Group.Combine a = value ∷ value ∷ []
takes_by Group.Compare a = value ∷ value ∷ []
takes_by Group.Connect a = logic ∷ logic ∷ []
takes_by Group.Many a = replicate (suc a) value
takes_by Group.Skip a = logic ∷ []
takes_by Group.Unknown a = []

abbrev pub gives_by : Group → Kind
gives_by Group.Int32 = value
gives_by Group.Wide = value
gives_by Group.Text = value
gives_by Group.Name = value
gives_by Group.Change = value
gives_by Group.Not = logic
gives_by Group.Test = logic
gives_by Group.Combine = value
gives_by Group.Compare = logic
gives_by Group.Connect = logic
gives_by Group.Many = logic
gives_by Group.Skip = logic
gives_by Group.Unknown = logic

abbrev pub skip_by : Group → Bool
skip_by Group.Int32 = false
skip_by Group.Wide = false
skip_by Group.Text = false
skip_by Group.Name = false
skip_by Group.Change = false
skip_by Group.Not = false
skip_by Group.Test = false
skip_by Group.Combine = false
skip_by Group.Compare = false
skip_by Group.Connect = false
skip_by Group.Many = false
skip_by Group.Skip = true
skip_by Group.Unknown = false
