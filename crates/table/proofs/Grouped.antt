-- What holds of an operator's group holds of the operator. Assumes nothing.
use mathlib.Core.Path.{◌≡◌, refl}
use mathlib.Core.List.{List}
use Prim.Native.Nat.{ℕ}
use Rattle.opcode.specs.Opcode.{takes_of, gives_of}
use Rattle.opcode.specs.declared.Load.{Load}
use Rattle.opcode.specs.declared.Unary.{Unary}
use Rattle.opcode.specs.declared.Binary.{Binary}
use Rattle.opcode.specs.declared.Op.{Op}
use Rattle.table.specs.Table.{Entry}
use Rattle.table.specs.Check.{op_right, skip_op}
use Rattle.table.specs.Groups.{group_of, right_by, takes_by, gives_by, skip_by}

pub right_grouped : (pool : List ℕ) (op : Op) (e : Entry) → right_by pool (group_of op) e ≡ op_right pool op e
right_grouped pool (Op.Load Load.Int32) e = refl
right_grouped pool (Op.Load Load.Int64) e = refl
right_grouped pool (Op.Load Load.Real64) e = refl
right_grouped pool (Op.Load Load.Text) e = refl
right_grouped pool (Op.Load Load.Name) e = refl
right_grouped pool (Op.Unary Unary.Not) e = refl
right_grouped pool (Op.Unary (Unary.Change c)) e = refl
right_grouped pool (Op.Unary (Unary.Test t)) e = refl
right_grouped pool (Op.Binary (Binary.Combine c)) e = refl
right_grouped pool (Op.Binary (Binary.Compare c)) e = refl
right_grouped pool (Op.Binary (Binary.Connect c)) e = refl
right_grouped pool (Op.Many m) e = refl
right_grouped pool (Op.Skip s) e = refl
right_grouped pool Op.Unknown e = refl

pub takes_grouped : (op : Op) (a : ℕ) → takes_by (group_of op) a ≡ takes_of op a
takes_grouped (Op.Load Load.Int32) a = refl
takes_grouped (Op.Load Load.Int64) a = refl
takes_grouped (Op.Load Load.Real64) a = refl
takes_grouped (Op.Load Load.Text) a = refl
takes_grouped (Op.Load Load.Name) a = refl
takes_grouped (Op.Unary Unary.Not) a = refl
takes_grouped (Op.Unary (Unary.Change c)) a = refl
takes_grouped (Op.Unary (Unary.Test t)) a = refl
takes_grouped (Op.Binary (Binary.Combine c)) a = refl
takes_grouped (Op.Binary (Binary.Compare c)) a = refl
takes_grouped (Op.Binary (Binary.Connect c)) a = refl
takes_grouped (Op.Many m) a = refl
takes_grouped (Op.Skip s) a = refl
takes_grouped Op.Unknown a = refl

pub gives_grouped : (op : Op) → gives_by (group_of op) ≡ gives_of op
gives_grouped (Op.Load Load.Int32) = refl
gives_grouped (Op.Load Load.Int64) = refl
gives_grouped (Op.Load Load.Real64) = refl
gives_grouped (Op.Load Load.Text) = refl
gives_grouped (Op.Load Load.Name) = refl
gives_grouped (Op.Unary Unary.Not) = refl
gives_grouped (Op.Unary (Unary.Change c)) = refl
gives_grouped (Op.Unary (Unary.Test t)) = refl
gives_grouped (Op.Binary (Binary.Combine c)) = refl
gives_grouped (Op.Binary (Binary.Compare c)) = refl
gives_grouped (Op.Binary (Binary.Connect c)) = refl
gives_grouped (Op.Many m) = refl
gives_grouped (Op.Skip s) = refl
gives_grouped Op.Unknown = refl

pub skip_grouped : (op : Op) → skip_by (group_of op) ≡ skip_op op
skip_grouped (Op.Load Load.Int32) = refl
skip_grouped (Op.Load Load.Int64) = refl
skip_grouped (Op.Load Load.Real64) = refl
skip_grouped (Op.Load Load.Text) = refl
skip_grouped (Op.Load Load.Name) = refl
skip_grouped (Op.Unary Unary.Not) = refl
skip_grouped (Op.Unary (Unary.Change c)) = refl
skip_grouped (Op.Unary (Unary.Test t)) = refl
skip_grouped (Op.Binary (Binary.Combine c)) = refl
skip_grouped (Op.Binary (Binary.Compare c)) = refl
skip_grouped (Op.Binary (Binary.Connect c)) = refl
skip_grouped (Op.Many m) = refl
skip_grouped (Op.Skip s) = refl
skip_grouped Op.Unknown = refl
