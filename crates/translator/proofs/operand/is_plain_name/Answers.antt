use Prim.Native.Nat.{◌+◌}
use native.Mathlib.Omega.{arith}
use lib.ListN.{length}
use Rattle.common.proofs.Choice.{false_true}
use Rattle.translator.proofs.Plain.{more_after, name_stands}
use Rattle.translator.proofs.operand.is_plain_name.Goals as goal

pub returns-then-n-text : goal.returns-then-n-text
returns-then-n-text c = λ e. false_true e

pub overflow_sub-result : goal.overflow_sub-result
overflow_sub-result c =
    omega (arith, (more_after c.args.n (c.args.place + c.args.n) (length c.args.text.now) c.if-n-text.false).0)

pub bounds-text-end : goal.bounds-text-end
bounds-text-end c =
    omega (arith, (more_after c.args.n (c.args.place + c.args.n) (length c.args.text.now) c.if-n-text.false).1)

pub bounds-text-end-2 : goal.bounds-text-end-2
bounds-text-end-2 c = (more_after c.args.n (c.args.place + c.args.n) (length c.args.text.now) c.if-n-text.false).1

pub returns : goal.returns
returns c =
    λ e en. name_stands c.args.text.now c.args.place c.args.n (more_after c.args.n (c.args.place + c.args.n) (length c.args.text.now) c.if-n-text.false) c.ends_name.ensures e en
