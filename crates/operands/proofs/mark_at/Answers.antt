use native.Mathlib.Omega.{arith}
use Rattle.lexer.specs.Token.{name_at, escaped_at}
use Rattle.grammar.specs.Function.{op_of_name}
use Rattle.operands.proofs.Marks.{op_told, op_small, mark_other, mark_alone, mark_call}
use Rattle.operands.proofs.mark_at.Goals as goal

pub returns-then-k-ne-NAME : goal.returns-then-k-ne-NAME
returns-then-k-ne-NAME c =
    mark_other c.args.text.now c.args.kinds.now c.args.starts.now c.args.i c.requires c.if-k-ne-NAME.true

pub returns-then-kind-ne-OPEN : goal.returns-then-kind-ne-OPEN
returns-then-kind-ne-OPEN c =
    mark_alone c.args.text.now c.args.kinds.now c.args.starts.now c.args.i c.requires c.kind.ensures c.if-kind-ne-OPEN.true

pub overflow_add-result : goal.overflow_add-result
overflow_add-result c =
    let s = c.args.text.now in
    let op = op_of_name (name_at s c.start.result) (escaped_at s c.start.result) in
    omega (arith, op_told op c.function.ensures c.unwrap_or.ensures, op_small (name_at s c.start.result) (escaped_at s c.start.result))

pub returns : goal.returns
returns c =
    mark_call c.args.text.now c.args.kinds.now c.args.starts.now c.args.i c.requires c.if-k-ne-NAME.false c.kind.ensures c.if-kind-ne-OPEN.false c.start.ensures (op_told (op_of_name (name_at c.args.text.now c.start.result) (escaped_at c.args.text.now c.start.result)) c.function.ensures c.unwrap_or.ensures)
