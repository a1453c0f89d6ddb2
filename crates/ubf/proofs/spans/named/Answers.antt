use mathlib.Core.Path.{ap, ◌∙◌}
use native.Mathlib.Omega.{arith}
use Rattle.notice.specs.Field.{name_right}
use Rattle.ubf.proofs.Parts.{escaped_part_lem, escaped_name, plain_part, plain_slice}
use Rattle.ubf.proofs.spans.named.Goals as goal

pub escaped_right-requires : goal.escaped_right-requires
escaped_right-requires c = escaped_part_lem c.args.text.now c.args.s c.if-s-ne0.true c.requires

pub returns-then-s-ne0 : goal.returns-then-s-ne0
returns-then-s-ne0 c = c.escaped_right.ensures ∙ ap name_right (escaped_name c.args.text.now c.args.s c.if-s-ne0.true)

pub overflow_add-end : goal.overflow_add-end
overflow_add-end c =
    let p = plain_part c.args.text.now c.args.s c.if-s-ne0.false c.requires in
    omega arith

pub slice_bounds-name_right-end : goal.slice_bounds-name_right-end
slice_bounds-name_right-end c =
    let p = plain_part c.args.text.now c.args.s c.if-s-ne0.false c.requires in
    omega arith

pub returns : goal.returns
returns c = c.name_right.ensures ∙ ap name_right (plain_slice c.args.text.now c.args.s c.if-s-ne0.false)
