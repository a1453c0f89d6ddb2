-- `table::placed_right` meets its contract: an entry without patterns, and one with patterns, whose group is known by its number. Assumes nothing.
use mathlib.Core.Path.{◌≡◌, sym, ◌∙◌}
use mathlib.Core.Bool.{and-true}
use Rattle.table.specs.declared.groups.Group.{Group}
use Rattle.table.proofs.Patterns.{none_beside, some_beside}
use Rattle.table.proofs.placed_right.Goals as goal

pub returns-then-e : goal.returns-then-e
returns-then-e c = c.entry_right.ensures ∙ rw (none_beside c.args.e.op c.if-e.true) (sym (and-true _))

pub returns : goal.returns
returns c =
    let (test, t, m) = some_beside c.args.e.op c.if-e.false in
    let g : c.args.g ≡ Group.Many = c.requires.3 ∙ m in
    rw (c.many_right.ensures, c.operands_right.ensures test t, g, t)
