-- `among` meets its contract: the place tells what the field is. Assumes nothing.
use mathlib.Core.Path.{refl, sym, ◌∙◌}
use Rattle.notice.specs.Layout.{name_at}
use Rattle.mend.proofs.Orders.{is_moved, is_kept}
use Rattle.mend.proofs.Admitted.{moved_to, kept_at}
use Rattle.mend.proofs.ordering.among.Goals as goal

pub returns-then-place-n : goal.returns-then-place-n
returns-then-place-n c =
    let a = c.args in
    moved_to (is_moved a.bytes.now a.order.now a.n c.requires.1 (name_at a.bytes.now a.at) a.place c.requires.2 (sym c.repeated.ensures ∙ c.if-repeated.false) c.if-place-n.true)

pub returns : goal.returns
returns c =
    let a = c.args in
    kept_at (is_kept a.bytes.now a.order.now a.n c.requires.1 (name_at a.bytes.now a.at) a.place c.requires.2 (sym c.repeated.ensures ∙ c.if-repeated.false) c.if-place-n.false) refl
