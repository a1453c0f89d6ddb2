-- `state::holds` meets its contract: head, sizes, different, table. Assumes nothing.
use mathlib.Core.Path.{sym, ap, ◌∙◌}
use Prim.Native.Nat.{ℕ, ◌-◌}
use native.Mathlib.Omega.{arith}
use lib.ListN.{take, drop}
use Rattle.quorum.proofs.Reading.{head_is, no_head, no_sizes, not_apart, by_table}
use Rattle.table.specs.Check.{check_of as tableCheck}
use Rattle.quorum.proofs.state.holds.Goals as goal

pub bounds-buffer-7 : goal.bounds-buffer-7
bounds-buffer-7 c =
    let h = head_is c.args.buffer.now (sym c.head_right.ensures ∙ c.if-head_right.true) in omega (arith, h.long)

pub overflow_cast-n : goal.overflow_cast-n
overflow_cast-n c = omega (arith, c.type_inv.buffer 7)

pub sizes_right-requires : goal.sizes_right-requires
sizes_right-requires c =
    let h = head_is c.args.buffer.now (sym c.head_right.ensures ∙ c.if-head_right.true) in (h.long, h.few)

pub differ-requires : goal.differ-requires
differ-requires c =
    let h = head_is c.args.buffer.now (sym c.head_right.ensures ∙ c.if-head_right.true) in record { long = h.long; few = h.few; right = sym c.sizes_right.ensures ∙ c.if-sizes_right.true }

pub size_of-size-requires : goal.size_of-size-requires
size_of-size-requires c =
    let h = head_is c.args.buffer.now (sym c.head_right.ensures ∙ c.if-head_right.true) in omega (arith, h.long)

pub slice_bounds-check-count : goal.slice_bounds-check-count
slice_bounds-check-count c =
    let h = head_is c.args.buffer.now (sym c.head_right.ensures ∙ c.if-head_right.true) in omega (arith, h.least, h.fits, c.size_of-size.ensures)

pub slice_bounds-check-start : goal.slice_bounds-check-start
slice_bounds-check-start c =
    let h = head_is c.args.buffer.now (sym c.head_right.ensures ∙ c.if-head_right.true) in omega (arith, h.least, h.fits, c.size_of-size.ensures)

pub slice_bounds-check-end : goal.slice_bounds-check-end
slice_bounds-check-end c =
    let h = head_is c.args.buffer.now (sym c.head_right.ensures ∙ c.if-head_right.true) in omega (arith, h.least, h.fits, c.size_of-size.ensures)

pub returns-then-differ : goal.returns-then-differ
returns-then-differ c =
    let s = c.args.buffer.now in
    c.check.ensures
    ∙ (ap (λ (n : ℕ). tableCheck (take (n - 528) (drop 528 s))) c.size_of-size.ensures
    ∙ by_table s (sym c.head_right.ensures ∙ c.if-head_right.true) (sym c.sizes_right.ensures ∙ c.if-sizes_right.true) (sym c.differ.ensures ∙ c.if-differ.true))

pub returns-else-differ : goal.returns-else-differ
returns-else-differ c =
    let s = c.args.buffer.now in
    not_apart s (sym c.head_right.ensures ∙ c.if-head_right.true) (sym c.sizes_right.ensures ∙ c.if-sizes_right.true) (sym c.differ.ensures ∙ c.if-differ.false)

pub returns-else-sizes_right : goal.returns-else-sizes_right
returns-else-sizes_right c =
    let s = c.args.buffer.now in
    no_sizes s (sym c.head_right.ensures ∙ c.if-head_right.true) (sym c.sizes_right.ensures ∙ c.if-sizes_right.false)

pub returns-else-head_right : goal.returns-else-head_right
returns-else-head_right c = no_head c.args.buffer.now (sym c.head_right.ensures ∙ c.if-head_right.false)
