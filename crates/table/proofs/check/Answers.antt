-- `table::check` meets its contract: the layout, then the kinds, in an array that has room for them. Assumes nothing.
use mathlib.Core.Path.{◌≡◌, sym, ◌∙◌}
use mathlib.Core.List.{List}
use Prim.Native.Nat.{ℕ, ◌-◌, ◌<◌}
use native.Mathlib.Omega.{arith}
use lib.ListN.{length, take}
use lib.Seq.{take_all}
use Rattle.table.proofs.Laid.{laid}
use Rattle.table.proofs.Answer.{bad_layout}
use Rattle.std.proofs.Common.{lit≤}
use Rattle.table.proofs.check.Goals as goal

-- the whole of a table, as a part of it
whole_is : (s : List ℕ) → take (length s - 0) s ≡ s
whole_is s = take_all (length s - 0) s (omega arith)

pub returns-then-not-layout_right : goal.returns-then-not-layout_right
returns-then-not-layout_right c = bad_layout c.args.table.now (sym c.layout_right.ensures ∙ c.if-not-layout_right.true)

pub count-n-requires : goal.count-n-requires
count-n-requires c = (laid c.args.table.now (sym c.layout_right.ensures ∙ c.if-not-layout_right.false)).head

pub kinds_right_in-requires : goal.kinds_right_in-requires
kinds_right_in-requires c =
    rw (whole_is c.args.table.now) (sym c.layout_right.ensures ∙ c.if-not-layout_right.false, c.count-n.ensures.0, c.if-n-lt16.true, lit≤ tt)

pub returns-then-n-lt16 : goal.returns-then-n-lt16
returns-then-n-lt16 c = c.kinds_right_in.ensures ∙ rw (whole_is c.args.table.now)

pub kinds_right_in-requires-then-n-lt64 : goal.kinds_right_in-requires-then-n-lt64
kinds_right_in-requires-then-n-lt64 c =
    rw (whole_is c.args.table.now) (sym c.layout_right.ensures ∙ c.if-not-layout_right.false, c.count-n.ensures.0, c.if-n-lt64.true, lit≤ tt)

pub returns-then-n-lt64 : goal.returns-then-n-lt64
returns-then-n-lt64 c = c.kinds_right_in-then-n-lt64.ensures ∙ rw (whole_is c.args.table.now)

pub kinds_right_in-requires-2 : goal.kinds_right_in-requires-2
kinds_right_in-requires-2 c =
    let l = laid c.args.table.now (sym c.layout_right.ensures ∙ c.if-not-layout_right.false) in
    let few : c.count-n.result < 513 = omega (arith, l.few, c.count-n.ensures.0) in
    rw (whole_is c.args.table.now) (sym c.layout_right.ensures ∙ c.if-not-layout_right.false, c.count-n.ensures.0, few, lit≤ tt)

pub returns : goal.returns
returns c = c.kinds_right_in-2.ensures ∙ rw (whole_is c.args.table.now)
