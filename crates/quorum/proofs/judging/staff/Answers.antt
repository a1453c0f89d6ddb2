-- `judging::staff` meets its contract: what the lookup finds is the field Staff. Assumes nothing.
use Rattle.std.proofs.Common.{sym, ◌∙◌, arith, rules}
use Rattle.quorum.proofs.Staff.{staff_none, staff_lies, staff_found, staff_long, staff_wrong}
use Rattle.quorum.proofs.judging.staff.Goals as goal

pub returns-in_err-kind : goal.returns-in_err-kind
returns-in_err-kind c = let e = sym (staff_none c.args.notice.now (sym c.lookup_along.ensures ∙ c.in_err-kind.was)) in search rules

pub slice_bounds-result-end : goal.slice_bounds-result-end
slice_bounds-result-end c =
    let f = c.in_ok-kind.field-0 in
    let l = staff_lies c.args.notice.now f.kind f.start f.len (sym c.lookup_along.ensures ∙ c.in_ok-kind.was) in
    omega arith

pub returns-then-kind-len : goal.returns-then-kind-len
returns-then-kind-len c =
    let s = c.args.notice.now in
    let f = c.in_ok-kind.field-0 in
    let e = sym c.lookup_along.ensures ∙ c.in_ok-kind.was in
    (staff_found s f.kind f.start f.len e c.if-kind-len.true, staff_long s f.kind f.start f.len e c.if-kind-len.true)

pub returns : goal.returns
returns c =
    let f = c.in_ok-kind.field-0 in
    sym (staff_wrong c.args.notice.now f.kind f.start f.len (sym c.lookup_along.ensures ∙ c.in_ok-kind.was) c.if-kind-len.false)
