-- `string_at` meets its contract: the string is open where a run starts. Assumes nothing.
use mathlib.Core.Path.{sym, ◌∙◌}
use Prim.Native.Nat.{◌<◌}
use native.Mathlib.Omega.{arith}
use lib.ListN.{length, get_or}
use Rattle.ubf.proofs.Scans.{opens_none, opens_to, opens_two, opens_close, opens_cut, opens_wrong, stop_backslash}
use Rattle.ubf.proofs.scanning.string_at.Goals as goal

pub loop-i-init : goal.loop-i-init
loop-i-init c = let a = c.args in opens_none a.text.now a.at 34 c.requires

pub plain_to-end-requires : goal.plain_to-end-requires
plain_to-end-requires c = c.loop-i.invariant.near

pub bounds-text-end : goal.bounds-text-end
bounds-text-end c = omega (arith, c.plain_to-end.ensures.near, c.if-end-text.false)

pub returns-then-text-end-eq34 : goal.returns-then-text-end-eq34
returns-then-text-end-eq34 c =
    let text = c.args.text.now in
    let at = c.args.at in
    let l = c.loop-i in
    let end = c.plain_to-end.result in
    let r = c.plain_to-end.ensures in
    let o = opens_to text at 34 l.i l.escapes end l.invariant r in
    opens_close text at 34 end l.escapes o (omega (arith, r.near, c.if-end-text.false)) c.if-text-end-eq34.true

pub escape_right-requires : goal.escape_right-requires
escape_right-requires c = omega (arith, c.plain_to-end.ensures.near, c.if-end-text.false)

pub overflow_add-i : goal.overflow_add-i
overflow_add-i c = let n = (opens_two c.args.text.now c.args.at 34 c.plain_to-end.result c.loop-i.escapes (opens_to c.args.text.now c.args.at 34 c.loop-i.i c.loop-i.escapes c.plain_to-end.result c.loop-i.invariant c.plain_to-end.ensures) (λ e. omega arith) (omega (arith, c.plain_to-end.ensures.near, c.if-end-text.false)) (stop_backslash 34 (get_or c.args.text.now c.plain_to-end.result 0) (c.plain_to-end.ensures.stops (omega (arith, c.plain_to-end.ensures.near, c.if-end-text.false))) c.if-text-end-eq34.false) (sym c.escape_right.ensures ∙ c.if-not-escape_right.false)) in omega (arith, n.near)

pub overflow_add-escapes : goal.overflow_add-escapes
overflow_add-escapes c = let n = (opens_two c.args.text.now c.args.at 34 c.plain_to-end.result c.loop-i.escapes (opens_to c.args.text.now c.args.at 34 c.loop-i.i c.loop-i.escapes c.plain_to-end.result c.loop-i.invariant c.plain_to-end.ensures) (λ e. omega arith) (omega (arith, c.plain_to-end.ensures.near, c.if-end-text.false)) (stop_backslash 34 (get_or c.args.text.now c.plain_to-end.result 0) (c.plain_to-end.ensures.stops (omega (arith, c.plain_to-end.ensures.near, c.if-end-text.false))) c.if-text-end-eq34.false) (sym c.escape_right.ensures ∙ c.if-not-escape_right.false)) in omega (arith, n.near, n.count_is)

pub loop-i-smaller : goal.loop-i-smaller
loop-i-smaller c = let n = (opens_two c.args.text.now c.args.at 34 c.plain_to-end.result c.loop-i.escapes (opens_to c.args.text.now c.args.at 34 c.loop-i.i c.loop-i.escapes c.plain_to-end.result c.loop-i.invariant c.plain_to-end.ensures) (λ e. omega arith) (omega (arith, c.plain_to-end.ensures.near, c.if-end-text.false)) (stop_backslash 34 (get_or c.args.text.now c.plain_to-end.result 0) (c.plain_to-end.ensures.stops (omega (arith, c.plain_to-end.ensures.near, c.if-end-text.false))) c.if-text-end-eq34.false) (sym c.escape_right.ensures ∙ c.if-not-escape_right.false)) in omega (arith, n.near, c.plain_to-end.ensures.after)

pub loop-i-preserved : goal.loop-i-preserved
loop-i-preserved c = (opens_two c.args.text.now c.args.at 34 c.plain_to-end.result c.loop-i.escapes (opens_to c.args.text.now c.args.at 34 c.loop-i.i c.loop-i.escapes c.plain_to-end.result c.loop-i.invariant c.plain_to-end.ensures) (λ e. omega arith) (omega (arith, c.plain_to-end.ensures.near, c.if-end-text.false)) (stop_backslash 34 (get_or c.args.text.now c.plain_to-end.result 0) (c.plain_to-end.ensures.stops (omega (arith, c.plain_to-end.ensures.near, c.if-end-text.false))) c.if-text-end-eq34.false) (sym c.escape_right.ensures ∙ c.if-not-escape_right.false))

pub returns-after-loop-i : goal.returns-after-loop-i
returns-after-loop-i c =
    let a = c.args in let l = c.loop-i in opens_cut a.text.now a.at 34 l.i l.escapes l.invariant c.loop-i-test.false

pub returns-then-end-text : goal.returns-then-end-text
returns-then-end-text c =
    let text = c.args.text.now in
    let at = c.args.at in
    let l = c.loop-i in
    let end = c.plain_to-end.result in
    let r = c.plain_to-end.ensures in
    let o = opens_to text at 34 l.i l.escapes end l.invariant r in
    opens_cut text at 34 end l.escapes o (omega (arith, c.if-end-text.true))

pub returns-then-not-escape_right : goal.returns-then-not-escape_right
returns-then-not-escape_right c =
    let text = c.args.text.now in
    let at = c.args.at in
    let l = c.loop-i in
    let end = c.plain_to-end.result in
    let r = c.plain_to-end.ensures in
    let o = opens_to text at 34 l.i l.escapes end l.invariant r in
    let h : end < length text = omega (arith, r.near, c.if-end-text.false) in
    opens_wrong text at 34 end l.escapes o (λ e. omega arith) h (stop_backslash 34 (get_or text end 0) (r.stops h) c.if-text-end-eq34.false) (sym c.escape_right.ensures ∙ c.if-not-escape_right.true)
