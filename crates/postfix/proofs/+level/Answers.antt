use Prim.Native.Nat.{◌≤◌}
use Rattle.grammar.proofs.Laws.{level_prefix}
use Rattle.grammar.proofs.Sound.{at_kind}
use Rattle.grammar.specs.Marks.{is_operand}
use Rattle.grammar.specs.Parse.{level_of, operand_of, prefix_of}
use Rattle.lexer.specs.Kind.{opening}
use Rattle.postfix.proofs.Climbing.{arguing-call, arguing-on, arguing_start, argument_room, call_none, climb_above, climb_below, climb_start, group_operand, leaf_alone, leaf_first, next_argument, past_run, run_within, turn, turn-less, turn-room, turn_on}
use Rattle.postfix.proofs.Marks.{is_called, kind_of_lem, length_marks}
use Rattle.postfix.proofs.Steps.{and-true, kept, leaf_answered}
use lib.ListN.{length}
use mathlib.Core.Path.{ap, sym, ◌∙◌}
use native.Mathlib.Omega.{arith}
use Rattle.postfix.proofs.+level.Goals as goal

pub arguments-overflow_add-at : goal.arguments-overflow_add-at
arguments-overflow_add-at t c = omega (arith, c.requires.0.within, c.requires.0.few)

pub arguments-overflow_add-at-then-kind-eq-CLOSE : goal.arguments-overflow_add-at-then-kind-eq-CLOSE
arguments-overflow_add-at-then-kind-eq-CLOSE t c = omega (arith, c.requires.0.within, c.requires.0.few)

pub arguments-no_args-requires : goal.arguments-no_args-requires
arguments-no_args-requires t c =
    (omega (arith, c.requires.0.within, c.requires.0.few), omega (arith, c.requires.0.room, c.requires.0.within, c.requires.0.few))

pub arguments-returns-then-kind-eq-CLOSE : goal.arguments-returns-then-kind-eq-CLOSE
arguments-returns-then-kind-eq-CLOSE t c =
    let a = c.args in
    let r = c.requires.0 in
    let high = c.requires.1 in
    λ ks m. call_none m (omega (arith, r.few, length_marks m)) a.at a.i r.room high (sym c.kind.ensures ∙ c.if-kind-eq-CLOSE.true) c.no_args.ensures (c.function-function.ensures ∙ (is_called m a.at high).function) c.call.ensures.0 c.call.ensures.1

pub arguments-shape_of-codes-then-kind-eq-CLOSE : goal.arguments-shape_of-codes-then-kind-eq-CLOSE
arguments-shape_of-codes-then-kind-eq-CLOSE t c =
    let r = c.requires.0 in kept (operand_of r.tokens c.args.at) (arguments-returns-then-kind-eq-CLOSE t c r.tokens r.marked)

pub arguments-overflow_add-at-2 : goal.arguments-overflow_add-at-2
arguments-overflow_add-at-2 t c = omega (arith, c.requires.0.within, c.requires.0.few)

pub arguments-no_args-args-requires : goal.arguments-no_args-args-requires
arguments-no_args-args-requires t c =
    (omega (arith, c.requires.0.within, c.requires.0.few), omega (arith, c.requires.0.room, c.requires.0.within, c.requires.0.few))

pub arguments-loop-codes-init : goal.arguments-loop-codes-init
arguments-loop-codes-init t c =
    let a = c.args in
    let r = c.requires.0 in
    let high = c.requires.1 in
    λ ks m. arguing_start m (omega (arith, r.few, length_marks m)) a.at a.i r.room high (λ q. c.if-kind-eq-CLOSE.false (c.kind.ensures ∙ q)) c.no_args-args.ensures

pub arguments-level-arg-requires : goal.arguments-level-arg-requires
arguments-level-arg-requires t c =
    let a = c.args in
    let r = c.requires.0 in
    let high = c.requires.1 in
    let few : length r.tokens ≤ 4096 = omega (arith, r.few, length_marks r.marked) in
    let len = length_marks r.marked in
    let g = c.loop-codes.invariant r.tokens r.marked in
    let next = next_argument r.marked few a.at a.i r.room high g in
    let room = argument_room r.marked few a.at a.i r.room high g in
    let n = c.next.ensures.0 in (
      omega (arith, n, next, g.held.lt, g.held.le, len),
      (
        record {
          tokens = r.tokens;
          marked = r.marked;
          few = r.few;
          within = omega (arith, n, next, g.held.le, len);
          room = omega (arith, n, next, c.end.ensures.0, room);
        },
        omega arith,
      ),
    )

pub arguments-returns-then-before-ne-COMMA : goal.arguments-returns-then-before-ne-COMMA
arguments-returns-then-before-ne-COMMA t c =
    let a = c.args in
    let r = c.requires.0 in
    let high = c.requires.1 in
    λ ks m. arguing-call m (omega (arith, r.few, length_marks m)) a.at a.i r.room high (c.loop-codes.invariant ks m) c.next.ensures.0 c.end.ensures.0 (c.level-arg.ensures ks m) c.more_args-args.ensures (λ q. c.if-before-ne-COMMA.true (c.before-in-loop-codes.ensures ∙ q)) (c.function-function.ensures ∙ (is_called m a.at high).function) c.call-then-before-ne-COMMA.ensures.0 c.call-then-before-ne-COMMA.ensures.1

pub arguments-shape_of-codes-then-before-ne-COMMA : goal.arguments-shape_of-codes-then-before-ne-COMMA
arguments-shape_of-codes-then-before-ne-COMMA t c =
    let r = c.requires.0 in kept (operand_of r.tokens c.args.at) (arguments-returns-then-before-ne-COMMA t c r.tokens r.marked)

pub arguments-loop-codes-smaller : goal.arguments-loop-codes-smaller
arguments-loop-codes-smaller t c =
    let a = c.args in
    let r = c.requires.0 in
    let high = c.requires.1 in
    let few : length r.tokens ≤ 4096 = omega (arith, r.few, length_marks r.marked) in
    let g = c.loop-codes.invariant r.tokens r.marked in
    let on = arguing-on r.marked few a.at a.i r.room high g c.next.ensures.0 c.end.ensures.0 (c.level-arg.ensures r.tokens r.marked) c.more_args-args.ensures (sym c.before-in-loop-codes.ensures ∙ c.if-before-ne-COMMA.false) in
    omega (arith, on.1, on.0.held.le, next_argument r.marked few a.at a.i r.room high g, next_argument r.marked few a.at a.i r.room high on.0, length_marks r.marked)

pub arguments-loop-codes-preserved : goal.arguments-loop-codes-preserved
arguments-loop-codes-preserved t c =
    let a = c.args in
    let r = c.requires.0 in
    let high = c.requires.1 in
    λ ks m. (arguing-on m (omega (arith, r.few, length_marks m)) a.at a.i r.room high (c.loop-codes.invariant ks m) c.next.ensures.0 c.end.ensures.0 (c.level-arg.ensures ks m) c.more_args-args.ensures (sym c.before-in-loop-codes.ensures ∙ c.if-before-ne-COMMA.false)).0

pub first-leaf-requires : goal.first-leaf-requires
first-leaf-requires t c = let r = c.requires in (omega (arith, r.within, r.few), omega (arith, r.room, r.within, r.few))

pub first-returns-then-is_operand : goal.first-returns-then-is_operand
first-returns-then-is_operand t c =
    λ ks m. leaf_first m c.args.at c.kind-m.ensures (sym c.is_operand.ensures ∙ c.if-is_operand.true) c.leaf.ensures.0 c.leaf.ensures.1

pub first-shape_of-codes-then-is_operand : goal.first-shape_of-codes-then-is_operand
first-shape_of-codes-then-is_operand t c =
    let r = c.requires in kept (prefix_of r.tokens c.args.at) (first-returns-then-is_operand t c r.tokens r.marked)

pub first-prefix-requires : goal.first-prefix-requires
first-prefix-requires t c = (omega arith, c.requires)

pub first-returns : goal.first-returns
first-returns t c = λ ks m. c.prefix.ensures ks m

pub first-shape_of-codes : goal.first-shape_of-codes
first-shape_of-codes t c = let r = c.requires in kept (prefix_of r.tokens c.args.at) (first-returns t c r.tokens r.marked)

pub level-first-left-requires : goal.level-first-left-requires
level-first-left-requires t c = (omega (arith, c.requires.1), c.requires.0)

pub level-loop-left-init : goal.level-loop-left-init
level-loop-left-init t c =
    λ ks m was h. climb_start ks c.args.at c.args.l c.args.i c.requires.1 (omega (arith, c.requires.0.within, length_marks m)) h

pub level-shape_of-codes-then-r-l : goal.level-shape_of-codes-then-r-l
level-shape_of-codes-then-r-l t c =
    let a = c.args in
    let r = c.requires.0 in
    let l = c.loop-left in
    let v = l.invariant r.tokens r.marked a.codes.now (c.first-left.ensures r.tokens r.marked) in
    kept v.result v.answered

pub level-returns-then-r-l : goal.level-returns-then-r-l
level-returns-then-r-l t c =
    let a = c.args in
    let r = c.requires.0 in
    let l = c.loop-left in
    let k = c.after-k in
    let o = c.rank-r in
    λ ks m. climb_below m (omega (arith, r.few, length_marks m)) a.at a.l a.i r.room (l.invariant ks m a.codes.now (c.first-left.ensures ks m)) k.result o.result k.ensures o.ensures.0 c.if-r-l.true

pub level-shape_of-codes-then-r-ge11 : goal.level-shape_of-codes-then-r-ge11
level-shape_of-codes-then-r-ge11 t c =
    let a = c.args in
    let r = c.requires.0 in
    let l = c.loop-left in
    let v = l.invariant r.tokens r.marked a.codes.now (c.first-left.ensures r.tokens r.marked) in
    kept v.result v.answered

pub level-returns-then-r-ge11 : goal.level-returns-then-r-ge11
level-returns-then-r-ge11 t c =
    let a = c.args in
    let r = c.requires.0 in
    let l = c.loop-left in
    let k = c.after-k in
    let o = c.rank-r in
    λ ks m. climb_above m (omega (arith, r.few, length_marks m)) a.at a.l a.i r.room (l.invariant ks m a.codes.now (c.first-left.ensures ks m)) k.result o.result k.ensures o.ensures.0 c.if-r-ge11.true

pub level-overflow_add-next : goal.level-overflow_add-next
level-overflow_add-next t c = omega (arith, c.next.ensures.1)

pub level-overflow_add-r : goal.level-overflow_add-r
level-overflow_add-r t c = omega (arith, c.if-r-ge11.false)

pub level-tighter-right-requires : goal.level-tighter-right-requires
level-tighter-right-requires t c =
    let a = c.args in
    let r = c.requires.0 in
    let l = c.loop-left in
    let k = c.after-k in
    let o = c.rank-r in
    let few : length r.tokens ≤ 4096 = omega (arith, r.few, length_marks r.marked) in
    let v = l.invariant r.tokens r.marked a.codes.now (c.first-left.ensures r.tokens r.marked) in
    let turned = turn r.marked few a.at a.l a.i r.room v k.result o.result k.ensures o.ensures.0 c.if-r-ge11.false in
    let len = length_marks r.marked in
    let n = c.next.ensures.0 in
    let room = turn-room r.marked few a.at a.l a.i r.room v k.result o.result k.ensures o.ensures.0 turned c.if-r-l.false c.if-r-ge11.false in (
      omega (arith, n, turned.next_is, turned.within, turned.spans.lt, len, c.if-r-ge11.false),
      (
        record {
          tokens = r.tokens;
          marked = r.marked;
          few = r.few;
          within = omega (arith, n, turned.next_is, turned.within, len);
          room = omega (arith, n, turned.next_is, c.right_start.ensures, room);
        },
        omega (arith, c.if-r-ge11.false),
      ),
    )

pub level-loop-left-smaller : goal.level-loop-left-smaller
level-loop-left-smaller t c =
    let a = c.args in
    let r = c.requires.0 in
    let l = c.loop-left in
    let k = c.after-k in
    let o = c.rank-r in
    let few : length r.tokens ≤ 4096 = omega (arith, r.few, length_marks r.marked) in
    let v = l.invariant r.tokens r.marked a.codes.now (c.first-left.ensures r.tokens r.marked) in
    let turned = turn r.marked few a.at a.l a.i r.room v k.result o.result k.ensures o.ensures.0 c.if-r-ge11.false in
    turn-less r.marked few a.at a.l a.i r.room v k.result o.result k.ensures o.ensures.0 turned c.if-r-l.false c.if-r-ge11.false c.next.ensures.0 c.right_start.ensures (c.tighter-right.ensures r.tokens r.marked) c.binary-left.ensures.0 c.binary-left.ensures.1 _ (length_marks r.marked)

pub level-loop-left-preserved : goal.level-loop-left-preserved
level-loop-left-preserved t c =
    let a = c.args in
    let r = c.requires.0 in
    let l = c.loop-left in
    let k = c.after-k in
    let o = c.rank-r in
    λ ks m was h.
    let few : length ks ≤ 4096 = omega (arith, r.few, length_marks m) in
    let v = l.invariant ks m was h in
    let turned = turn m few a.at a.l a.i r.room v k.result o.result k.ensures o.ensures.0 c.if-r-ge11.false in
    turn_on m few a.at a.l a.i r.room v k.result o.result k.ensures o.ensures.0 turned c.if-r-l.false c.if-r-ge11.false c.next.ensures.0 c.right_start.ensures (c.tighter-right.ensures ks m) c.binary-left.ensures.0 c.binary-left.ensures.1

pub operand-overflow_add-at : goal.operand-overflow_add-at
operand-overflow_add-at t c = omega (arith, c.requires.within, c.requires.few)

pub operand-level-inner-requires : goal.operand-level-inner-requires
operand-level-inner-requires t c =
    let a = c.args in
    let r = c.requires in
    let len = length_marks r.marked in
    let k = kind_of_lem r.marked a.at opening (omega arith) (sym c.kind-m.ensures ∙ c.if-m-eq-OPEN.true) in
    let w = at_kind r.tokens a.at opening k (omega arith) in
    (omega (arith, w, len), (record { tokens = r.tokens; marked = r.marked; few = r.few; within = omega (arith, w, len); room = omega (arith, r.room) }, omega arith))

pub operand-returns-then-m-eq-OPEN : goal.operand-returns-then-m-eq-OPEN
operand-returns-then-m-eq-OPEN t c =
    let a = c.args in
    let r = c.requires in
    λ ks m. group_operand m (omega (arith, r.few, length_marks m)) a.at a.i r.room (sym c.kind-m.ensures ∙ c.if-m-eq-OPEN.true) (c.level-inner.ensures ks m) c.group.ensures

pub operand-shape_of-codes-then-m-eq-OPEN : goal.operand-shape_of-codes-then-m-eq-OPEN
operand-shape_of-codes-then-m-eq-OPEN t c =
    let r = c.requires in kept (operand_of r.tokens c.args.at) (operand-returns-then-m-eq-OPEN t c r.tokens r.marked)

pub operand-arguments-requires : goal.operand-arguments-requires
operand-arguments-requires t c =
    (omega arith, (c.requires, omega (arith, c.if-m-ge-CALLING.true, c.kind-m.ensures)))

pub operand-returns-then-m-ge-CALLING : goal.operand-returns-then-m-ge-CALLING
operand-returns-then-m-ge-CALLING t c = λ ks m. c.arguments.ensures ks m

pub operand-shape_of-codes-then-m-ge-CALLING : goal.operand-shape_of-codes-then-m-ge-CALLING
operand-shape_of-codes-then-m-ge-CALLING t c =
    let r = c.requires in kept (operand_of r.tokens c.args.at) (operand-returns-then-m-ge-CALLING t c r.tokens r.marked)

pub operand-leaf-requires : goal.operand-leaf-requires
operand-leaf-requires t c =
    (omega (arith, c.requires.within, c.requires.few), omega (arith, c.requires.room, c.requires.within, c.requires.few))

pub operand-returns : goal.operand-returns
operand-returns t c =
    λ ks m. leaf_answered m c.args.at c.kind-m.result c.kind-m.ensures (omega (arith, c.if-m-ge-CALLING.false)) c.args.i _ _ _ c.if-m-eq-OPEN.false c.leaf.ensures.0 c.leaf.ensures.1

pub operand-shape_of-codes : goal.operand-shape_of-codes
operand-shape_of-codes t c = let r = c.requires in kept (operand_of r.tokens c.args.at) (operand-returns t c r.tokens r.marked)

pub prefix-past_prefixes-first-requires : goal.prefix-past_prefixes-first-requires
prefix-past_prefixes-first-requires t c = (c.requires.few, c.requires.within)

pub prefix-operand-inner-requires : goal.prefix-operand-inner-requires
prefix-operand-inner-requires t c =
    let r = c.requires in
    let run = c.past_prefixes-first.ensures in
    (omega (arith, run.upto), record { tokens = r.tokens; marked = r.marked; few = r.few; within = run_within run r.within; room = omega (arith, r.room, run.upto) })

pub prefix-returns : goal.prefix-returns
prefix-returns t c =
    let a = c.args in
    let r = c.requires in
    let run = c.past_prefixes-first.ensures in
    λ ks m. c.prefixed.ensures ks a.i a.codes.now m run (omega (arith, r.few, length_marks m)) r.room (past_run m run (c.operand-inner.ensures ks m))

pub prefix-shape_of-codes : goal.prefix-shape_of-codes
prefix-shape_of-codes t c = let r = c.requires in kept (prefix_of r.tokens c.args.at) (prefix-returns t c r.tokens r.marked)

pub tighter-alone-requires : goal.tighter-alone-requires
tighter-alone-requires t c = omega (arith, c.requires.0.within, c.requires.0.few)

pub tighter-leaf-requires : goal.tighter-leaf-requires
tighter-leaf-requires t c = let r = c.requires.0 in (omega (arith, r.within, r.few), omega (arith, r.room, r.within, r.few))

pub tighter-returns-then-alone : goal.tighter-returns-then-alone
tighter-returns-then-alone t c =
    let a = c.args in
    let r = c.requires in
    let q = c.kind.ensures in
    let both = and-true (sym c.alone.ensures ∙ c.if-alone.true) in
    λ ks m.
    let len = length_marks m in
    leaf_alone m a.at q (ap is_operand q ∙ both.0) c.leaf.ensures.0 c.leaf.ensures.1 a.l (omega (arith, r.0.few, len)) r.0.room (omega (arith, r.0.within, len)) r.1 both.1

pub tighter-shape_of-codes-then-alone : goal.tighter-shape_of-codes-then-alone
tighter-shape_of-codes-then-alone t c =
    let r = c.requires.0 in kept (level_of r.tokens c.args.at c.args.l) (tighter-returns-then-alone t c r.tokens r.marked)

pub tighter-prefix-requires : goal.tighter-prefix-requires
tighter-prefix-requires t c = (omega (arith, c.if-l-eq11.true), c.requires.0)

pub tighter-returns-then-l-eq11 : goal.tighter-returns-then-l-eq11
tighter-returns-then-l-eq11 t c = λ ks m. rw (c.if-l-eq11.true, level_prefix ks c.args.at) (c.prefix.ensures ks m)

pub tighter-shape_of-codes-then-l-eq11 : goal.tighter-shape_of-codes-then-l-eq11
tighter-shape_of-codes-then-l-eq11 t c =
    let r = c.requires.0 in kept (level_of r.tokens c.args.at c.args.l) (tighter-returns-then-l-eq11 t c r.tokens r.marked)

pub tighter-level-requires : goal.tighter-level-requires
tighter-level-requires t c = (omega (arith, c.requires.1), c.requires)

pub tighter-returns : goal.tighter-returns
tighter-returns t c = λ ks m. c.level.ensures ks m

pub tighter-shape_of-codes : goal.tighter-shape_of-codes
tighter-shape_of-codes t c =
    let r = c.requires.0 in kept (level_of r.tokens c.args.at c.args.l) (tighter-returns t c r.tokens r.marked)
