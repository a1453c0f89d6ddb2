-- `table::kinds_right` meets its contract: each place where it ends, and the turn from an entry to the next. Assumes nothing.
use mathlib.Core.Path.{◌≡◌, refl, sym, ◌∙◌}
use Prim.Native.Nat.{◌<◌}
use native.Mathlib.Omega.{arith}
use Rattle.table.specs.Table.{count_of}
use Rattle.table.proofs.Laid.{laid, inside}
use Rattle.table.proofs.Passing.{right_by_lem, landed_by, flow_by_lem, pass_start, pass_unmet, pass_before, pass_wrong, pass_lost, pass-stuck, pass-more, pass_end}
use borrow.Author.Rules.{rules}
use Rattle.table.proofs.kinds_right.Goals as goal

pub pool-strings-requires : goal.pool-strings-requires
pool-strings-requires c = let l = laid c.args.table.now c.requires.0 in (l.head, omega arith)

pub loop-i-init : goal.loop-i-init
loop-i-init c = (pass_start c.args.table.now c.args.wanted.now (rw c.requires.1 at c.requires.2) c.requires.3, refl)

pub returns-then-not-meets : goal.returns-then-not-meets
returns-then-not-meets c =
    pass_unmet c.args.table.now c.loop-i.wanted c.loop-i.i c.loop-i.c c.loop-i.invariant.0 (sym c.meets.ensures ∙ c.if-not-meets.true)

pub entry_at-e-requires : goal.entry_at-e-requires
entry_at-e-requires c = inside c.args.table.now c.requires.0 c.loop-i.i (omega (arith, c.requires.1))

pub placed_right-requires : goal.placed_right-requires
placed_right-requires c =
    let t = c.args.table.now in
    let l = c.loop-i in
    let d = laid t c.requires.0 in
    let w = d.whole in
    let h : l.i < count_of t = omega (arith, c.requires.1) in
    (omega arith, omega arith, pass_before t l.wanted l.i l.c l.invariant.0 h _ c.pool-strings.ensures, c.group_of-g.ensures)

pub returns-then-not-placed_right : goal.returns-then-not-placed_right
returns-then-not-placed_right c =
    let t = c.args.table.now in
    let l = c.loop-i in
    let h : l.i < count_of t = omega (arith, c.requires.1) in
    pass_wrong t l.wanted l.i l.c l.invariant.0 h _ _ c.pool-strings.ensures (right_by_lem _ _ l.i _ _ _ _ c.entry_at-e.ensures c.group_of-g.ensures c.placed_right.ensures) (c.if-not-placed_right.true)

pub lands_right-requires : goal.lands_right-requires
lands_right-requires c =
    (omega arith, let l = laid c.args.table.now c.requires.0 in omega (arith, c.requires.1), rw c.loop-i.invariant.1 c.requires.2)

pub returns-then-not-lands_right : goal.returns-then-not-lands_right
returns-then-not-lands_right c =
    let t = c.args.table.now in
    let l = c.loop-i in
    let h : l.i < count_of t = omega (arith, c.requires.1) in
    pass_lost t l.wanted l.i l.c l.invariant.0 h _ _ (landed_by _ _ _ _ _ l.i l.c _ _ _ c.entry_at-e.ensures c.requires.1 c.group_of-g.ensures c.lands_right.ensures) (c.if-not-lands_right.true)

pub returns-then-c-eq0 : goal.returns-then-c-eq0
returns-then-c-eq0 c =
    let t = c.args.table.now in
    let l = c.loop-i in
    let h : l.i < count_of t = omega (arith, c.requires.1) in
    let f = c.flow-c in
    pass-stuck t l.wanted l.i l.c l.invariant.0 h f.result (flow_by_lem _ _ _ _ _ c.entry_at-e.ensures c.group_of-g.ensures f.ensures) c.if-c-eq0.true

pub loop-i-preserved : goal.loop-i-preserved
loop-i-preserved c =
    let t = c.args.table.now in
    let l = c.loop-i in
    let h : l.i < count_of t = omega (arith, c.requires.1) in
    let f = c.flow-c in
    (pass-more t l.wanted l.i l.c l.invariant.0 h f.result (flow_by_lem _ _ _ _ _ c.entry_at-e.ensures c.group_of-g.ensures f.ensures) (sym c.meets.ensures ∙ c.if-not-meets.false) _ _ c.pool-strings.ensures (right_by_lem _ _ l.i _ _ _ _ c.entry_at-e.ensures c.group_of-g.ensures c.placed_right.ensures) (c.if-not-placed_right.false) c.if-c-eq0.false _ _ (landed_by _ _ _ _ _ l.i l.c _ _ _ c.entry_at-e.ensures c.requires.1 c.group_of-g.ensures c.lands_right.ensures) (c.if-not-lands_right.false), search rules)

pub returns : goal.returns
returns c =
    let t = c.args.table.now in
    let l = c.loop-i in
    let w = l.invariant.0.within in
    let z : l.i ≡ count_of t = omega (arith, c.requires.1) in
    rw (c.meets-2.ensures, c.requires.1) (pass_end t l.wanted l.c (rw z at l.invariant.0) c.requires.0)
