use lib.ListN.{length-set}
use mathlib.Core.Path.{◌≡◌, sym, ◌∙◌}
use mathlib.Core.Bool.{true, false}
use native.Mathlib.Omega.{arith}
use Rattle.ubf.specs.Escape.{needs_escape}
use Rattle.ubf.proofs.Laws.{wide, narrow, put_wide, put_narrow}
use Rattle.ubf.proofs.put.put_escape.Goals as goal

pub bounds-out-at : goal.bounds-out-at
bounds-out-at c =
    let e : needs_escape 34 c.args.b ≡ true = sym c.needs_escape.ensures ∙ c.if-needs_escape.true in let w = wide c.args.b e in omega arith

pub bounds-out-at-then-needs_escape : goal.bounds-out-at-then-needs_escape
bounds-out-at-then-needs_escape c =
    let e : needs_escape 34 c.args.b ≡ true = sym c.needs_escape.ensures ∙ c.if-needs_escape.true in let w = wide c.args.b e in simp length-set (omega arith)

pub returns-then-needs_escape : goal.returns-then-needs_escape
returns-then-needs_escape c =
    let e : needs_escape 34 c.args.b ≡ true = sym c.needs_escape.ensures ∙ c.if-needs_escape.true in put_wide c.args.out.now c.args.at c.args.b e

pub bounds-out-at-2 : goal.bounds-out-at-2
bounds-out-at-2 c =
    let e : needs_escape 34 c.args.b ≡ false = sym c.needs_escape.ensures ∙ c.if-needs_escape.false in let w = narrow c.args.b e in omega arith

pub returns : goal.returns
returns c =
    let e : needs_escape 34 c.args.b ≡ false = sym c.needs_escape.ensures ∙ c.if-needs_escape.false in put_narrow c.args.out.now c.args.at c.args.b e
