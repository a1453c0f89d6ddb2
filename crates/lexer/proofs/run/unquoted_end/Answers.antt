use Prim.Native.Nat.{◌-◌}
use mathlib.Core.Path.{◌≡◌, sym, ◌∙◌}
use native.Mathlib.Omega.{arith}
use lib.Dec.{eqb}
use lib.ListN.{get_or, drop}
use Rattle.octets.proofs.Places.{neither}
use Rattle.lexer.proofs.Runs.{ends_quote, passes_first, passes_on_at}
use Rattle.lexer.proofs.run.unquoted_end.Goals as goal

pub loop-i-init : goal.loop-i-init
loop-i-init c =
    let a = c.args in
    let z : a.at - a.at ≡ 0 = omega arith in
    (omega arith, omega arith, rw z (passes_first a.quote (drop a.at a.s.now)))

pub returns-then-b-quote : goal.returns-then-b-quote
returns-then-b-quote c = (c.loop-i.invariant.0, c.loop-i.invariant.2)

pub loop-i-preserved : goal.loop-i-preserved
loop-i-preserved c =
    let a = c.args in
    let l = c.loop-i in
    let b = get_or a.s.now l.i 0 in
    let n = neither (eqb b a.quote) (eqb b 92) c.if-b-quote.false in
    (omega arith, omega arith, passes_on_at a.s.now a.at l.i l.invariant.0 a.quote (omega arith) (sym (ends_quote a.quote b c.requires) ∙ n.0) n.1 l.invariant.2)

pub returns : goal.returns
returns c =
    let z : c.max.result ≡ c.loop-i.i = omega arith in
    rw z (c.loop-i.invariant.0, c.loop-i.invariant.2)
