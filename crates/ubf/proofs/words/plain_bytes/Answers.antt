use mathlib.Core.Path.{◌≡◌, sym, subst, ◌∙◌}
use Prim.Native.Nat.{ℕ}
use native.Mathlib.Omega.{arith}
use lib.ListN.{length}
use Rattle.ubf.specs.Escape.{Plain}
use Rattle.ubf.proofs.Plains.{plain_none, plain_one}
use Rattle.ubf.proofs.words.plain_bytes.Goals as goal

pub loop-i-init : goal.loop-i-init
loop-i-init c = let a = c.args in (omega arith, omega arith, plain_none a.s.now a.q a.at)

pub returns-then-needs_escape : goal.returns-then-needs_escape
returns-then-needs_escape c =
    let l = c.loop-i in
    record { after = l.invariant.0; near = l.invariant.1; plain = l.invariant.2; stops = λ h. sym c.needs_escape.ensures ∙ c.if-needs_escape.true }

pub loop-i-preserved : goal.loop-i-preserved
loop-i-preserved c =
    let a = c.args in
    let l = c.loop-i in
    (omega (arith, l.invariant.0), omega arith, plain_one a.s.now a.q a.at l.i l.invariant.2 (sym c.needs_escape.ensures ∙ c.if-needs_escape.false))

pub returns : goal.returns
returns c =
    let a = c.args in
    let l = c.loop-i in
    let e : l.i ≡ length a.s.now = omega (arith, l.invariant.1) in
    record { after = c.requires; near = omega arith; plain = subst (λ (k : ℕ). Plain a.s.now a.q a.at k) e l.invariant.2; stops = λ h. absurd (omega arith) }
