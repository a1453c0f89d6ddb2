use Prim.Native.Nat.{ℕ}
use borrow.Author.Tests.{eqb-false}
use mathlib.Core.Path.{sym, ap, ◌∙◌}
use native.Mathlib.Omega.{arith}
use lib.ListN.{length, get_or}
use Rattle.std.specs.Prelude.{unwrap_or}
use Rattle.octets.specs.Octets.{fold}
use Rattle.automaton.proofs.Step.{get_d_any}
use Rattle.automaton.proofs.Skips.{ahead_position, ahead_within, start_skip}
use Rattle.automaton.proofs.start.Goals as goal

pub returns : goal.returns
returns c =
    let a = c.args in
    let w = c.from-at in
    let e = get_d_any a.text.now w.result 0 256 (omega (arith, c.if-text-at.false)) ∙ ap (λ (i : ℕ). get_or a.text.now i 256) w.ensures in
    let q = c.unwrap_or.ensures ∙ ap (λ o. unwrap_or o (length a.value.now)) c.first.ensures ∙ ahead_position (get_or a.text.now w.result 0) (fold a.mark) a.value.now in
    (omega (arith, q, ahead_within (get_or a.text.now w.result 0) (fold a.mark) a.value.now), λ ef. start_skip a.text.now a.kinds.now a.args.now c.requires.0 c.requires.1 (let n = eqb-false (length a.kinds.now) 0 (sym c.is_empty.ensures ∙ c.if-is_empty.false) in omega (arith, n)) (omega (arith, c.if-kinds-ne0.false)) (get_or a.text.now w.result 0) e (fold a.mark) a.value.now c.unwrap_or.result q ef)
