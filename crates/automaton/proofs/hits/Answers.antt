use native.Mathlib.Omega.{arith}
use mathlib.Core.Path.{ap, ◌∙◌}
use mathlib.Core.Bool.{Bool}
use Rattle.automaton.specs.Table.{outside, held_of}
use Rattle.pattern.specs.Steps.{turned}
use Rattle.pattern.proofs.Items.{turned_test}
use Rattle.octets.proofs.Theorems.{not_folded}
use Rattle.automaton.proofs.Step.{hits_set}
use Rattle.automaton.proofs.hits.Goals as goal

pub returns : goal.returns
returns c =
    let a = c.args in
    let s = c.sort-s.ensures in
    let f = not_folded a.text.now in
    let t = (rw f at c.set_test.ensures) in
    turned_test c.outside.result c.held.result
    ∙ ap (λ (b : Bool). turned b c.held.result) c.outside.ensures
    ∙ ap (turned (outside a.kind)) (c.held.ensures ∙ ap held_of t)
    ∙ hits_set a.text.now a.kind a.at a.c (omega (arith, s, c.if-s-gt2.false)) (λ e. c.if-s-eq0.false (s ∙ e)) (λ e. c.if-s-eq1.false (s ∙ e))
