-- `state::has` meets its contract: v is among the values from i on exactly if among all. Assumes nothing.
use mathlib.Core.Path.{refl, ◌∙◌, ap₂}
use native.Mathlib.Omega.{arith}
use borrow.Author.Rules.{rules}
use Rattle.octets.specs.Octets.{same_of}
use Rattle.octets.proofs.Theorems.{not_folded}
use Rattle.quorum.proofs.Reading.{size_at_lem, has-found, has-passed, has_end}
use Rattle.quorum.proofs.state.has.Goals as goal

pub loop-i-init : goal.loop-i-init
loop-i-init c = (omega arith, omega (arith, c.requires.1), refl)

pub value-requires : goal.value-requires
value-requires c =
    let z = size_at_lem c.args.buffer.now c.requires.0 c.loop-i.i (omega arith) in
    (c.requires.0.long, omega (arith, c.requires.0.few), z.1)

pub same-requires : goal.same-requires
same-requires c =
    search rules

pub returns-then-same : goal.returns-then-same
returns-then-same c =
    let a = c.args in
    has-found a.buffer.now a.n c.loop-i.i (omega arith) a.v.now c.same.result (c.same.ensures ∙ ap₂ same_of (not_folded _ ∙ c.value.ensures) (not_folded _)) c.if-same.true ∙ c.loop-i.invariant.2

pub loop-i-preserved : goal.loop-i-preserved
loop-i-preserved c =
    let a = c.args in
    (omega arith, omega arith, has-passed a.buffer.now a.n c.loop-i.i (omega arith) a.v.now c.same.result (c.same.ensures ∙ ap₂ same_of (not_folded _ ∙ c.value.ensures) (not_folded _)) c.if-same.false ∙ c.loop-i.invariant.2)

pub returns : goal.returns
returns c =
    let a = c.args in
    has_end a.buffer.now a.n c.loop-i.i (omega arith) a.v.now ∙ c.loop-i.invariant.2
