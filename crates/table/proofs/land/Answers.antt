use mathlib.Core.Path.{refl, sym, ◌∙◌}
use borrow.Author.Tests.{lt-leb, le-leb}
use Rattle.common.proofs.Choice.{false_true}
use Rattle.table.proofs.land.Goals as goal

pub returns-then-n-to : goal.returns-then-n-to
returns-then-n-to c = record { answer = rw (lt-leb _ _ c.if-n-to.true); wants = λ t. false_true t }

pub returns-then-not-meets : goal.returns-then-not-meets
returns-then-not-meets c =
    record { answer = rw (le-leb _ _ c.if-n-to.false, sym c.meets.ensures ∙ c.if-not-meets.true); wants = λ t. false_true t }

pub returns : goal.returns
returns c =
    record { answer = rw (le-leb _ _ c.if-n-to.false, sym c.meets.ensures ∙ c.if-not-meets.false); wants = λ t. refl }
