use mathlib.Core.Path.{refl, ap, ◌∙◌}
use mathlib.Core.Bool.{Bool}
use mathlib.Core.List.{List}
use Prim.Native.Nat.{ℕ}
use Rattle.pattern.specs.Wildcard.{well_formed}
use Rattle.regexp.specs.Regex.{well_formed as regexFormed}
use Rattle.table.proofs.Patterns.{no_test, the_test}
use borrow.Author.Rules.{rules}
use Rattle.table.proofs.is_pattern.Goals as goal

pub returns-in-60 : goal.returns-in-60
returns-in-60 c =
    λ test e.
    let a = c.args in
    c.well_formed-in-60.ensures ∙ ap (λ (t : List ℕ → Bool). t a.p.now) (the_test a.number 60 well_formed test c.in-60.is refl e)

pub returns-in-61 : goal.returns-in-61
returns-in-61 c =
    λ test e.
    let a = c.args in
    c.well_formed-in-61.ensures ∙ ap (λ (t : List ℕ → Bool). t a.p.now) (the_test a.number 61 regexFormed test c.in-61.is refl e)

pub returns-in_default : goal.returns-in_default
returns-in_default c = λ test e. no_test c.args.number test (search rules) e
