-- Request 10, as specs/More.antt states it. Assumes nothing.
use Prim.Native.Nat.{ℕ}
use native.Mathlib.Omega.{arith}
use mathlib.Core.Path.{◌≡◌, refl, sym, ap, ◌∙◌}
use mathlib.Core.Logic.{inl, inr}
use mathlib.Core.List.{List}
use mathlib.Core.Option.{some, some-injective}
use Rattle.truth.specs.declared.Truth.{Truth}
use Rattle.truth.specs.Truth.{rank}
use Rattle.notice.specs.More.{More}
use Rattle.opcode.specs.declared.Edition.{Edition}
use Rattle.grammar.specs.Tree.{Tree}
use Rattle.value.specs.Order.{TruthBelow}
use Rattle.meaning.specs.Meaning.{meaning, text_meaning}
use Rattle.meaning.proofs.Rises.{meaning_rises}
use Rattle.translator.specs.Theorems.{Accepted}
use Rattle.router.proofs.Demand.{text_means, demand_three}
use Rattle.more.specs.More.{NeverTurns, MoreFields, MoreAnswers, MoreMatches}

-- what is below and not bottom is the same
never_turns : {s t : Truth} → TruthBelow s t → NeverTurns s t
never_turns (inl p) = (λ e. absurd (omega (arith, ap rank (sym p ∙ e))), λ e. absurd (omega (arith, ap rank (sym p ∙ e))))
never_turns (inr p) = (λ e. sym p ∙ e, λ e. sym p ∙ e)

pub more_fields : MoreFields
more_fields edition text first second tree a m = (
  meaning edition tree first,
  meaning edition tree second,
  text_means edition text first tree a,
  text_means edition text second tree a,
  never_turns (meaning_rises edition first second m tree),
)

-- verdicts that are the text's meaning
answers_turn : (edition : Edition) (text first second : List ℕ) (tree : Tree) (s t : Truth) → Accepted text tree → More first second
    → text_meaning edition text first ≡ some s → text_meaning edition text second ≡ some t → NeverTurns s t
answers_turn edition text first second tree s t a m p q =
    let r = more_fields edition text first second tree a m in
    let x : r.0 ≡ s = some-injective r.0 s (sym r.2 ∙ p) in
    let y : r.1 ≡ t = some-injective r.1 t (sym r.3 ∙ q) in
    (λ e. sym y ∙ r.4.0 (x ∙ e), λ e. sym y ∙ r.4.1 (x ∙ e))

pub more_answers : MoreAnswers
more_answers edition text buffer buffer' first second visits visits' tree c d b a room room' m =
    let x = (demand_three edition text buffer first visits tree c b a room m.first_right).2 in
    let y = (demand_three edition text buffer' second visits' tree d b a room' m.second_right).2 in
    (x.answered, y.answered, answers_turn edition text first second tree c.ran.verdict d.ran.verdict a m x.means y.means)

pub more_matches : MoreMatches
more_matches edition text buffer buffer' first second written written' visits visits' tree r r' p q a room room' m =
    let x = p.demand edition tree refl a room m.first_right in
    let y = q.demand edition tree refl a room' m.second_right in
    (x.answered, y.answered, answers_turn edition text first second tree r.verdict r'.verdict a m x.means y.means)
