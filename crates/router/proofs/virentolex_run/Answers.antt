-- `router::virentolex_run` meets its contract: the fields of the run's answer, one by one. Assumes nothing.
use mathlib.Core.Path.{ap, ◌∙◌}
use Rattle.truth.specs.Truth.{number_of}
use Rattle.router.proofs.virentolex_run.Goals as goal

pub returns-in-Ok : goal.returns-in-Ok
returns-in-Ok c =
    let e = c.in-Ok.ensures in
    record {
      value = ap (λ a. a.number) e;
      place_after = ap (λ a. a.place) e;
      verdict_after = c.from.ensures ∙ ap (λ a. number_of a.verdict) e;
      steps_after = ap (λ a. a.steps) e;
      undecided_after = ap (λ a. a.undecided) e;
    }

pub returns-in-Err : goal.returns-in-Err
returns-in-Err c =
    let e = c.in-Err.ensures in
    record {
      value = c.refuse.ensures.number ∙ ap (λ a. a.number) e;
      place_after = c.refuse.ensures.place_after ∙ ap (λ a. a.place) e;
      verdict_after = c.from-in-Err.ensures ∙ ap (λ a. number_of a.verdict) e;
      steps_after = ap (λ a. a.steps) e;
      undecided_after = ap (λ a. a.undecided) e;
    }
