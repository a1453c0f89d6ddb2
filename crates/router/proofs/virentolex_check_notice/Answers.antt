-- `router::virentolex_check_notice` meets its contract. Assumes nothing.
use mathlib.Core.Path.{ap, ◌∙◌}
use Rattle.notice.specs.Layout.{number_of, place_of}
use Rattle.router.proofs.virentolex_check_notice.Goals as goal

pub returns-in-Ok : goal.returns-in-Ok
returns-in-Ok c =
    let e = c.in-Ok.ensures in
    record { value = ap number_of e; place_after = ap place_of e }

pub returns-in-Err : goal.returns-in-Err
returns-in-Err c =
    let e = c.in-Err.ensures in
    record { value = c.refuse.ensures.number ∙ ap number_of e; place_after = c.refuse.ensures.place_after ∙ ap place_of e }
