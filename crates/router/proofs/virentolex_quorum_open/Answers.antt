-- `router::virentolex_quorum_open` meets its contract: the fields of the answer, one by one, and the bytes. Assumes nothing.
use Rattle.std.proofs.Common.{◌∙◌}
use Rattle.quorum.specs.Showing.{shown}
use Rattle.quorum.proofs.Turns.{gives}
use Rattle.router.proofs.virentolex_quorum_open.Goals as goal

pub returns : goal.returns
returns c =
    let a = c.open-a in
    let t = c.tell.ensures in
    let g = gives (shown a.result) _ _ a.ensures.answer c.flag.ensures in
    record {
      gives = record { number_is = t.number ∙ g.number_is; place_is = t.place_after ∙ g.place_is; count_is = g.count_is; reached_is = g.reached_is; undecided_is = g.undecided_is };
      decision_after = a.ensures.bytes;
    }
