-- `survey` meets its contract: the fields kept so far, by their places, their bytes, and what each field is. Assumes nothing.
use mathlib.Core.Path.{sym, ◌∙◌}
use lib.ListN.{length}
use Rattle.mend.specs.Fate.{code_of}
use Rattle.mend.proofs.Turns.{count_starts, both, not_both, counts_on, survey_over, survey_ends}
use Rattle.mend.proofs.walking.survey.Goals as goal

pub loop-end-init : goal.loop-end-init
loop-end-init c = let p = c.requires in count_starts c.args.bytes.now c.args.order.now c.args.codes.now p.0.0 p.1 p.2

pub loop-end-preserved : goal.loop-end-preserved
loop-end-preserved c =
    let i = c.loop-end in
    rw c.from.ensures (counts_on c.args.bytes.now i.order c.args.codes.now i.codes i.kept i.at i.size i.count i.invariant (both c.loop-end.at (length c.args.bytes.now) c.loop-end.kept 65 (sym c.goes_on.ensures ∙ c.loop-end-test.true)).0 c.admit-fate.new.order (code_of c.admit-fate.result) c.gain-kept.result c.next-end.result c.gain-size.result
    c.admit-fate.ensures c.gain-kept.ensures c.next-end.ensures.0 c.next-end.ensures.1 c.gain-size.ensures)

pub returns-then-kept-eq65 : goal.returns-then-kept-eq65
returns-then-kept-eq65 c =
    let i = c.loop-end in
    survey_over c.args.bytes.now i.order c.args.codes.now i.codes i.kept i.at i.size i.count i.invariant c.if-kept-eq65.true

pub returns : goal.returns
returns c =
    let i = c.loop-end in
    let s = c.args.bytes.now in
    survey_ends s i.order c.args.codes.now i.codes i.kept i.at i.size i.count i.invariant (not_both i.at (length s) i.kept 65 (sym c.goes_on.ensures ∙ c.loop-end-test.false)) c.if-kept-eq65.false
