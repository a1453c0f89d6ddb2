use Rattle.std.proofs.Common.{sym, ◌∙◌, arith}
use Rattle.notice.proofs.Stood.{goes_first, goes_on, leaves_wrong, leaves_well, leaves_spare}
use Rattle.notice.proofs.check_fields.Goals as goal

pub loop-i-init : goal.loop-i-init
loop-i-init c = goes_first c.args.notice.now c.args.starts.now c.requires

pub loop-i-preserved : goal.loop-i-preserved
loop-i-preserved c =
    let a = c.args in
    let i = c.loop-i in
    rw c.next_at-at.ensures
    (goes_on a.notice.now a.starts.now i.starts i.i i.at i.last i.last_key i.invariant (omega arith)
    (sym (c.follows.ensures) ∙ c.if-not-follows.false) c.key_at-key.result c.key_at-key.ensures)

pub returns-then-not-follows : goal.returns-then-not-follows
returns-then-not-follows c =
    let a = c.args in
    let i = c.loop-i in
    let e = leaves_wrong a.notice.now a.starts.now i.starts i.i i.at i.last i.last_key i.invariant (omega arith)
    (sym (c.follows.ensures) ∙ c.if-not-follows.true) in
    record { value = e.0; starts_after = e.1 }

pub returns-then-at-notice : goal.returns-then-at-notice
returns-then-at-notice c =
    let a = c.args in
    let i = c.loop-i in
    let e = leaves_well a.notice.now a.starts.now i.starts i.i i.at i.last i.last_key i.invariant (omega arith) c.if-at-notice.true in
    record { value = e.0; starts_after = e.1 }

pub returns-else-at-notice : goal.returns-else-at-notice
returns-else-at-notice c =
    let a = c.args in
    let i = c.loop-i in
    let e = leaves_spare a.notice.now a.starts.now i.starts i.i i.at i.last i.last_key i.invariant (omega arith) c.if-at-notice.false in
    record { value = e.0; starts_after = e.1 }
