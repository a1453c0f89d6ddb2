-- `deliver` meets its contract: the bytes written and those of the tables that are left are all. Assumes nothing.
use Rattle.std.proofs.Common.{◌≡◌, sym, ap, subst, ◌∙◌, ℕ, ◌+◌, List, take, drop, arith}
use Rattle.std.proofs.Math.ListN.{set}
use Rattle.interpreter.specs.Running.{running_of}
use Rattle.many.specs.Many.{extent_of, verdict_byte}
use Rattle.many.proofs.Verdicts.{Delivering, delivering_first, delivering_on, delivered_all}
use Rattle.many.proofs.deliver.Goals as goal

pub loop-byte-init : goal.loop-byte-init
loop-byte-init c = let a = c.args in delivering_first a.tables.now a.notice.now a.verdicts.now c.requires.2

pub loop-byte-preserved : goal.loop-byte-preserved
loop-byte-preserved c =
    let a = c.args in
    let l = c.loop-byte in
    let r = l.rest.now in
    let front : c.split_at.result.0.now ≡ take (extent_of r) r = c.split_at.ensures.front ∙ ap (λ (n : ℕ). take n r) c.extent.ensures.0 in
    let back : c.split_at.result.1.now ≡ drop (extent_of r) r = c.split_at.ensures.back ∙ ap (λ (n : ℕ). drop n r) c.extent.ensures.0 in
    let byte = c.verdict.ensures ∙ ap (λ (t : List ℕ). verdict_byte (running_of t a.notice.now)) front in
    subst
    (λ (x : List ℕ). Delivering a.tables.now a.notice.now x (set l.verdicts l.byte-index c.verdict.result) (l.byte-index + 1))
    (sym back)
    (delivering_on a.tables.now a.notice.now r l.verdicts l.byte-index l.invariant c.verdict.result (omega arith) byte)

pub returns : goal.returns
returns c =
    let a = c.args in
    let l = c.loop-byte in
    delivered_all a.tables.now a.notice.now l.rest.now l.verdicts l.byte-index l.invariant (omega arith)
