-- `byte_of` meets its contract: 4 for a free place, else the byte of its table's run. Assumes nothing.
use Rattle.std.proofs.Common.{◌≡◌, sym, ap, subst, ◌∙◌, ℕ, List, arith}
use Rattle.refusal.proofs.Numbers.{refuses}
use Rattle.interpreter.specs.Running.{running_of}
use Rattle.store.specs.Calls.{Part, part_of}
use Rattle.store.specs.declared.records.Records.{Records}
use Rattle.store.proofs.Answers.{Fetches, fetches}
use Rattle.many.specs.Many.{verdict_byte}
use Rattle.many.proofs.Holding.{byte_free, byte_held}
use Rattle.many.proofs.held.byte_of.Goals as goal

-- where the number's table lies
fetched : (r : Records) (number : ℕ) {p : Part} → p ≡ part_of r.store.now number → Fetches r.store.now number p
fetched r number e = subst (Fetches r.store.now number) (sym e) (fetches r.store.now number r.bytes)

pub slice_bounds-verdict-end : goal.slice_bounds-verdict-end
slice_bounds-verdict-end c = let f = fetched c.args.records.now c.args.number c.in-Ok.ensures in omega (arith, f.0, f.1)

pub returns-in-Ok : goal.returns-in-Ok
returns-in-Ok c =
    let a = c.args in
    let r = c.args.records.now in
    let f = fetched r a.number c.in-Ok.ensures in
    c.verdict.ensures
    ∙ (ap (λ (t : List ℕ). verdict_byte (running_of t a.notice.now)) f.2
    ∙ byte_held r.store.now a.notice.now a.number r.right (sym (ap (λ (p : Part). p.refusal) c.in-Ok.ensures)))

pub returns-in-Err : goal.returns-in-Err
returns-in-Err c =
    let a = c.args in
    let r = c.args.records.now in
    byte_free r.store.now a.notice.now a.number r.right (λ e. refuses c.in-Err.field-0 (ap (λ (p : Part). p.refusal) c.in-Err.ensures ∙ e))
