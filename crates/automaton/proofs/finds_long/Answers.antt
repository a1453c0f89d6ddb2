use Prim.Native.Nat.{ℕ}
use mathlib.Core.Path.{sym, ap, ◌∙◌}
use mathlib.Core.Bool.{false}
use lib.ListN.{length, replicate}
use Rattle.octets.specs.Octets.{fold}
use Rattle.automaton.specs.Table.{tokens_of}
use Rattle.automaton.specs.Word.{cells_in}
use Rattle.automaton.proofs.Told.{long_seen, long_first}
use Rattle.automaton.proofs.finds_long.Goals as goal

pub returns-then-ef-l : goal.returns-then-ef-l
returns-then-ef-l c =
    let a = c.args in
    let n = length a.kinds.now in
    let e = (c.fill.ensures.after (λ y h. h)) ∙ ap (λ (m : ℕ). replicate m false) c.requires.2 in
    long_seen (tokens_of a.text.now a.kinds.now a.args.now) n a.sf a.ef (fold a.mark) a.value.now a.from _ _ c.shift-l.result e c.shift-l.ensures c.requires.3 c.if-ef-l.true

pub returns : goal.returns
returns c =
    let a = c.args in
    let n = length a.kinds.now in
    let e = (c.fill.ensures.after (λ y h. h)) ∙ ap (λ (m : ℕ). replicate m false) c.requires.2 in
    let p = c.pack-w in
    let m = c.marks-2-1.given ∙ c.marks-1.given ∙ c.requires.2 in
    long_first (tokens_of a.text.now a.kinds.now a.args.now) n a.sf a.ef (fold a.mark) a.value.now a.from _ _ c.shift-l.result e c.shift-l.ensures c.requires.3 c.if-ef-l.false p.result (sym (ap (λ (k : ℕ). cells_in k p.result) m) ∙ p.ensures.0) p.ensures.1 c.fold.result c.fold.ensures c.lead-x.result c.lead-x.ensures c.walk_told.result c.walk_told.ensures
