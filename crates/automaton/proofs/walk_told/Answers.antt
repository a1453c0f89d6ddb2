use mathlib.Core.Path.{refl, ◌∙◌}
use native.Mathlib.Omega.{arith}
use lib.ListN.{length, get_or, replicate, length-set}
use lib.Seq.{get_or-set_same}
use Rattle.octets.specs.Octets.{fold}
use Rattle.automaton.specs.Table.{tokens_of}
use Rattle.automaton.specs.Word.{cells_in, ended_in}
use Rattle.automaton.proofs.Value.{seen, over}
use Rattle.automaton.proofs.Word.{word_on}
use Rattle.automaton.proofs.Told.{told_none, told_at, told_more, most}
use Rattle.automaton.proofs.walk_told.Goals as goal

pub loop-i-init : goal.loop-i-init
loop-i-init c =
    let a = c.args in
    (c.requires.4, c.requires.2, refl, refl, omega arith, omega arith, told_none (tokens_of a.text.now a.kinds.now a.args.now) (length a.kinds.now) a.sf 2048 (replicate 8 a.word) 1, refl)

pub returns-then-ef-w : goal.returns-then-ef-w
returns-then-ef-w c =
    let a = c.args in
    let l = c.loop-i in
    seen (tokens_of a.text.now a.kinds.now a.args.now) a.sf a.ef a.empty (fold a.mark) a.value.now (cells_in (length a.kinds.now) (get_or l.held l.s 0)) (ended_in (get_or l.held l.s 0)) a.sf l.i (omega arith) c.if-ef-w.true ∙ l.invariant.7

pub loop-i-preserved-then-t-gt0 : goal.loop-i-preserved-then-t-gt0
loop-i-preserved-then-t-gt0 c =
    let a = c.args in
    let l = c.loop-i in
    let t = told_at (tokens_of a.text.now a.kinds.now a.args.now) (length a.kinds.now) a.sf l.next l.held l.count l.invariant.6 c.fold-c.result l.s c.spot-j.result c.from-t.result (omega (arith, l.invariant.4, l.invariant.5)) c.spot-j.ensures.0 c.from-t.ensures (omega (arith, c.if-t-gt0.true)) in
    (omega (arith, c.loop-i-test), l.invariant.1, l.invariant.2, l.invariant.3, t.0, l.invariant.5, l.invariant.6, word_on (tokens_of a.text.now a.kinds.now a.args.now) a.sf a.ef a.empty (fold a.mark) a.value.now (length a.kinds.now) (get_or l.held l.s 0) a.sf l.i (omega (arith, c.loop-i-test)) c.if-ef-w.false c.fold-c.result c.fold-c.ensures _ t.1 ∙ l.invariant.7)

pub returns-then-n-gt7 : goal.returns-then-n-gt7
returns-then-n-gt7 c =
    let a = c.args in
    let l = c.loop-i in
    c.walk_on.ensures ∙ word_on (tokens_of a.text.now a.kinds.now a.args.now) a.sf a.ef a.empty (fold a.mark) a.value.now (length a.kinds.now) (get_or l.held l.s 0) a.sf l.i (omega (arith, c.loop-i-test)) c.if-ef-w.false c.fold-c.result c.fold-c.ensures c.lead-x.result c.lead-x.ensures ∙ l.invariant.7

pub loop-i-preserved : goal.loop-i-preserved
loop-i-preserved c =
    let a = c.args in
    let l = c.loop-i in
    let p = c.place-n in
    let x = c.lead-x in
    let k = c.if-n-gt7.false in
    let u = most l.count p.result c.max-count.result c.max-count.ensures in
    let g = c.spot-j.ensures in (
      omega (arith, c.loop-i-test),
      c.marks-1.given ∙ l.invariant.1,
      simp length-set l.invariant.2,
      simp length-set l.invariant.3,
      u.1,
      u.2 7 l.invariant.5 (omega (arith, k)),
      (told_more (tokens_of a.text.now a.kinds.now a.args.now) (length a.kinds.now) a.sf l.next l.held l.count l.invariant.6 c.fold-c.result l.s c.spot-j.result p.result x.result l.invariant.4 l.invariant.5 g.0 (omega (arith, g.1, l.invariant.2)) p.ensures.1 p.ensures.2 (omega (arith, k, l.invariant.3)) x.ensures c.max-count.result c.max-count.ensures),
      rw (get_or-set_same l.held p.result x.result 0 (omega (arith, k, l.invariant.3))) (word_on (tokens_of a.text.now a.kinds.now a.args.now) a.sf a.ef a.empty (fold a.mark) a.value.now (length a.kinds.now) (get_or l.held l.s 0) a.sf l.i (omega (arith, c.loop-i-test)) c.if-ef-w.false c.fold-c.result c.fold-c.ensures x.result x.ensures ∙ l.invariant.7),
    )

pub returns : goal.returns
returns c =
    let a = c.args in
    let l = c.loop-i in
    over (tokens_of a.text.now a.kinds.now a.args.now) a.sf a.ef a.empty (fold a.mark) a.value.now (cells_in (length a.kinds.now) (get_or l.held l.s 0)) (ended_in (get_or l.held l.s 0)) a.sf l.i (omega arith) ∙ l.invariant.7
