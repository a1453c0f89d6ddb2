use mathlib.Core.Path.{◌≡◌, refl, sym, ◌∙◌}
use denote.Param.{number}
use Rattle.octets.specs.contracts.words.same_words.{S-type}
use Prim.Native.Nat.{◌-◌}
use native.Mathlib.Omega.{arith}
use lib.ListN.{length, length-map}
use Rattle.octets.specs.Octets.{fold, folded}
use Rattle.octets.proofs.Sames.{other_word, next_word, last_word}
use Rattle.octets.proofs.Folds.{folded_bytes}
use Rattle.octets.proofs.words.same_words.Goals as goal

pub returns-then-word_under : goal.returns-then-word_under
returns-then-word_under g c =
    let a = c.args in
    other_word (folded (S-type (number g.row.S)) a.s.now) (folded a.t_mark a.t.now) 8 (length a.s.now - 8) (λ e. c.if-word_under.true (c.word_under.ensures ∙ (e ∙ sym c.word_under-2.ensures)))

pub loop-i-init : goal.loop-i-init
loop-i-init g c = (omega arith, refl)

pub returns-then-word_under-2 : goal.returns-then-word_under-2
returns-then-word_under-2 g c =
    let a = c.args in
    other_word (folded (S-type (number g.row.S)) a.s.now) (folded a.t_mark a.t.now) 8 c.loop-i.i (λ e. c.if-word_under-2.true (c.word_under-in-loop-i.ensures ∙ (e ∙ sym c.word_under-in-loop-i-2.ensures)))

pub loop-i-preserved : goal.loop-i-preserved
loop-i-preserved g c =
    let a = c.args in
    let l = c.loop-i in
    let e = sym c.word_under-in-loop-i.ensures ∙ (c.if-word_under-2.false ∙ c.word_under-in-loop-i-2.ensures) in
    let ms : length (folded (S-type (number g.row.S)) a.s.now) ≡ length a.s.now = length-map a.s.now (fold (S-type (number g.row.S))) in
    let mt : length (folded a.t_mark a.t.now) ≡ length a.t.now = length-map a.t.now (fold a.t_mark) in
    let bs = folded_bytes (S-type (number g.row.S)) a.s.now (λ i. (c.type_inv.s i).fits) in
    let bt = folded_bytes a.t_mark a.t.now (λ i. (c.type_inv.t i).fits) in
    (omega arith, next_word (folded (S-type (number g.row.S)) a.s.now) (folded a.t_mark a.t.now) bs bt (omega (arith, ms, mt)) 8 l.i (omega (arith, ms)) e l.invariant.1)

pub returns : goal.returns
returns g c =
    let a = c.args in
    let e = sym c.word_under.ensures ∙ (c.if-word_under.false ∙ c.word_under-2.ensures) in
    let ms : length (folded (S-type (number g.row.S)) a.s.now) ≡ length a.s.now = length-map a.s.now (fold (S-type (number g.row.S))) in
    let mt : length (folded a.t_mark a.t.now) ≡ length a.t.now = length-map a.t.now (fold a.t_mark) in
    let bs = folded_bytes (S-type (number g.row.S)) a.s.now (λ i. (c.type_inv.s i).fits) in
    let bt = folded_bytes a.t_mark a.t.now (λ i. (c.type_inv.t i).fits) in
    last_word (folded (S-type (number g.row.S)) a.s.now) (folded a.t_mark a.t.now) bs bt (omega (arith, ms, mt)) 8 c.loop-i.i (length a.s.now - 8) (omega arith) (omega (arith, ms)) e c.loop-i.invariant.1
