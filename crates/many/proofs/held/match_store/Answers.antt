-- `match_store` meets its contract: 26, 11, 9, or the bytes of the 64 numbers. Assumes nothing.
use Rattle.std.proofs.Common.{refl, sym, ap, subst, ◌∙◌, ℕ, List, ◌++◌, drop}
use Rattle.std.proofs.lemmas.List.{length-take-le}
use Rattle.notice.specs.Layout.{Indexed}
use Rattle.notice.proofs.Stood.{stood_indexed}
use Rattle.store.proofs.Answers.{is_right}
use Rattle.many.specs.Held.{held_verdicts, answered}
use Rattle.many.proofs.Verdicts.{front_set}
use Rattle.many.proofs.Holding.{bytes_64, match-written}
use Rattle.many.proofs.held.match_store.Goals as goal

pub deliver-requires : goal.deliver-requires
deliver-requires c =
    let a = c.args in
    let i = c.in_ok-index.ensures in
    let well = sym i.value in
    (well, subst (λ (t : List ℕ). Indexed a.notice.now t) (sym i.starts_after) (stood_indexed a.notice.now well _ refl), length-take-le 64 a.verdicts.now c.if-verdicts-lt64.false)

pub returns : goal.returns
returns c =
    let a = c.args in
    let s = a.store.now in
    let n = a.notice.now in
    let v = a.verdicts.now in
    let same = c.in_ok-records.ensures.ok in
    let bytes = c.deliver.ensures ∙ ap (λ (t : List ℕ). held_verdicts t n) same in
    let written = ap (λ (x : List ℕ). x ++ drop 64 v) bytes ∙ front_set (held_verdicts s n) v 64 (bytes_64 s n) c.if-verdicts-lt64.false in
    match-written s n v (answered 0 0) (is_right s c.in_ok-records.records same) (sym c.in_ok-index.ensures.value) c.if-verdicts-lt64.false _ written refl
