-- `run_many` meets its contract: 11, 24, 9, or the verdicts of all tables. Assumes nothing.
use Rattle.std.proofs.Common.{refl, sym, ap, subst, ◌∙◌, ℕ, List, ◌++◌, drop, arith}
use Rattle.std.proofs.lemmas.List.{length-take-le}
use Rattle.notice.specs.Layout.{Indexed}
use Rattle.notice.proofs.Stood.{stood_indexed}
use Rattle.many.specs.Many.{verdicts_of}
use Rattle.many.proofs.Verdicts.{many-written, front_set, one_each}
use Rattle.many.proofs.run_many.Goals as goal

pub deliver-requires : goal.deliver-requires
deliver-requires c =
    let a = c.args in
    let i = c.in_ok-index.ensures in
    let well = sym i.value in (
      well,
      subst (λ (t : List ℕ). Indexed a.notice.now t) (sym i.starts_after) (stood_indexed a.notice.now well _ refl),
      length-take-le c.in-Some.n a.verdicts.now c.if-verdicts-n.false ∙ c.in-Some.ensures.0,
    )

pub returns : goal.returns
returns c =
    let a = c.args in
    let n = c.in-Some.n in
    let m = c.in-Some.ensures in
    let written = ap (λ (x : List ℕ). x ++ drop n a.verdicts.now) c.deliver.ensures ∙ front_set (verdicts_of a.tables.now a.notice.now) a.verdicts.now n (one_each a.tables.now a.notice.now ∙ sym m.0) c.if-verdicts-n.false in
    many-written a.tables.now a.notice.now a.verdicts.now (record { number = 0; place = 0; count = n }) (sym c.in_ok-index.ensures.value) (omega arith) (omega (arith, c.if-verdicts-n.false)) _ written (rw m.0)
