use mathlib.Core.Path.{refl, sym, ◌∙◌}
use mathlib.Core.Bool.{◌&&◌}
use native.Mathlib.Omega.{arith}
use denote.Param.{number}
use lib.Dec.{eqb, leb}
use lib.ListN.{length, get_or}
use Rattle.octets.specs.Octets.{fold, folded}
use Rattle.octets.specs.contracts.searching.search.{MARKED-type}
use Rattle.octets.proofs.Laws.{rest, found, passed}
use Rattle.octets.proofs.Places.{other_first, no_place}
use Rattle.octets.proofs.Theorems.{and_parts}
use borrow.Author.Tests.{eq-eqb, ne_eqb, leb-true}
use Rattle.octets.proofs.searching.search.Goals as goal

pub loop-i-init : goal.loop-i-init
loop-i-init g c = refl

pub loop-i-preserved-then-s-i : goal.loop-i-preserved-then-s-i
loop-i-preserved-then-s-i g c =
    let l = c.loop-i in
    let a = c.args in
    let m = MARKED-type (number g.row.MARKED) && a.s_mark in
    let n = MARKED-type (number g.row.MARKED) && a.p_mark in
    let told = c.case_bit-bit.ensures (get_or a.s.now l.i 0) (c.type_inv.s l.i).fits in
    other_first (fold m) (fold n) a.s.now a.p.now l.i (omega arith) (omega arith)
    (λ q. c.if-s-i.true (told.1 (q ∙ sym c.fold-first.ensures))) ∙ l.invariant

pub agreed-j-requires : goal.agreed-j-requires
agreed-j-requires g c =
    let l = c.loop-i in
    let a = c.args in
    let told = c.case_bit-bit.ensures (get_or a.s.now l.i 0) (c.type_inv.s l.i).fits in
    (omega arith, omega arith, told.0 c.if-s-i.false ∙ c.fold-first.ensures)

pub returns-then-j-p : goal.returns-then-j-p
returns-then-j-p g c =
    let l = c.loop-i in
    let a = c.args in
    let m = MARKED-type (number g.row.MARKED) && a.s_mark in
    let n = MARKED-type (number g.row.MARKED) && a.p_mark in
    found (fold m) a.s.now (folded n a.p.now) l.i (omega arith)
    (sym c.agreed-j.ensures ∙ eq-eqb c.agreed-j.result (length a.p.now) c.if-j-p.true) ∙ l.invariant

pub by_borders-requires : goal.by_borders-requires
by_borders-requires g c =
    let a = c.args in
    let h = and_parts (eqb c.saturating_sub-credit.result 0) (leb (length a.p.now) 4096) c.if-credit-p.true in
    rw (rest a.p.now 0) (omega arith, leb-true (length a.p.now) 4096 h.1)

pub returns-then-credit-p : goal.returns-then-credit-p
returns-then-credit-p g c =
    let l = c.loop-i in
    let a = c.args in
    (rw (rest a.s.now l.i, rest a.p.now 0) at c.by_borders.ensures) ∙ l.invariant

pub loop-i-preserved : goal.loop-i-preserved
loop-i-preserved g c =
    let l = c.loop-i in
    let a = c.args in
    let m = MARKED-type (number g.row.MARKED) && a.s_mark in
    let n = MARKED-type (number g.row.MARKED) && a.p_mark in
    passed (fold m) a.s.now (folded n a.p.now) l.i (omega arith)
    (sym c.agreed-j.ensures ∙ ne_eqb c.agreed-j.result (length a.p.now) c.if-j-p.false) ∙ l.invariant

pub returns : goal.returns
returns g c =
    let l = c.loop-i in
    let a = c.args in
    let m = MARKED-type (number g.row.MARKED) && a.s_mark in
    let n = MARKED-type (number g.row.MARKED) && a.p_mark in
    no_place (fold m) (fold n) a.s.now a.p.now l.i (omega arith) (omega arith) ∙ l.invariant
