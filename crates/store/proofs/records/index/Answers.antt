-- `index` meets its contract: what is left of the walk decides as the whole. Assumes nothing.
use Rattle.std.proofs.Common.{◌≡◌, refl, sym, ap, ◌∙◌, ℕ, ◌+◌, ◌-◌, arith, rules}
use borrow.Author.Tests.{ne_eqb, eq-eqb}
use Rattle.store.proofs.Parses.{Stands, stands_parts, header_parts, no_header}
use Rattle.store.proofs.Stores.{walk_starts, walk_stops, walk_goes, walk_ends}
use Rattle.store.proofs.records.index.Goals as goal

pub returns-then-not-header_right-clause-err : goal.returns-then-not-header_right-clause-err
returns-then-not-header_right-clause-err c = (refl, no_header c.args.store.now (sym c.header_right.ensures ∙ c.if-not-header_right.true))

pub read_u32-requires : goal.read_u32-requires
read_u32-requires c = let h = header_parts _ (sym c.header_right.ensures ∙ c.if-not-header_right.false) in omega (arith, h.long)

pub read_u16-count-requires : goal.read_u16-count-requires
read_u16-count-requires c = let h = header_parts _ (sym c.header_right.ensures ∙ c.if-not-header_right.false) in omega (arith, h.long)

pub loop-init : goal.loop-init
loop-init c =
    let z : c.read_u16-count.result - 0 ≡ c.read_u16-count.result = omega arith in
    walk_starts c.args.store.now _ _ _ (sym c.header_right.ensures ∙ c.if-not-header_right.false) refl (ap (λ (n : ℕ). 4 + n) c.read_u32.ensures) (z ∙ c.read_u16-count.ensures)

pub stands-requires : goal.stands-requires
stands-requires c = let w = c.loop.invariant in (w.fits, w.short)

pub returns-then-not-stands-clause-err : goal.returns-then-not-stands-clause-err
returns-then-not-stands-clause-err c =
    let l = c.loop in
    (refl, walk_stops _ l.starts _ _ l.at l.invariant (c.read_u16-count.result - (l.counter + 1)) (omega arith) (sym c.stands.ensures ∙ c.if-not-stands.true))

pub read_u16-requires : goal.read_u16-requires
read_u16-requires c =
    let w : Stands c.loop.starts c.args.store.now (4 + c.read_u32.result) c.loop.at = stands_parts _ _ _ _ (sym c.stands.ensures ∙ c.if-not-stands.false) in
    let f = c.loop.invariant.fits in
    omega (arith, w.here, f)

pub overflow_add-at : goal.overflow_add-at
overflow_add-at c = let f = c.loop.invariant in omega (arith, f.short)

pub overflow_sub-number : goal.overflow_sub-number
overflow_sub-number c =
    let w : Stands c.loop.starts c.args.store.now (4 + c.read_u32.result) c.loop.at = stands_parts _ _ _ _ (sym c.stands.ensures ∙ c.if-not-stands.false) in
    omega (arith, w.low, c.read_u16.ensures)

pub overflow_cast-starts : goal.overflow_cast-starts
overflow_cast-starts c =
    let w : Stands c.loop.starts c.args.store.now (4 + c.read_u32.result) c.loop.at = stands_parts _ _ _ _ (sym c.stands.ensures ∙ c.if-not-stands.false) in
    let f = c.loop.invariant in
    omega (arith, w.here, f.fits, f.small)

pub bounds-starts-number : goal.bounds-starts-number
bounds-starts-number c =
    let w : Stands c.loop.starts c.args.store.now (4 + c.read_u32.result) c.loop.at = stands_parts _ _ _ _ (sym c.stands.ensures ∙ c.if-not-stands.false) in
    omega (arith, w.low, w.high, c.read_u16.ensures)

pub overflow_add-at-in-loop : goal.overflow_add-at-in-loop
overflow_add-at-in-loop c = let f = c.loop.invariant in omega (arith, f.short)

pub read_u16-requires-in-loop : goal.read_u16-requires-in-loop
read_u16-requires-in-loop c =
    let w : Stands c.loop.starts c.args.store.now (4 + c.read_u32.result) c.loop.at = stands_parts _ _ _ _ (sym c.stands.ensures ∙ c.if-not-stands.false) in
    let f = c.loop.invariant.fits in
    omega (arith, w.here, f)

pub overflow_add-at-in-loop-2 : goal.overflow_add-at-in-loop-2
overflow_add-at-in-loop-2 c =
    let w : Stands c.loop.starts c.args.store.now (4 + c.read_u32.result) c.loop.at = stands_parts _ _ _ _ (sym c.stands.ensures ∙ c.if-not-stands.false) in
    let f = c.loop.invariant in
    omega (arith, w.within, f.fits, f.small, c.read_u16-in-loop.ensures)

pub loop-preserved : goal.loop-preserved
loop-preserved c =
    let l = c.loop in
    walk_goes
    _
    l.starts
    _
    _
    l.at
    l.invariant
    (c.read_u16-count.result - (l.counter + 1))
    (omega arith)
    _
    _
    (sym c.stands.ensures ∙ c.if-not-stands.false)
    (ap (λ (n : ℕ). n - 256) c.read_u16.ensures)
    (ap (λ (n : ℕ). l.at + 2 + n) c.read_u16-in-loop.ensures)

pub returns-then-at-end-clause-err : goal.returns-then-at-end-clause-err
returns-then-at-end-clause-err c =
    let l = c.loop in
    let e = walk_ends _ l.starts _ _ l.at l.invariant (omega arith) in
    (refl, sym e.0 ∙ ne_eqb l.at _ c.if-at-end.true)

pub invariant_of-result : goal.invariant_of-result
invariant_of-result c =
    let l = c.loop in
    let e = walk_ends _ l.starts _ _ l.at l.invariant (omega arith) in
    record { bytes = λ i. search rules; right = sym e.0 ∙ eq-eqb l.at _ c.if-at-end.false; all = e.1 }
