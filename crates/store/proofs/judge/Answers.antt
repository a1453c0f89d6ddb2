-- `judge` meets its contract: 26, 12, 27, 28 in this order, or the lowest free number. Assumes nothing.
use Rattle.std.proofs.Common.{sym, ap, ◌∙◌, ℕ, arith, rules}
use Rattle.store.specs.Layout.{places_in}
use Rattle.store.specs.Calls.{answered, added_by}
use Rattle.store.proofs.Parses.{right}
use Rattle.store.proofs.Answers.{is_right, free_number, no_number, broken_add, bad_table, all_held, no_room, accepted}
use Rattle.store.proofs.judge.Goals as goal

pub returns-in_err-records : goal.returns-in_err-records
returns-in_err-records c = let e = broken_add c.args.store.now c.args.table.now _ c.in_err-records.ensures.err in search rules

pub returns-then-not-check : goal.returns-then-not-check
returns-then-not-check c =
    let s = c.args.store.now in
    let t = c.args.table.now in
    let ok = is_right s c.in_ok-records.records c.in_ok-records.ensures.ok in
    sym (ap (λ (n : ℕ). added_by n (places_in s)) (bad_table s t ok (sym c.check.ensures ∙ c.if-not-check.true)))

pub returns-in_default : goal.returns-in_default
returns-in_default c =
    let s = c.args.store.now in
    let t = c.args.table.now in
    let r = c.in_ok-records.records in
    let e = c.in_ok-records.ensures.ok in
    let z = no_number s r e (sym c.first_free.ensures ∙ c.in_default.is) in
    sym (ap (λ (n : ℕ). added_by n (places_in s)) (all_held s t (is_right s r e) (sym c.check.ensures ∙ c.if-not-check.false) z))

pub read_u32-requires : goal.read_u32-requires
read_u32-requires c =
    let ok = is_right c.args.store.now c.in_ok-records.records c.in_ok-records.ensures.ok in
    let h = (right c.args.store.now ok).header.long in
    omega (arith, h)

pub returns-then-store-end : goal.returns-then-store-end
returns-then-store-end c =
    let s = c.args.store.now in
    let t = c.args.table.now in
    let r = c.in_ok-records.records in
    let e = c.in_ok-records.ensures.ok in
    let f = free_number s r e c.in-Some.number (sym c.first_free.ensures ∙ c.in-Some.is) in
    sym (ap (λ (n : ℕ). added_by n (places_in s)) (no_room s t (is_right s r e) (sym c.check.ensures ∙ c.if-not-check.false) f.1 (omega (arith, c.if-store-end.true, c.read_u32.ensures))))

pub returns : goal.returns
returns c =
    let s = c.args.store.now in
    let t = c.args.table.now in
    let r = c.in_ok-records.records in
    let e = c.in_ok-records.ensures.ok in
    let f = free_number s r e c.in-Some.number (sym c.first_free.ensures ∙ c.in-Some.is) in
    let z = accepted s t (is_right s r e) (sym c.check.ensures ∙ c.if-not-check.false) f.1 (omega (arith, c.if-store-end.false, c.read_u32.ensures)) in
    ap (λ (n : ℕ). answered 0 n) f.0 ∙ sym (ap (λ (n : ℕ). added_by n (places_in s)) z)
