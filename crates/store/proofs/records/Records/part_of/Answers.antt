-- `Records::part_of` meets its contract: 29, or what lies after the record's length and kind. Assumes nothing.
use Rattle.std.proofs.Common.{◌≡◌, sym, ap, ◌∙◌, ℕ, ◌+◌, List, slice_index, arith}
use Rattle.store.specs.declared.records.Records.{Records}
use Rattle.store.specs.Calls.{Part, starts_of}
use Rattle.store.proofs.Stores.{Lying, numbers}
use Rattle.store.proofs.Answers.{not_held, lies, part_refused, part_held}
use Rattle.store.proofs.records.Records.part_of.Goals as goal

abbrev part : ℕ → ℕ → Part
part start end = record { refusal = 0; start = start; end = end }

pub returns-in_default : goal.returns-in_default
returns-in_default c =
    let r = c.args.self.now in
    let n = c.args.number in
    part_refused r.store.now n 28 (not_held r.store.now n r.right (sym (ap (λ (l : List ℕ). slice_index l n) r.all) ∙ c.in_default.ensures))

start_is : (r : Records) (n at : ℕ) → at ≡ slice_index r.starts n → at ≡ slice_index (starts_of r.store.now) n
start_is r n at e = e ∙ ap (λ (l : List ℕ). slice_index l n) r.all

lying : (r : Records) (n at : ℕ) → (at ≡ slice_index r.starts n) × (at ≡ 0 → ⊥) → Lying r.store.now n at
lying r n at e = lies r.store.now n r.right r.bytes at (start_is r n at e.0) e.1

pub overflow_add-result : goal.overflow_add-result
overflow_add-result c =
    let r = c.args.self.now in
    let l = lying r c.args.number _ c.in-Some.ensures in
    let k = numbers _ r.right in
    omega (arith, l.within, k.fits, k.short)

pub overflow_add-result-2 : goal.overflow_add-result-2
overflow_add-result-2 c =
    let r = c.args.self.now in
    let l = lying r c.args.number _ c.in-Some.ensures in
    let k = numbers _ r.right in
    omega (arith, l.within, k.fits, k.short)

pub read_u16-size-requires : goal.read_u16-size-requires
read_u16-size-requires c =
    let r = c.args.self.now in
    let l = lying r c.args.number _ c.in-Some.ensures in
    let k = numbers _ r.right in
    omega (arith, l.within, k.fits)

pub overflow_add-result-3 : goal.overflow_add-result-3
overflow_add-result-3 c =
    let r = c.args.self.now in
    let l = lying r c.args.number _ c.in-Some.ensures in
    let k = numbers _ r.right in
    omega (arith, l.within, k.fits, k.short, c.read_u16-size.ensures)

pub returns : goal.returns
returns c =
    let r = c.args.self.now in
    let n = c.args.number in
    let at = c.in-Some.at in
    ap (λ (k : ℕ). part (at + 4) (at + 2 + k)) c.read_u16-size.ensures
    ∙ part_held r.store.now n r.right r.bytes at (start_is r n at c.in-Some.ensures.0) c.in-Some.ensures.1
