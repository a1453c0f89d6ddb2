-- The theorems that specs/Theorems.antt states. Assumes nothing.
use Rattle.std.specs.Prelude.{Ok, Err}
use mathlib.Core.Path.{◌≡◌, refl, sym, ap, ◌∙◌}
use mathlib.Core.Bool.{Bool, true, false, cond}
use mathlib.Core.List.{List, [], ◌∷◌, ◌++◌}
use mathlib.Core.Option.{none, some}
use Prim.Native.Nat.{ℕ, zero, suc, ◌+◌, ◌≤◌, ◌<◌}
use native.Mathlib.Omega.{arith}
use native.Mathlib.Decide.{dec_le}
use lib.Dec.{leb, eqb}
use lib.ListN.{length, get_or, take, drop, length-drop, take-append-drop, get_or-append, get_or-map}
use lib.Seq.{sets-eq, drop_at}
use borrow.Author.Tests.{leb-true, eq-eqb, ne_eqb}
use Rattle.common.specs.Choice.{pick}
use Rattle.refusal.proofs.Numbers.{refuses}
use Rattle.notice.specs.Layout.{check_of as noticeCheck}
use Rattle.notice.specs.Layout.{Layout}
use Rattle.interpreter.specs.Running.{RunAnswer, running_of}
use Rattle.store.specs.Layout.{right_of, places_in}
use Rattle.store.specs.Calls.{Part, held_refusal}
use Rattle.many.specs.Many.{Delivered, extent_of, stretches_from, stretches_of, verdict_byte, verdicts_of, refusal_of, many_refusal, Delivers}
use Rattle.many.specs.Held.{Matched, place_byte, held_verdicts, refused_by, match_refusal, Matches}
use Rattle.many.specs.Theorems.{joined, EndToEnd, OneByOne, PastStays, StoreOneByOne, StorePastStays}
use Rattle.many.proofs.Stretches.{extent_bounds, from_none, from_some}
use Rattle.many.proofs.Verdicts.{no_default, one_each}
use Rattle.many.proofs.Holding.{byte_free, byte_held, bytes_64, byte_at}

-- ---- the stretches

joined_from : (n : ℕ) (s : List ℕ) → length s ≤ n → joined (stretches_from n s) ≡ s
joined_from zero [] h = ap joined (from_none [] zero refl)
joined_from zero (x ∷ xs) h = absurd (omega arith)
joined_from (suc n) [] h = ap joined (from_none [] (suc n) refl)
joined_from (suc n) (x ∷ xs) h =
    let s : List ℕ = x ∷ xs in
    let some : 0 < length s = omega arith in
    let b = extent_bounds s some in
    let l = length-drop (extent_of s) s in
    let ih = joined_from n (drop (extent_of s) s) (omega arith) in
    ap joined (from_some s n some) ∙ (ap (λ (t : List ℕ). take (extent_of s) s ++ t) ih ∙ take-append-drop (extent_of s) s)

pub end_to_end : EndToEnd
end_to_end tables = joined_from (length tables) tables (omega arith)

-- ---- what is not refused

not_refused : (l : Layout) (count room : ℕ) → refusal_of l count room ≡ 0 → (count ≤ 64) × (count ≤ room)
not_refused (Err r) count room z = refuses r z
not_refused (Ok u) count room z = go (leb count 64) (leb count room) refl refl z
  where
    go : (a b : Bool) → leb count 64 ≡ a → leb count room ≡ b → ◌≡◌ {A = ℕ} (cond a (cond b 0 9) 24) 0 → (count ≤ 64) × (count ≤ room)
    go true true p q e = (leb-true count 64 p, leb-true count room q)
    go true false p q e = absurd (omega arith)
    go false b p q e = absurd (omega arith)

module _ (tables notice verdicts after : List ℕ) (r : Delivered) (d : Delivers tables notice verdicts after r) where
  number_is : r.number ≡ many_refusal tables notice (length verdicts)
  number_is = ap (λ (x : Delivered). x.number) d.answer

  count_is : r.count ≡ cond (eqb (many_refusal tables notice (length verdicts)) 0) (length (stretches_of tables)) 0
  count_is = ap (λ (x : Delivered). x.count) d.answer

  module _ (z : r.number ≡ 0) where
    accepted : eqb (many_refusal tables notice (length verdicts)) 0 ≡ true
    accepted = eq-eqb (many_refusal tables notice (length verdicts)) 0 (sym number_is ∙ z)

    all_counted : r.count ≡ length (stretches_of tables)
    all_counted = rw accepted at count_is

    few : (length (stretches_of tables) ≤ 64) × (length (stretches_of tables) ≤ length verdicts)
    few = not_refused (noticeCheck notice) (length (stretches_of tables)) (length verdicts) (sym number_is ∙ z)

    -- the verdicts, and what is past them
    written : after ≡ verdicts_of tables notice ++ drop (length (verdicts_of tables notice)) verdicts
    written =
        let room : 0 + length (verdicts_of tables notice) ≤ length verdicts = omega (arith, few.1, one_each tables notice) in
        let z : 0 + length (verdicts_of tables notice) ≡ length (verdicts_of tables notice) = omega arith in
        (rw accepted at d.bytes) ∙ (rw z at (sets-eq (verdicts_of tables notice) verdicts 0 room))

pub one_by_one : OneByOne
one_by_one tables notice verdicts after r d z =
    let c = all_counted tables notice verdicts after r d z in
    (c, omega (arith, (few tables notice verdicts after r d z).0), one)
  where
    one : (i : ℕ) (ran : RunAnswer) → i < r.count → ran ≡ running_of (get_or (stretches_of tables) i []) notice → get_or after i 0 ≡ verdict_byte ran
    one i ran h e =
        let f : List ℕ → ℕ = λ t. verdict_byte (running_of t notice) in
        let l : i < length (verdicts_of tables notice) = omega (arith, all_counted tables notice verdicts after r d z, one_each tables notice) in
        ap (λ (t : List ℕ). get_or t i 0) (written tables notice verdicts after r d z)
        ∙ (get_or-append (verdicts_of tables notice) (drop (length (verdicts_of tables notice)) verdicts) 0 i l
        ∙ (no_default (verdicts_of tables notice) i 0 (f []) l
        ∙ (get_or-map f (stretches_of tables) i [] ∙ ap verdict_byte (sym e))))

pub past_stays : PastStays
past_stays tables notice verdicts after r d = go (dec_le 1 r.number)
  where
    go : Dec (1 ≤ r.number) → drop r.count after ≡ drop r.count verdicts
    go (yes n) =
        let m : eqb (many_refusal tables notice (length verdicts)) 0 ≡ false = ne_eqb (many_refusal tables notice (length verdicts)) 0 (λ e. omega (arith, number_is tables notice verdicts after r d)) in
        ap (drop r.count) (rw m at d.bytes)
    go (no n) =
        let z : r.number ≡ 0 = omega arith in
        let c : length (verdicts_of tables notice) ≡ r.count = one_each tables notice ∙ sym (all_counted tables notice verdicts after r d z) in
        ap (drop r.count) (written tables notice verdicts after r d z)
        ∙ (drop_at (verdicts_of tables notice) (drop (length (verdicts_of tables notice)) verdicts) r.count c ∙ ap (λ (n : ℕ). drop n verdicts) c)

-- ---- the tables that a store holds

module _ (store notice verdicts after : List ℕ) (r : Matched) (m : Matches store notice verdicts after r) where
  match_number : r.number ≡ match_refusal store notice (length verdicts)
  match_number = ap (λ (a : Matched). a.number) m.answer

  module _ (z : r.number ≡ 0) where
    unrefused : (right_of store ≡ true) × (64 ≤ length verdicts)
    unrefused = go (right_of store) refl (noticeCheck notice) (sym match_number ∙ z)
      where
        by_room : (b : Bool) → leb 64 (length verdicts) ≡ b → ◌≡◌ {A = ℕ} (cond b 0 9) 0 → 64 ≤ length verdicts
        by_room true p e = leb-true 64 (length verdicts) p
        by_room false p e = absurd (omega arith)

        go : (b : Bool) → right_of store ≡ b → (l : Layout) → refused_by (pick b (λ _. some (places_in store)) (λ _. none)) l (length verdicts) ≡ 0 → (right_of store ≡ true) × (64 ≤ length verdicts)
        go false p l e = absurd (omega arith)
        go true p (Err r) e = refuses r e
        go true p (Ok u) e = (p, by_room (leb 64 (length verdicts)) refl e)

    match_accepted : eqb (match_refusal store notice (length verdicts)) 0 ≡ true
    match_accepted = eq-eqb (match_refusal store notice (length verdicts)) 0 (sym match_number ∙ z)

    -- the 64 bytes, and what is past them
    match_bytes : after ≡ held_verdicts store notice ++ drop (length (held_verdicts store notice)) verdicts
    match_bytes =
        let l = bytes_64 store notice in
        let room : 0 + length (held_verdicts store notice) ≤ length verdicts = omega (arith, unrefused.1) in
        let y : 0 + length (held_verdicts store notice) ≡ length (held_verdicts store notice) = omega arith in
        (rw match_accepted at m.bytes) ∙ (rw y at (sets-eq (held_verdicts store notice) verdicts 0 room))

    match_byte : (n : ℕ) → n < 64 → get_or after n 0 ≡ place_byte notice (get_or (places_in store) n none)
    match_byte n h =
        ap (λ (t : List ℕ). get_or t n 0) match_bytes
        ∙ (get_or-append (held_verdicts store notice) (drop (length (held_verdicts store notice)) verdicts) 0 n (omega (arith, bytes_64 store notice)) ∙ byte_at store notice n h)

pub store_one_by_one : StoreOneByOne
store_one_by_one store notice verdicts after r m z n p h e =
    let ok = (unrefused store notice verdicts after r m z).0 in
    let b = match_byte store notice verdicts after r m z n h in
    let k : p.refusal ≡ held_refusal store n = ap (λ (x : Part). x.refusal) e in (
      λ f. b ∙ sym (byte_free store notice n ok (λ y. f (k ∙ y))),
      λ f table ran g q. b ∙ (sym (byte_held store notice n ok (sym k ∙ f)) ∙ ap verdict_byte (sym (q ∙ ap (λ (t : List ℕ). running_of t notice) g))),
    )

pub store_past_stays : StorePastStays
store_past_stays store notice verdicts after r m = go (dec_le 1 r.number)
  where
    go : Dec (1 ≤ r.number) → drop 64 after ≡ drop 64 verdicts
    go (yes n) =
        let f : eqb (match_refusal store notice (length verdicts)) 0 ≡ false = ne_eqb (match_refusal store notice (length verdicts)) 0 (λ e. omega (arith, match_number store notice verdicts after r m)) in
        ap (drop 64) (rw f at m.bytes)
    go (no n) =
        let z : r.number ≡ 0 = omega arith in
        ap (drop 64) (match_bytes store notice verdicts after r m z)
        ∙ (drop_at (held_verdicts store notice) (drop (length (held_verdicts store notice)) verdicts) 64 (bytes_64 store notice) ∙ ap (λ (k : ℕ). drop k verdicts) (bytes_64 store notice))
