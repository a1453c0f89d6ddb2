-- The byte of one place, the turns over the 64 places, and what is answered, refusal by refusal. Assumes nothing.
use Rattle.std.specs.Prelude.{Ok, Err}
use mathlib.Core.Path.{◌≡◌, refl, sym, ap, ap₂, ◌∙◌}
use mathlib.Core.Bool.{true, false}
use mathlib.Core.List.{List, [], ◌∷◌, ◌++◌}
use mathlib.Core.Option.{none}
use Prim.Native.Nat.{ℕ, ◌+◌, ◌≤◌, ◌<◌}
use native.Mathlib.Omega.{arith}
use native.Mathlib.Numerals.{add-one}
use lib.ListN.{length, get_or, set, take, length-set, length-map, get_or-map}
use Rattle.std.proofs.lemmas.List.{take_all}
use lib.Seq.{sets, take-suc, take-suc-set}
use borrow.Author.Tests.{le-leb, lt-leb}
use Rattle.refusal.specs.declared.Refusal.{Refusal}
use Rattle.refusal.specs.Refusal.{number_of as refusal_number, place_of as refusal_place}
use Rattle.refusal.proofs.Numbers.{not_zero}
use Rattle.notice.specs.Layout.{check_of as noticeCheck}
use Rattle.interpreter.specs.Running.{running_of}
use Rattle.store.specs.Layout.{right_of, places_in}
use Rattle.store.specs.Calls.{held_refusal, fetched_of}
use Rattle.store.proofs.Answers.{places_64, place_free, place_held}
use Rattle.many.specs.Many.{verdict_byte}
use Rattle.many.specs.Held.{Matched, place_byte, held_verdicts, answered, Matches}
use Rattle.many.proofs.Verdicts.{no_default}

-- ---- the byte of one place

module _ (store notice : List ℕ) (n : ℕ) (ok : right_of store ≡ true) where
  pub byte_free : (held_refusal store n ≡ 0 → ⊥) → 4 ≡ place_byte notice (get_or (places_in store) n none)
  byte_free z = sym (ap (place_byte notice) (place_free store n ok z).1)

  pub byte_held : held_refusal store n ≡ 0 → verdict_byte (running_of (fetched_of store n) notice) ≡ place_byte notice (get_or (places_in store) n none)
  byte_held z = sym (ap (place_byte notice) (place_held store n ok z))

-- ---- the turns of `deliver_held`

module _ (store notice : List ℕ) where
  pub bytes_64 : length (held_verdicts store notice) ≡ 64
  bytes_64 = length-map (places_in store) (place_byte notice) ∙ places_64 store

  pub byte_at : (n : ℕ) → n < 64 → get_or (held_verdicts store notice) n 0 ≡ place_byte notice (get_or (places_in store) n none)
  byte_at n h = no_default (held_verdicts store notice) n 0 4 (omega (arith, bytes_64)) ∙ get_or-map (place_byte notice) (places_in store) n none

-- the first i places have their bytes
pub record Filling (store notice now : List ℕ) (i : ℕ) : Type 0 where
  pub room : length now ≡ 64
  pub bytes : take i now ≡ take i (held_verdicts store notice)

pub filling_first : (store notice now : List ℕ) → length now ≡ 64 → Filling store notice now 0
filling_first store notice now e = record { room = e; bytes = refl }

module _ (store notice now : List ℕ) (i : ℕ) (g : Filling store notice now i) where
  pub filling_on : (v : ℕ) → i < length now → v ≡ place_byte notice (get_or (places_in store) i none) → Filling store notice (set now i v) (i + 1)
  filling_on v h e =
      let x = held_verdicts store notice in
      let few : i < 64 = omega (arith, g.room) in
      let w : v ≡ get_or x i 0 = e ∙ sym (byte_at store notice i few) in
      record {
        room = simp length-set g.room;
        bytes = rw add-one (take-suc-set now i v h ∙ ap₂ (λ (t : List ℕ) (b : ℕ). t ++ (b ∷ [])) g.bytes w ∙ sym (take-suc x i 0 (omega (arith, bytes_64 store notice))));
      }

  pub filled : length now ≤ i → now ≡ held_verdicts store notice
  filled h = sym (take_all i now h) ∙ g.bytes ∙ take_all i (held_verdicts store notice) (omega (arith, g.room, bytes_64 store notice))

-- ---- what is answered: 26, 11, 9 in this order

module _ (store notice verdicts : List ℕ) (r : Matched) where
  pub match_broken : right_of store ≡ false → r ≡ answered 26 0 → Matches store notice verdicts verdicts r
  match_broken b e = record { answer = e ∙ rw b; bytes = rw b }

  module _ (ok : right_of store ≡ true) where
    pub match_faulty : (f : Refusal) → noticeCheck notice ≡ Err f → r ≡ answered (refusal_number f) (refusal_place f) → Matches store notice verdicts verdicts r
    match_faulty f w e = record { answer = e ∙ rw (ok, w); bytes = rw (ok, w, not_zero f) }

    module _ (well : noticeCheck notice ≡ Ok tt) where
      pub match-short : length verdicts < 64 → r ≡ answered 9 0 → Matches store notice verdicts verdicts r
      match-short h e = let l = lt-leb 64 (length verdicts) h in record { answer = e ∙ rw (ok, well, l); bytes = rw (ok, well, l) }

      pub match-written : 64 ≤ length verdicts → (after : List ℕ) → after ≡ sets verdicts 0 (held_verdicts store notice) → r ≡ answered 0 0 → Matches store notice verdicts after r
      match-written h after b e = let l = le-leb 64 (length verdicts) h in record { answer = e ∙ rw (ok, well, l); bytes = b ∙ rw (ok, well, l) }
