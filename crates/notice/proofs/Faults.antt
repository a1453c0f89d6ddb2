-- The place of the first fault: what lies before it is right. Assumes nothing.
use Rattle.std.specs.Prelude.{Ok, Err}
use Rattle.std.proofs.Common.{◌≡◌, ℕ, zero, suc, ◌+◌, ◌<◌, ◌≤◌, Bool, true, false, cond, ◌&&◌, eqb, ◌⊎◌, List, [], ◌∷◌, ◌++◌, length, drop, sym, refl, ap, subst, ◌∙◌, ap₂, inl, inr, append_assoc, arith, length-append}
use borrow.Author.Tests.{eqb-false}
use Rattle.common.specs.Choice.{pick}
use Rattle.word.specs.Word.{Bytes}
use Rattle.octets.specs.Octets.{before_of}
use Rattle.octets.proofs.Theorems.{and_parts}
use Rattle.refusal.specs.declared.Refusal.{Refusal}
use Rattle.refusal.specs.declared.Refusal.TheVariants.{Notice}
use Rattle.refusal.specs.Refusal.{number_of as refusal_number}
use Rattle.notice.specs.Field.{Field, field_right, all_right, before_first, rising}
use Rattle.notice.specs.Render.{field_bytes, fields_bytes}
use Rattle.notice.specs.Layout.{Layout, next_at, name_at, field_at, lies_at, right_at, stands_at, count_of, header_right, check_from, check_of, place_of}
use Rattle.notice.specs.Theorems.{last_name, OnlyFault}
use Rattle.notice.proofs.Places.{right_lies, length_name, length_value}
use Rattle.notice.proofs.Fields.{field_written, length_field}
use Rattle.notice.proofs.Renders.{fault_well}

-- a refusal that the walk gives is 11
abbrev is_fault : Layout → Type 0
is_fault (Ok u) = Unit {0}
is_fault (Err r) = (place : ℕ) × (r ≡ Notice place)

pub only_faults : (n : ℕ) (last s : List ℕ) (at : ℕ) → is_fault (check_from n last s at)
unfolding check_from
only_faults zero last s at = go (eqb at (length s))
  where
    go : (b : Bool) → is_fault (cond {A = Layout} b (Ok tt) (Err (Notice at)))
    go true = tt
    go false = (at, refl)
only_faults (suc n) last s at = go (stands_at last s at) (only_faults n (name_at s at) s (next_at s at))
  where
    go : (b : Bool) → is_fault (check_from n (name_at s at) s (next_at s at)) → is_fault (pick b (λ _. check_from n (name_at s at) s (next_at s at)) (λ _. Err (Notice at)))
    go true h = h
    go false h = (at, refl)

pub one_fault : OnlyFault
one_fault s r e = subst is_fault e (go (header_right s) (only_faults (count_of s) [] s 8))
  where
    go : (b : Bool) → is_fault (check_from (count_of s) [] s 8) → is_fault (pick b (λ _. check_from (count_of s) [] s 8) (λ _. Err (Notice 0)))
    go true h = h
    go false h = (0, refl)

-- its number is 11
pub fault_number : (s : List ℕ) (r : Refusal) → check_of s ≡ Err r → refusal_number r ≡ 11
fault_number s r e = ap refusal_number (one_fault s r e).1

-- what lies from `at` to the place of a fault, with n fields owed
pub record Faulted (n : ℕ) (last s : List ℕ) (at place : ℕ) : Type 0 where
  pub fs : List Field
  pub right : all_right fs ≡ true
  pub after : before_first last fs ≡ true
  pub rises : rising fs ≡ true
  pub bytes : drop at s ≡ fields_bytes fs ++ drop place s
  pub place_is : place ≡ at + length (fields_bytes fs)
  pub why : ((length fs < n) × (stands_at (last_name last fs) s place ≡ false)) ⊎ ((length fs ≡ n) × (place < length s))

fault_here : (n : ℕ) (last s : List ℕ) (at place : ℕ) → at ≡ place → ((0 < n) × (stands_at last s at ≡ false)) ⊎ ((0 ≡ n) × (at < length s)) → Faulted n last s at place
fault_here n last s at place e w = rw (← e) (record { fs = []; right = refl; after = refl; rises = refl; bytes = refl; place_is = omega arith; why = w })

fault_later : (n : ℕ) (last s : List ℕ) (at place : ℕ) → Bytes s → stands_at last s at ≡ true → Faulted n (name_at s at) s (next_at s at) place → Faulted (suc n) last s at place
fault_later n last s at place bytes e f =
    let p = and_parts (right_at s at) (before_of last (name_at s at)) e in
    let q = and_parts (lies_at s at) (field_right (field_at s at)) p.0 in
    let l = right_lies s at p.0 in
    let own = field_bytes (field_at s at) in
    let n5 : at + length own ≡ next_at s at = omega (arith, length_field (field_at s at), length_name s at l, length_value s at l, l.room) in
    record {
      fs = field_at s at ∷ f.fs;
      right = ap₂ (λ (a b : Bool). a && b) q.1 f.right;
      after = p.1;
      rises = ap₂ (λ (a b : Bool). a && b) f.after f.rises;
      bytes = field_written s bytes at l ∙ (ap (λ (t : List ℕ). own ++ t) f.bytes ∙ sym (append_assoc own (fields_bytes f.fs) (drop place s)));
      place_is = omega (arith, f.place_is, length-append own (fields_bytes f.fs));
      why = go f.why;
    }
  where
    go : ((length f.fs < n) × (stands_at (last_name (name_at s at) f.fs) s place ≡ false)) ⊎ ((length f.fs ≡ n) × (place < length s))
        → ((suc (length f.fs) < suc n) × (stands_at (last_name (name_at s at) f.fs) s place ≡ false)) ⊎ ((suc (length f.fs) ≡ suc n) × (place < length s))
    go (inl w) = inl (omega (arith, w.0), w.1)
    go (inr w) = inr (ap suc w.0, w.1)

pub faulted : (n : ℕ) (last s : List ℕ) (at place : ℕ) → Bytes s → at ≤ length s → check_from n last s at ≡ Err (Notice place) → Faulted n last s at place
unfolding check_from
faulted zero last s at place bytes h e = go (eqb at (length s)) refl e
  where
    go : (b : Bool) → eqb at (length s) ≡ b → cond {A = Layout} b (Ok tt) (Err (Notice at)) ≡ Err (Notice place) → Faulted 0 last s at place
    go true p x = fault_well (sym x)
    go false p x =
        let n : at ≡ length s → ⊥ = eqb-false at (length s) p in
        fault_here 0 last s at place (ap place_of x) (inr (refl, omega (arith, n)))
faulted (suc n) last s at place bytes h e = go (stands_at last s at) refl e (faulted n (name_at s at) s (next_at s at) place bytes)
  where
    go : (b : Bool) → stands_at last s at ≡ b → pick b (λ _. check_from n (name_at s at) s (next_at s at)) (λ _. Err (Notice at)) ≡ Err (Notice place)
        → (next_at s at ≤ length s → check_from n (name_at s at) s (next_at s at) ≡ Err (Notice place) → Faulted n (name_at s at) s (next_at s at) place) → Faulted (suc n) last s at place
    go true p x ih =
        let l = right_lies s at (and_parts (right_at s at) (before_of last (name_at s at)) p).0 in
        fault_later n last s at place bytes p (ih l.within x)
    go false p x ih = fault_here (suc n) last s at place (ap place_of x) (inl (omega arith, p))
