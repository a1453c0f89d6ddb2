-- The starts that the check leaves: the turns of its walk, and that of a notice it leaves an index. Assumes nothing.
use Rattle.std.specs.Prelude.{Ok, Err}
use Rattle.std.proofs.Common.{◌≡◌, ℕ, zero, suc, ◌+◌, ◌-◌, ◌<◌, ◌≤◌, Bool, true, false, List, [], ◌∷◌, length, take, drop, set, sym, refl, ap, ◌∙◌, add-one, arith, take_at}
use lib.Seq.{sets, sets-eq}
use Rattle.common.specs.Choice.{pick}
use Rattle.octets.specs.Octets.{before_of}
use Rattle.octets.proofs.Theorems.{and_parts}
use Rattle.refusal.specs.declared.Refusal.TheVariants.{Notice}
use Rattle.notice.specs.Layout.{Layout}
use Rattle.notice.specs.Field.{field_right}
use Rattle.notice.specs.Layout.{next_at, name_at, field_at, lies_at, right_at, stands_at, count_of, header_right, check_from, check_of, starts_from, starts_of, stood_from, stood_of, Indexed}
use Rattle.notice.specs.Key.{key_at, last_name_at, Last}
use Rattle.notice.proofs.Places.{right_lies}
use Rattle.notice.proofs.Keys.{key_here, last_name, now_last, none_last}
use Rattle.notice.proofs.Checks.{header_numbers, no_more, spare, faulty, standing}
use Rattle.notice.proofs.Walks.{from_header, starts_end, starts_more}
use Rattle.notice.proofs.Renders.{fault_well, first_stands}

-- one field of n that are left
module _ (s : List ℕ) (at : ℕ) (last : List ℕ) where
  stood_end : stood_from 0 last s at ≡ []
  unfolding stood_from
  stood_end = refl

  stop_suc : (n : ℕ) → stands_at last s at ≡ false → stood_from (suc n) last s at ≡ []
  unfolding stood_from
  stop_suc n e = rw e

  more_suc : (n : ℕ) → stands_at last s at ≡ true → stood_from (suc n) last s at ≡ at ∷ stood_from n (name_at s at) s (next_at s at)
  unfolding stood_from
  more_suc n e = rw e

  module _ (n : ℕ) (p : 0 < n) where
    stood_stop : stands_at last s at ≡ false → stood_from n last s at ≡ []
    stood_stop e = let z : n ≡ suc (n - 1) = omega arith in rw z (stop_suc (n - 1) e)

    stood_more : stands_at last s at ≡ true → stood_from n last s at ≡ at ∷ stood_from (n - 1) (name_at s at) s (next_at s at)
    stood_more e =
        let z : n ≡ suc (n - 1) = omega arith in
        ap (λ (k : ℕ). stood_from k last s at) z ∙ more_suc (n - 1) e

-- ---- the walk of `check_fields`

-- i fields stand, and the next starts at `at`: what is left to find, after what was found, is what the whole has.
pub record Goes (s was now : List ℕ) (i at last key : ℕ) : Type 0 where
  pub start : 8 ≤ at
  pub within : at ≤ length s
  pub some : i ≤ count_of s
  pub last_is : Last s last key
  pub layout : check_from (count_of s - i) (last_name_at s last) s at ≡ check_from (count_of s) [] s 8
  pub starts : sets now i (stood_from (count_of s - i) (last_name_at s last) s at) ≡ sets was 0 (stood_from (count_of s) [] s 8)

pub goes_first : (s now : List ℕ) → header_right s ≡ true → Goes s now now 0 8 0 0
goes_first s now e =
    let z : count_of s - 0 ≡ count_of s = omega arith in
    record {
      start = omega arith;
      within = (header_numbers s e).long;
      some = omega arith;
      last_is = none_last s;
      layout = ap (λ (n : ℕ). check_from n [] s 8) z;
      starts = ap (λ (n : ℕ). sets now 0 (stood_from n [] s 8)) z;
    }

-- what `check_fields` returns
abbrev Leaves : List ℕ → List ℕ → List ℕ → Layout → Type 0
Leaves s was now r = (r ≡ check_from (count_of s) [] s 8) × (now ≡ sets was 0 (stood_from (count_of s) [] s 8))

module _ (s was now : List ℕ) (i at last key : ℕ) (g : Goes s was now i at last key) where
  module _ (p : i < count_of s) where
    abbrev left : ℕ
    left = count_of s - i

    some_left : 0 < left
    some_left = omega arith

    pub leaves_wrong : stands_at (last_name_at s last) s at ≡ false → Leaves s was now (Err (Notice at))
    leaves_wrong e =
        (faulty s at (last_name_at s last) left some_left e ∙ g.layout, ap (sets now i) (sym (stood_stop s at (last_name_at s last) left some_left e)) ∙ g.starts)

    pub goes_on : stands_at (last_name_at s last) s at ≡ true → (k : ℕ) → k ≡ key_at s at → Goes s was (set now i at) (i + 1) (next_at s at) at k
    goes_on e k h =
        let r = (and_parts (right_at s at) (before_of (last_name_at s last) (name_at s at)) e).0 in
        let l = right_lies s at r in
        let f : at ≡ 0 → ⊥ = λ z. omega (arith, g.start) in
        let z : count_of s - (i + 1) ≡ left - 1 = omega arith in
        let n = last_name s at f in
        let m = stood_more s at (last_name_at s last) left some_left e in
        record {
          start = omega (arith, g.start);
          within = l.within;
          some = omega arith;
          last_is = now_last s at k f r (h ∙ key_here s at r);
          layout = rw (z, n) (standing s at (last_name_at s last) left some_left e ∙ g.layout);
          starts = rw (z, n, add-one) (ap (sets now i) (sym m) ∙ g.starts);
        }

  module _ (p : count_of s ≤ i) where
    none_left : count_of s - i ≡ 0
    none_left = omega arith

    all_starts : now ≡ sets was 0 (stood_from (count_of s) [] s 8)
    all_starts = ap (sets now i) (sym (ap (λ (n : ℕ). stood_from n (last_name_at s last) s at) none_left ∙ stood_end s at (last_name_at s last))) ∙ g.starts

    pub leaves_well : at ≡ length s → Leaves s was now (Ok tt)
    leaves_well e = (no_more s at (last_name_at s last) e ∙ (rw none_left at g.layout), all_starts)

    pub leaves_spare : (at ≡ length s → ⊥) → Leaves s was now (Err (Notice at))
    leaves_spare e = (spare s at (last_name_at s last) e ∙ (rw none_left at g.layout), all_starts)

pub stood_whole : (s : List ℕ) → header_right s ≡ true → stood_from (count_of s) [] s 8 ≡ stood_of s
stood_whole s e = rw e

-- ---- of a notice, an index

-- where the check finds no fault, every field stands
all_stood : (n : ℕ) (last s : List ℕ) (at : ℕ) → check_from n last s at ≡ Ok tt → (stood_from n last s at ≡ starts_from n s at) × (length (stood_from n last s at) ≡ n)
all_stood zero last s at e = (stood_end s at last ∙ sym (starts_end s at), ap length (stood_end s at last))
all_stood (suc n) last s at e =
    let i : suc n - 1 ≡ n = omega arith in
    let h : 0 < suc n = omega arith in
    let t = first_stands (suc n) last s at h e in
    let l = (and_parts (lies_at s at) (field_right (field_at s at)) (and_parts (right_at s at) (before_of last (name_at s at)) t.0).0).0 in
    let m : stood_from (suc n) last s at ≡ at ∷ stood_from n (name_at s at) s (next_at s at) = more_suc s at last n t.0 in
    let k : starts_from (suc n) s at ≡ at ∷ starts_from n s (next_at s at) = rw i at (starts_more s at (suc n) h l) in
    let ih = all_stood n (name_at s at) s (next_at s at) (rw i at t.1) in
    (m ∙ (ap (λ (ats : List ℕ). at ∷ ats) ih.0 ∙ sym k), ap length m ∙ ap suc ih.1)

module _ (s : List ℕ) (well : check_of s ≡ Ok tt) where
  stood_all : (header_right s ≡ true) × (stood_of s ≡ starts_of s) × (length (stood_of s) ≡ count_of s)
  stood_all = go (header_right s) refl well
    where
      go : (b : Bool) → header_right s ≡ b → pick b (λ _. check_from (count_of s) [] s 8) (λ _. Err (Notice 0)) ≡ Ok tt
          → (header_right s ≡ true) × (stood_of s ≡ starts_of s) × (length (stood_of s) ≡ count_of s)
      go true p e =
          let h = header_numbers s p in
          let a = all_stood (count_of s) [] s 8 e in
          let o = sym (stood_whole s p) in
          (p, o ∙ (a.0 ∙ sym (from_header s h.long h.short)), ap length o ∙ a.1)
      go false p e = fault_well e

  pub stood_starts : stood_of s ≡ starts_of s
  stood_starts = stood_all.1

  pub stood_indexed : (starts : List ℕ) → length starts ≡ 64 → Indexed s (sets starts 0 (stood_of s))
  stood_indexed starts l =
      let c = stood_all.2 in
      let room : 0 + length (stood_of s) ≤ length starts = omega (arith, (header_numbers s stood_all.0).few) in
      ap (take (count_of s)) (sets-eq (stood_of s) starts 0 room) ∙ (take_at (stood_of s) (drop (0 + length (stood_of s)) starts) (count_of s) c ∙ stood_starts)
