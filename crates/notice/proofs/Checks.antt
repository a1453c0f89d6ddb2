-- The tests of the header, and the turns and ends of the walk over the fields. Assumes nothing.
use Rattle.std.specs.Prelude.{Ok, Err}
use Rattle.std.proofs.Common.{◌≡◌, ℕ, suc, ◌+◌, ◌-◌, ◌<◌, ◌≤◌, true, false, eqb, leb, List, [], length, sym, ap, ◌∙◌, arith, eq-eqb, ne_eqb, eqb-true, le-leb, leb-true}
use borrow.Author.Tests.{lt-leb}
use Rattle.word.specs.Word.{word_at}
use Rattle.octets.specs.Octets.{before_of}
use Rattle.octets.proofs.Theorems.{and_parts}
use Rattle.refusal.specs.declared.Refusal.TheVariants.{Notice}
use Rattle.notice.specs.Layout.{name_at, next_at, length_right, count_of, header_right, right_at, stands_at, check_from, check_of}

module _ (s : List ℕ) where
  pub short : length s < 8 → false ≡ header_right s
  short h = rw (lt-leb 8 (length s) h)

  module _ (p : 8 ≤ length s) where
    pub long : 16384 < length s → false ≡ header_right s
    long h = rw (le-leb 8 (length s) p, lt-leb (length s) 16384 h)

    module _ (q : length s ≤ 16384) where
      pub other_length : (4 + word_at 4 s 0 ≡ length s → ⊥) → false ≡ header_right s
      other_length h = rw (le-leb 8 (length s) p, le-leb (length s) 16384 q, ne_eqb (4 + word_at 4 s 0) (length s) h)

      module _ (r : 4 + word_at 4 s 0 ≡ length s) where
        pub other-kind : (word_at 2 s 4 ≡ 1 → ⊥) → false ≡ header_right s
        other-kind h = rw (le-leb 8 (length s) p, le-leb (length s) 16384 q, eq-eqb (4 + word_at 4 s 0) (length s) r, ne_eqb (word_at 2 s 4) 1 h)

        pub by_count : word_at 2 s 4 ≡ 1 → leb (count_of s) 64 ≡ header_right s
        by_count k = rw (le-leb 8 (length s) p, le-leb (length s) 16384 q, eq-eqb (4 + word_at 4 s 0) (length s) r, eq-eqb (word_at 2 s 4) 1 k)

-- one turn of the walk, with n fields left, and its ends
module _ (s : List ℕ) (at : ℕ) (last : List ℕ) where
  pub no_more : at ≡ length s → (Ok tt) ≡ check_from 0 last s at
  unfolding check_from
  no_more e = rw (eq-eqb at (length s) e)

  pub spare : (at ≡ length s → ⊥) → Err (Notice at) ≡ check_from 0 last s at
  unfolding check_from
  spare e = rw (ne_eqb at (length s) e)

  fault_suc : (n : ℕ) → stands_at last s at ≡ false → Err (Notice at) ≡ check_from (suc n) last s at
  unfolding check_from
  fault_suc n e = rw e

  pub more_suc : (n : ℕ) → stands_at last s at ≡ true → check_from n (name_at s at) s (next_at s at) ≡ check_from (suc n) last s at
  unfolding check_from
  more_suc n e = rw e

  module _ (n : ℕ) (p : 0 < n) where
    pub faulty : stands_at last s at ≡ false → Err (Notice at) ≡ check_from n last s at
    faulty e =
        let z : n ≡ suc (n - 1) = omega arith in
        rw z (fault_suc (n - 1) e)

    pub standing : stands_at last s at ≡ true → check_from (n - 1) (name_at s at) s (next_at s at) ≡ check_from n last s at
    standing e =
        let z : n ≡ suc (n - 1) = omega arith in
        more_suc (n - 1) e ∙ ap (λ (k : ℕ). check_from k last s at) (sym z)

    pub wrong_field : right_at s at ≡ false → Err (Notice at) ≡ check_from n last s at
    wrong_field e = faulty (rw e)

    module _ (name : List ℕ) (q : name ≡ name_at s at) (r : right_at s at ≡ true) where
      pub wrong-order : before_of last name ≡ false → Err (Notice at) ≡ check_from n last s at
      wrong-order e = faulty (rw (r, ← q, e))

      pub right-field : before_of last name ≡ true → check_from (n - 1) name s (next_at s at) ≡ check_from n last s at
      right-field e = ap (λ (l : List ℕ). check_from (n - 1) l s (next_at s at)) q ∙ standing (rw (r, ← q, e))

-- the header in numbers
pub record Header (s : List ℕ) : Type 0 where
  pub long : 8 ≤ length s
  pub short : length s ≤ 16384
  pub size : 4 + word_at 4 s 0 ≡ length s
  pub kind : word_at 2 s 4 ≡ 1
  pub few : count_of s ≤ 64

pub header_numbers : (s : List ℕ) → header_right s ≡ true → Header s
header_numbers s e =
    let a = and_parts (length_right s) _ e in
    let b = and_parts (leb 8 (length s)) (leb (length s) 16384) a.0 in
    let c = and_parts (eqb (4 + word_at 4 s 0) (length s)) _ a.1 in
    let d = and_parts (eqb (word_at 2 s 4) 1) (leb (count_of s) 64) c.1 in
    record {
      long = leb-true 8 (length s) b.0;
      short = leb-true (length s) 16384 b.1;
      size = eqb-true (4 + word_at 4 s 0) (length s) c.0;
      kind = eqb-true (word_at 2 s 4) 1 d.0;
      few = leb-true (count_of s) 64 d.1;
    }

pub by_fields : (s : List ℕ) → header_right s ≡ true → check_from (count_of s) [] s 8 ≡ check_of s
by_fields s e = rw e

pub wrong_header : (s : List ℕ) → header_right s ≡ false → Err (Notice 0) ≡ check_of s
wrong_header s e = rw e
