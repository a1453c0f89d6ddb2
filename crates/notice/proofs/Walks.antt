-- Walks over the starts of a notice's fields, and the place for a name on such a walk. Assumes nothing.
use Rattle.std.proofs.Common.{◌≡◌, ℕ, suc, ◌-◌, ◌<◌, ◌≤◌, true, false, List, [], ◌∷◌, length, refl, ap, ◌∙◌, arith, le-leb}
use Rattle.octets.specs.Octets.{before_of}
use Rattle.notice.specs.Layout.{name_at, next_at, lies_at, count_of, starts_from, starts_of}
use Rattle.notice.specs.Write.{place_in}

module _ (s : List ℕ) where
  pub from_header : 8 ≤ length s → length s ≤ 16384 → starts_of s ≡ starts_from (count_of s) s 8
  from_header p q = rw (le-leb 8 (length s) p, le-leb (length s) 16384 q)

  pub starts_end : (at : ℕ) → starts_from 0 s at ≡ []
  unfolding starts_from
  starts_end at = refl

  -- one field of n that are left
  module _ (at : ℕ) where
    stop_suc : (n : ℕ) → lies_at s at ≡ false → starts_from (suc n) s at ≡ []
    unfolding starts_from
    stop_suc n e = rw e

    more_suc : (n : ℕ) → lies_at s at ≡ true → starts_from (suc n) s at ≡ at ∷ starts_from n s (next_at s at)
    unfolding starts_from
    more_suc n e = rw e

    pub starts_stop : (n : ℕ) → 0 < n → lies_at s at ≡ false → starts_from n s at ≡ []
    starts_stop n p e = let z : n ≡ suc (n - 1) = omega arith in rw z (stop_suc (n - 1) e)

    pub starts_more : (n : ℕ) → 0 < n → lies_at s at ≡ true → starts_from n s at ≡ at ∷ starts_from (n - 1) s (next_at s at)
    starts_more n p e =
        let z : n ≡ suc (n - 1) = omega arith in
        ap (λ (k : ℕ). starts_from k s at) z ∙ more_suc (n - 1) e

  -- a turn of `place_for`, with n fields left from `at` on
  module _ (name : List ℕ) (at n : ℕ) (p : 0 < n) where
    pub here : lies_at s at ≡ true → before_of name (name_at s at) ≡ true → at ≡ place_in s name (starts_from n s at)
    here e h = rw (starts_more at n p e, h)

    pub further : lies_at s at ≡ true → before_of name (name_at s at) ≡ false → place_in s name (starts_from (n - 1) s (next_at s at)) ≡ place_in s name (starts_from n s at)
    further e h = rw (starts_more at n p e, h)

    pub no_further : lies_at s at ≡ false → length s ≡ place_in s name (starts_from n s at)
    no_further e = rw (starts_stop at n p e)
