-- A field that was judged, put among those kept if it stays. Assumes nothing.
use Rattle.std.specs.Prelude.{Option, Some, None, is_some, unwrap_or}
use mathlib.Core.Path.{◌≡◌, refl, sym, ap, ◌∙◌}
use mathlib.Core.Bool.{Bool, true, false, cond}
use mathlib.Core.List.{List, ◌∷◌, ◌++◌}
use Prim.Native.Nat.{ℕ, ◌+◌, ◌≤◌, ◌<◌}
use native.Mathlib.Omega.{arith}
use lib.ListN.{length, take, drop}
use Rattle.notice.specs.Field.{Field}
use Rattle.notice.specs.Layout.{name_at, field_at}
use Rattle.notice.specs.Write.{insert_field}
use Rattle.mend.specs.declared.fate.Fate.{Fate}
use Rattle.mend.specs.declared.fate.Fate.TheVariants.{Kept, Moved, Repeated, Bad, Cut}
use Rattle.mend.specs.Fate.{code_of, place_of, FateIs}
use Rattle.mend.specs.Mend.{stays}
use Rattle.mend.specs.Order.{fields_in, InOrder, Judges, Admits}
use Rattle.mend.proofs.Orders.{place_within, inserted, still_order}
use Rattle.mend.proofs.Walks.{stays_is}

-- a field that stays, with its place
some_is : {k place : ℕ} → Some place ≡ Some k → k ≡ place
some_is {k} {place} e = ap (λ (o : Option ℕ). unwrap_or o place) (sym e)

pub moved_to : {code place : ℕ} → 1 ≡ code → FateIs (Moved place) code place
moved_to e = record { code_is = e; place_is = λ k p. some_is p }

pub kept_at : {code place k : ℕ} → 0 ≡ code → k ≡ place → FateIs (Kept k) code place
kept_at e p = record { code_is = e; place_is = λ j q. some_is q ∙ p }

-- a field stays exactly if it has a place
pub stays_place : (f : Fate) → stays (code_of f) ≡ is_some (place_of f)
stays_place (Kept place) = refl
stays_place (Moved place) = refl
stays_place Repeated = refl
stays_place Bad = refl
stays_place Cut = refl

module _ (s order : List ℕ) (n at : ℕ) (o : InOrder s order n) (f : Fate) (is : Judges s order n at f) where
  abbrev fs : List Field
  fs = fields_in s order n

  along : (after : List ℕ) (b : Bool) → stays (code_of f) ≡ b → InOrder s after (n + cond b 1 0) → fields_in s after (n + cond b 1 0) ≡ cond b (insert_field (field_at s at) fs) fs → Admits s order n at after (code_of f)
  along after b e p q = record { code_is = is.code_is; in_order = rw e p; fields_are = rw e q }

  pub not_admitted : place_of f ≡ None → Admits s order n at order (code_of f)
  not_admitted h =
      let z : n + 0 ≡ n = omega arith in
      along order false (stays_place f ∙ ap is_some h) (rw z o) (ap (fields_in s order) z)

  module _ (place : ℕ) (h : place_of f ≡ Some place) (few : n < 65) where
    kept : stays (code_of f) ≡ true
    kept = stays_place f ∙ ap is_some h

    pub put_requires : at < 65536 → (length order ≡ 65) × (place ≤ n) × (n < 65) × (at < 65536)
    put_requires m = (o.long, omega (arith, is.place_is place h, place_within s order n o (name_at s at)), few, m)

    pub admitted : (after : List ℕ) → (length after ≡ 65) × (take (n + 1) after ≡ take place (take n order) ++ (at ∷ drop place (take n order))) → Admits s order n at after (code_of f)
    admitted after q =
        let w = stays_is s fs at (ap stays (sym is.code_is) ∙ kept) in
        let t = q.1 ∙ ap (λ (p : ℕ). take p (take n order) ++ (at ∷ drop p (take n order))) (is.place_is place h) in
        along after true kept (still_order s order n at o few w.right w.new after q.0 t) (inserted s order n at o few w.right w.new after q.0 t)
