-- The field Staff, as the lookup finds it. Assumes nothing.
use Rattle.std.specs.Prelude.{Option as Optional, Some, None}
use mathlib.Core.Path.{◌≡◌, refl, sym, ap, subst, ◌∙◌}
use mathlib.Core.Bool.{Bool, true, false, ◌&&◌}
use mathlib.Core.List.{List, [], ◌∷◌}
use mathlib.Core.Option.{Option, some, none}
use Prim.Native.Nat.{ℕ, ◌+◌, ◌-◌, ◌≤◌, ◌<◌}
use native.Mathlib.Omega.{arith}
use lib.Dec.{eqb, leb}
use lib.ListN.{length, take, drop, length-drop}
use lib.Seq.{length-take-le}
use borrow.Author.Tests.{leb-true}
use Rattle.common.specs.Choice.{pick}
use Rattle.octets.proofs.Theorems.{and_parts}
use Rattle.notice.specs.Field.{Field}
use Rattle.notice.specs.declared.FoundField.{FoundField}
use Rattle.notice.specs.Lookup.{lookup_of, FoundIs}
use Rattle.notice.proofs.Theorems.{lookup}
use Rattle.quorum.specs.Showing.{staff_name, staff_field, staff_right, staff_in, staff_of}
use Rattle.quorum.specs.Theorems.{string_in, staffs_of}

module _ (s : List ℕ) where
  -- what the lookup finds is what the list of fields has under the name
  here : (f : Optional FoundField) → lookup_of s staff_name ≡ f → FoundIs s f (staff_field s)
  here f e = subst (λ (x : Optional FoundField). FoundIs s x (staff_field s)) e (lookup s staff_name)

  -- absent
  pub staff_none : lookup_of s staff_name ≡ None → [] ≡ staff_of s
  staff_none e = go (staff_field s) (here None e)
    where
      go : (o : Option Field) → FoundIs s None o → [] ≡ staff_in o
      go none f = refl
      go (some f) x = absurd x

  module _ (kind start len : ℕ) (e : lookup_of s staff_name ≡ Some (record { kind = kind; start = start; len = len })) where
    -- found: the value lies in the notice
    pub staff_lies : start + len ≤ length s
    staff_lies = go (staff_field s) (here (Some (record { kind = kind; start = start; len = len })) e)
      where
        go : (o : Option Field) → FoundIs s (Some (record { kind = kind; start = start; len = len })) o → start + len ≤ length s
        go none x = absurd x
        go (some f) x = x.1

    -- its kind and length decide
    is : pick (eqb kind 4 && (leb 1 len && leb len 64)) (λ _. take len (drop start s)) (λ _. []) ≡ staff_of s
    is = go (staff_field s) (here (Some (record { kind = kind; start = start; len = len })) e)
      where
        go : (o : Option Field) → FoundIs s (Some (record { kind = kind; start = start; len = len })) o → pick (eqb kind 4 && (leb 1 len && leb len 64)) (λ _. take len (drop start s)) (λ _. []) ≡ staff_in o
        go none x = absurd x
        go (some f) x =
            let l : start + len ≤ length s = x.1 in
            let m : length (take len (drop start s)) ≡ len = length-take-le len (drop start s) (simp length-drop (omega arith)) in
            let n : length f.value ≡ len = sym (ap length x.2) ∙ m in
            rw (x.0, n, x.2)

    pub staff_found : (eqb kind 4 && (leb 1 len && leb len 64)) ≡ true → take (start + len - start) (drop start s) ≡ staff_of s
    staff_found t =
        let z : start + len - start ≡ len = omega arith in
        rw z (sym (ap (λ (b : Bool). pick b (λ _. take len (drop start s)) (λ _. [])) t) ∙ is)

    pub staff_long : (eqb kind 4 && (leb 1 len && leb len 64)) ≡ true → 0 < length (take (start + len - start) (drop start s))
    staff_long t =
        let z : start + len - start ≡ len = omega arith in
        let h = staff_lies in
        let l : length (take len (drop start s)) ≡ len = length-take-le len (drop start s) (simp length-drop (omega arith)) in
        let a = leb-true 1 len (and_parts (leb 1 len) (leb len 64) (and_parts (eqb kind 4) _ t).1).0 in
        rw z (omega (arith, l, a))

    pub staff_wrong : (eqb kind 4 && (leb 1 len && leb len 64)) ≡ false → [] ≡ staff_of s
    staff_wrong t = sym (ap (λ (b : Bool). pick b (λ _. take len (drop start s)) (λ _. [])) t) ∙ is

  -- at most 64 bytes
  pub staff_short : length (staff_of s) ≤ 64
  staff_short = go (staff_field s)
    where
      by : (f : Field) (b : Bool) → staff_right f ≡ b → length (pick b (λ _. f.value) (λ _. [])) ≤ 64
      by f true e = leb-true _ _ (and_parts (leb 1 (length f.value)) (leb (length f.value) 64) (and_parts (eqb f.kind 4) _ e).1).1
      by f false e = omega arith

      go : (o : Option Field) → length (staff_in o) ≤ 64
      go none = omega arith
      go (some f) = by f (staff_right f) refl

  -- a Staff that is right is the one string that the notice has under the name
  pub staff_string : 1 ≤ length (staff_of s) → staffs_of s ≡ staff_of s ∷ []
  staff_string = go (staff_field s)
    where
      by : (f : Field) (b : Bool) → staff_right f ≡ b → 1 ≤ length (pick b (λ _. f.value) (λ _. [])) → string_in (some f) ≡ pick b (λ _. f.value) (λ _. []) ∷ []
      by f true e h = rw (and_parts (eqb f.kind 4) _ e).0
      by f false e h = absurd (omega arith)

      go : (o : Option Field) → 1 ≤ length (staff_in o) → string_in o ≡ staff_in o ∷ []
      go none h = absurd (omega arith)
      go (some f) h = by f (staff_right f) refl h
