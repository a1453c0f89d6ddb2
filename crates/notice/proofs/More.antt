-- The theorems that specs/More.antt states. Assumes nothing.
use Rattle.std.specs.Prelude.{Ok, Err}
use Rattle.std.proofs.Common.{◌≡◌, ℕ, zero, suc, ◌-◌, Bool, true, false, cond, ◌&&◌, ◌⊎◌, List, [], ◌∷◌, length, take, sym, refl, ap, ◌∙◌, ap₂, inl, inr, arith, le-leb}
use mathlib.Core.List.Memᴰ
use mathlib.Core.List.{Memᴰ}
use Rattle.common.specs.Choice.{pick}
use Rattle.octets.specs.Octets.{before_of}
use Rattle.octets.proofs.Theorems.{and_parts}
use Rattle.refusal.specs.declared.Refusal.TheVariants.{Notice}
use Rattle.notice.specs.Write.{WriteAnswer}
use Rattle.notice.specs.Field.{Field, before_first, rising, field_right}
use Rattle.notice.specs.Layout.{name_at, next_at, field_at, lies_at, right_at, count_of, header_right, check_from, check_of, starts_from, fields_of}
use Rattle.notice.specs.Lookup.{field_named}
use Rattle.notice.specs.Write.{field, insert_field, written_of, written_bytes}
use Rattle.notice.specs.More.{NamesRise, FoundStill, WriteMore}
use Rattle.notice.proofs.Checks.{header_numbers}
use Rattle.notice.proofs.Walks.{starts_end, starts_more}
use Rattle.notice.proofs.Renders.{fault_well, fields_from, stands_suc}
use Rattle.notice.proofs.Theorems.{named_field, each_found, number_zero, write_adds}

-- n fields from `at` on whose walk finds no fault
rise_from : (n : ℕ) (last s : List ℕ) (at : ℕ) → check_from n last s at ≡ Ok tt → (before_first last (fields_from n s at) ≡ true) × (rising (fields_from n s at) ≡ true)
rise_from zero last s at e = rw (starts_end s at) (refl, refl)
rise_from (suc n) last s at e =
    let c = stands_suc n last s at e in
    let p = and_parts (right_at s at) (before_of last (name_at s at)) c.0 in
    let q = and_parts (lies_at s at) (field_right (field_at s at)) p.0 in
    let i : suc n - 1 ≡ n = omega arith in
    let m : starts_from (suc n) s at ≡ at ∷ starts_from n s (next_at s at) = rw i at (starts_more s at (suc n) (omega arith) q.0) in
    let r = rise_from n (name_at s at) s (next_at s at) c.1 in
    rw m (p.1, ap₂ (λ (a b : Bool). a && b) r.0 r.1)

pub names_rise : NamesRise
names_rise s well = go (header_right s) refl well
  where
    go : (b : Bool) → header_right s ≡ b → pick b (λ _. check_from (count_of s) [] s 8) (λ _. Err (Notice 0)) ≡ Ok tt → rising (fields_of s) ≡ true
    go true p e =
        let h = header_numbers s p in
        rw (le-leb 8 (length s) h.long, le-leb (length s) 16384 h.short) (rise_from (count_of s) [] s 8 e).1
    go false p e = fault_well e

pub found_still : FoundStill
found_still first second m name f e =
    let n = named_field name (fields_of first) f e in
    ap (λ (s : List ℕ). field_named s (fields_of second)) (sym n.1) ∙ each_found (fields_of second) f (names_rise second m.second_right) (m.holds f n.0)

-- ---- a field that is written

keeps : (f g : Field) (fs : List Field) → Memᴰ g fs → Memᴰ g (insert_field f fs)
keeps f g [] m = absurd (Memᴰ.not-nil m)
keeps f g (h ∷ hs) m = go (before_of f.name h.name) (Memᴰ.cases_cons m) (keeps f g hs)
  where
    go : (b : Bool) → (g ≡ h) ⊎ Memᴰ g hs → (Memᴰ g hs → Memᴰ g (insert_field f hs)) → Memᴰ g (cond b (f ∷ (h ∷ hs)) (h ∷ insert_field f hs))
    go true c ih = Memᴰ.tail m
    go false (inl e) ih = Memᴰ.head e
    go false (inr n) ih = Memᴰ.tail (ih n)

pub write_more : WriteMore
write_more b len name kind value bytes w e =
    let f = field kind name value in
    let z : (written_of b len f).number ≡ 0 = sym (ap (λ (x : WriteAnswer). x.number) w.promise.0) ∙ e in
    let same : take w.answer.len w.after ≡ take (written_of b len f).len (written_bytes b len f) =
    ap₂ (λ (x : WriteAnswer) (d : List ℕ). take x.len d) w.promise.0 w.promise.1 in
    let a = write_adds b len f bytes z in
    record {
      first_right = (number_zero b len f z).well;
      second_right = ap check_of same ∙ a.0;
      holds = λ g m. rw (ap fields_of same ∙ a.1) (keeps f g (fields_of (take len b)) m);
    }
