-- The value of a field of a well-formed notice: it has its kind's size, lies in the notice and is not bottom, and a number's word stands there. Assumes nothing.
use Rattle.std.specs.Prelude.{Ok, Some}
use mathlib.Core.Path.{◌≡◌, refl, sym, ap, ap₂, ◌∙◌}
use mathlib.Core.Logic.{⊎_elim}
use mathlib.Core.Bool.{Bool, true, false, cond, ◌||◌}
use mathlib.Core.List.Memᴰ
use mathlib.Core.List.{List, [], ◌∷◌, append-nil, Memᴰ}
use mathlib.Core.Option.{Option, some, none}
use Prim.Native.Nat.{ℕ, ◌+◌, ◌≤◌}
use native.Mathlib.Omega.{arith}
use lib.Dec.{eqb, leb}
use lib.Ieee.{binary64, of_bits}
use lib.ListN.{length, take, drop, length-drop}
use lib.Seq.{length-take-le}
use mir.Syntax.{w32, w64}
use mir.Val.{to_z}
use Rattle.common.specs.Choice.{pick}
use Rattle.common.proofs.Choice.{false_true}
use Rattle.word.specs.Word.{word_at, word_bytes, Bytes}
use Rattle.word.proofs.Theorems.{bytes_read, read_bytes_lem, bounded}
use Rattle.octets.proofs.Theorems.{and_parts}
use Rattle.notice.specs.Field.{Field, name_right, size_right, field_right, all_right}
use Rattle.notice.specs.Layout.{check_of, fields_of}
use Rattle.notice.specs.Lookup.{field_named, lookup_of, FoundIs}
use Rattle.notice.proofs.Renders.{well_fields}
use Rattle.notice.proofs.Theorems.{lookup, named_field}
use Rattle.value.specs.Value.{bottom, int32, int64, real, text, opaque, value, is_bottom, field_value}

-- a word is that of its bytes taken by themselves
pub word_part : (k at len : ℕ) (s : List ℕ) → Bytes s → len ≡ k → at + len ≤ length s → word_at k s at ≡ word_at k (take len (drop at s)) 0
word_part k at len s bytes e h =
    let b = word_bytes k (word_at k s at) in
    let r : b ≡ take len (drop at s) = read_bytes_lem k at s bytes (omega arith) ∙ ap (λ (n : ℕ). take n (drop at s)) (sym e) in
    sym (bytes_read k (word_at k s at) [] [] (bounded k at s bytes)) ∙ ap (λ (t : List ℕ). word_at k t 0) (append-nil b ∙ r)

-- what lookup finds in a well-formed notice
each_right : (fs : List Field) (f : Field) → all_right fs ≡ true → Memᴰ f fs → field_right f ≡ true
each_right [] f r m = absurd (Memᴰ.not-nil m)
each_right (g ∷ gs) f r m =
    let p = and_parts (field_right g) (all_right gs) r in
    ⊎_elim (λ e. ap field_right e ∙ p.0) (each_right gs f p.1) (Memᴰ.cases_cons m)

pub found_right : (s name : List ℕ) (kind start len : ℕ) → Bytes s → check_of s ≡ Ok tt → lookup_of s name ≡ Some (record { kind = kind; start = start; len = len })
    → (size_right kind len ≡ true) × (start + len ≤ length s)
found_right s name kind start len bytes well e = go (field_named name (fields_of s)) refl (rw e at (lookup s name))
  where
    go : (o : Option Field) → field_named name (fields_of s) ≡ o → FoundIs s (Some (record { kind = kind; start = start; len = len })) o → (size_right kind len ≡ true) × (start + len ≤ length s)
    go none p h = absurd h
    go (some f) p h =
        let r = each_right (fields_of s) f (well_fields s bytes well).right (named_field name (fields_of s) f p).0 in
        let z = (and_parts (name_right f.name) (size_right f.kind (length f.value)) r).1 in
        let l : len ≡ length f.value = sym (length-take-le len (drop start s) (rw (length-drop start s) (omega (arith, h.1)))) ∙ ap length h.2 in
        (ap₂ size_right h.0 l ∙ z, h.1)

-- a field of its kind's size is not bottom
pub field_known : (kind len : ℕ) (bytes : List ℕ) → size_right kind len ≡ true → is_bottom (value (field_value kind bytes)) ≡ false
field_known kind len bytes = go (eqb kind 1) (eqb kind 2) (eqb kind 3) (eqb kind 4) (eqb kind 5)
  where
    go : (a b c d e : Bool) → cond a (eqb len 4) (cond (b || c) (eqb len 8) (cond (d || e) (leb len 1024) false)) ≡ true
        → is_bottom (value (pick a (λ _. int32 (to_z w32 (word_at 4 bytes 0)))
        (λ _. pick b (λ _. int64 (to_z w64 (word_at 8 bytes 0)))
        (λ _. pick c (λ _. real (of_bits binary64 (word_at 8 bytes 0)))
        (λ _. pick d (λ _. text bytes)
        (λ _. pick e (λ _. opaque bytes) (λ _. bottom))))))) ≡ false
    go true b c d e h = refl
    go false true c d e h = refl
    go false false true d e h = refl
    go false false false true e h = refl
    go false false false false true h = refl
    go false false false false false h = false_true h
