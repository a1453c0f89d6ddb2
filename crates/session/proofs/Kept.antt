-- The table that is kept of a text is empty or passes the check. Assumes nothing.
use mathlib.Core.Path.{◌≡◌, sym, ap, subst, ◌∙◌}
use mathlib.Core.Logic.{◌⊎◌, inl, inr}
use mathlib.Core.Bool.{true}
use mathlib.Core.List.{List, []}
use Prim.Native.Nat.{ℕ, ◌+◌, ◌<◌}
use lib.ListN.{length, drop}
use lib.Seq.{get_or-drop}
use Rattle.word.specs.Word.{Bytes}
use Rattle.table.specs.Check.{check_of}
use Rattle.translator.specs.Translation.{Outcome, edition_by, translation_of}
use Rattle.translator.proofs.Fits.{refused_empty}
use Rattle.translator.proofs.Theorems.{writes_table, accepts_exactly, passes_check}
use Rattle.session.specs.Session.{edition, text_of, Sound}

-- what a record of kind 3 leaves is sound
pub text_sound : (r : List ℕ) (room : ℕ) → Bytes r → Sound (translation_of edition (text_of r) room).table
text_sound r room b = by (refused_empty edition (drop 6 r) room)
  where
    bytes : Bytes (drop 6 r)
    bytes i = subst (λ (k : ℕ). k < 256) (sym (get_or-drop 6 r i 0)) (b (6 + i))

    by : ((translation_of edition (drop 6 r) room).number ≡ 0) ⊎ ((translation_of edition (drop 6 r) room).table ≡ []) → Sound (translation_of edition (drop 6 r) room).table
    by (inl e) =
        let h = (accepts_exactly (edition_by edition) (drop 6 r) room).0 e in
        inr (ap (λ (o : Outcome). check_of o.table) (writes_table (edition_by edition) (drop 6 r) h.0 room h.1 h.2) ∙ passes_check (edition_by edition) (drop 6 r) h.0 bytes h.1)
    by (inr e) = inl e

-- a sound table that is not empty passes the check
pub passes : (table : List ℕ) → Sound table → (length table ≡ 0 → ⊥) → check_of table ≡ true
passes table (inl e) h = absurd (h (ap length e))
passes table (inr e) h = e
