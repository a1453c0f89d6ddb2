-- The theorems of specs/Theorems.antt. Assumes nothing.
use mathlib.Core.Path.{◌≡◌, refl, sym, ap, ◌∙◌}
use mathlib.Core.Logic.{◌⊎◌, inl, inr, ⊎_elim, ◌↔◌}
use mathlib.Core.Bool.{Bool, true, false}
use mathlib.Core.List.{List, [], ◌∷◌}
use mathlib.Core.Option.{Option, none, some}
use Prim.Native.Nat.{ℕ, suc}
use native.Mathlib.Omega.{arith}
use lib.ListN.{length}
use borrow.Author.Tests.{le-leb}
use Rattle.common.proofs.Choice.{true_false, false_true}
use Rattle.octets.proofs.Theorems.{or_parts}
use Rattle.automaton.specs.Language.{Stretch}
use Rattle.automaton.specs.Marks.{walk}
use Rattle.automaton.proofs.Marks.{or_left, or_right}
use Rattle.automaton.proofs.Search.{decides}
use Rattle.regexp.specs.Language.{Tree, Fits, Anchored, anchored, Holds}
use Rattle.regexp.specs.Grammar.{WellFormed, Accepts}
use Rattle.regexp.specs.Causes.{Symbol, Symbols, front, IllFormed, faulty, misplaced}
use Rattle.regexp.specs.Regex.{branches_of, is_some, re_of, held_by, held_in}
use Rattle.regexp.specs.Theorems.{ReadsExactly, OneReading, WellFormedExactly, IllFormedExactly, RefusesExactly, SameLanguage, FitsExactly}
use Rattle.regexp.proofs.Repeats.{same_language as same}
use Rattle.regexp.proofs.Shape.{fresh}
use Rattle.regexp.proofs.Branches.{derived, computed}
use Rattle.regexp.proofs.Symbols.{one_list, no_list, ReadAs, read_symbols}
use Rattle.regexp.proofs.Causes.{cause_wrong, wrong_cause, clear, clear_here, clear_at, Somewhere, clear_or, pattern_passes}
use Rattle.regexp.proofs.Formed.{formed}

pub reads_exactly : ReadsExactly
reads_exactly p bs = (computed (suc (length p)) true p bs, λ d. derived d (suc (length p)) (omega arith))

pub one_reading : OneReading
one_reading p bs cs d e = let q : some bs ≡ some cs = sym ((reads_exactly p bs).1 d) ∙ (reads_exactly p cs).1 e in cc

pub well_formed_exactly : WellFormedExactly
well_formed_exactly p answer a = (λ e. to (branches_of p) refl (sym a ∙ e), λ w. a ∙ ap is_some ((reads_exactly p w.0).1 w.1))
  where
    to : (o : Option (List Anchored)) → branches_of p ≡ o → is_some o ≡ true → WellFormed p
    to none e f = false_true f
    to (some bs) e f = (bs, (reads_exactly p bs).0 e)

pub ill_formed_exactly : IllFormedExactly
ill_formed_exactly p = (λ h. to h (read_symbols p), back)
  where
    by_place : (WellFormed p → ⊥) → (xs : List Symbol) → Symbols p xs → (clear [] xs ≡ true) ⊎ Somewhere xs → IllFormed p
    by_place h xs t (inl c) = absurd (h (formed t c))
    by_place h xs t (inr (us, vs, w, e)) = misplaced xs us vs t w (wrong_cause us vs e)

    to : (WellFormed p → ⊥) → ReadAs p → IllFormed p
    to h (inl (xs, t)) = by_place h xs t (clear_or xs [] xs front)
    to h (inr (q, r, xs, e, t, f)) = faulty q r xs e t f

    back : IllFormed p → WellFormed p → ⊥
    back (faulty q r xs e t f) (bs, d) = no_list t f e (pattern_passes d).1
    back (misplaced xs us vs t w c) (bs, d) =
        let g = pattern_passes d in
        let h : clear [] xs ≡ true = ap (clear []) (one_list t g.1) ∙ g.2 [] refl (λ e. refl) in
        true_false (sym (cause_wrong c) ∙ clear_here us vs (clear_at w h))

pub refuses_exactly : RefusesExactly
refuses_exactly p answer a = (λ e. (ill_formed_exactly p).0 (λ w. true_false (sym ((well_formed_exactly p answer a).1 w) ∙ e)), λ i. go answer refl ((ill_formed_exactly p).1 i))
  where
    go : (b : Bool) → answer ≡ b → (WellFormed p → ⊥) → answer ≡ false
    go true e h = absurd (h ((well_formed_exactly p answer a).0 e))
    go false e h = e

pub same_language : SameLanguage
same_language t w = same t w

-- one stretch of a branch
stretch : (sf ef : Bool) (t : Tree) (x : List ℕ) → (walk sf ef (re_of t) true x ≡ true) ↔ Stretch sf ef (Fits t) x
stretch sf ef t x =
    let q = decides sf ef (re_of t) (fresh t) x in (
      λ e. let h = q.0 e in (h.0, h.1, h.2, h.3, (same_language t h.1).0 h.4, h.5, h.6),
      λ h. q.1 (h.0, h.1, h.2, h.3, (same_language t h.1).1 h.4, h.5, h.6),
    )

held : (bs : List Anchored) (x : List ℕ) → (held_by bs x ≡ true) ↔ Holds bs x
held [] x = (λ e. false_true e, λ h. absurd h)
held (anchored sf ef t ∷ bs) x =
    let q = stretch sf ef t x in
    let ih = held bs x in (
      λ e. ⊎_elim (λ a. inl (q.0 a)) (λ a. inr (ih.0 a)) (or_parts (walk sf ef (re_of t) true x) (held_by bs x) e),
      λ h. ⊎_elim (λ a. or_left (walk sf ef (re_of t) true x) (held_by bs x) (q.1 a)) (λ a. or_right (walk sf ef (re_of t) true x) (held_by bs x) (ih.1 a)) h,
    )

pub fits_exactly : FitsExactly
fits_exactly x p answer a l = (λ e. to (branches_of p) refl (sym known ∙ e), λ h. known ∙ back h)
  where
    known : answer ≡ held_in (branches_of p) x
    known = a ∙ rw (le-leb (length p) 4096 l)

    to : (o : Option (List Anchored)) → branches_of p ≡ o → held_in o x ≡ true → Accepts p x
    to none e f = false_true f
    to (some bs) e f = (bs, (reads_exactly p bs).0 e, (held bs x).0 f)

    back : Accepts p x → held_in (branches_of p) x ≡ true
    back h = ap (λ (o : Option (List Anchored)). held_in o x) ((reads_exactly p h.0).1 h.1) ∙ (held h.0 x).1 h.2
