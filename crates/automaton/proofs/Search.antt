-- The decision equals the language. Assumes nothing.
use mathlib.Core.Path.{◌≡◌, refl, sym, ◌∙◌}
use mathlib.Core.Logic.{◌⊎◌, inl, inr, ⊎_elim}
use mathlib.Core.Bool.{Bool, true, ◌&&◌}
use mathlib.Core.List.{List, [], ◌∷◌, ◌++◌}
use Prim.Native.Nat.{ℕ}
use Rattle.common.proofs.Choice.{false_true}
use Rattle.octets.proofs.Theorems.{and_parts, or_parts}
use Rattle.automaton.specs.Language.{Re, leaf, group, nil, seq, alt, Fits, Stretch, Fresh}
use Rattle.automaton.specs.Marks.{empty, final, shift, ends, walk}
use Rattle.automaton.specs.Theorems.{Decides}
use Rattle.automaton.proofs.Marks.{and-true, or_left, or_right, nil_cons, split_nil, empty_fits, fits_empty, Rest, final_rest, rest_final, same_language, cons_eq, shift_back, shift_on}

-- a stretch that begins here; one that begins later
abbrev Here : Bool → (List ℕ → Type 0) → List ℕ → Type 0
Here ef P x = (v : List ℕ) × (w : List ℕ) × (v ++ w ≡ x) × P v × ((ef ≡ true) ⊎ (w ≡ []))

abbrev Later : Bool → (List ℕ → Type 0) → List ℕ → Type 0
Later ef P [] = ⊥
Later ef P (c ∷ x) = Here ef P x ⊎ Later ef P x

abbrev Stands : Bool → Bool → Re → Bool → List ℕ → Type 0
Stands sf ef t k x = Here ef (Rest t) x ⊎ (((k ≡ true) × Here ef (Fits t) x) ⊎ ((sf ≡ true) × Later ef (Fits t) x))

ends_here : (sf ef : Bool) (t : Re) (k : Bool) (x : List ℕ) → ((ef ≡ true) ⊎ (x ≡ [])) → ends k t ≡ true → Stands sf ef t k x
ends_here sf ef t k x l e =
    ⊎_elim (λ f. inl ([], x, refl, final_rest t f, l))
    (λ f. let p = and_parts k (empty t) f in inr (inl (p.0, ([], x, refl, empty_fits t p.1, l))))
    (or_parts (final t) (k && empty t) e)

walk_sound : (sf ef : Bool) (t : Re) (k : Bool) (x : List ℕ) → walk sf ef t k x ≡ true → Stands sf ef t k x
walk_sound sf ef t k [] e = ends_here sf ef t k [] (inr refl) e
walk_sound sf ef t k (c ∷ x) e = go (or_parts (ef && ends k t) (walk sf ef (shift k t c) sf x) e) (walk_sound sf ef (shift k t c) sf x)
  where
    same : Fits (shift k t c) ≡ Fits t
    same = same_language k t c

    back : Stands sf ef (shift k t c) sf x → Stands sf ef t k (c ∷ x)
    back (inl h) =
        ⊎_elim (λ f. inl (c ∷ h.0, h.1, cons_eq c h.2, f, h.4))
        (λ f. inr (inl (f.0, (c ∷ h.0, h.1, cons_eq c h.2, f.1, h.4))))
        (shift_back k t c h.0 h.3)
    back (inr (inl h)) = inr (inr (h.0, inl (rw same at h.1)))
    back (inr (inr h)) = inr (inr (h.0, inr (rw same at h.1)))

    go : ((ef && ends k t) ≡ true) ⊎ (walk sf ef (shift k t c) sf x ≡ true) → (walk sf ef (shift k t c) sf x ≡ true → Stands sf ef (shift k t c) sf x) → Stands sf ef t k (c ∷ x)
    go (inl f) ih = let p = and_parts ef (ends k t) f in ends_here sf ef t k (c ∷ x) (inl p.0) p.1
    go (inr f) ih = back (ih f)

-- a stretch of nothing, seen before the next byte
seen : (sf ef : Bool) (t : Re) (k : Bool) (x w : List ℕ) → w ≡ x → ((ef ≡ true) ⊎ (w ≡ [])) → ends k t ≡ true → walk sf ef t k x ≡ true
seen sf ef t k [] w e l f = f
seen sf ef t k (c ∷ x) w e (inl l) f = or_left (ef && ends k t) (walk sf ef (shift k t c) sf x) (and-true ef (ends k t) l f)
seen sf ef t k (c ∷ x) w e (inr l) f = nil_cons c x (sym e ∙ l)

walk_complete : (sf ef : Bool) (t : Re) (k : Bool) (x : List ℕ) → Stands sf ef t k x → walk sf ef t k x ≡ true
walk_complete sf ef t k [] (inl h) =
    let e = split_nil h.0 h.1 h.2 in or_left (final t) (k && empty t) (rest_final t (rw e.0 at h.3))
walk_complete sf ef t k [] (inr (inl h)) =
    let e = split_nil h.1.0 h.1.1 h.1.2 in
    or_right (final t) (k && empty t) (and-true k (empty t) h.0 (fits_empty t (rw e.0 at h.1.3)))
walk_complete sf ef t k [] (inr (inr h)) = absurd h.1
walk_complete sf ef t k (c ∷ x) h = go h (walk_complete sf ef (shift k t c) sf x)
  where
    next : walk sf ef (shift k t c) sf x ≡ true → walk sf ef t k (c ∷ x) ≡ true
    next e = or_right (ef && ends k t) (walk sf ef (shift k t c) sf x) e

    same : Fits t ≡ Fits (shift k t c)
    same = sym (same_language k t c)

    marked : (v w : List ℕ) → v ++ w ≡ c ∷ x → Rest t v → ((ef ≡ true) ⊎ (w ≡ [])) → (Stands sf ef (shift k t c) sf x → walk sf ef (shift k t c) sf x ≡ true) → walk sf ef t k (c ∷ x) ≡ true
    marked [] w e g l ih = seen sf ef t k (c ∷ x) w e l (or_left (final t) (k && empty t) (rest_final t g))
    marked (d ∷ v) w e g l ih =
        let i : d ≡ c = cc in
        let j : v ++ w ≡ x = cc in
        next (ih (inl (v, w, j, shift_on k t c v (inl (rw i at g)), l)))

    entered : k ≡ true → (v w : List ℕ) → v ++ w ≡ c ∷ x → Fits t v → ((ef ≡ true) ⊎ (w ≡ [])) → (Stands sf ef (shift k t c) sf x → walk sf ef (shift k t c) sf x ≡ true) → walk sf ef t k (c ∷ x) ≡ true
    entered m [] w e g l ih = seen sf ef t k (c ∷ x) w e l (or_right (final t) (k && empty t) (and-true k (empty t) m (fits_empty t g)))
    entered m (d ∷ v) w e g l ih =
        let i : d ≡ c = cc in
        let j : v ++ w ≡ x = cc in
        next (ih (inl (v, w, j, shift_on k t c v (inr (m, rw i at g)), l)))

    later : sf ≡ true → Here ef (Fits t) x ⊎ Later ef (Fits t) x → ((sf ≡ true) × Here ef (Fits (shift k t c)) x) ⊎ ((sf ≡ true) × Later ef (Fits (shift k t c)) x)
    later a (inl g) = inl (a, rw same at g)
    later a (inr g) = inr (a, rw same at g)

    go : Stands sf ef t k (c ∷ x) → (Stands sf ef (shift k t c) sf x → walk sf ef (shift k t c) sf x ≡ true) → walk sf ef t k (c ∷ x) ≡ true
    go (inl g) ih = marked g.0 g.1 g.2 g.3 g.4 ih
    go (inr (inl g)) ih = entered g.0 g.1.0 g.1.1 g.1.2 g.1.3 g.1.4 ih
    go (inr (inr g)) ih = next (ih (inr (later g.0 g.1)))

-- an expression without marks has nothing half read
fresh_rest : (t : Re) → Fresh t → (w : List ℕ) → Rest t w → ⊥
fresh_rest (leaf s r o m) f w h = false_true (sym f ∙ h.0)
fresh_rest (group r o t) f w h = fresh_rest t f h.0 h.3
fresh_rest nil f w h = h
fresh_rest (seq p q) f w (inl h) = fresh_rest p f.0 h.0 h.3
fresh_rest (seq p q) f w (inr h) = fresh_rest q f.1 w h
fresh_rest (alt p q) f w (inl h) = fresh_rest p f.0 w h
fresh_rest (alt p q) f w (inr h) = fresh_rest q f.1 w h

-- a stretch begins here or later
abbrev Begun : Bool → Bool → (List ℕ → Type 0) → List ℕ → Type 0
Begun sf ef P x = Here ef P x ⊎ ((sf ≡ true) × Later ef P x)

later_stretch : (ef : Bool) (P : List ℕ → Type 0) (x : List ℕ) → Later ef P x → (u : List ℕ) × (v : List ℕ) × (w : List ℕ) × (u ++ (v ++ w) ≡ x) × P v × ((ef ≡ true) ⊎ (w ≡ []))
later_stretch ef P [] h = absurd h
later_stretch ef P (c ∷ x) (inl h) = (c ∷ [], h.0, h.1, cons_eq c h.2, h.3, h.4)
later_stretch ef P (c ∷ x) (inr h) = let g = later_stretch ef P x h in (c ∷ g.0, g.1, g.2, cons_eq c g.3, g.4, g.5)

begun_stretch : (sf ef : Bool) (P : List ℕ → Type 0) (x : List ℕ) → Begun sf ef P x → Stretch sf ef P x
begun_stretch sf ef P x (inl h) = ([], h.0, h.1, h.2, h.3, inr refl, h.4)
begun_stretch sf ef P x (inr h) = let g = later_stretch ef P x h.1 in (g.0, g.1, g.2, g.3, g.4, inl h.0, g.5)

stretch_later : (ef : Bool) (P : List ℕ → Type 0) (c : ℕ) (u v w x : List ℕ) → c ∷ (u ++ (v ++ w)) ≡ x → P v → ((ef ≡ true) ⊎ (w ≡ [])) → Later ef P x
stretch_later ef P c u v w [] e p l = nil_cons c (u ++ (v ++ w)) e
stretch_later ef P c [] v w (d ∷ x) e p l = let j : v ++ w ≡ x = cc in inl (v, w, j, p, l)
stretch_later ef P c (b ∷ u) v w (d ∷ x) e p l = let j : b ∷ (u ++ (v ++ w)) ≡ x = cc in inr (stretch_later ef P b u v w x j p l)

stretch_begun : (sf ef : Bool) (P : List ℕ → Type 0) (x : List ℕ) → Stretch sf ef P x → Begun sf ef P x
stretch_begun sf ef P x h = go h.0 h.3 h.5
  where
    go : (u : List ℕ) → u ++ (h.1 ++ h.2) ≡ x → ((sf ≡ true) ⊎ (u ≡ [])) → Begun sf ef P x
    go [] e a = inl (h.1, h.2, e, h.4, h.6)
    go (c ∷ u) e (inl a) = inr (a, stretch_later ef P c u h.1 h.2 x e h.4 h.6)
    go (c ∷ u) e (inr a) = nil_cons c u a

pub decides : Decides
decides sf ef t f x = (λ e. begun_stretch sf ef (Fits t) x (there (walk_sound sf ef t true x e)), λ h. walk_complete sf ef t true x (back (stretch_begun sf ef (Fits t) x h)))
  where
    there : Stands sf ef t true x → Begun sf ef (Fits t) x
    there (inl h) = absurd (fresh_rest t f h.0 h.3)
    there (inr (inl h)) = inl h.1
    there (inr (inr h)) = inr h

    back : Begun sf ef (Fits t) x → Stands sf ef t true x
    back (inl h) = inr (inl (refl, h))
    back (inr h) = inr (inr h)
