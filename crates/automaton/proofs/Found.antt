-- The decision over the table is the decision over the tree. Assumes nothing.
use mathlib.Core.Path.{◌≡◌, refl, ap, ◌∙◌}
use mathlib.Core.Bool.{Bool, true, false, ◌&&◌, ◌||◌, and-false}
use mathlib.Core.List.{List, [], ◌∷◌, ◌++◌, append-nil}
use Prim.Native.Nat.{ℕ, zero, suc, ◌+◌}
use native.Mathlib.Omega.{arith}
use lib.ListN.{length, replicate, length-append}
use Rattle.automaton.specs.Language.{Re, leaf, group, nil, seq, alt, Fresh}
use Rattle.automaton.specs.Marks.{empty, final, shift, ends, walk}
use Rattle.automaton.specs.Pass.{Token, opens, bar, closes, started, passed, left, pass, tokens, cells, Flat, Alts}
use Rattle.automaton.specs.Decide.{walk_on, decide}
use Rattle.automaton.specs.Theorems.{Finds}
use Rattle.automaton.proofs.Pass.{empty_shift, passes}
use Rattle.automaton.proofs.Search.{decides}

pub tokens_shift : (k : Bool) (t : Re) (c : ℕ) → tokens (shift k t c) ≡ tokens t
tokens_shift k (leaf f r o m) c = refl
tokens_shift k (group r o t) c =
    ap (λ (x : List Token). opens r (length x) ∷ (x ++ (closes o ∷ []))) (tokens_shift (k || (r && final t)) t c)
tokens_shift k nil c = refl
tokens_shift k (seq p q) c = cc (tokens_shift k p c, tokens_shift ((k && empty p) || final p) q c)
tokens_shift k (alt p q) c = cc (tokens_shift k p c, tokens_shift k q c)

-- the shape stays
shape : (t : Re) (d : ℕ) (k : Bool) (c : ℕ) → (Flat t d → Flat (shift k t c) d) × (Alts t d → Alts (shift k t c) d)
shape (leaf f r o m) d k c = (λ h. h, λ h. h)
shape (group r o t) zero k c = (λ h. h, λ h. h)
shape (group r o t) (suc d) k c = let ih = shape t d (k || (r && final t)) c in (ih.1, ih.1)
shape nil d k c = (λ h. h, λ h. h)
shape (seq p q) d k c =
    let ip = shape p d k c in
    let iq = shape q d ((k && empty p) || final p) c in
    (λ h. (ip.0 h.0, iq.0 h.1), λ h. (ip.0 h.0, iq.0 h.1))
shape (alt p q) d k c =
    let ip = shape p d k c in
    let iq = shape q d k c in
    (λ h. h, λ h. (ip.0 h.0, iq.1 h.1))

-- a pass over a whole table
whole : (t : Re) → Flat t 8 → (k : Bool) (c : ℕ) → pass (tokens t) (cells t) c (started k) [] ≡ left (cells (shift k t c)) (passed (started k) (empty t) (final t) (final (shift k t c)))
whole t f k c =
    (rw (append-nil (tokens t), append-nil (cells t)) at (passes t 8 f (started k) [] (omega arith) [] [] c))
    ∙ ap (λ (x : List Bool). left x (passed (started k) (empty t) (final t) (final (shift k t c)))) (append-nil (cells (shift k t c)))

walk_on_lem : (sf ef : Bool) (x : List ℕ) (t : Re) → Flat t 8 → (k : Bool) → walk_on (tokens t) sf ef (empty t) (cells t) (final t) k x ≡ walk sf ef t k x
walk_on_lem sf ef [] t f k = refl
walk_on_lem sf ef (c ∷ x) t f k =
    let ih = walk_on_lem sf ef x (shift k t c) ((shape t 8 k c).0 f) sf in
    rw (whole t f k c) (ap (λ (b : Bool). (ef && ends k t) || b) (rw (tokens_shift k t c, empty_shift k t c) at ih))

-- without marks
final_fresh : (t : Re) → Fresh t → final t ≡ false
final_fresh (leaf f r o m) h = h
final_fresh (group r o t) h = final_fresh t h
final_fresh nil h = refl
final_fresh (seq p q) h = rw (final_fresh p h.0, final_fresh q h.1)
final_fresh (alt p q) h = rw (final_fresh p h.0, final_fresh q h.1)

unmarked : (s r m : Bool) → m ≡ false → (s && (false || (r && m))) ≡ m
unmarked s r m e = rw (e, and-false r, and-false s)

shift_fresh : (t : Re) → Fresh t → (c : ℕ) → shift false t c ≡ t
shift_fresh (leaf f r o m) h c = ap (leaf f r o) (unmarked (f c) r m h)
shift_fresh (group r o t) h c = rw (final_fresh t h, and-false r) (ap (group r o) (shift_fresh t h c))
shift_fresh nil h c = refl
shift_fresh (seq p q) h c = rw (final_fresh p h.0) (cc (shift_fresh p h.0 c, shift_fresh q h.1 c))
shift_fresh (alt p q) h c = cc (shift_fresh p h.0 c, shift_fresh q h.1 c)

replicate_add : (m n : ℕ) (b : Bool) → replicate m b ++ replicate n b ≡ replicate (m + n) b
replicate_add zero n b = ap (λ (k : ℕ). replicate k b) (let e : n ≡ 0 + n = omega arith in e)
replicate_add (suc m) n b =
    let e : suc (m + n) ≡ suc m + n = omega arith in
    ap (λ (l : List Bool). b ∷ l) (replicate_add m n b) ∙ ap (λ (k : ℕ). replicate k b) e

cells_fresh : (t : Re) → Fresh t → cells t ≡ replicate (length (tokens t)) false
cells_fresh (leaf f r o m) h = ap (λ (b : Bool). b ∷ []) h
cells_fresh (group r o t) h =
    rw (cells_fresh t h, final_fresh t h, length-append (tokens t) (closes o ∷ [])) (ap (λ (l : List Bool). false ∷ l) (replicate_add (length (tokens t)) 1 false))
cells_fresh nil h = refl
cells_fresh (seq p q) h = rw (cells_fresh p h.0, cells_fresh q h.1, length-append (tokens p) (tokens q)) (replicate_add (length (tokens p)) (length (tokens q)) false)
cells_fresh (alt p q) h =
    rw (cells_fresh p h.0, cells_fresh q h.1, length-append (tokens p) (bar ∷ tokens q)) (replicate_add (length (tokens p)) (suc (length (tokens q))) false)

-- what is decided over the table is what is decided over the tree
pub by_marks : (sf ef : Bool) (t : Re) → Fresh t → Flat t 8 → (x : List ℕ) → decide (tokens t) (length (tokens t)) sf ef x ≡ walk sf ef t true x
by_marks sf ef t h f x = rw (first, ← final_fresh t h) (walk_on_lem sf ef x t f true)
  where
    first : pass (tokens t) (replicate (length (tokens t)) false) 0 (started false) [] ≡ left (cells t) (passed (started false) (empty t) (final t) (final t))
    first = rw (← cells_fresh t h) (rw (shift_fresh t h 0) at (whole t f false 0))

pub finds : Finds
finds sf ef t h f x = rw (by_marks sf ef t h f x) (decides sf ef t h x)
