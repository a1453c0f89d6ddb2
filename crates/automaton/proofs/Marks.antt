-- The marks compute the language. Assumes nothing.
use mathlib.Core.Path.{◌≡◌, refl, sym, ap, ◌∙◌}
use mathlib.Core.Logic.{◌⊎◌, inl, inr, ⊎_elim}
use mathlib.Core.Bool.{Bool, true, false, ◌&&◌, ◌||◌}
use mathlib.Core.List.{List, [], ◌∷◌, ◌++◌, append-nil}
use Prim.Native.Nat.{ℕ}
use native.Mathlib.Omega.{arith}
use Rattle.common.proofs.Choice.{false_true}
use Rattle.octets.proofs.Theorems.{and_parts, or_parts}
use Rattle.automaton.specs.Language.{Re, leaf, group, nil, seq, alt, Many, once, more, Iter, Reps, One, Cat, Either, Fits}
use Rattle.automaton.specs.Marks.{empty, final, shift}

pub and-true : (a b : Bool) → a ≡ true → b ≡ true → (a && b) ≡ true
and-true a b e f = rw (e, f)

pub or_left : (a b : Bool) → a ≡ true → (a || b) ≡ true
or_left a b e = rw e

pub or_right : (a b : Bool) → b ≡ true → (a || b) ≡ true
or_right true b e = refl
or_right false b e = e

pub nil_cons : {A : Type 0} (c : ℕ) (w : List ℕ) → ◌≡◌ {A = List ℕ} (c ∷ w) [] → A
nil_cons c w e = let z : ◌≡◌ {A = ℕ} 0 1 = cc in absurd (omega arith)

-- Nothing is left of a split of nothing.
pub split_nil : (u v : List ℕ) → u ++ v ≡ [] → (u ≡ []) × (v ≡ [])
split_nil [] v e = (refl, e)
split_nil (x ∷ u) v e = nil_cons x (u ++ v) e

-- what may follow a last byte read inside: nothing, or more turns
abbrev pub After : Bool → (List ℕ → Type 0) → List ℕ → Type 0
After r P w = (w ≡ []) ⊎ ((r ≡ true) × Many P w)

-- a first byte and what follows it
abbrev pub Head : Bool → (List ℕ → Type 0) → ℕ → List ℕ → Type 0
Head r P c w = (u : List ℕ) × (v : List ℕ) × (u ++ v ≡ w) × P (c ∷ u) × After r P v

module _ (P : List ℕ → Type 0) (r : Bool) where
  -- the first turn that reads a byte: turns that read none are passed over
  many_head : (er : r ≡ true) (c : ℕ) (w : List ℕ) {z : List ℕ} → Many P z → z ≡ c ∷ w → Head r P c w
  many_head er c w (once p) e = (w, [], append-nil w, rw e at p, inl refl)
  many_head er c w {z} (more {u = u} {v = v} p ms f) e = go u v p ms (f ∙ e) (many_head er c w ms)
    where
      go : (u v : List ℕ) → P u → Many P v → u ++ v ≡ c ∷ w → (v ≡ c ∷ w → Head r P c w) → Head r P c w
      go [] v p ms g ih = ih g
      go (x ∷ u) v p ms g ih =
          let a : x ≡ c = cc in
          let b : u ++ v ≡ w = cc in
          (u, v, b, rw a at p, inr (er, ms))

  many_nil : {z : List ℕ} → Many P z → z ≡ [] → P []
  many_nil (once p) e = rw e at p
  many_nil (more {u = u} {v = v} p ms f) e = let q = split_nil u v (f ∙ e) in rw q.0 at p

  head_many : (c : ℕ) (u v w : List ℕ) → u ++ v ≡ w → P (c ∷ u) → Many P v → Many P (c ∷ w)
  head_many c u v w e p ms = more p ms (ap (λ (l : List ℕ). c ∷ l) e)

  after_head : (c : ℕ) (w : List ℕ) → After r P (c ∷ w) → (r ≡ true) × Head r P c w
  after_head c w (inl e) = nil_cons c w e
  after_head c w (inr h) = (h.0, many_head h.0 c w h.1 refl)

  last_turn : (c : ℕ) (u v w : List ℕ) → u ++ v ≡ w → P (c ∷ u) → v ≡ [] → P (c ∷ w)
  last_turn c u v w e p n = let f : u ≡ w = sym (append-nil u) ∙ ap (λ (l : List ℕ). u ++ l) (sym n) ∙ e in rw f at p

  head_after : (c : ℕ) (w : List ℕ) → r ≡ true → Head r P c w → After r P (c ∷ w)
  head_after c w er h = inr (er, go h.4)
    where
      go : After r P h.1 → Many P (c ∷ w)
      go (inl n) = once (last_turn c h.0 h.1 w h.2 h.3 n)
      go (inr k) = head_many c h.0 h.1 w h.2 h.3 k.1

pub reps_head : (P : List ℕ → Type 0) (r o : Bool) (c : ℕ) (w : List ℕ) → Reps r o P (c ∷ w) → Head r P c w
reps_head P r o c w (inl h) = nil_cons c w h.1
reps_head P true o c w (inr h) = many_head P true refl c w h refl
reps_head P false o c w (inr h) = (w, [], append-nil w, h, inl refl)

pub head_reps : (P : List ℕ → Type 0) (r o : Bool) (c : ℕ) (w : List ℕ) → Head r P c w → Reps r o P (c ∷ w)
head_reps P r o c w h = inr (go r h.4)
  where
    go : (r : Bool) → After r P h.1 → Iter r P (c ∷ w)
    go true (inl n) = once (last_turn P true c h.0 h.1 w h.2 h.3 n)
    go true (inr k) = head_many P true c h.0 h.1 w h.2 h.3 k.1
    go false (inl n) = last_turn P false c h.0 h.1 w h.2 h.3 n
    go false (inr k) = false_true k.0

pub iter_once : (P : List ℕ → Type 0) (r : Bool) (w : List ℕ) → P w → Iter r P w
iter_once P true w p = once p
iter_once P false w p = p

iter_nil : (P : List ℕ → Type 0) (r : Bool) → Iter r P [] → P []
iter_nil P true h = many_nil P true h refl
iter_nil P false h = h

one_nil : {A : Type 0} (s : ℕ → Bool) → One s [] → A
one_nil s h = nil_cons h.0 [] (sym h.2)

one_head : (s : ℕ → Bool) (r : Bool) (c : ℕ) (w : List ℕ) → Head r (One s) c w → (s c ≡ true) × After r (One s) w
one_head s r c w h =
    let e : h.3.0 ≡ c = cc in
    let f : h.0 ≡ [] = cc in
    let g : h.1 ≡ w = (rw f at h.2) in
    (rw e at h.3.1, rw g at h.4)

-- Whether nothing fits.
pub empty_fits : (t : Re) → empty t ≡ true → Fits t []
empty_fits (leaf s r o m) e = inl (e, refl)
empty_fits (group r o t) e = go (or_parts o (empty t) e) (empty_fits t)
  where
    go : (o ≡ true) ⊎ (empty t ≡ true) → (empty t ≡ true → Fits t []) → Fits (group r o t) []
    go (inl h) ih = inl (h, refl)
    go (inr h) ih = inr (iter_once (Fits t) r [] (ih h))
empty_fits nil e = refl
empty_fits (seq p q) e = let h = and_parts (empty p) (empty q) e in ([], [], refl, empty_fits p h.0, empty_fits q h.1)
empty_fits (alt p q) e = ⊎_elim (λ h. inl (empty_fits p h)) (λ h. inr (empty_fits q h)) (or_parts (empty p) (empty q) e)

pub fits_empty : (t : Re) → Fits t [] → empty t ≡ true
fits_empty (leaf s r o m) (inl h) = h.0
fits_empty (leaf s r o m) (inr h) = one_nil s (iter_nil (One s) r h)
fits_empty (group r o t) (inl h) = or_left o (empty t) h.0
fits_empty (group r o t) (inr h) = or_right o (empty t) (fits_empty t (iter_nil (Fits t) r h))
fits_empty nil h = refl
fits_empty (seq p q) h =
    let e = split_nil h.0 h.1 h.2 in
    and-true (empty p) (empty q) (fits_empty p (rw e.0 at h.3)) (fits_empty q (rw e.1 at h.4))
fits_empty (alt p q) (inl h) = or_left (empty p) (empty q) (fits_empty p h)
fits_empty (alt p q) (inr h) = or_right (empty p) (empty q) (fits_empty q h)

-- What still has to be read, from the marks.
abbrev pub Rest : Re → List ℕ → Type 0
Rest (leaf s r o m) w = (m ≡ true) × After r (One s) w
Rest (group r o t) w = (u : List ℕ) × (v : List ℕ) × (u ++ v ≡ w) × Rest t u × After r (Fits t) v
Rest nil w = ⊥
Rest (seq p q) w = ((u : List ℕ) × (v : List ℕ) × (u ++ v ≡ w) × Rest p u × Fits q v) ⊎ Rest q w
Rest (alt p q) w = Rest p w ⊎ Rest q w

pub final_rest : (t : Re) → final t ≡ true → Rest t []
final_rest (leaf s r o m) e = (e, inl refl)
final_rest (group r o t) e = ([], [], refl, final_rest t e, inl refl)
final_rest nil e = false_true e
final_rest (seq p q) e = go (or_parts (final p && empty q) (final q) e) (final_rest p) (final_rest q)
  where
    go : ((final p && empty q) ≡ true) ⊎ (final q ≡ true) → (final p ≡ true → Rest p []) → (final q ≡ true → Rest q []) → Rest (seq p q) []
    go (inl h) ip iq = let k = and_parts (final p) (empty q) h in inl ([], [], refl, ip k.0, empty_fits q k.1)
    go (inr h) ip iq = inr (iq h)
final_rest (alt p q) e = ⊎_elim (λ h. inl (final_rest p h)) (λ h. inr (final_rest q h)) (or_parts (final p) (final q) e)

pub rest_final : (t : Re) → Rest t [] → final t ≡ true
rest_final (leaf s r o m) h = h.0
rest_final (group r o t) h = let e = split_nil h.0 h.1 h.2 in rest_final t (rw e.0 at h.3)
rest_final nil h = absurd h
rest_final (seq p q) (inl h) =
    let e = split_nil h.0 h.1 h.2 in
    or_left (final p && empty q) (final q) (and-true (final p) (empty q) (rest_final p (rw e.0 at h.3)) (fits_empty q (rw e.1 at h.4)))
rest_final (seq p q) (inr h) = or_right (final p && empty q) (final q) (rest_final q h)
rest_final (alt p q) (inl h) = or_left (final p) (final q) (rest_final p h)
rest_final (alt p q) (inr h) = or_right (final p) (final q) (rest_final q h)

-- The language does not read the marks.
pub same_language : (k : Bool) (t : Re) (c : ℕ) → Fits (shift k t c) ≡ Fits t
same_language k (leaf s r o m) c = refl
same_language k (group r o t) c = ap (λ (P : List ℕ → Type 0). Reps r o P) (same_language (k || (r && final t)) t c)
same_language k nil c = refl
same_language k (seq p q) c =
    ap (λ (P : List ℕ → Type 0). Cat P (Fits (shift ((k && empty p) || final p) q c))) (same_language k p c)
    ∙ ap (λ (P : List ℕ → Type 0). Cat (Fits p) P) (same_language ((k && empty p) || final p) q c)
same_language k (alt p q) c =
    ap (λ (P : List ℕ → Type 0). Either P (Fits (shift k q c))) (same_language k p c)
    ∙ ap (λ (P : List ℕ → Type 0). Either (Fits p) P) (same_language k q c)

abbrev Back : Bool → Re → ℕ → List ℕ → Type 0
Back k t c w = Rest t (c ∷ w) ⊎ ((k ≡ true) × Fits t (c ∷ w))

pub cons_eq : (c : ℕ) {u w : List ℕ} → u ≡ w → ◌≡◌ {A = List ℕ} (c ∷ u) (c ∷ w)
cons_eq c e = ap (λ (l : List ℕ). c ∷ l) e

after_same : (r : Bool) (P Q : List ℕ → Type 0) (w : List ℕ) → P ≡ Q → After r P w → After r Q w
after_same r P Q w e h = rw e at h

-- One byte, from the marks after it to those before it.
pub shift_back : (k : Bool) (t : Re) (c : ℕ) (w : List ℕ) → Rest (shift k t c) w → Back k t c w
shift_back k (leaf s r o m) c w h = go (or_parts k (r && m) a.1)
  where
    a : (s c ≡ true) × ((k || (r && m)) ≡ true)
    a = and_parts (s c) (k || (r && m)) h.0

    hd : Head r (One s) c w
    hd = ([], w, refl, (c, a.0, refl), h.1)

    go : (k ≡ true) ⊎ ((r && m) ≡ true) → Back k (leaf s r o m) c w
    go (inl e) = inr (e, head_reps (One s) r o c w hd)
    go (inr e) = let p = and_parts r m e in inl (p.1, head_after (One s) r c w p.0 hd)
shift_back k (group r o t) c w h = go (shift_back (k || (r && final t)) t c h.0 h.3)
  where
    q : Bool
    q = k || (r && final t)

    a : After r (Fits t) h.1
    a = after_same r (Fits (shift (k || (r && final t)) t c)) (Fits t) h.1 (same_language (k || (r && final t)) t c) h.4

    enters : Fits t (c ∷ h.0) → (k ≡ true) ⊎ ((r && final t) ≡ true) → Back k (group r o t) c w
    enters f (inl e) = inr (e, head_reps (Fits t) r o c w (h.0, h.1, h.2, f, a))
    enters f (inr e) =
        let p = and_parts r (final t) e in
        inl ([], c ∷ w, refl, final_rest t p.1, head_after (Fits t) r c w p.0 (h.0, h.1, h.2, f, a))

    go : Back (k || (r && final t)) t c h.0 → Back k (group r o t) c w
    go (inl f) = inl (c ∷ h.0, h.1, cons_eq c h.2, f, a)
    go (inr f) = enters f.1 (or_parts k (r && final t) f.0)
shift_back k nil c w h = absurd h
shift_back k (seq p q) c w (inl h) = go (shift_back k p c h.0 h.3)
  where
    f : Fits q h.1
    f = rw (same_language ((k && empty p) || final p) q c) at h.4

    go : Back k p c h.0 → Back k (seq p q) c w
    go (inl e) = inl (inl (c ∷ h.0, h.1, cons_eq c h.2, e, f))
    go (inr e) = inr (e.0, (c ∷ h.0, h.1, cons_eq c h.2, e.1, f))
shift_back k (seq p q) c w (inr h) = go (shift_back ((k && empty p) || final p) q c w h)
  where
    enters : Fits q (c ∷ w) → ((k && empty p) ≡ true) ⊎ (final p ≡ true) → Back k (seq p q) c w
    enters f (inl e) = let a = and_parts k (empty p) e in inr (a.0, ([], c ∷ w, refl, empty_fits p a.1, f))
    enters f (inr e) = inl (inl ([], c ∷ w, refl, final_rest p e, f))

    go : Back ((k && empty p) || final p) q c w → Back k (seq p q) c w
    go (inl e) = inl (inr e)
    go (inr e) = enters e.1 (or_parts (k && empty p) (final p) e.0)
shift_back k (alt p q) c w (inl h) = go (shift_back k p c w h)
  where
    go : Back k p c w → Back k (alt p q) c w
    go (inl e) = inl (inl e)
    go (inr e) = inr (e.0, inl e.1)
shift_back k (alt p q) c w (inr h) = go (shift_back k q c w h)
  where
    go : Back k q c w → Back k (alt p q) c w
    go (inl e) = inl (inr e)
    go (inr e) = inr (e.0, inr e.1)

-- and from those before it to those after it
pub shift_on : (k : Bool) (t : Re) (c : ℕ) (w : List ℕ) → Back k t c w → Rest (shift k t c) w
shift_on k (leaf s r o m) c w (inl h) =
    let a = after_head (One s) r c w h.1 in
    let b = one_head s r c w a.1 in
    (and-true (s c) (k || (r && m)) b.0 (or_right k (r && m) (and-true r m a.0 h.0)), b.1)
shift_on k (leaf s r o m) c w (inr h) =
    let b = one_head s r c w (reps_head (One s) r o c w h.1) in
    (and-true (s c) (k || (r && m)) b.0 (or_left k (r && m) h.0), b.1)
shift_on k (group r o t) c w (inl h) = go h.0 h.1 h.2 h.3 h.4 (λ u. shift_on (k || (r && final t)) t c u)
  where
    fresh : (v : List ℕ) → After r (Fits t) v → After r (Fits (shift (k || (r && final t)) t c)) v
    fresh v a = after_same r (Fits t) (Fits (shift (k || (r && final t)) t c)) v (sym (same_language (k || (r && final t)) t c)) a

    go : (u v : List ℕ) → u ++ v ≡ c ∷ w → Rest t u → After r (Fits t) v → ((u : List ℕ) → Back (k || (r && final t)) t c u → Rest (shift (k || (r && final t)) t c) u) → Rest (shift k (group r o t) c) w
    go [] v e g a ih =
        let b = after_head (Fits t) r c w (rw e at a) in
        (b.1.0, b.1.1, b.1.2, ih b.1.0 (inr (or_right k (r && final t) (and-true r (final t) b.0 (rest_final t g)), b.1.3)), fresh b.1.1 b.1.4)
    go (x ∷ u) v e g a ih =
        let i : x ≡ c = cc in
        let j : u ++ v ≡ w = cc in
        (u, v, j, ih u (inl (rw i at g)), fresh v a)
shift_on k (group r o t) c w (inr h) =
    let b = reps_head (Fits t) r o c w h.1 in (
      b.0,
      b.1,
      b.2,
      shift_on (k || (r && final t)) t c b.0 (inr (or_left k (r && final t) h.0, b.3)),
      after_same r (Fits t) (Fits (shift (k || (r && final t)) t c)) b.1 (sym (same_language (k || (r && final t)) t c)) b.4,
    )
shift_on k nil c w (inl h) = absurd h
shift_on k nil c w (inr h) = nil_cons c w h.1
shift_on k (seq p q) c w (inl (inl h)) = go h.0 h.1 h.2 h.3 h.4 (λ u. shift_on k p c u) (shift_on ((k && empty p) || final p) q c w)
  where
    go : (u v : List ℕ) → u ++ v ≡ c ∷ w → Rest p u → Fits q v → ((u : List ℕ) → Back k p c u → Rest (shift k p c) u) → (Back ((k && empty p) || final p) q c w → Rest (shift ((k && empty p) || final p) q c) w) → Rest (shift k (seq p q) c) w
    go [] v e g f ip iq = inr (iq (inr (or_right (k && empty p) (final p) (rest_final p g), rw e at f)))
    go (x ∷ u) v e g f ip iq =
        let i : x ≡ c = cc in
        let j : u ++ v ≡ w = cc in
        inl (u, v, j, ip u (inl (rw i at g)), rw (same_language ((k && empty p) || final p) q c) f)
shift_on k (seq p q) c w (inl (inr h)) = inr (shift_on ((k && empty p) || final p) q c w (inl h))
shift_on k (seq p q) c w (inr h) = go h.1.0 h.1.1 h.1.2 h.1.3 h.1.4 (λ u. shift_on k p c u) (shift_on ((k && empty p) || final p) q c w)
  where
    go : (u v : List ℕ) → u ++ v ≡ c ∷ w → Fits p u → Fits q v → ((u : List ℕ) → Back k p c u → Rest (shift k p c) u) → (Back ((k && empty p) || final p) q c w → Rest (shift ((k && empty p) || final p) q c) w) → Rest (shift k (seq p q) c) w
    go [] v e g f ip iq = inr (iq (inr (or_left (k && empty p) (final p) (and-true k (empty p) h.0 (fits_empty p g)), rw e at f)))
    go (x ∷ u) v e g f ip iq =
        let i : x ≡ c = cc in
        let j : u ++ v ≡ w = cc in
        inl (u, v, j, ip u (inr (h.0, rw i at g)), rw (same_language ((k && empty p) || final p) q c) f)
shift_on k (alt p q) c w (inl (inl h)) = inl (shift_on k p c w (inl h))
shift_on k (alt p q) c w (inl (inr h)) = inr (shift_on k q c w (inl h))
shift_on k (alt p q) c w (inr h) = go h.1 (shift_on k p c w) (shift_on k q c w)
  where
    go : Fits p (c ∷ w) ⊎ Fits q (c ∷ w) → (Back k p c w → Rest (shift k p c) w) → (Back k q c w → Rest (shift k q c) w) → Rest (shift k (alt p q) c) w
    go (inl f) ip iq = inl (ip (inr (h.0, f)))
    go (inr f) ip iq = inr (iq (inr (h.0, f)))
