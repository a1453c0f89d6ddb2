-- A repeat mark is two flags. Assumes nothing.
use mathlib.Core.Path.{◌≡◌, refl, sym, ap, ◌∙◌}
use mathlib.Core.Logic.{◌⊎◌, inl, inr, ⊎_elim}
use mathlib.Core.Bool.{Bool, true, false, ◌||◌, or-false}
use mathlib.Core.List.{List, [], ◌++◌, append_assoc, append-nil}
use Prim.Native.Nat.{ℕ}
use Rattle.common.proofs.Choice.{false_true}
use Rattle.automaton.specs.Language.{Re, leaf, group as grouping, nil as nothing, seq as then, alt as or, Many, once, more, Iter, Reps, One, Nothing}
use Rattle.automaton.specs.Language.{Fits as FitsRe}
use Rattle.octets.proofs.Theorems.{or_parts}
use Rattle.automaton.proofs.Marks.{or_left, or_right, iter_once}
use Rattle.regexp.specs.Language.{Mark, star, plus, optional, Tree, one, group, repeat, seq, alt, nil, Rounds, done, round, By, Fits}
use Rattle.regexp.specs.Regex.{repeats, absent, remark, re_of}
use Rattle.regexp.specs.Theorems.{SameLanguage}

module _ (P : List ℕ → Type 0) where
  join : {u v w : List ℕ} → Many P u → Many P v → u ++ v ≡ w → Many P w
  join {w = w} (once p) ms e = more p ms e
  join {v = v} {w = w} (more {u = a} {v = b} p ns f) ms e =
      more p (join ns ms refl) (sym (append_assoc a b v) ∙ ap (λ (l : List ℕ). l ++ v) f ∙ e)

many_map : (P Q : List ℕ → Type 0) → ((w : List ℕ) → P w → Q w) → {w : List ℕ} → Many P w → Many Q w
many_map P Q f (once p) = once (f _ p)
many_map P Q f (more p ns e) = more (f _ p) (many_map P Q f ns) e

iter_many : (P : List ℕ → Type 0) (r : Bool) (w : List ℕ) → Iter r P w → Many P w
iter_many P true w h = h
iter_many P false w h = once h

-- ---- flags under flags are flags

-- more turns of what may be absent
many_reps : (P : List ℕ → Type 0) (r o : Bool) {w : List ℕ} → Many (Reps r o P) w → Reps true o P w
many_reps P r o {w} (once (inl h)) = inl h
many_reps P r o {w} (once (inr h)) = inr (iter_many P r w h)
many_reps P r o {w} (more {u = u} {v = v} p ns e) = go p (many_reps P r o ns)
  where
    go : Reps r o P u → Reps true o P v → Reps true o P w
    go (inl h) k = let f : v ≡ w = (rw h.1 at e) in rw f at k
    go (inr h) (inl k) = let f : u ≡ w = sym (append-nil u) ∙ ap (λ (l : List ℕ). u ++ l) (sym k.1) ∙ e in inr (rw f at (iter_many P r u h))
    go (inr h) (inr k) = inr (join P (iter_many P r u h) k e)

inner : (P : List ℕ → Type 0) (r o q p : Bool) (w : List ℕ) → Reps r o (Reps q p P) w → Reps (q || r) (p || o) P w
inner P r o q p w (inl h) = inl (or_right p o h.0, h.1)
inner P true o q p w (inr h) = go (many_reps P q p h)
  where
    wide : (q : Bool) → Many P w → Iter (q || true) P w
    wide true m = m
    wide false m = m

    go : Reps true p P w → Reps (q || true) (p || o) P w
    go (inl k) = inl (or_left p o k.0, k.1)
    go (inr k) = inr (wide q k)
inner P false o q p w (inr (inl h)) = inl (or_left p o h.0, h.1)
inner P false o q p w (inr (inr h)) = inr (rw (or-false q) h)

outer : (P : List ℕ → Type 0) (r o q p : Bool) (w : List ℕ) → Reps (q || r) (p || o) P w → Reps r o (Reps q p P) w
outer P r o q p w (inl h) =
    ⊎_elim (λ k. inr (iter_once (Reps q p P) r w (inl (k, h.1)))) (λ k. inl (k, h.1)) (or_parts p o h.0)
outer P true o true p w (inr h) = inr (many_map P (Reps true p P) (λ u x. inr (once x)) h)
outer P false o true p w (inr h) = inr (inr h)
outer P true o false p w (inr h) = inr (many_map P (Reps false p P) (λ u x. inr x) h)
outer P false o false p w (inr h) = inr (inr h)

-- ---- one mark
module _ (P : List ℕ → Type 0) where
  rounds_many : {w : List ℕ} → Rounds P w → (w ≡ []) ⊎ Many P w
  rounds_many done = inl refl
  rounds_many {w} (round {u = u} {v = v} p rs e) = go (rounds_many rs)
    where
      go : (v ≡ []) ⊎ Many P v → (w ≡ []) ⊎ Many P w
      go (inl h) = let f : u ≡ w = sym (append-nil u) ∙ ap (λ (l : List ℕ). u ++ l) (sym h) ∙ e in inr (once (rw f at p))
      go (inr h) = inr (more p h e)

  many_rounds : {w : List ℕ} → Many P w → Rounds P w
  many_rounds {w} (once p) = round p done (append-nil w)
  many_rounds (more p ms e) = round p (many_rounds ms) e

  by_reps : (m : Mark) (w : List ℕ) → By m P w → Reps (repeats m) (absent m) P w
  by_reps star w h = ⊎_elim (λ e. inl (refl, e)) (λ k. inr k) (rounds_many h)
  by_reps plus w h = go h.0 h.1 h.2 h.3 (rounds_many h.4)
    where
      go : (u v : List ℕ) → u ++ v ≡ w → P u → (v ≡ []) ⊎ Many P v → Reps true false P w
      go u v e p (inl k) = let f : u ≡ w = sym (append-nil u) ∙ ap (λ (l : List ℕ). u ++ l) (sym k) ∙ e in inr (once (rw f at p))
      go u v e p (inr k) = inr (more p k e)
  by_reps optional w (inl e) = inl (refl, e)
  by_reps optional w (inr h) = inr h

  reps_by : (m : Mark) (w : List ℕ) → Reps (repeats m) (absent m) P w → By m P w
  reps_by star w (inl h) = rw h.1 done
  reps_by star w (inr h) = many_rounds h
  reps_by plus w (inl h) = false_true h.0
  reps_by plus w (inr (once p)) = (w, [], append-nil w, p, done)
  reps_by plus w (inr (more {u = u} {v = v} p ms e)) = (u, v, e, p, many_rounds ms)
  reps_by optional w (inl h) = inl h.1
  reps_by optional w (inr h) = inr h

reps_map : (P Q : List ℕ → Type 0) (r o : Bool) → ((w : List ℕ) → P w → Q w) → (w : List ℕ) → Reps r o P w → Reps r o Q w
reps_map P Q r o f w (inl h) = inl h
reps_map P Q true o f w (inr h) = inr (many_map P Q f h)
reps_map P Q false o f w (inr h) = inr (f w h)

-- ---- an expression under a mark
many_nothing : {w : List ℕ} → Many Nothing w → w ≡ []
many_nothing (once p) = p
many_nothing (more {u = u} {v = v} p ms e) = sym e ∙ ap (λ (l : List ℕ). l ++ v) p ∙ many_nothing ms

iter_nothing : (r : Bool) (w : List ℕ) → Iter r Nothing w → w ≡ []
iter_nothing true w h = many_nothing h
iter_nothing false w h = h

remark_reps : (m : Mark) (t : Re) (w : List ℕ) → FitsRe (remark m t) w → Reps (repeats m) (absent m) (FitsRe t) w
remark_reps m (leaf f r o x) w h = outer (One f) (repeats m) (absent m) r o w h
remark_reps m (grouping r o t) w h = outer (FitsRe t) (repeats m) (absent m) r o w h
remark_reps m nothing w h = inr (iter_once Nothing (repeats m) w h)
remark_reps m (then p q) w h = h
remark_reps m (or p q) w h = h

reps_remark : (m : Mark) (t : Re) (w : List ℕ) → Reps (repeats m) (absent m) (FitsRe t) w → FitsRe (remark m t) w
reps_remark m (leaf f r o x) w h = inner (One f) (repeats m) (absent m) r o w h
reps_remark m (grouping r o t) w h = inner (FitsRe t) (repeats m) (absent m) r o w h
reps_remark m nothing w (inl h) = h.1
reps_remark m nothing w (inr h) = iter_nothing (repeats m) w h
reps_remark m (then p q) w h = h
reps_remark m (or p q) w h = h

-- ---- a tree
fits_re : (t : Tree) (w : List ℕ) → Fits t w → FitsRe (re_of t) w
fits_re (one a) w h = inr h
fits_re (group t) w h = inr (fits_re t w h)
fits_re (repeat m t) w h = reps_remark m (re_of t) w (reps_map (Fits t) (FitsRe (re_of t)) (repeats m) (absent m) (fits_re t) w (by_reps (Fits t) m w h))
fits_re (seq t u) w h = (h.0, h.1, h.2, fits_re t h.0 h.3, fits_re u h.1 h.4)
fits_re (alt t u) w (inl h) = inl (fits_re t w h)
fits_re (alt t u) w (inr h) = inr (fits_re u w h)
fits_re nil w h = h

re_fits : (t : Tree) (w : List ℕ) → FitsRe (re_of t) w → Fits t w
re_fits (one a) w (inl h) = false_true h.0
re_fits (one a) w (inr h) = h
re_fits (group t) w (inl h) = false_true h.0
re_fits (group t) w (inr h) = re_fits t w h
re_fits (repeat m t) w h = reps_by (Fits t) m w (reps_map (FitsRe (re_of t)) (Fits t) (repeats m) (absent m) (re_fits t) w (remark_reps m (re_of t) w h))
re_fits (seq t u) w h = (h.0, h.1, h.2, re_fits t h.0 h.3, re_fits u h.1 h.4)
re_fits (alt t u) w (inl h) = inl (re_fits t w h)
re_fits (alt t u) w (inr h) = inr (re_fits u w h)
re_fits nil w h = h

pub same_language : SameLanguage
same_language t w = (re_fits t w, fits_re t w)
