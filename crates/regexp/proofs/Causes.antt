-- The causes at a place, by computation; no derived pattern has one. Assumes nothing.
use mathlib.Core.Path.{◌≡◌, refl, sym, ap, ◌∙◌}
use mathlib.Core.Logic.{◌⊎◌, inl, inr, ⊎_elim}
use mathlib.Core.Bool.{Bool, true, false, not, ◌&&◌, ◌||◌}
use mathlib.Core.List.{List, [], ◌∷◌, ◌++◌, append_assoc, append-nil}
use Prim.Native.Nat.{ℕ, suc, ◌+◌, ◌<◌}
use native.Mathlib.Omega.{arith}
use lib.Dec.{eqb, leb, ltb}
use borrow.Author.Tests.{ne_eqb, lt-ltb, le-leb, lt-leb, eqb-true, ltb-true, leb-true, not-true}
use Rattle.common.proofs.Choice.{true_false, false_true}
use Rattle.octets.proofs.Theorems.{and_parts, or_parts}
use Rattle.automaton.proofs.Marks.{or_left, or_right}
use Rattle.regexp.specs.Language.{Mark, Tree, Anchored}
use Rattle.regexp.specs.Grammar.{Piece, single, grouped, marked, Branch, last as last-piece, then, Alternatives, only, either, Body, nothing, something, Edge, free, bound, Pattern, final, further}
use Rattle.regexp.specs.Causes.{Symbol, atom, mark, opening, closing, bar, hat, dollar, SymbolText, atom_text, mark_text, opening_text, closing_text, bar_text, hat_text, dollar_text, Symbols, end, next, Place, front, after, Begins, first, after_opening, after_bar, Ends, last, before_closing, before_bar, depth, Cause, empty_branch, mark_first, mark_after_hat, mark_after_opening, mark_after_bar, unopened, unclosed, hat_elsewhere, dollar_elsewhere, too_deep}

-- ---- a cause at a place

-- whether a branch begins behind the symbols, and whether the nearest is `^`
abbrev pub begun : List Symbol → Bool
begun [] = true
begun (opening ∷ us) = true
begun (bar ∷ us) = true
begun (atom a ∷ us) = false
begun (mark m ∷ us) = false
begun (closing ∷ us) = false
begun (hat ∷ us) = false
begun (dollar ∷ us) = false

abbrev pub hatted : List Symbol → Bool
hatted [] = false
hatted (opening ∷ us) = false
hatted (bar ∷ us) = false
hatted (atom a ∷ us) = false
hatted (mark m ∷ us) = false
hatted (closing ∷ us) = false
hatted (hat ∷ us) = true
hatted (dollar ∷ us) = false

abbrev some : List Symbol → Bool
some [] = false
some (x ∷ xs) = true

abbrev pub wrong : List Symbol → List Symbol → Bool
wrong us [] = begun us || ltb 0 (depth us)
wrong us (atom a ∷ vs) = false
wrong us (mark m ∷ vs) = begun us || hatted us
wrong us (opening ∷ vs) = leb 8 (depth us)
wrong us (closing ∷ vs) = begun us || eqb (depth us) 0
wrong us (bar ∷ vs) = begun us
wrong us (hat ∷ vs) = some us
wrong us (dollar ∷ vs) = some vs

begins_begun : {us : List Symbol} → Begins us → begun us ≡ true
begins_begun first = refl
begins_begun (after_opening us) = refl
begins_begun (after_bar us) = refl

begun_begins : (us : List Symbol) → begun us ≡ true → Begins us
begun_begins [] e = first
begun_begins (opening ∷ us) e = after_opening us
begun_begins (bar ∷ us) e = after_bar us
begun_begins (atom a ∷ us) e = false_true e
begun_begins (mark m ∷ us) e = false_true e
begun_begins (closing ∷ us) e = false_true e
begun_begins (hat ∷ us) e = false_true e
begun_begins (dollar ∷ us) e = false_true e

ends_wrong : (us : List Symbol) {vs : List Symbol} → begun us ≡ true → Ends vs → wrong us vs ≡ true
ends_wrong us e last = or_left (begun us) (ltb 0 (depth us)) e
ends_wrong us e (before_closing vs) = or_left (begun us) (eqb (depth us) 0) e
ends_wrong us e (before_bar vs) = e

pub cause_wrong : {us vs : List Symbol} → Cause us vs → wrong us vs ≡ true
cause_wrong (empty_branch us vs b e) = ends_wrong us (begins_begun b) e
cause_wrong (mark_first m vs) = refl
cause_wrong (mark_after_hat m us vs) = refl
cause_wrong (mark_after_opening m us vs) = refl
cause_wrong (mark_after_bar m us vs) = refl
cause_wrong (unopened us vs e) = or_right (begun us) (eqb (depth us) 0) (rw e)
cause_wrong (unclosed us h) = or_right (begun us) (ltb 0 (depth us)) (lt-ltb 0 (depth us) h)
cause_wrong (hat_elsewhere x us vs) = refl
cause_wrong (dollar_elsewhere us y vs) = refl
cause_wrong (too_deep us vs h) = le-leb 8 (depth us) h

wrong_mark : (us : List Symbol) (m : Mark) (vs : List Symbol) → (begun us || hatted us) ≡ true → Cause us (mark m ∷ vs)
wrong_mark [] m vs e = mark_first m vs
wrong_mark (opening ∷ us) m vs e = mark_after_opening m us vs
wrong_mark (bar ∷ us) m vs e = mark_after_bar m us vs
wrong_mark (hat ∷ us) m vs e = mark_after_hat m us vs
wrong_mark (atom a ∷ us) m vs e = false_true e
wrong_mark (mark n ∷ us) m vs e = false_true e
wrong_mark (closing ∷ us) m vs e = false_true e
wrong_mark (dollar ∷ us) m vs e = false_true e

wrong_hat : (us vs : List Symbol) → some us ≡ true → Cause us (hat ∷ vs)
wrong_hat [] vs e = false_true e
wrong_hat (x ∷ us) vs e = hat_elsewhere x us vs

wrong_dollar : (us vs : List Symbol) → some vs ≡ true → Cause us (dollar ∷ vs)
wrong_dollar us [] e = false_true e
wrong_dollar us (y ∷ vs) e = dollar_elsewhere us y vs

pub wrong_cause : (us vs : List Symbol) → wrong us vs ≡ true → Cause us vs
wrong_cause us [] e = ⊎_elim (λ h. empty_branch us [] (begun_begins us h) last) (λ h. unclosed us (ltb-true 0 (depth us) h)) (or_parts (begun us) (ltb 0 (depth us)) e)
wrong_cause us (atom a ∷ vs) e = false_true e
wrong_cause us (mark m ∷ vs) e = wrong_mark us m vs e
wrong_cause us (opening ∷ vs) e = too_deep us vs (leb-true 8 (depth us) e)
wrong_cause us (closing ∷ vs) e =
    ⊎_elim (λ h. empty_branch us (closing ∷ vs) (begun_begins us h) (before_closing vs)) (λ h. unopened us vs (eqb-true (depth us) 0 h)) (or_parts (begun us) (eqb (depth us) 0) e)
wrong_cause us (bar ∷ vs) e = empty_branch us (bar ∷ vs) (begun_begins us e) (before_bar vs)
wrong_cause us (hat ∷ vs) e = wrong_hat us vs e
wrong_cause us (dollar ∷ vs) e = wrong_dollar us vs e

-- ---- no cause from a place on
abbrev pub clear : List Symbol → List Symbol → Bool
clear us [] = not (wrong us [])
clear us (x ∷ vs) = not (wrong us (x ∷ vs)) && clear (x ∷ us) vs

pub clear_here : (us vs : List Symbol) → clear us vs ≡ true → wrong us vs ≡ false
clear_here us [] e = not-true (wrong us []) e
clear_here us (x ∷ vs) e = not-true (wrong us (x ∷ vs)) (and_parts (not (wrong us (x ∷ vs))) (clear (x ∷ us) vs) e).0

pub clear_on : (us : List Symbol) (x : Symbol) (vs : List Symbol) → clear us (x ∷ vs) ≡ true → clear (x ∷ us) vs ≡ true
clear_on us x vs e = (and_parts (not (wrong us (x ∷ vs))) (clear (x ∷ us) vs) e).1

pub clear_at : {xs us vs : List Symbol} → Place xs us vs → clear [] xs ≡ true → clear us vs ≡ true
clear_at front e = e
clear_at (after {us = us} {vs = vs} x p) e = clear_on us x vs (clear_at p e)

abbrev pub Somewhere : List Symbol → Type 0
Somewhere xs = (us : List Symbol) × (vs : List Symbol) × Place xs us vs × (wrong us vs ≡ true)

pub clear_or : (xs us vs : List Symbol) → Place xs us vs → (clear us vs ≡ true) ⊎ Somewhere xs
clear_or xs us [] p = go (wrong us []) refl
  where
    go : (b : Bool) → wrong us [] ≡ b → (not (wrong us []) ≡ true) ⊎ Somewhere xs
    go true e = inr (us, [], p, e)
    go false e = inl (rw e)
clear_or xs us (x ∷ vs) p = go (wrong us (x ∷ vs)) refl (clear_or xs (x ∷ us) vs (after x p))
  where
    go : (b : Bool) → wrong us (x ∷ vs) ≡ b → (clear (x ∷ us) vs ≡ true) ⊎ Somewhere xs → (clear us (x ∷ vs) ≡ true) ⊎ Somewhere xs
    go true e h = inr (us, x ∷ vs, p, e)
    go false e (inl h) = inl (rw (e, h))
    go false e (inr h) = inr h

-- ---- the symbols of what the grammar derives
join : {s r : List ℕ} {xs ys : List Symbol} → Symbols s xs → Symbols r ys → Symbols (s ++ r) (xs ++ ys)
join end u = u
join {r = r} (next {s = s} {r = q} h t e) u = next h (join t u) (sym (append_assoc s q r) ∙ ap (λ (l : List ℕ). l ++ r) e)

lone : {s : List ℕ} {x : Symbol} → SymbolText s x → Symbols s (x ∷ [])
lone {s} h = next h end (append-nil s)

-- a piece stands before the place
abbrev Full : List Symbol → Type 0
Full us = (begun us ≡ false) × (hatted us ≡ false)

-- a text of pieces: if what follows them has no cause, nor have they
abbrev Passes : ℕ → List ℕ → Type 0
Passes k s =
    (xs : List Symbol) × Symbols s xs
    × ((us vs : List Symbol) → depth us + k ≡ 8 → ((ts : List Symbol) → depth ts ≡ depth us → Full ts → clear ts vs ≡ true) → clear us (xs ++ vs) ≡ true)

mark_clear : (ts : List Symbol) (m : Mark) (vs : List Symbol) → Full ts → clear (mark m ∷ ts) vs ≡ true → clear ts (mark m ∷ vs) ≡ true
mark_clear ts m vs h e = rw (h.0, h.1, e)

opening_clear : (us vs : List Symbol) → depth us < 8 → clear (opening ∷ us) vs ≡ true → clear us (opening ∷ vs) ≡ true
opening_clear us vs h e = rw (lt-leb 8 (depth us) h, e)

closing_clear : (ts vs : List Symbol) (n : ℕ) → begun ts ≡ false → depth ts ≡ suc n → clear (closing ∷ ts) vs ≡ true → clear ts (closing ∷ vs) ≡ true
closing_clear ts vs n h d e = rw (h, ne_eqb (depth ts) 0 (λ z. omega (arith, d, z)), e)

bar_clear : (ts vs : List Symbol) → begun ts ≡ false → clear (bar ∷ ts) vs ≡ true → clear ts (bar ∷ vs) ≡ true
bar_clear ts vs h e = rw (h, e)

regroup : (us xs ys vs : List Symbol) → clear us (xs ++ (ys ++ vs)) ≡ true → clear us ((xs ++ ys) ++ vs) ≡ true
regroup us xs ys vs e = ap (clear us) (append_assoc xs ys vs) ∙ e

mutual
  piece_passes : {k : ℕ} {s : List ℕ} {t : Tree} → Piece k s t → Passes k s
  piece_passes (single {a = a} h) = (atom a ∷ [], lone (atom_text h), λ us vs d f. f (atom a ∷ us) refl (refl, refl))
  piece_passes (grouped {k = k} a e) =
      let q = alternatives_pass a in (
        opening ∷ (q.0 ++ (closing ∷ [])),
        next opening_text (join q.1 (lone closing_text)) e,
        λ us vs d f. opening_clear us ((q.0 ++ (closing ∷ [])) ++ vs) (omega (arith, d))
            (regroup (opening ∷ us) q.0 (closing ∷ []) vs (q.2 (opening ∷ us) (closing ∷ vs) (omega (arith, d)) (λ ts g h. closing_clear ts vs (depth us) h.0 g (f (closing ∷ ts) (omega (arith, g)) (refl, refl))))),
      )
  piece_passes (marked m p e) =
      let q = piece_passes p in (
        q.0 ++ (mark m ∷ []),
        rw e at (join q.1 (lone (mark_text m))),
        λ us vs d f. regroup us q.0 (mark m ∷ []) vs (q.2 us (mark m ∷ vs) d (λ ts g h. mark_clear ts m vs h (f (mark m ∷ ts) g (refl, refl)))),
      )

  branch_passes : {k : ℕ} {s : List ℕ} {t : Tree} → Branch k s t → Passes k s
  branch_passes (last-piece p) = piece_passes p
  branch_passes (then p b e) =
      let q = piece_passes p in
      let w = branch_passes b in (
        q.0 ++ w.0,
        rw e at (join q.1 w.1),
        λ us vs d f. regroup us q.0 w.0 vs (q.2 us (w.0 ++ vs) d (λ ts g h. w.2 ts vs (omega (arith, g, d)) (λ rs i j. f rs (i ∙ g) j))),
      )

  alternatives_pass : {k : ℕ} {s : List ℕ} {t : Tree} → Alternatives k s t → Passes k s
  alternatives_pass (only b) = branch_passes b
  alternatives_pass (either b a e) =
      let q = branch_passes b in
      let w = alternatives_pass a in (
        q.0 ++ (bar ∷ w.0),
        rw e at (join q.1 (next bar_text w.1 refl)),
        λ us vs d f. regroup us q.0 (bar ∷ w.0) vs (q.2 us (bar ∷ (w.0 ++ vs)) d (λ ts g h. bar_clear ts (w.0 ++ vs) h.0 (w.2 (bar ∷ ts) vs (omega (arith, g, d)) (λ rs i j. f rs (i ∙ g) j)))),
      )

-- ---- with the anchors, outside all groups
hat_passes : {may sf : Bool} {a : List ℕ} → Edge 94 may a sf → (xs : List Symbol) × Symbols a xs
    × ((us vs : List Symbol) → depth us ≡ 0 → (may ≡ true → us ≡ []) → ((ts : List Symbol) → depth ts ≡ 0 → (not sf ≡ true → begun ts ≡ false) → clear ts vs ≡ true) → clear us (xs ++ vs) ≡ true)
hat_passes free = ([], end, λ us vs d g f. f us d (λ e. false_true e))
hat_passes (bound m) = (hat ∷ [], lone hat_text, λ us vs d g f. rw (g m) (f (hat ∷ []) refl (λ e. refl)))

body_passes : {s : List ℕ} {h : Bool} {t : Tree} → Body s h t → (xs : List Symbol) × Symbols s xs
    × ((us vs : List Symbol) → depth us ≡ 0 → ((ts : List Symbol) → depth ts ≡ 0 → (begun us ≡ false → begun ts ≡ false) → (h ≡ true → begun ts ≡ false) → clear ts vs ≡ true) → clear us (xs ++ vs) ≡ true)
body_passes nothing = ([], end, λ us vs d f. f us d (λ e. e) (λ e. false_true e))
body_passes (something b) = let q = branch_passes b in (q.0, q.1, λ us vs d f. q.2 us vs (omega (arith, d)) (λ ts g h. f ts (g ∙ d) (λ e. h.0) (λ e. h.0)))

dollar_passes : {ef : Bool} {e : List ℕ} → Edge 36 true e ef → (xs : List Symbol) × Symbols e xs
    × ((us : List Symbol) → depth us ≡ 0 → (not ef ≡ false → begun us ≡ false) → clear us xs ≡ true)
dollar_passes free = ([], end, λ us d f. rw (f refl, d))
dollar_passes (bound m) = (dollar ∷ [], lone dollar_text, λ us d f. rw d)

one_of : {A : Type 0} (a b c : Bool) → (a || (b || c)) ≡ true → c ≡ false → (a ≡ true → A) → (b ≡ true → A) → A
one_of true b c e f g h = g refl
one_of false true c e f g h = h refl
one_of false false c e f g h = true_false (sym e ∙ f)

one_of_two : {A : Type 0} (a b : Bool) → (a || b) ≡ true → (a ≡ true → A) → (b ≡ true → A) → A
one_of_two true b e g h = g refl
one_of_two false b e g h = h e

pub pattern_passes : {may : Bool} {z : List ℕ} {bs : List Anchored} → Pattern may z bs → (xs : List Symbol) × Symbols z xs
    × ((us : List Symbol) → depth us ≡ 0 → (may ≡ true → us ≡ []) → clear us xs ≡ true)
pattern_passes (final {sf = sf} {ef = ef} {has = has} g p d o e) =
    let a = hat_passes g in
    let b = body_passes p in
    let c = dollar_passes d in (
      a.0 ++ (b.0 ++ c.0),
      rw e at (join a.1 (join b.1 c.1)),
      λ us h i. a.2 us (b.0 ++ c.0) h i (λ ts j k. b.2 ts c.0 j (λ rs l m n. c.2 rs l (λ q. one_of has (not sf) (not ef) o q n (λ r. m (k r))))),
    )
pattern_passes (further {sf = sf} {has = has} g p o w e) =
    let a = hat_passes g in
    let b = body_passes p in
    let c = pattern_passes w in (
      a.0 ++ (b.0 ++ (bar ∷ c.0)),
      rw e at (join a.1 (join b.1 (next bar_text c.1 refl))),
      λ us h i. a.2 us (b.0 ++ (bar ∷ c.0)) h i
          (λ ts j k. b.2 ts (bar ∷ c.0) j (λ rs l m n. bar_clear rs c.0 (one_of_two has (not sf) o n (λ r. m (k r))) (c.2 (bar ∷ rs) l (λ q. false_true q)))),
    )
