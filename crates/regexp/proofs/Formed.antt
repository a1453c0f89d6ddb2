-- A text whose symbols have no cause is a pattern. Assumes nothing.
use mathlib.Core.Path.{◌≡◌, refl, sym, ap, ◌∙◌}
use mathlib.Core.Bool.{Bool, true, false, not, ◌||◌, or-true, or-false}
use mathlib.Core.List.{List, [], ◌∷◌, ◌++◌}
use Prim.Native.Nat.{ℕ, zero, suc, ◌+◌, ◌<◌}
use native.Mathlib.Omega.{arith}
use lib.Dec.{eqb, ltb}
use lib.ListN.{length}
use borrow.Author.Tests.{ltb-false, leb-false, eqb-false}
use Rattle.common.proofs.Choice.{true_false, false_true}
use Rattle.octets.proofs.Places.{neither}
use Rattle.automaton.proofs.Marks.{or_left, or_right}
use Rattle.regexp.specs.Language.{Atom, Mark, Tree, one, group, repeat, Anchored, anchored}
use Rattle.regexp.specs.Grammar.{Body, Edge, free, bound, Pattern, final, further}
use Rattle.regexp.specs.Causes.{Symbol, atom, mark, opening, closing, bar, hat, dollar, atom_text, mark_text, opening_text, closing_text, bar_text, hat_text, dollar_text, Symbols, end, next, depth}
use Rattle.regexp.specs.Words.{Word, item, repeats, opening as opens, bars, closing as closes, word_of}
use Rattle.regexp.specs.Scan.{Frame, frame, spot, Now, goes, sequence, choice, next as advanced, Steps, here, start, tree_of, has}
use Rattle.regexp.proofs.Told.{atom_word, mark_word}
use Rattle.regexp.proofs.Forth.{chain, step}
use Rattle.regexp.proofs.Back.{read_body}
use Rattle.regexp.proofs.Causes.{begun, hatted, clear, clear_here, clear_on}

no_nil : {A : Type 0} (x : Symbol) (us : List Symbol) → ◌≡◌ {A = List Symbol} (x ∷ us) [] → A
no_nil x us e = let y : ◌≡◌ {A = ℕ} 0 1 = cc in absurd (omega arith)

-- ---- a branch whose text begins at `text`, read up to z, behind the symbols us
abbrev Run : List Symbol → List ℕ → List ℕ → Type 0
Run us text z =
    (k : ℕ) × (bs : List Tree) × (ps : List Tree) × (out : List Frame) × Steps (goes text start) (goes z (spot k bs ps out)) × (length out ≡ depth us) × (k + depth us ≡ 8)
    × (begun us ≡ false → hatted us ≡ false → has ps ≡ true) × (hatted us ≡ true → depth us ≡ 0)

fresh : (us : List Symbol) (z : List ℕ) → depth us ≡ 0 → (begun us ≡ false → hatted us ≡ true) → Run us z z
fresh us z d b = (8, [], [], [], here refl, sym d, omega (arith, d), λ e f. true_false (sym (b e) ∙ f), λ e. d)

module _ (us : List Symbol) {text z : List ℕ} (s : Run us text z) where
  on : {k : ℕ} {w : Word} {y : Now} (qs : List Tree) (fs : List Frame) → Steps (goes text start) (goes z (spot k s.1 qs fs)) → word_of z ≡ w → advanced w (spot k s.1 qs fs) ≡ y → Steps (goes text start) y
  on {k} qs fs h w e = chain h (step (ap (λ (v : Word). advanced v (spot k s.1 qs fs)) w ∙ e))

  atom_on : (a : Atom) (r : List ℕ) → word_of z ≡ item a r → Run (atom a ∷ us) text r
  atom_on a r w = (s.0, s.1, one a ∷ s.2, s.3, on s.2 s.3 s.4 w refl, s.5, s.6, λ e f. refl, λ e. false_true e)

  mark_on : (m : Mark) (r : List ℕ) → word_of z ≡ repeats m r → has s.2 ≡ true → Run (mark m ∷ us) text r
  mark_on m r w e = go s.2 s.4 e
    where
      go : (qs : List Tree) → Steps (goes text start) (goes z (spot s.0 s.1 qs s.3)) → has qs ≡ true → Run (mark m ∷ us) text r
      go [] h f = false_true f
      go (t ∷ qs) h f = (s.0, s.1, repeat m t ∷ qs, s.3, on (t ∷ qs) s.3 h w refl, s.5, s.6, λ e f. refl, λ e. false_true e)

  opening_on : (r : List ℕ) → word_of z ≡ opens r → depth us < 8 → Run (opening ∷ us) text r
  opening_on r w l = go s.0 s.4 s.6
    where
      go : (k : ℕ) → Steps (goes text start) (goes z (spot k s.1 s.2 s.3)) → k + depth us ≡ 8 → Run (opening ∷ us) text r
      go zero h f = absurd (omega (arith, l, f))
      go (suc k) h f = (k, [], [], frame s.1 s.2 ∷ s.3, on s.2 s.3 h w refl, ap suc s.5, omega (arith, f), λ e f. true_false e, λ e. false_true e)

  -- in a group
  module _ (n : ℕ) (d : depth us ≡ suc n) (b : begun us ≡ false) where
    filled : has s.2 ≡ true
    filled = go (hatted us) refl
      where
        go : (x : Bool) → hatted us ≡ x → has s.2 ≡ true
        go true e = let f = s.8 e in absurd (omega (arith, d, f))
        go false e = s.7 b e

    bar_on : (r : List ℕ) → word_of z ≡ bars r → Run (bar ∷ us) text r
    bar_on r w = go s.2 s.3 s.4 filled s.5
      where
        go : (qs : List Tree) (fs : List Frame) → Steps (goes text start) (goes z (spot s.0 s.1 qs fs)) → has qs ≡ true → length fs ≡ depth us → Run (bar ∷ us) text r
        go qs [] h f l = absurd (omega (arith, d, l))
        go [] (g ∷ fs) h f l = false_true f
        go (t ∷ qs) (g ∷ fs) h f l = (s.0, sequence t qs ∷ s.1, [], g ∷ fs, on (t ∷ qs) (g ∷ fs) h w refl, l, s.6, λ e f. true_false e, λ e. false_true e)

    closing_on : (r : List ℕ) → word_of z ≡ closes r → Run (closing ∷ us) text r
    closing_on r w = go s.2 s.3 s.4 filled s.5
      where
        go : (qs : List Tree) (fs : List Frame) → Steps (goes text start) (goes z (spot s.0 s.1 qs fs)) → has qs ≡ true → length fs ≡ depth us → Run (closing ∷ us) text r
        go qs [] h f l = absurd (omega (arith, d, l))
        go [] (g ∷ fs) h f l = false_true f
        go (t ∷ qs) (frame cs us ∷ fs) h f l =
            (suc s.0, cs, group (choice (sequence t qs) s.1) ∷ us, fs, on (t ∷ qs) (frame cs us ∷ fs) h w refl, omega (arith, l, d), omega (arith, s.6, d), λ e f. refl, λ e. false_true e)

  -- outside all groups
  body : depth us ≡ 0 → (q : List ℕ) × Body q (has s.2) (tree_of s.2) × (q ++ z ≡ text)
  body d = go s.3 s.4 s.5
    where
      go : (fs : List Frame) → Steps (goes text start) (goes z (spot s.0 s.1 s.2 fs)) → length fs ≡ depth us → (q : List ℕ) × Body q (has s.2) (tree_of s.2) × (q ++ z ≡ text)
      go [] h l = read_body h
      go (f ∷ fs) h l = absurd (omega (arith, d, l))

-- ---- and its `^`, if there is one, in the text p
abbrev Led : List Symbol → Bool → List ℕ → List ℕ → List ℕ → Type 0
Led us may p text z =
    (sf : Bool) × (a : List ℕ) × Edge 94 may a sf × (a ++ text ≡ p) × (hatted us ≡ true → not sf ≡ true) × (us ≡ [] → (may ≡ true) × (z ≡ p))

led_on : (us : List Symbol) {may : Bool} {p text z : List ℕ} (x : Symbol) (r : List ℕ) → hatted (x ∷ us) ≡ false → Led us may p text z → Led (x ∷ us) may p text r
led_on us x r e l = (l.0, l.1, l.2, l.3, λ f. true_false (sym f ∙ e), λ f. no_nil x us f)

abbrev Formed : Bool → List ℕ → Type 0
Formed may p = (cs : List Anchored) × Pattern may p cs

module _ (us : List Symbol) {may : Bool} {p text z : List ℕ} (l : Led us may p text z) (s : Run us text z) where
  held : begun us ≡ false → (has s.2 || not l.0) ≡ true
  held b = go (hatted us) refl
    where
      go : (x : Bool) → hatted us ≡ x → (has s.2 || not l.0) ≡ true
      go true e = or_right (has s.2) (not l.0) (l.4 e)
      go false e = or_left (has s.2) (not l.0) (s.7 b e)

  module _ (d : depth us ≡ 0) where
    placed : (e : List ℕ) → z ≡ e → l.1 ++ ((body us s d).0 ++ e) ≡ p
    placed e f = ap (λ (q : List ℕ). l.1 ++ ((body us s d).0 ++ q)) (sym f) ∙ ap (λ (q : List ℕ). l.1 ++ q) (body us s d).2 ∙ l.3

    at_end : begun us ≡ false → z ≡ [] → Formed may p
    at_end b e = (anchored l.0 true (tree_of s.2) ∷ [], final l.2 (body us s d).1 free (rw (or-false (not l.0)) (held b)) (placed [] e))

    at_dollar : z ≡ 36 ∷ [] → Formed may p
    at_dollar e = (anchored l.0 false (tree_of s.2) ∷ [], final l.2 (body us s d).1 (bound refl) (rw (or-true (not l.0)) (or-true (has s.2))) (placed (36 ∷ []) e))

    at_bar : (r : List ℕ) → begun us ≡ false → z ≡ 124 ∷ r → Formed false r → Formed may p
    at_bar r b e f = (anchored l.0 true (tree_of s.2) ∷ f.0, further l.2 (body us s d).1 (held b) f.1 (placed (124 ∷ r) e))

-- ---- symbol by symbol
none_open : (us : List Symbol) → ltb 0 (depth us) ≡ false → depth us ≡ 0
none_open us e = let h = ltb-false 0 (depth us) e in omega (arith, h)

no_dollar : (us : List Symbol) (x : Symbol) (vs : List Symbol) → clear us (dollar ∷ (x ∷ vs)) ≡ true → ⊥
no_dollar us x vs c = true_false (clear_here us (dollar ∷ (x ∷ vs)) c)

build : {z : List ℕ} {xs : List Symbol} → Symbols z xs → (us : List Symbol) → clear us xs ≡ true → (may : Bool) (p text : List ℕ) → Led us may p text z → Run us text z → Formed may p
build end us c may p text l s =
    let w = neither (begun us) (ltb 0 (depth us)) (clear_here us [] c) in
    at_end us l s (none_open us w.1) w.0 refl
build (next {r = r} {xs = xs} (atom_text {a = a} h) t e) us c may p text l s =
    build t (atom a ∷ us) (clear_on us (atom a) xs c) may p text (led_on us (atom a) r refl l) (atom_on us s a r (ap word_of (sym e) ∙ atom_word h r))
build (next {r = r} {xs = xs} (mark_text m) t e) us c may p text l s =
    let w = neither (begun us) (hatted us) (clear_here us (mark m ∷ xs) c) in
    build t (mark m ∷ us) (clear_on us (mark m) xs c) may p text (led_on us (mark m) r refl l) (mark_on us s m r (ap word_of (sym e) ∙ mark_word m r) (s.7 w.0 w.1))
build (next {r = r} {xs = xs} opening_text t e) us c may p text l s =
    build t (opening ∷ us) (clear_on us opening xs c) may p text (led_on us opening r refl l) (opening_on us s r (ap word_of (sym e)) (leb-false 8 (depth us) (clear_here us (opening ∷ xs) c)))
build (next {r = r} {xs = xs} closing_text t e) us c may p text l s =
    let w = neither (begun us) (eqb (depth us) 0) (clear_here us (closing ∷ xs) c) in
    go (depth us) refl w.1 (λ n d. build t (closing ∷ us) (clear_on us closing xs c) may p text (led_on us closing r refl l) (closing_on us s n d w.0 r (ap word_of (sym e))))
  where
    go : (n : ℕ) → depth us ≡ n → eqb (depth us) 0 ≡ false → ((n : ℕ) → depth us ≡ suc n → Formed may p) → Formed may p
    go zero d f k = absurd (eqb-false (depth us) 0 f d)
    go (suc n) d f k = k n d
build (next {r = r} {xs = xs} bar_text t e) us c may p text l s =
    go (depth us) refl (λ n d. build t (bar ∷ us) (clear_on us bar xs c) may p text (led_on us bar r refl l) (bar_on us s n d (clear_here us (bar ∷ xs) c) r (ap word_of (sym e))))
    (λ d. at_bar us l s d r (clear_here us (bar ∷ xs) c) (sym e) (build t (bar ∷ us) (clear_on us bar xs c) false r r (true, [], free, refl, λ f. false_true f, λ f. no_nil bar us f) (fresh (bar ∷ us) r d (λ f. true_false f))))
  where
    go : (n : ℕ) → depth us ≡ n → ((n : ℕ) → depth us ≡ suc n → Formed may p) → (depth us ≡ 0 → Formed may p) → Formed may p
    go zero d k j = j d
    go (suc n) d k j = k n d
build (next {r = r} {xs = xs} hat_text t e) [] c may p text l s =
    let f = l.5 refl in
    build t (hat ∷ []) (clear_on [] hat xs c) may p r (false, 94 ∷ [], bound f.0, e ∙ f.1, λ g. refl, λ g. no_nil hat [] g) (fresh (hat ∷ []) r refl (λ g. refl))
build (next {xs = xs} hat_text t e) (x ∷ us) c may p text l s = true_false (clear_here (x ∷ us) (hat ∷ xs) c)
build (next dollar_text end e) us c may p text l s =
    let w = neither false (ltb 0 (depth us)) (clear_here (dollar ∷ us) [] (clear_on us dollar [] c)) in
    at_dollar us l s (none_open us w.1) (sym e)
build (next dollar_text (next {x = y} {xs = ys} h t f) e) us c may p text l s = absurd (no_dollar us y ys c)

pub formed : {p : List ℕ} {xs : List Symbol} → Symbols p xs → clear [] xs ≡ true → Formed true p
formed {p} t c = build t [] c true p p (true, [], free, refl, λ f. false_true f, λ f. (refl, refl)) (fresh [] p refl (λ f. true_false f))
