-- What is computed of a branch is what is read through. Assumes nothing.
use mathlib.Core.Path.{◌≡◌, refl, sym, ap, ◌∙◌}
use mathlib.Core.Bool.{Bool, true, false}
use mathlib.Core.List.{List, [], ◌∷◌, ◌++◌}
use Prim.Native.Nat.{ℕ, zero, suc, ◌<◌}
use native.Mathlib.Omega.{arith}
use lib.ListN.{length, length-append}
use Rattle.common.specs.Choice.{pick}
use Rattle.common.proofs.Choice.{pick_yes, pick_no, false_true}
use Rattle.regexp.specs.Language.{Atom, Tree}
use Rattle.regexp.specs.Grammar.{AtomText, plain_text, any_text, escaped_text, set_text, complement_text, Body}
use Rattle.regexp.specs.Words.{Word, item, repeats, opening, bars, closing, stops, none, word_of, ends}
use Rattle.regexp.specs.Scan.{frame, Spot, spot, Now, goes, stuck, next, advance, Steps, here, there, start, tree_of, has, Scan, read, broken, ends_at, pieces_of, through, branch_of}
use Rattle.regexp.proofs.Told.{Told, told}
use Rattle.regexp.proofs.Forth.{body_goes}
use Rattle.regexp.proofs.Back.{read_body}

-- ---- a step shortens the text
pub atom_long : {s : List ℕ} {a : Atom} → AtomText s a → 0 < length s
atom_long (plain_text b p e) = rw (← e) (omega arith)
atom_long (any_text e) = rw (← e) (omega arith)
atom_long (escaped_text b e) = rw (← e) (omega arith)
atom_long (set_text s h w n e) = rw (← e) (omega arith)
atom_long (complement_text s h w e) = rw (← e) (omega arith)

abbrev Shorter : List ℕ → Now → Type 0
Shorter z (goes r s) = length r < length z
Shorter z stuck = Unit {0}

one_less : (z r : List ℕ) (b : ℕ) → b ∷ r ≡ z → length r < length z
one_less z r b e = rw (← e) (omega arith)

shorter : (z : List ℕ) (w : Word) → Told z w → (s : Spot) → Shorter z (next w s)
shorter z (item a r) h (spot k bs ps out) = omega (arith, atom_long h.1, ap length h.2, length-append h.0 r)
shorter z (repeats m r) h (spot k bs [] out) = tt
shorter z (repeats m r) h (spot k bs (t ∷ ps) out) = one_less z r _ h
shorter z (opening r) h (spot zero bs ps out) = tt
shorter z (opening r) h (spot (suc k) bs ps out) = one_less z r _ h
shorter z (bars r) h (spot k bs ps []) = tt
shorter z (bars r) h (spot k bs [] (f ∷ out)) = tt
shorter z (bars r) h (spot k bs (t ∷ ps) (f ∷ out)) = one_less z r _ h
shorter z (closing r) h (spot k bs ps []) = tt
shorter z (closing r) h (spot k bs [] (f ∷ out)) = tt
shorter z (closing r) h (spot k bs (t ∷ ps) (frame cs qs ∷ out)) = one_less z r _ h
shorter z stops h s = tt
shorter z none h s = tt

-- ---- how many words are allowed does not matter
abbrev Within : Now → ℕ → Type 0
Within (goes z s) n = length z < n
Within stuck n = Unit {0}

through_stuck : (n : ℕ) → through n stuck ≡ broken
through_stuck zero = refl
through_stuck (suc n) = refl

within : (z : List ℕ) (n : ℕ) (x : Now) → Shorter z x → length z < suc n → Within x n
within z n (goes r s) h l = omega arith
within z n stuck h l = tt

same_fuel : (n m : ℕ) (x : Now) → Within x n → Within x m → through n x ≡ through m x
same_fuel zero m (goes z s) h l = absurd (omega arith)
same_fuel zero m stuck h l = sym (through_stuck m)
same_fuel (suc n) m stuck h l = sym (through_stuck m)
same_fuel (suc n) zero (goes z s) h l = absurd (omega arith)
same_fuel (suc n) (suc m) (goes z s) h l =
    let q = shorter z (word_of z) (told z) s in
    ap (λ (y : Scan). pick (ends_at (word_of z) s) (λ _. read (pieces_of s) z) (λ _. y)) (same_fuel n m (next (word_of z) s) (within z n (next (word_of z) s) q h) (within z m (next (word_of z) s) q l))

-- ---- along the steps
pub ends_stuck : (w : Word) (s : Spot) → ends_at w s ≡ true → next w s ≡ stuck
ends_stuck (item a r) (spot k bs ps []) e = false_true e
ends_stuck (repeats m r) (spot k bs ps []) e = false_true e
ends_stuck (opening r) (spot k bs ps []) e = false_true e
ends_stuck (bars r) (spot k bs ps []) e = refl
ends_stuck (closing r) (spot k bs ps []) e = refl
ends_stuck stops (spot k bs ps []) e = refl
ends_stuck none (spot k bs ps []) e = refl
ends_stuck w (spot k bs ps (f ∷ out)) e = false_true e

pub stays : {x y : Now} → x ≡ stuck → Steps x y → y ≡ stuck
stays f (here e) = sym e ∙ f
stays f (there e p) = stays (sym e ∙ ap advance f) p

going : {A : Type 0} (z : List ℕ) (s : Spot) → goes z s ≡ stuck → A
going z s e = let y : ◌≡◌ {A = ℕ} 0 1 = cc in absurd (omega arith)

onward : (x : Now) {z : List ℕ} {s : Spot} → Steps x (goes z s) → (n m : ℕ) → Within x n → length z < m → through n x ≡ through m (goes z s)
onward x {z} {s} (here e) n m h l = ap (through n) e ∙ same_fuel n m (goes z s) (rw e at h) l
onward stuck {z} {s} (there e p) n m h l = going z s (stays (sym e) p)
onward (goes r q) {z} {s} (there e p) zero m h l = absurd (omega arith)
onward (goes r q) {z} {s} (there {y = y} e p) (suc n) m h l =
    go (ends_at (word_of r) q) refl (onward y p n m (within r n y (rw e at (shorter r (word_of r) (told r) q)) h) l)
  where
    go : (b : Bool) → ends_at (word_of r) q ≡ b → through n y ≡ through m (goes z s) → through (suc n) (goes r q) ≡ through m (goes z s)
    go true f k = going z s (stays (sym e ∙ ends_stuck (word_of r) q f) p)
    go false f k = pick_no (ends_at (word_of r) q) _ _ f ∙ ap (through n) e ∙ k

module _ {w z : List ℕ} {s : Spot} (p : Steps (goes w start) (goes z s)) where
  along : branch_of w ≡ pick (ends_at (word_of z) s) (λ _. read (pieces_of s) z) (λ _. through (length z) (next (word_of z) s))
  along = onward (goes w start) p (suc (length w)) (suc (length z)) (omega arith) (omega arith)

  pub ends_there : ends_at (word_of z) s ≡ true → branch_of w ≡ read (pieces_of s) z
  ends_there e = along ∙ pick_yes (ends_at (word_of z) s) _ _ e

  pub breaks_there : ends_at (word_of z) s ≡ false → next (word_of z) s ≡ stuck → branch_of w ≡ broken
  breaks_there e f = along ∙ pick_no (ends_at (word_of z) s) _ _ e ∙ ap (through (length z)) f ∙ through_stuck (length z)

-- ---- and back
abbrev Way : Now → List Tree → List ℕ → Type 0
Way x ps r = (s : Spot) × Steps x (goes r s) × (ends_at (word_of r) s ≡ true) × (pieces_of s ≡ ps)

read_parts : {ps qs : List Tree} {r z : List ℕ} → read ps r ≡ read qs z → (ps ≡ qs) × (r ≡ z)
read_parts e = (cc, cc)

no_read : {A : Type 0} (ps : List Tree) (r : List ℕ) → broken ≡ read ps r → A
no_read ps r e = let y : ◌≡◌ {A = ℕ} 0 1 = cc in absurd (omega arith)

way : (n : ℕ) (x : Now) (ps : List Tree) (r : List ℕ) → through n x ≡ read ps r → Way x ps r
way zero x ps r e = no_read ps r e
way (suc n) stuck ps r e = no_read ps r e
way (suc n) (goes z s) ps r e = go (ends_at (word_of z) s) refl (way n (next (word_of z) s) ps r)
  where
    go : (b : Bool) → ends_at (word_of z) s ≡ b → (through n (next (word_of z) s) ≡ read ps r → Way (next (word_of z) s) ps r) → Way (goes z s) ps r
    go true f k =
        let q = read_parts (sym (pick_yes (ends_at (word_of z) s) (λ _. read (pieces_of s) z) (λ _. through n (next (word_of z) s)) f) ∙ e) in
        let y : goes z s ≡ goes r s = ap (λ (l : List ℕ). goes l s) q.1 in
        (s, here y, ap (λ (l : List ℕ). ends_at (word_of l) s) (sym q.1) ∙ f, q.0)
    go false f k =
        let q = k (sym (pick_no (ends_at (word_of z) s) (λ _. read (pieces_of s) z) (λ _. through n (next (word_of z) s)) f) ∙ e) in
        (q.0, there refl q.1, q.2, q.3)

-- ---- a branch of the grammar
pub body_read : {s : List ℕ} {h : Bool} {t : Tree} → Body s h t → (r : List ℕ) → ends (word_of r) ≡ true → (ps : List Tree) × (branch_of (s ++ r) ≡ read ps r) × (tree_of ps ≡ t) × (has ps ≡ h)
body_read b r e = let q = body_goes b r in (q.0, ends_there q.1 e, q.2, q.3)

renamed : (qs ps : List Tree) (r z : List ℕ) → qs ≡ ps → (s : List ℕ) × Body s (has qs) (tree_of qs) × (s ++ r ≡ z) → (s : List ℕ) × Body s (has ps) (tree_of ps) × (s ++ r ≡ z)
renamed qs ps r z e h = rw e at h

pub read_back : (z : List ℕ) (ps : List Tree) (r : List ℕ) → branch_of z ≡ read ps r → (s : List ℕ) × Body s (has ps) (tree_of ps) × (s ++ r ≡ z)
read_back z ps r e = go (way (suc (length z)) (goes z start) ps r e)
  where
    go : Way (goes z start) ps r → (s : List ℕ) × Body s (has ps) (tree_of ps) × (s ++ r ≡ z)
    go (spot k bs qs [], p, f, g) = renamed qs ps r z g (read_body p)
    go (spot k bs qs (f ∷ out), p, g, h) = false_true g
