-- What the grammar derives is read through. Assumes nothing.
use mathlib.Core.Path.{◌≡◌, refl, sym, ap, ◌∙◌}
use mathlib.Core.Bool.{Bool}
use mathlib.Core.List.{List, [], ◌∷◌, ◌++◌, append_assoc}
use Prim.Native.Nat.{ℕ, suc}
use Rattle.regexp.specs.Language.{Tree, group}
use Rattle.regexp.specs.Grammar.{byte_of, Piece, single, grouped, marked, Branch, last, then, Alternatives, only, either, Body, nothing, something}
use Rattle.regexp.specs.Words.{Word}
use Rattle.regexp.specs.Scan.{Frame, frame, spot, Now, goes, sequence, choice, next, advance, Steps, here, there, start, tree_of, has}
use Rattle.regexp.proofs.Told.{atom_word, mark_word}

pub chain : {x y z : Now} → Steps x y → Steps y z → Steps x z
chain (here e) q = rw e q
chain (there e p) q = there e (chain p q)

-- one word
pub step : {x y : Now} → advance x ≡ y → Steps x y
step e = there e (here refl)

from : {x y z : Now} → x ≡ y → Steps y z → Steps x z
from e q = rw e q

-- another way to write the text
along : {s z : List ℕ} {k : ℕ} {bs ps : List Tree} {out : List Frame} {y : Now} → z ≡ s → Steps (goes s (spot k bs ps out)) y → Steps (goes z (spot k bs ps out)) y
along {k = k} {bs = bs} {ps = ps} {out = out} e p = from (ap (λ (l : List ℕ). goes l (spot k bs ps out)) e) p

mutual
  piece_goes : {k : ℕ} {s : List ℕ} {t : Tree} → Piece k s t → (r : List ℕ) (bs ps : List Tree) (out : List Frame) →
      Steps (goes (s ++ r) (spot k bs ps out)) (goes r (spot k bs (t ∷ ps) out))
  piece_goes {k} (single a) r bs ps out = step (ap (λ (w : Word). next w (spot k bs ps out)) (atom_word a r))
  piece_goes (grouped {k = k} {s = s} a e) r bs ps out =
      let q = alternatives_go a (41 ∷ r) [] (frame bs ps) out in
      along (ap (λ (l : List ℕ). l ++ r) (sym e) ∙ ap (λ (l : List ℕ). 40 ∷ l) (append_assoc s (41 ∷ []) r))
      (there refl (chain q.3 (step (ap (λ (u : Tree). goes r (spot (suc k) bs (group u ∷ ps) out)) q.4))))
  piece_goes {k} (marked {s = s} {t = t} m p e) r bs ps out =
      along (ap (λ (l : List ℕ). l ++ r) (sym e) ∙ append_assoc s (byte_of m ∷ []) r)
      (chain (piece_goes p (byte_of m ∷ r) bs ps out) (step (ap (λ (w : Word). next w (spot k bs (t ∷ ps) out)) (mark_word m r))))

  branch_goes : {k : ℕ} {s : List ℕ} {t : Tree} → Branch k s t → (r : List ℕ) (bs ps : List Tree) (out : List Frame) →
      (u : Tree) × (qs : List Tree) × Steps (goes (s ++ r) (spot k bs ps out)) (goes r (spot k bs (u ∷ qs) out)) × (sequence u qs ≡ sequence t ps)
  branch_goes (last {t = t} p) r bs ps out = (t, ps, piece_goes p r bs ps out, refl)
  branch_goes (then {s = s} {r = v} {t = t} p b e) r bs ps out =
      let q = branch_goes b r bs (t ∷ ps) out in (
        q.0,
        q.1,
        along (ap (λ (l : List ℕ). l ++ r) (sym e) ∙ append_assoc s v r) (chain (piece_goes p (v ++ r) bs ps out) q.2),
        q.3,
      )

  alternatives_go : {k : ℕ} {s : List ℕ} {t : Tree} → Alternatives k s t → (r : List ℕ) (bs : List Tree) (f : Frame) (out : List Frame) →
      (u : Tree) × (qs : List Tree) × (cs : List Tree) × Steps (goes (s ++ r) (spot k bs [] (f ∷ out))) (goes r (spot k cs (u ∷ qs) (f ∷ out))) × (choice (sequence u qs) cs ≡ choice t bs)
  alternatives_go (only b) r bs f out =
      let q = branch_goes b r bs [] (f ∷ out) in
      (q.0, q.1, bs, q.2, ap (λ (u : Tree). choice u bs) q.3)
  alternatives_go {k} (either {s = s} {r = v} {t = t} b a e) r bs f out =
      let q = branch_goes b (124 ∷ (v ++ r)) bs [] (f ∷ out) in
      let w = alternatives_go a r (t ∷ bs) f out in (
        w.0,
        w.1,
        w.2,
        along (ap (λ (l : List ℕ). l ++ r) (sym e) ∙ append_assoc s (124 ∷ v) r)
            (chain q.2 (there (ap (λ (x : Tree). goes (v ++ r) (spot k (x ∷ bs) [] (f ∷ out))) q.3) w.3)),
        w.4,
      )

pub body_goes : {s : List ℕ} {h : Bool} {t : Tree} → Body s h t → (r : List ℕ) →
    (ps : List Tree) × Steps (goes (s ++ r) start) (goes r (spot 8 [] ps [])) × (tree_of ps ≡ t) × (has ps ≡ h)
body_goes nothing r = ([], here refl, refl, refl)
body_goes (something b) r = let q = branch_goes b r [] [] [] in (q.0 ∷ q.1, q.2, q.3, refl)
