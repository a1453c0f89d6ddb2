-- The words of a branch, one after the other. Assumes nothing.
use mathlib.Core.Path.{◌≡◌, refl, sym, ap, ◌∙◌}
use mathlib.Core.Bool.{Bool, true, false}
use mathlib.Core.List.{List, [], ◌∷◌}
use Prim.Native.Nat.{ℕ, suc, ◌+◌, ◌-◌, ◌<◌}
use native.Mathlib.Numerals.{add-one}
use native.Mathlib.Omega.{arith}
use lib.ListN.{length, drop}
use Rattle.common.proofs.Choice.{true_false}
use Rattle.regexp.specs.Language.{Atom, Mark, Tree, one, group, repeat}
use Rattle.regexp.specs.Words.{Word, item, repeats, opening, bars, closing, word_of, ends}
use Rattle.regexp.specs.Scan.{Frame, frame, spot, Now, goes, stuck, sequence, choice, next, Steps, here, start, has, read, broken, branch_of, ends_at}
use Rattle.regexp.proofs.Forth.{chain, step}
use Rattle.regexp.proofs.Scans.{ends_there, breaks_there}

-- from an index to another, where room more groups may open and the branch so far has a piece or not
abbrev pub Walks : List ℕ → ℕ → ℕ → Bool → ℕ → Type 0
Walks text from room some i =
    (bs : List Tree) × (ps : List Tree) × (out : List Frame)
    × Steps (goes (drop from text) start) (goes (drop i text) (spot room bs ps out)) × (some ≡ has ps) × (room + length out ≡ 8)

pub walk_start : (text : List ℕ) (from : ℕ) → Walks text from 8 false from
walk_start text from = ([], [], [], here refl, refl, refl)

module _ (text : List ℕ) (from room : ℕ) (some : Bool) (i : ℕ) (s : Walks text from room some i) where
  moved : {bs ps : List Tree} {out : List Frame} {w : Word} {y : Now} → Steps (goes (drop from text) start) (goes (drop i text) (spot room bs ps out)) → word_of (drop i text) ≡ w → next w (spot room bs ps out) ≡ y
      → Steps (goes (drop from text) start) y
  moved {bs} {ps} {out} p w e = chain p (step (ap (λ (v : Word). next v (spot room bs ps out)) w ∙ e))

  pub item_walk : (a : Atom) (j : ℕ) → word_of (drop i text) ≡ item a (drop j text) → Walks text from room true j
  item_walk a j w = (s.0, one a ∷ s.1, s.2, moved s.3 w refl, refl, s.5)

  pub repeat_walk : (m : Mark) → word_of (drop i text) ≡ repeats m (drop (i + 1) text) → some ≡ true → Walks text from room some (i + 1)
  repeat_walk m w e = go s.1 s.3 s.4
    where
      go : (qs : List Tree) → Steps (goes (drop from text) start) (goes (drop i text) (spot room s.0 qs s.2)) → some ≡ has qs → Walks text from room some (i + 1)
      go [] p f = true_false (sym e ∙ f)
      go (t ∷ qs) p f = (s.0, repeat m t ∷ qs, s.2, moved p w refl, e, s.5)

  pub open_walk : word_of (drop i text) ≡ opening (drop (i + 1) text) → 0 < room → Walks text from (room - 1) false (i + 1)
  open_walk w h = go room (room - 1) (omega arith) s.3 s.5
    where
      go : (r k : ℕ) → r ≡ suc k → Steps (goes (drop from text) start) (goes (drop i text) (spot r s.0 s.1 s.2)) → r + length s.2 ≡ 8 → Walks text from k false (i + 1)
      go r k e p l =
          let q : Steps (goes (drop from text) start) (goes (drop i text) (spot (suc k) s.0 s.1 s.2)) = (rw e at p) in
          ([], [], frame s.0 s.1 ∷ s.2, chain q (step (ap (λ (v : Word). next v (spot (suc k) s.0 s.1 s.2)) w)), refl, omega arith)

  pub bar_walk : word_of (drop i text) ≡ bars (drop (i + 1) text) → (room ≡ 8 → ⊥) → some ≡ true → Walks text from room false (i + 1)
  bar_walk w h e = go s.1 s.2 s.3 s.4 s.5
    where
      go : (qs : List Tree) (fs : List Frame) → Steps (goes (drop from text) start) (goes (drop i text) (spot room s.0 qs fs)) → some ≡ has qs → room + length fs ≡ 8 → Walks text from room false (i + 1)
      go qs [] p f l = absurd (h (omega arith))
      go [] (g ∷ fs) p f l = true_false (sym e ∙ f)
      go (t ∷ qs) (g ∷ fs) p f l = (sequence t qs ∷ s.0, [], g ∷ fs, moved p w refl, refl, l)

  pub close_walk : word_of (drop i text) ≡ closing (drop (i + 1) text) → (room ≡ 8 → ⊥) → some ≡ true → Walks text from (room + 1) some (i + 1)
  close_walk w h e = go s.1 s.2 s.3 s.4 s.5
    where
      go : (qs : List Tree) (fs : List Frame) → Steps (goes (drop from text) start) (goes (drop i text) (spot room s.0 qs fs)) → some ≡ has qs → room + length fs ≡ 8 → Walks text from (room + 1) some (i + 1)
      go qs [] p f l = absurd (h (omega arith))
      go [] (g ∷ fs) p f l = true_false (sym e ∙ f)
      go (t ∷ qs) (frame cs us ∷ fs) p f l = (cs, group (choice (sequence t qs) s.0) ∷ us, fs, rw (add-one room) (moved p w refl), e, omega arith)

  pub room_inside : (room ≡ 8 → ⊥) → room < 8
  room_inside h = omega (arith, s.5, h)

  pub walk_end : ends (word_of (drop i text)) ≡ true → room ≡ 8 → (branch_of (drop from text) ≡ read s.1 (drop i text)) × (s.2 ≡ [])
  walk_end h e = go s.2 s.3 s.5
    where
      go : (fs : List Frame) → Steps (goes (drop from text) start) (goes (drop i text) (spot room s.0 s.1 fs)) → room + length fs ≡ 8 → (branch_of (drop from text) ≡ read s.1 (drop i text)) × (fs ≡ [])
      go [] p l = (ends_there p h, refl)
      go (f ∷ fs) p l = absurd (omega arith)

  pub walk_broken : ((bs ps : List Tree) (out : List Frame) → some ≡ has ps → room + length out ≡ 8 → (next (word_of (drop i text)) (spot room bs ps out) ≡ stuck) × (ends_at (word_of (drop i text)) (spot room bs ps out) ≡ false))
      → branch_of (drop from text) ≡ broken
  walk_broken h = let q = h s.0 s.1 s.2 s.4 s.5 in breaks_there s.3 q.1 q.0
