-- The shape of a derived tree, as the automaton asks for it. Assumes nothing.
use mathlib.Core.Path.{refl}
use mathlib.Core.Bool.{Bool}
use mathlib.Core.List.{List}
use Prim.Native.Nat.{ℕ, zero, suc}
use Rattle.automaton.specs.Language.{Re, leaf, group as grouping, nil as nothing, seq as then, alt as or, Fresh}
use Rattle.automaton.specs.Pass.{Flat, Alts}
use Rattle.regexp.specs.Language.{Mark, Tree, one, group, repeat, seq, alt, nil}
use Rattle.regexp.specs.Grammar.{Piece, single, grouped, marked, Branch, last, then as both, Alternatives, only, either, Body, nothing as none, something}
use Rattle.regexp.specs.Regex.{remark, re_of}

-- ---- no tree has a mark of the automaton
fresh_remark : (m : Mark) (t : Re) → Fresh t → Fresh (remark m t)
fresh_remark m (leaf f r o x) h = h
fresh_remark m (grouping r o t) h = h
fresh_remark m nothing h = h
fresh_remark m (then p q) h = h
fresh_remark m (or p q) h = h

pub fresh : (t : Tree) → Fresh (re_of t)
fresh (one a) = refl
fresh (group t) = fresh t
fresh (repeat m t) = fresh_remark m (re_of t) (fresh t)
fresh (seq t u) = (fresh t, fresh u)
fresh (alt t u) = (fresh t, fresh u)
fresh nil = tt

-- ---- what a repeat mark may follow
abbrev pub Markable : Re → Type 0
Markable (leaf f r o x) = Unit {0}
Markable (grouping r o t) = Unit {0}
Markable nothing = ⊥
Markable (then p q) = ⊥
Markable (or p q) = ⊥

pub markable_still : (m : Mark) (t : Re) → Markable t → Markable (remark m t)
markable_still m (leaf f r o x) h = tt
markable_still m (grouping r o t) h = tt
markable_still m nothing h = h
markable_still m (then p q) h = absurd h
markable_still m (or p q) h = absurd h

piece_markable : {k : ℕ} {s : List ℕ} {t : Tree} → Piece k s t → Markable (re_of t)
piece_markable (single a) = tt
piece_markable (grouped a e) = tt
piece_markable (marked {t = t} m p e) = markable_still m (re_of t) (piece_markable p)

-- ---- groups to depth 8
flat_remark : (m : Mark) (t : Re) (k : ℕ) → Markable t → Flat t k → Flat (remark m t) k
flat_remark m (leaf f r o x) k g h = h
flat_remark m (grouping r o t) zero g h = h
flat_remark m (grouping r o t) (suc k) g h = h
flat_remark m nothing k g h = h
flat_remark m (then p q) k g h = absurd g
flat_remark m (or p q) k g h = absurd g

flat_alts : (t : Re) (k : ℕ) → Flat t k → Alts t k
flat_alts (leaf f r o m) k h = h
flat_alts (grouping r o t) zero h = h
flat_alts (grouping r o t) (suc k) h = h
flat_alts nothing k h = h
flat_alts (then p q) k h = h
flat_alts (or p q) k h = absurd h

mutual
  flat_piece : {k : ℕ} {s : List ℕ} {t : Tree} → Piece k s t → Flat (re_of t) k
  flat_piece (single a) = tt
  flat_piece (grouped a e) = flat_alternatives a
  flat_piece {k} (marked {t = t} m p e) = flat_remark m (re_of t) k (piece_markable p) (flat_piece p)

  flat_branch : {k : ℕ} {s : List ℕ} {t : Tree} → Branch k s t → Flat (re_of t) k
  flat_branch (last p) = flat_piece p
  flat_branch (both p b e) = (flat_piece p, flat_branch b)

  flat_alternatives : {k : ℕ} {s : List ℕ} {t : Tree} → Alternatives k s t → Alts (re_of t) k
  flat_alternatives {k} {s} {t} (only b) = flat_alts (re_of t) k (flat_branch b)
  flat_alternatives (either b a e) = (flat_branch b, flat_alternatives a)

pub flat : {s : List ℕ} {h : Bool} {t : Tree} → Body s h t → Flat (re_of t) 8
flat none = tt
flat (something b) = flat_branch b
