-- One pass over a flat table of tokens, in place of a walk of the tree: `Passes` of specs/Theorems.antt says that they are the same.
use Rattle.std.specs.Prelude.{ℕ, zero, suc, ◌+◌, ◌-◌, Bool, true, false, cond, ◌&&◌, ◌||◌, List, [], ◌∷◌, ◌++◌, length, get_or, ltb}
use Rattle.automaton.specs.Language.{Re, leaf, group, nil, seq, alt}
use Rattle.automaton.specs.Marks.{final}
use Rattle.automaton.specs.declared.Level.{Level}

-- A set with its flags; the start of a group that may repeat, with the distance to its end; a bar; the end of a group that may be absent.
pub data Token : Type 0 where
  one : (ℕ → Bool) → Bool → Bool → Token
  opens : Bool → ℕ → Token
  bar : Token
  closes : Bool → Token

-- a group's first branch begins
abbrev pub started : Bool → Level
started k = record { into = k; out = false; none = false; done = false; cur = k; emp = true; fin = false }

-- past one set: it may be absent, it was marked, it is marked now
abbrev pub passed : Level → Bool → Bool → Bool → Level
passed l o was now =
    record {
      into = l.into;
      out = l.out;
      none = l.none;
      done = l.done;
      cur = (l.cur && o) || was;
      emp = l.emp && o;
      fin = (l.fin && o) || now;
    }

-- the next branch begins
abbrev pub barred : Level → Level
barred l =
    record {
      into = l.into;
      out = l.out || l.cur;
      none = l.none || l.emp;
      done = l.done || l.fin;
      cur = l.into;
      emp = true;
      fin = false;
    }

-- the level above, past the group
abbrev pub closed : Level → Level → Bool → Level
closed p l o =
    record {
      into = p.into;
      out = p.out;
      none = p.none;
      done = p.done;
      cur = (p.cur && o) || (l.out || l.cur);
      emp = p.emp && (o || (l.none || l.emp));
      fin = (p.fin && (o || (l.none || l.emp))) || (l.done || l.fin);
    }

-- what the pass leaves: the cells, and the level at the end
pub data Left : Type 0 where
  left : List Bool → Level → Left

abbrev pub onto : List Bool → Left → Left
onto xs (left ys l) = left (xs ++ ys) l

abbrev pub level_of : Left → Level
level_of (left ys l) = l

abbrev pub cells_of : Left → List Bool
cells_of (left ys l) = ys

-- at most 8 levels are kept
abbrev pub push : Level → List Level → List Level
push l s = cond (ltb (length s) 8) (l ∷ s) s

abbrev pub top : List Level → Level
top [] = started false
top (l ∷ s) = l

abbrev pub rest : List Level → List Level
rest [] = []
rest (l ∷ s) = s

-- The pass: tokens and their cells from here on. A set's cell is its mark; that of a group's end says whether a way ended there; the others stay.
abbrev pub pass : List Token → List Bool → ℕ → Level → List Level → Left
pass [] ms c l s = left [] l
pass (x ∷ ts) [] c l s = left [] l
pass (one f r o ∷ ts) (m ∷ ms) c l s =
    onto ((f c && (l.cur || (r && m))) ∷ []) (pass ts ms c (passed l o m (f c && (l.cur || (r && m)))) s)
pass (opens r d ∷ ts) (m ∷ ms) c l s = onto (m ∷ []) (pass ts ms c (started (l.cur || (r && get_or ms d false))) (push l s))
pass (bar ∷ ts) (m ∷ ms) c l s = onto (m ∷ []) (pass ts ms c (barred l) s)
pass (closes o ∷ ts) (m ∷ ms) c l s = onto ((l.done || l.fin) ∷ []) (pass ts ms c (closed (top s) l o) (rest s))

-- The tokens of an expression, and its cells.
abbrev pub tokens : Re → List Token
tokens (leaf f r o m) = one f r o ∷ []
tokens (group r o t) = opens r (length (tokens t)) ∷ (tokens t ++ (closes o ∷ []))
tokens nil = []
tokens (seq p q) = tokens p ++ tokens q
tokens (alt p q) = tokens p ++ (bar ∷ tokens q)

abbrev pub cells : Re → List Bool
cells (leaf f r o m) = m ∷ []
cells (group r o t) = false ∷ (cells t ++ (final t ∷ []))
cells nil = []
cells (seq p q) = cells p ++ cells q
cells (alt p q) = cells p ++ (false ∷ cells q)

-- A sequence of sets and groups; branches of such sequences. Groups at most d deep.
abbrev mutual
  pub Flat : Re → ℕ → Type 0
  Flat (leaf f r o m) d = Unit {0}
  Flat (group r o t) zero = ⊥
  Flat (group r o t) (suc d) = Alts t d
  Flat nil d = Unit {0}
  Flat (seq p q) d = Flat p d × Flat q d
  Flat (alt p q) d = ⊥

  pub Alts : Re → ℕ → Type 0
  Alts (leaf f r o m) d = Unit {0}
  Alts (group r o t) zero = ⊥
  Alts (group r o t) (suc d) = Alts t d
  Alts nil d = Unit {0}
  Alts (seq p q) d = Flat p d × Flat q d
  Alts (alt p q) d = Flat p d × Alts q d

-- The levels as an array holds them, the last one first.
abbrev pub stack_of : List Level → ℕ → List Level
stack_of xs zero = []
stack_of xs (suc d) = get_or xs d (started false) ∷ stack_of xs d

-- how many levels there are after a token
abbrev pub depth_by : Bool → Bool → Bool → ℕ → ℕ
depth_by true y z d = cond (ltb d 8) (d + 1) d
depth_by false true z d = d
depth_by false false true d = d - 1
depth_by false false false d = d

abbrev pub up_of : ℕ → Level → Level
up_of zero x = started false
up_of (suc d) x = x
