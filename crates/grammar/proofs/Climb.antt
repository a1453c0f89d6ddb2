-- The loop over operators against the levels of the definition: after an operand the loops of all tighter levels are done, and an operator of a level is met by that level's loop. Assumes nothing.
use Prim.Native.Nat.{ℕ, zero, suc, ◌+◌, ◌-◌, ◌<◌, ◌≤◌}
use native.Mathlib.Omega.{arith}
use native.Mathlib.Nat.{add-zero}
use native.Mathlib.Decide.{ℕ_discrete, dec_lt}
use mathlib.Core.Path.{◌≡◌, refl, ap, ◌∙◌, subst}
use mathlib.Core.List.{List}
use lib.Dec.{eqb}
use borrow.Author.Tests.{eqb-true, eqb-false}
use Rattle.lexer.specs.Token.{Token}
use Rattle.grammar.specs.Tree.{Tree, binary}
use Rattle.grammar.specs.Grammar.{rank}
use Rattle.grammar.specs.Parse.{Result, ok, bad, and_then, kind_at, level, more, prefix, level_of, more_of, prefix_of, fuel}
use Rattle.grammar.proofs.Sound.{Holds, then_holds, pick_holds}
use Rattle.grammar.proofs.Laws.{level_prefix, level_then, more_then, more_stop}

-- no operator of a level from m on stands at j
abbrev pub Free : List Token → ℕ → Tree → ℕ → Type 0
Free ks m t j = (n : ℕ) → m ≤ n → n < 11 → rank (kind_at ks j) ≡ n → ⊥

free_more : (ks : List Token) (l : ℕ) (t : Tree) (j : ℕ) → Free ks (l + 1) t j → (rank (kind_at ks j) ≡ l → ⊥) → Free ks l t j
free_more ks l t j h ne n le lt e = go (ℕ_discrete l n)
  where
    go : Dec (l ≡ n) → ⊥
    go (yes q) = ne (rw q e)
    go (no q) = h n (omega arith) lt e

any_holds : (R : Tree → ℕ → Type 0) (x : Result) → ((t : Tree) (j : ℕ) → R t j) → Holds R x
any_holds R (ok t j) f = f t j
any_holds R (bad p) f = tt

mutual
  unfolding level

  free_level : (f : ℕ) (ks : List Token) (i l : ℕ) → l ≤ 11 → Holds (Free ks l) (level f ks i l)
  free_level zero ks i l le = tt
  free_level (suc f) ks i l le =
      pick_holds _ (eqb l 11) _ _
      (λ e. let q = eqb-true l 11 e in any_holds (Free ks l) (prefix f ks i) (λ t j n m lt x. omega arith))
      (λ e. let ne = eqb-false l 11 e in then_holds _ _ (level f ks i (l + 1)) _ (free_level f ks i (l + 1) (omega arith)) (λ t j h. free_go f ks j l t (omega arith) h))

  free_go : (f : ℕ) (ks : List Token) (i l : ℕ) (t : Tree) → l < 11 → Free ks (l + 1) t i → Holds (Free ks l) (more f ks i l t)
  free_go zero ks i l t lt h = tt
  free_go (suc f) ks i l t lt h =
      pick_holds _ (eqb (rank (kind_at ks i)) l) _ _
      (λ e. then_holds _ _ (level f ks (i + 1) (l + 1)) _ (free_level f ks (i + 1) (l + 1) (omega arith)) (λ u j g. free_go f ks j l (binary (kind_at ks i) t u) lt g))
      (λ e. free_more ks l t i h (eqb-false _ _ e))

free : (ks : List Token) (i l : ℕ) (t : Tree) (j : ℕ) → l ≤ 11 → level_of ks i l ≡ ok t j → Free ks l t j
unfolding level_of
free ks i l t j le e = subst (Holds (Free ks l)) e (free_level (fuel ks) ks i l le)

-- what is left to do at j: the loops of the c levels from l + c - 1 down to l
pub down : List Token → ℕ → ℕ → Tree → ℕ → Result
down ks l zero t j = ok t j
down ks l (suc c) t j = and_then (more_of ks j (l + c) t) (λ u i. down ks l c u i)

then_same : (x : Result) → and_then x (λ t j. ok t j) ≡ x
then_same (ok t j) = refl
then_same (bad p) = refl

then_then : (x : Result) (k h : Tree → ℕ → Result) → and_then (and_then x k) h ≡ and_then x (λ t j. and_then (k t j) h)
then_then (ok t j) k h = refl
then_then (bad p) k h = refl

level_down : (c : ℕ) (ks : List Token) (i l : ℕ) → l + c ≤ 11 → level_of ks i l ≡ and_then (level_of ks i (l + c)) (λ t j. down ks l c t j)
unfolding down
level_down zero ks i l le = rw (add-zero, then_same)
level_down (suc c) ks i l le =
    let q : l + c + 1 ≡ l + suc c = omega arith in
    level_down c ks i l (omega arith)
    ∙ ap (λ (x : Result). and_then x (λ t j. down ks l c t j)) (level_then ks i (l + c) (omega arith))
    ∙ then_then (level_of ks i (l + c + 1)) (λ t j. more_of ks j (l + c) t) (λ t j. down ks l c t j)
    ∙ ap (λ (n : ℕ). and_then (level_of ks i n) (λ t j. and_then (more_of ks j (l + c) t) (λ u k. down ks l c u k))) q

down_stop : (c : ℕ) (ks : List Token) (l : ℕ) (t : Tree) (j : ℕ) → l + c ≤ 11 → Free ks l t j → down ks l c t j ≡ ok t j
unfolding down
down_stop zero ks l t j le h = refl
down_stop (suc c) ks l t j le h = rw (more_stop ks j (l + c) t (omega arith) (h (l + c) (omega arith) (omega arith))) (down_stop c ks l t j (omega arith) h)

down_once : (c b : ℕ) (ks : List Token) (l : ℕ) (t : Tree) (j : ℕ) → l + c < 11 → (b ≡ c → ⊥) → rank (kind_at ks j) ≡ l + b → down ks l (suc c) t j ≡ down ks l c t j
unfolding down
down_once c b ks l t j le ne k = rw (more_stop ks j (l + c) t le (λ e. omega arith))

-- at an operator of the level l + b the tighter levels have nothing to do
down_skip : (c b : ℕ) (ks : List Token) (l : ℕ) (t : Tree) (j : ℕ) → l + c ≤ 11 → b < c → rank (kind_at ks j) ≡ l + b → down ks l c t j ≡ down ks l (suc b) t j
down_skip zero b ks l t j le lt k = absurd (omega arith)
down_skip (suc c) b ks l t j le lt k = go (ℕ_discrete b c) (λ h. down_skip c b ks l t j (omega arith) h k)
  where
    go : Dec (b ≡ c) → (b < c → down ks l c t j ≡ down ks l (suc b) t j) → down ks l (suc c) t j ≡ down ks l (suc b) t j
    go (yes q) ih = rw q
    go (no q) ih = down_once c b ks l t j (omega arith) q k ∙ ih (omega arith)

-- ---- the loop: a tree that is read so far, and the loops of the levels that are left

pub record Spine (ks : List Token) (at l next : ℕ) (t : Tree) : Type 0 where
  pub levels : ℕ
  pub on : level_of ks at l ≡ down ks l levels t next
  pub fits : l + levels ≤ 11
  pub below : Free ks (l + levels) t next

pub spine_start : {ks : List Token} {at next : ℕ} {t : Tree} (l : ℕ) → l ≤ 11 → prefix_of ks at ≡ ok t next → Spine ks at l next t
spine_start {ks} {at} {next} {t} l le e =
    let q : l + (11 - l) ≡ 11 = omega arith in
    record { levels = 11 - l; on = level_down (11 - l) ks at l (omega arith) ∙ rw (q, level_prefix ks at, e); fits = omega arith; below = λ n m lt k. omega arith }

pub spine_bad : (ks : List Token) (at l : ℕ) → l ≤ 11 → {p : ℕ} → prefix_of ks at ≡ bad p → level_of ks at l ≡ bad p
spine_bad ks at l le b =
    let q : l + (11 - l) ≡ 11 = omega arith in
    rw (level_down (11 - l) ks at l (omega arith), q, level_prefix ks at, b)

module _ {ks : List Token} {at l next : ℕ} {t : Tree} (g : Spine ks at l next t) where
  stop : Free ks l t next → level_of ks at l ≡ ok t next
  stop h = rw (g.on, down_stop g.levels ks l t next g.fits h)

  -- an operator of the level l + b
  module _ (b : ℕ) (k : rank (kind_at ks next) ≡ l + b) (lt : l + b < 11) where
    near : b < g.levels
    near = go (dec_lt b g.levels)
      where
        go : Dec (b < g.levels) → b < g.levels
        go (yes p) = p
        go (no p) = absurd (g.below (l + b) (omega arith) lt k)

    here : level_of ks at l ≡ and_then (and_then (level_of ks (next + 1) (l + b + 1)) (λ u j. more_of ks j (l + b) (binary (kind_at ks next) t u))) (λ u i. down ks l b u i)
    unfolding down
    here = g.on ∙ down_skip g.levels b ks l t next g.fits near k ∙ rw (more_then ks next (l + b) t lt k)

    broken : {p : ℕ} → level_of ks (next + 1) (l + b + 1) ≡ bad p → level_of ks at l ≡ bad p
    broken q = rw (here, q)

    on_by : {u : Tree} {n : ℕ} → level_of ks (next + 1) (l + b + 1) ≡ ok u n → Spine ks at l n (binary (kind_at ks next) t u)
    unfolding down
    on_by {u} {n} e =
        let q : l + b + 1 ≡ l + suc b = omega arith in
        record {
          levels = suc b;
          on = here ∙ rw e;
          fits = omega arith;
          below = λ i h lt' x. free ks (next + 1) (l + b + 1) u n (omega arith) e i (omega arith) lt' x;
        }

  -- the same, by the token's level
  module _ (r : ℕ) (is-r : r ≡ rank (kind_at ks next)) where
    pub stops_below : r < l → level_of ks at l ≡ ok t next
    stops_below lt = stop (λ n h m q. omega arith)

    pub stops_above : 11 ≤ r → level_of ks at l ≡ ok t next
    stops_above le = stop (λ n h m q. omega arith)

    module _ (a : l ≤ r) (b : r < 11) where
      pub spine-broken : {p : ℕ} → level_of ks (next + 1) (r + 1) ≡ bad p → level_of ks at l ≡ bad p
      spine-broken q =
          let e : r + 1 ≡ l + (r - l) + 1 = omega arith in
          broken (r - l) (omega arith) (omega arith) (rw e at q)

      pub spine-on : {u : Tree} {n : ℕ} → level_of ks (next + 1) (r + 1) ≡ ok u n → Spine ks at l n (binary (kind_at ks next) t u)
      spine-on q =
          let e : r + 1 ≡ l + (r - l) + 1 = omega arith in
          on_by (r - l) (omega arith) (omega arith) (rw e at q)
