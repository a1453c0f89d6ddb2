-- What the parser accepts the grammar derives, with the same tree, from exactly the tokens passed; where it refuses, the tokens before the one named
-- have a completion. One induction for both. Assumes nothing.
use Prim.Native.Nat.{ℕ, zero, suc, ◌+◌, ◌-◌, ◌<◌, ◌≤◌}
use native.Mathlib.Omega.{arith}
use native.Mathlib.Numerals.{add-one}
use native.Mathlib.Decide.{dec_lt}
use mathlib.Core.Path.{◌≡◌, refl, sym, ap, ◌∙◌, subst}
use mathlib.Core.Bool.{Bool, true, false}
use mathlib.Core.List.{List, [], ◌∷◌, ◌++◌, append_assoc, append-nil}
use lib.IntN.{pos}
use lib.ListN.{length, get_or-eq_default}
use lib.Seq.{slice, slice_empty, slice-cons, take-length}
use lib.Dec.{eqb}
use borrow.Author.Tests.{eqb-true, eqb-false}
use Rattle.common.specs.Choice.{pick}
use Rattle.common.proofs.Choice.{false_true}
use Rattle.lexer.specs.Kind.{naming, opening, closing, comma}
use Rattle.lexer.specs.Token.{Token, int32, symbol, kind_of}
use Rattle.grammar.specs.Tree.{Tree, leaf, group, unary, binary, call, Trees, none, ◌then◌}
use Rattle.grammar.specs.Grammar.{rank, is_prefix, is_literal, Level, operator, tighter, tightest, Prefix, applied, plain, Operand, a_literal, a_name, a_group, a_call_none, a_call, Arguments, first, next}
use Rattle.grammar.specs.Parse.{Result, ok, bad, and_then, ended, token_at, kind_at, is, level, more, prefix, operand, arguments, level_of, parse_all, fuel}

-- a token of which something holds that does not hold past the end is within the list
inside : (Q : Token → Type 0) (ks : List Token) (i : ℕ) → (Q ended → ⊥) → Q (token_at ks i) → i < length ks
inside Q ks i out h = go (dec_lt i (length ks))
  where
    go : Dec (i < length ks) → i < length ks
    go (yes p) = p
    go (no p) = absurd (out (subst Q (get_or-eq_default ks ended (omega arith)) h))

module _ (ks : List Token) (i : ℕ) where
  pub at_kind : (k : ℕ) → kind_at ks i ≡ k → k < 99 → i < length ks
  at_kind k e h = inside (λ x. kind_of x ≡ k) ks i (λ q. omega arith) e

  pub at_rank_lem : (l : ℕ) → rank (kind_at ks i) ≡ l → l < 11 → i < length ks
  unfolding rank
  at_rank_lem l e h = inside (λ x. rank (kind_of x) ≡ l) ks i (λ q. omega arith) e

  pub at_prefix : is_prefix (kind_at ks i) ≡ true → i < length ks
  at_prefix e = inside (λ x. is_prefix (kind_of x) ≡ true) ks i (λ q. false_true q) e

  pub at_literal : is_literal (kind_at ks i) ≡ true → i < length ks
  at_literal e = inside (λ x. is_literal (kind_of x) ≡ true) ks i (λ q. false_true q) e

-- ---- parts of a list

pub slice_join : {A : Type 0} (s i j : ℕ) (ks : List A) → s ≤ i → i ≤ j → j ≤ length ks → slice s i ks ++ slice i j ks ≡ slice s j ks
slice_join zero zero j ks a b c = refl
slice_join zero (suc i) zero ks a b c = absurd (omega arith)
slice_join zero (suc i) (suc j) [] a b c = absurd (omega arith)
slice_join {A} zero (suc i) (suc j) (k ∷ ks) a b c = ap (λ (l : List A). k ∷ l) (slice_join zero i j ks (omega arith) (omega arith) (omega arith))
slice_join (suc s) zero j ks a b c = absurd (omega arith)
slice_join (suc s) (suc i) zero ks a b c = absurd (omega arith)
slice_join (suc s) (suc i) (suc j) [] a b c = absurd (omega arith)
slice_join (suc s) (suc i) (suc j) (k ∷ ks) a b c = slice_join s i j ks (omega arith) (omega arith) (omega arith)

module _ (ks : List Token) where
  -- a token and what follows
  head : (i j : ℕ) → i < j → j ≤ length ks → slice i j ks ≡ token_at ks i ∷ slice (i + 1) j ks
  head i j a b = rw add-one (slice-cons i j ks ended a b)

  -- two tokens and what follows
  head_two : (i j : ℕ) → i + 1 < j → j ≤ length ks → slice i j ks ≡ token_at ks i ∷ token_at ks (i + 1) ∷ slice (i + 2) j ks
  head_two i j h le =
      let two : i + 1 + 1 ≡ i + 2 = omega arith in
      head i j (omega arith) le ∙ ap (λ (l : List Token). token_at ks i ∷ l) (head (i + 1) j h le ∙ ap (λ (n : ℕ). token_at ks (i + 1) ∷ slice n j ks) two)

  -- a part, a token, a part
  joint : (s i j : ℕ) → s ≤ i → i < j → j ≤ length ks → slice s i ks ++ (token_at ks i ∷ slice (i + 1) j ks) ≡ slice s j ks
  joint s i j a b c = rw (← (head i j b c)) (slice_join s i j ks a (omega arith) c)

  -- a part and a last token
  last : (s i : ℕ) → s ≤ i → i < length ks → slice s i ks ++ (token_at ks i ∷ []) ≡ slice s (i + 1) ks
  last s i a c = ap (λ (l : List Token). slice s i ks ++ (token_at ks i ∷ l)) (sym (slice_empty (i + 1) ks)) ∙ joint s i (i + 1) a (omega arith) (omega arith)

  -- a part, a token, a part, and a completion
  beyond : (s i p : ℕ) (ys : List Token) → s ≤ i → i < p → p ≤ length ks → slice s i ks ++ (token_at ks i ∷ (slice (i + 1) p ks ++ ys)) ≡ slice s p ks ++ ys
  beyond s i p ys a b c = rw (← (joint s i p a b c), append_assoc)

-- ---- what holds of a result: Q of a tree and the token after it, B of the token named

abbrev pub Tells : (Tree → ℕ → Type 0) → (ℕ → Type 0) → Result → Type 0
Tells Q B (ok t j) = Q t j
Tells Q B (bad p) = B p

module _ (Q R : Tree → ℕ → Type 0) (B C : ℕ → Type 0) where
  then_tells : (x : Result) (k : Tree → ℕ → Result) → Tells Q B x → ((p : ℕ) → B p → C p) → ((t : Tree) (j : ℕ) → Q t j → Tells R C (k t j)) → Tells R C (and_then x k)
  then_tells (ok t j) k q b f = f t j q
  then_tells (bad p) k q b f = b p q

  less_tells : (x : Result) → Tells Q B x → ((p : ℕ) → B p → C p) → ((t : Tree) (j : ℕ) → Q t j → R t j) → Tells R C x
  less_tells (ok t j) q b f = f t j q
  less_tells (bad p) q b f = b p q

pick_tells : (R : Tree → ℕ → Type 0) (C : ℕ → Type 0) (b : Bool) (x y : Unit {0} → Result) → (b ≡ true → Tells R C (x tt)) → (b ≡ false → Tells R C (y tt)) → Tells R C (pick b x y)
pick_tells R C true x y f g = f refl
pick_tells R C false x y f g = g refl

-- of a tree alone
abbrev pub Holds : (Tree → ℕ → Type 0) → Result → Type 0
Holds Q x = Tells Q (λ _. Unit {0}) x

pub then_holds : (Q R : Tree → ℕ → Type 0) (x : Result) (k : Tree → ℕ → Result) → Holds Q x → ((t : Tree) (j : ℕ) → Q t j → Holds R (k t j)) → Holds R (and_then x k)
then_holds Q R x k q f = then_tells Q R _ _ x k q (λ _ _. tt) f

pub pick_holds : (R : Tree → ℕ → Type 0) (b : Bool) (x y : Unit {0} → Result) → (b ≡ true → Holds R (x tt)) → (b ≡ false → Holds R (y tt)) → Holds R (pick b x y)
pick_holds R b x y f g = pick_tells R _ b x y f g

-- from the token i on: the tokens up to j derive t
abbrev pub Span : (List Token → Tree → Type 0) → List Token → ℕ → Tree → ℕ → Type 0
Span D ks i t j = (i < j) × (j ≤ length ks) × D (slice i j ks) t

-- the tokens from i up to p have a completion
abbrev pub Open : {T : Type 0} → (List Token → T → Type 0) → List Token → ℕ → ℕ → Type 0
Open {T} D ks i p = i ≤ length ks → (i ≤ p) × (p ≤ length ks) × (ys : List Token) × (t : T) × D (slice i p ks ++ ys) t

-- the arguments so far, from the token s up to the token i, where the next one begins
data Before (ks : List Token) (s : ℕ) : ℕ → Trees → Type 0 where
  at_start : Before ks s s none
  after : {i : ℕ} {ts : Trees} → s < i → i < length ks → kind_at ks i ≡ comma → Arguments (slice s i ks) ts → Before ks s (i + 1) ts

one_more : (ks : List Token) (s i j : ℕ) (ts : Trees) (t : Tree) → Before ks s i ts → Span (Level 0) ks i t j → Arguments (slice s j ks) (◌then◌ ts t)
one_more ks s i j ts t at_start d = first d.2
one_more ks s i' j ts t (after {i} a b k rest) d = next (token_at ks i) k rest d.2 (joint ks s i j (omega arith) (omega arith) d.1)

from : (ks : List Token) (s i : ℕ) (ts : Trees) → Before ks s i ts → s ≤ i
from ks s i ts at_start = omega arith
from ks s i' ts (after {i} a b k rest) = omega arith

-- a call's arguments from the token s up to the `)`, and the token after it
record Called (ks : List Token) (x : Token) (s : ℕ) (t : Tree) (j : ℕ) : Type 0 where
  args : Trees
  to : ℕ
  ends : j ≡ to + 1
  tree : t ≡ call x args
  some : s < to
  closed : kind_at ks to ≡ closing
  derived : Arguments (slice s to ks) args

one_token : (ks : List Token) (i : ℕ) (t : Tree) → i < length ks → Operand (token_at ks i ∷ []) t → Span Operand ks i t (i + 1)
one_token ks i t at d =
    (omega arith, omega arith, subst (λ (l : List Token). Operand l t) (sym (head ks i (i + 1) (omega arith) (omega arith) ∙ ap (λ (l : List Token). token_at ks i ∷ l) (slice_empty (i + 1) ks))) d)

no_arguments : (ks : List Token) (i : ℕ) → kind_at ks i ≡ naming → kind_at ks (i + 1) ≡ opening → kind_at ks (i + 2) ≡ closing → Span Operand ks i (call (token_at ks i) none) (i + 3)
no_arguments ks i e e1 e2 =
    let at : i + 2 < length ks = at_kind ks (i + 2) closing e2 (omega arith) in
    let three : i + 2 + 1 ≡ i + 3 = omega arith in
    let tail : slice (i + 2) (i + 3) ks ≡ token_at ks (i + 2) ∷ [] =
    head ks (i + 2) (i + 3) (omega arith) (omega arith) ∙ ap (λ (n : ℕ). token_at ks (i + 2) ∷ slice n (i + 3) ks) three ∙ ap (λ (l : List Token). token_at ks (i + 2) ∷ l) (slice_empty (i + 3) ks) in
    (omega arith, omega arith, subst (λ (l : List Token). Operand l (call (token_at ks i) none)) (sym (head_two ks i (i + 3) (omega arith) (omega arith) ∙ ap (λ (l : List Token). token_at ks i ∷ token_at ks (i + 1) ∷ l) tail)) (a_call_none e e1 e2))

called : (ks : List Token) (i : ℕ) → kind_at ks i ≡ naming → kind_at ks (i + 1) ≡ opening → (t : Tree) (j : ℕ) → Called ks (token_at ks i) (i + 2) t j → Span Operand ks i t j
called ks i e e1 t j c =
    let at : c.to < length ks = at_kind ks c.to closing c.closed (omega arith) in
    let some = c.some in
    rw (c.ends, c.tree) (
      omega arith,
      omega arith,
      a_call (token_at ks (i + 1)) (token_at ks c.to) e e1 c.closed c.derived (ap (λ (l : List Token). token_at ks i ∷ token_at ks (i + 1) ∷ l) (last ks (i + 2) c.to (omega arith) at) ∙ sym (head_two ks i (c.to + 1) (omega arith) (omega arith))),
    )

grouped : (ks : List Token) (i : ℕ) (t : Tree) (j : ℕ) → kind_at ks i ≡ opening → Span (Level 0) ks (i + 1) t j → kind_at ks j ≡ closing → Span Operand ks i (group t) (j + 1)
grouped ks i t j e d e3 =
    let at : j < length ks = at_kind ks j closing e3 (omega arith) in
    (omega arith, omega arith, a_group (token_at ks i) (token_at ks j) e e3 d.2 (ap (λ (l : List Token). token_at ks i ∷ l) (last ks (i + 1) j (omega arith) at) ∙ sym (head ks i (j + 1) (omega arith) (omega arith))))

-- ---- completions

-- a literal, and a `)`, to complete with
abbrev zero_literal : Token
zero_literal = int32 (pos 0)

abbrev close : Token
close = symbol 10

-- at the first token a literal completes
nothing : (D : List Token → Tree → Type 0) (ks : List Token) (i : ℕ) → D (zero_literal ∷ []) (leaf zero_literal) → Open D ks i i
nothing D ks i d le = (omega arith, le, zero_literal ∷ [], leaf zero_literal, rw (slice_empty i ks) d)

-- what is derived needs no more
whole : {T : Type 0} (D : List Token → T → Type 0) (ks : List Token) (i j : ℕ) (t : T) → i ≤ j → j ≤ length ks → D (slice i j ks) t → Open D ks i j
whole D ks i j t a b d le = (a, b, [], t, rw append-nil d)

a_zero : Operand (zero_literal ∷ []) (leaf zero_literal)
a_zero = a_literal refl

a_level : (l : ℕ) → l ≤ 11 → Level l (zero_literal ∷ []) (leaf zero_literal)
a_level l le = go (11 - l) l (omega arith)
  where
    go : (n l : ℕ) → l + n ≡ 11 → Level l (zero_literal ∷ []) (leaf zero_literal)
    go zero l e = let q : l ≡ 11 = omega arith in rw q (tightest (plain a_zero))
    go (suc n) l e = tighter {l = l} (omega arith) (go n (suc l) (omega arith))

-- an open argument is one more
open_more : (ks : List Token) (s i p : ℕ) (ts : Trees) → Before ks s i ts → Open (Level 0) ks i p → Open Arguments ks s p
open_more ks s i p ts at_start o le = let (a, b, ys, t, d) = o le in (a, b, ys, _, first d)
open_more ks s i' p ts (after {i} lo hi k rest) o le =
    let (a, b, ys, t, d) = o (omega arith) in
    (omega arith, b, ys, _, next (token_at ks i) k rest d (beyond ks s i p ys (omega arith) (omega arith) b))

-- a `)` closes an open call, and an open group
open_call : (ks : List Token) (i p : ℕ) → kind_at ks i ≡ naming → kind_at ks (i + 1) ≡ opening → Open Arguments ks (i + 2) p → Open Operand ks i p
open_call ks i p k k1 o le =
    let in_it = at_kind ks (i + 1) opening k1 (omega arith) in
    let (a, b, ys, ts, d) = o (omega arith) in
    let lt : i + 1 < p = omega arith in
    (omega arith, b, ys ++ (close ∷ []), call (token_at ks i) ts, rw (head_two ks i p lt b) (a_call (token_at ks (i + 1)) close k k1 refl d (ap (λ (l : List Token). token_at ks i ∷ token_at ks (i + 1) ∷ l) (append_assoc (slice (i + 2) p ks) ys (close ∷ [])))))

open_group : (ks : List Token) (i p : ℕ) → kind_at ks i ≡ opening → Open (Level 0) ks (i + 1) p → Open Operand ks i p
open_group ks i p k o le =
    let in_it = at_kind ks i opening k (omega arith) in
    let (a, b, ys, t, d) = o (omega arith) in
    let lt : i < p = omega arith in
    (omega arith, b, ys ++ (close ∷ []), group t, rw (head ks i p lt b) (a_group (token_at ks i) close k refl d (ap (λ (l : List Token). token_at ks i ∷ l) (append_assoc (slice (i + 1) p ks) ys (close ∷ [])))))

mutual
  unfolding level

  pub sound_level : (f : ℕ) (ks : List Token) (i l : ℕ) → l ≤ 11 → Tells (Span (Level l) ks i) (Open (Level l) ks i) (level f ks i l)
  sound_level zero ks i l le = nothing (Level l) ks i (a_level l le)
  sound_level (suc f) ks i l le =
      pick_tells _ _ (eqb l 11) _ _
      (λ e. less_tells _ _ _ _ (prefix f ks i) (sound_prefix f ks i) (λ p o h. let (a, b, ys, t, d) = o h in (a, b, ys, t, rw (eqb-true l 11 e) (tightest d)))
      (λ t j d. (d.0, d.1, rw (eqb-true l 11 e) (tightest d.2))))
      (λ e. let ne = eqb-false l 11 e in
      then_tells _ _ _ _ (level f ks i (l + 1)) _ (sound_level f ks i (l + 1) (omega arith))
      (λ p o h. let (a, b, ys, t, d) = o h in (a, b, ys, t, tighter (omega arith) (rw add-one at d)))
      (λ t j d. sound_more f ks i j l t (omega arith) (d.0, d.1, tighter (omega arith) (rw add-one at d.2))))

  sound_more : (f : ℕ) (ks : List Token) (s i l : ℕ) (t : Tree) → l < 11 → Span (Level l) ks s t i → Tells (Span (Level l) ks s) (Open (Level l) ks s) (more f ks i l t)
  sound_more zero ks s i l t lt d = whole (Level l) ks s i t (omega arith) d.1 d.2
  sound_more (suc f) ks s i l t lt d =
      pick_tells _ _ (eqb (rank (kind_at ks i)) l) _ _
      (λ e. let k = eqb-true _ _ e in
      let in_it = at_rank_lem ks i l k lt in
      then_tells _ _ _ _ (level f ks (i + 1) (l + 1)) _ (sound_level f ks (i + 1) (l + 1) (omega arith))
      (λ p o h. let (a, b, ys, u, d') = o (omega arith) in (omega arith, b, ys, _, operator (token_at ks i) refl k lt d.2 (rw add-one at d') (beyond ks s i p ys (omega arith) (omega arith) b)))
      (λ u j d'. sound_more f ks s j l (binary (kind_at ks i) t u) lt (
        omega arith,
        d'.1,
        operator (token_at ks i) refl k lt d.2 (rw add-one at d'.2) (joint ks s i j (omega arith) (omega arith) d'.1),
      )))
      (λ e. d)

  pub sound_prefix : (f : ℕ) (ks : List Token) (i : ℕ) → Tells (Span Prefix ks i) (Open Prefix ks i) (prefix f ks i)
  sound_prefix zero ks i = nothing Prefix ks i (plain a_zero)
  sound_prefix (suc f) ks i =
      pick_tells _ _ (is_prefix (kind_at ks i)) _ _
      (λ k. let in_it = at_prefix ks i k in
      then_tells _ _ _ _ (prefix f ks (i + 1)) _ (sound_prefix f ks (i + 1))
      (λ p o h. let (a, b, ys, t, d) = o (omega arith) in (omega arith, b, ys, unary (kind_at ks i) t, rw (head ks i p (omega arith) b) (applied refl k d)))
      (λ t j d. (omega arith, d.1, rw (head ks i j (omega arith) d.1) (applied refl k d.2))))
      (λ e. less_tells _ _ _ _ (operand f ks i) (sound_operand f ks i) (λ p o h. let (a, b, ys, t, d) = o h in (a, b, ys, t, plain d)) (λ t j d. (d.0, d.1, plain d.2)))

  sound_operand : (f : ℕ) (ks : List Token) (i : ℕ) → Tells (Span Operand ks i) (Open Operand ks i) (operand f ks i)
  sound_operand zero ks i = nothing Operand ks i a_zero
  sound_operand (suc f) ks i =
      pick_tells _ _ (is_literal (kind_at ks i)) _ _ (λ e. one_token ks i _ (at_literal ks i e) (a_literal e))
      (λ _. pick_tells _ _ (is ks i naming) _ _
      (λ e. pick_tells _ _ (is ks (i + 1) opening) _ _
      (λ e1. let k = eqb-true _ _ e in
      let k1 = eqb-true _ _ e1 in
      pick_tells _ _ (is ks (i + 2) closing) _ _
      (λ e2. no_arguments ks i k k1 (eqb-true _ _ e2))
      (λ _. less_tells _ _ _ _ (arguments f ks (i + 2) (token_at ks i) none) (sound_arguments f ks (token_at ks i) (i + 2) (i + 2) none at_start) (λ p o. open_call ks i p k k1 o) (called ks i k k1)))
      (λ _. one_token ks i _ (at_kind ks i naming (eqb-true _ _ e) (omega arith)) (a_name (eqb-true _ _ e))))
      (λ _. pick_tells _ _ (is ks i opening) _ _
      (λ e. let k = eqb-true _ _ e in
      then_tells _ _ _ _ (level f ks (i + 1) 0) _ (sound_level f ks (i + 1) 0 (omega arith)) (λ p o. open_group ks i p k o)
      (λ t j d. pick_tells _ _ (is ks j closing) _ _ (λ e3. grouped ks i t j k d (eqb-true _ _ e3))
      (λ _. open_group ks i j k (whole (Level 0) ks (i + 1) j t (omega arith) d.1 d.2))))
      (λ _. nothing Operand ks i a_zero)))

  sound_arguments : (f : ℕ) (ks : List Token) (x : Token) (s i : ℕ) (ts : Trees) → Before ks s i ts → Tells (Called ks x s) (Open Arguments ks s) (arguments f ks i x ts)
  sound_arguments zero ks x s i ts b = open_more ks s i i ts b (nothing (Level 0) ks i (a_level 0 (omega arith)))
  sound_arguments (suc f) ks x s i ts b =
      then_tells _ _ _ _ (level f ks i 0) _ (sound_level f ks i 0 (omega arith)) (λ p o. open_more ks s i p ts b o)
      (λ t j d. let le = from ks s i ts b in
      let args = one_more ks s i j ts t b d in
      pick_tells _ _ (is ks j comma) _ _
      (λ e. sound_arguments f ks x s (j + 1) (◌then◌ ts t) (after (omega arith) (at_kind ks j comma (eqb-true _ _ e) (omega arith)) (eqb-true _ _ e) args))
      (λ _. pick_tells _ _ (is ks j closing) _ _
      (λ e. record { args = _; to = j; ends = refl; tree = refl; some = omega arith; closed = eqb-true _ _ e; derived = args })
      (λ _. whole Arguments ks s j _ (omega arith) d.1 args)))

-- The whole input: derived where it is accepted, and up to the token named completed.
told : (ks : List Token) → Tells (λ t j. Level 0 ks t) (Open (Level 0) ks 0) (parse_all ks)
unfolding parse_all level_of
told ks =
    then_tells _ _ _ _ (level (fuel ks) ks 0 0) _ (sound_level (fuel ks) ks 0 0 (omega arith)) (λ p o. o)
    (λ u j d. pick_tells _ _ (eqb j (length ks)) _ _
    (λ q. let all : slice 0 j ks ≡ ks = rw (eqb-true j (length ks) q) (take-length ks) in rw all at d.2)
    (λ _. whole (Level 0) ks 0 j u (omega arith) d.1 d.2))

pub sound : (ks : List Token) (t : Tree) (n : ℕ) → parse_all ks ≡ ok t n → Level 0 ks t
sound ks t n e = rw e at (told ks)

pub named : (ks : List Token) (p : ℕ) → parse_all ks ≡ bad p → Open (Level 0) ks 0 p
named ks p e = rw e at (told ks)
