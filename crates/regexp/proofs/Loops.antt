-- A branch with its anchors, and the loops over the branches. Assumes nothing.
use mathlib.Core.Path.{◌≡◌, refl, sym, ap, ◌∙◌}
use mathlib.Core.Bool.{Bool, true, false, ◌&&◌, ◌||◌, or-false}
use mathlib.Core.List.{List, [], ◌∷◌}
use mathlib.Core.Option.{Option, none, some}
use Prim.Native.Nat.{ℕ, ◌+◌, ◌-◌, ◌≤◌, ◌<◌}
use native.Mathlib.Omega.{arith}
use native.Mathlib.Numerals.{add-one}
use lib.ListN.{length, get_or, set, take, drop, length-map, get_or-map}
use lib.Seq.{drop-drop, length-take-le, take-suc, take-suc-set, take_all}
use borrow.Author.Tests.{le-leb, lt-leb}
use Rattle.octets.specs.Octets.{fold, folded}
use Rattle.octets.proofs.Theorems.{and_parts}
use Rattle.pattern.specs.Steps.{begins}
use Rattle.pattern.proofs.Texts.{begins_inside}
use Rattle.automaton.specs.Marks.{walk}
use Rattle.automaton.specs.Pass.{Token, tokens, Flat}
use Rattle.automaton.specs.Table.{tokens_of}
use Rattle.automaton.specs.Decide.{decide}
use Rattle.automaton.proofs.Found.{by_marks}
use Rattle.regexp.specs.Language.{Tree, Anchored, anchored}
use Rattle.regexp.specs.Scan.{read, branch_of, tree_of, has}
use Rattle.regexp.specs.Regex.{end_of, ended, hat_of, one_if, part_of, with_first, branches, branches_of, is_some, re_of, held_in, regex_of}
use Rattle.regexp.specs.Promise.{EndAt, TableOf, BranchAt, BehindAt, TurnAt, TableAt}
use Rattle.std.specs.Prelude.{Some, None}
use Rattle.std.specs.Prelude.{Option as Maybe}
use mir.Val.{bool_byte}
use Rattle.regexp.specs.declared.Made.{Made}
use Rattle.regexp.specs.declared.Turn.{Turn}
use Rattle.regexp.specs.declared.Turn.TheVariants.{Last, More}
use Rattle.regexp.proofs.Shape.{fresh}
use Rattle.regexp.proofs.Turns.{table_length}
use Rattle.regexp.proofs.Branches.{last_branch, no_branch, more_branch, last_flat, more_flat}

-- ---- a `^`
module _ (text : List ℕ) (i : ℕ) (first : Bool) where
  pub hat_inside : hat_of first (drop i text) ≡ true → i < length text
  hat_inside e = begins_inside text i 94 (and_parts first (begins 94 (drop i text)) e).1

  pub from_inside : i ≤ length text → i + one_if (hat_of first (drop i text)) ≤ length text
  from_inside l = go (hat_of first (drop i text)) refl
    where
      go : (h : Bool) → hat_of first (drop i text) ≡ h → i + one_if h ≤ length text
      go true e = omega (arith, hat_inside e)
      go false e = omega arith

  -- the index behind it
  pub past_hat : (h : Bool) (n : ℕ) → h ≡ hat_of first (drop i text) → n ≡ bool_byte h → i + n ≡ i + one_if (hat_of first (drop i text))
  past_hat h n e f = ap (λ k. i + k) (f ∙ same h ∙ ap one_if e)
    where
      same : (b : Bool) → bool_byte b ≡ one_if b
      same true = refl
      same false = refl

-- ---- a branch with its anchors
module _ (text : List ℕ) (i : ℕ) (first h : Bool) (eh : h ≡ hat_of first (drop i text)) (from : ℕ) (ef : from ≡ i + one_if (hat_of first (drop i text))) where
  part_is : part_of first (drop i text) ≡ ended h (branch_of (drop from text))
  part_is =
      ap (λ (z : List ℕ). ended (hat_of first (drop i text)) (branch_of z)) (drop-drop (one_if (hat_of first (drop i text))) i text ∙ ap (λ (k : ℕ). drop k text) (sym ef))
      ∙ ap (λ (x : Bool). ended x (branch_of (drop from text))) (sym eh)

  later : i ≤ from
  later = omega arith

  module _ (n : ℕ) (some : Bool) (j : ℕ) (ps : List Tree) (b : branch_of (drop from text) ≡ read ps (drop j text)) (s : some ≡ has ps) where
    end_is : part_of first (drop i text) ≡ end_of (some || h) h (tree_of ps) (drop j text)
    end_is = part_is ∙ ap (ended h) b ∙ ap (λ (x : Bool). end_of (x || h) h (tree_of ps) (drop j text)) (sym s)

  pub turn : (m : Made) → EndAt text from (Some m) → (r : Maybe Turn) → BehindAt text h m.tokens m.some m.end r → TurnAt text i first r
  turn t m (Some (Last k sf ef)) b = (tree_of m.2.0, end_is t.tokens t.some t.end m.2.0 m.2.1 m.2.2 ∙ b.1 (tree_of m.2.0))
  turn t m (Some (More k sf g)) b = (
    omega (arith, later, m.0, b.1),
    b.2,
    (tree_of m.2.0, end_is t.tokens t.some t.end m.2.0 m.2.1 m.2.2 ∙ b.3 (tree_of m.2.0)),
  )
  turn t m None b = end_is t.tokens t.some t.end m.2.0 m.2.1 m.2.2 ∙ b (tree_of m.2.0)

  pub turn_bad : EndAt text from None → TurnAt text i first None
  turn_bad m = part_is ∙ ap (ended h) m

  module _ (ks xs : List ℕ) where
    pub table_turn : (m : Made) → BranchAt text from ks xs (Some m) → (r : Maybe Turn) → BehindAt text h m.tokens m.some m.end r → TableAt text i first ks xs r
    table_turn t m (Some (Last k sf ef)) b =
        (tree_of m.2.0, end_is t.tokens t.some t.end m.2.0 m.2.1 m.2.2 ∙ b.1 (tree_of m.2.0), rw b.0 m.2.3)
    table_turn t m (Some (More k sf g)) b = (
      omega (arith, later, m.0, b.1),
      b.2,
      (tree_of m.2.0, end_is t.tokens t.some t.end m.2.0 m.2.1 m.2.2 ∙ b.3 (tree_of m.2.0), rw b.0 m.2.3),
    )
    table_turn t m None b = end_is t.tokens t.some t.end m.2.0 m.2.1 m.2.2 ∙ b (tree_of m.2.0)

    pub table_bad : BranchAt text from ks xs None → TableAt text i first ks xs None
    table_bad m = part_is ∙ ap (ended h) m

-- ---- `all_branches`
some_more : (b : Anchored) (o : Option (List Anchored)) → is_some (with_first b o) ≡ is_some o
some_more b none = refl
some_more b (some bs) = refl

module _ (p : List ℕ) (i : ℕ) (first g : Bool) (e : is_some (branches first (drop i p)) ≡ g) where
  pub formed_last : (n : ℕ) (sf ef : Bool) → TurnAt p i first (Some (Last n sf ef)) → true ≡ g
  formed_last n sf ef t = ap is_some (sym (last_branch first (drop i p) (anchored sf ef t.0) t.1)) ∙ e

  pub formed_more : (n : ℕ) (sf : Bool) (j : ℕ) → TurnAt p i first (Some (More n sf j)) → is_some (branches false (drop j p)) ≡ g
  formed_more n sf j t =
      sym (some_more (anchored sf true t.2.0) (branches false (drop j p)))
      ∙ ap is_some (sym (more_branch first (drop i p) (anchored sf true t.2.0) (drop j p) t.2.1))
      ∙ e

  pub formed_bad : TurnAt p i first None → false ≡ g
  formed_bad t = ap is_some (sym (no_branch first (drop i p) t)) ∙ e

-- ---- `found`
module _ (ks xs : List ℕ) (ms : List Bool) (n : ℕ) (hk : n ≤ length ks) (hx : n ≤ length xs) (hm : n ≤ length ms) where
  pub part_lengths : n ≤ 4096 → (length (take (n - 0) ks) < 65536) × (length (take (n - 0) xs) ≡ length (take (n - 0) ks)) × (length (take (n - 0) ms) ≡ length (take (n - 0) ks))
  part_lengths h =
      let z : n - 0 ≡ n = omega arith in
      let k : length (take n ks) ≡ n = length-take-le n ks hk in
      let x : length (take n xs) ≡ n = length-take-le n xs hx in
      let m : length (take n ms) ≡ n = length-take-le n ms hm in
      rw (z, k, x, m) (omega arith, refl, refl)

pub found_is : (text ks xs : List ℕ) (n : ℕ) → n ≤ length ks → (x : List ℕ) (sf ef r : Bool) →
    r ≡ decide (tokens_of text (take (n - 0) ks) (take (n - 0) xs)) (length (take (n - 0) ks)) sf ef x →
    r ≡ decide (tokens_of text (take n ks) (take n xs)) n sf ef x
found_is text ks xs n hk x sf ef r e =
    let z : n - 0 ≡ n = omega arith in
    let l : length (take n ks) ≡ n = length-take-le n ks hk in
    (rw (z, l) at e)

-- ---- `search`
pub table_walk : (p ks xs : List ℕ) (n : ℕ) (t : Tree) → TableOf p ks xs n t → Flat (re_of t) 8 → n ≤ length ks → n ≤ length xs → (sf ef : Bool) (x : List ℕ) →
    decide (tokens_of p (take n ks) (take n xs)) n sf ef x ≡ walk sf ef (re_of t) true x
table_walk p ks xs n t h f hk hx sf ef x =
    ap (λ (ts : List Token). decide ts n sf ef x) h.1
    ∙ ap (λ (k : ℕ). decide (tokens (re_of t)) k sf ef x) (table_length p ks xs n hk hx (tokens (re_of t)) h.1)
    ∙ by_marks sf ef (re_of t) (fresh t) f x

-- the first of several branches fits, or it does not
held_first : (sf ef : Bool) (t : Tree) (o : Option (List Anchored)) (x : List ℕ) → walk sf ef (re_of t) true x ≡ true → is_some o ≡ held_in (with_first (anchored sf ef t) o) x
held_first sf ef t none x h = refl
held_first sf ef t (some bs) x h = rw h

held_rest : (sf ef : Bool) (t : Tree) (o : Option (List Anchored)) (x : List ℕ) → walk sf ef (re_of t) true x ≡ false → held_in o x ≡ held_in (with_first (anchored sf ef t) o) x
held_rest sf ef t none x h = refl
held_rest sf ef t (some bs) x h = rw h

module _ (p x : List ℕ) (i : ℕ) (first : Bool) (ks xs : List ℕ) (e : held_in (branches first (drop i p)) x ≡ held_in (branches_of p) x) where
  pub search_last : (n : ℕ) (sf ef : Bool) → TableAt p i first ks xs (Some (Last n sf ef)) → n ≤ length ks → n ≤ length xs → (r : Bool) →
      r ≡ decide (tokens_of p (take n ks) (take n xs)) n sf ef x → r ≡ held_in (branches_of p) x
  search_last n sf ef t hk hx r q =
      q
      ∙ table_walk p ks xs n t.0 t.2 (last_flat first (drop i p) sf ef t.0 t.1) hk hx sf ef x
      ∙ sym (or-false (walk sf ef (re_of t.0) true x))
      ∙ ap (λ (o : Option (List Anchored)). held_in o x) (sym (last_branch first (drop i p) (anchored sf ef t.0) t.1))
      ∙ e

  module _ (n : ℕ) (sf : Bool) (j : ℕ) (t : TableAt p i first ks xs (Some (More n sf j))) (hk : n ≤ length ks) (hx : n ≤ length xs) (r : Bool) (q : r ≡ decide (tokens_of p (take n ks) (take n xs)) n sf true x) where
    joined : held_in (with_first (anchored sf true t.2.0) (branches false (drop j p))) x ≡ held_in (branches_of p) x
    joined =
        ap (λ (o : Option (List Anchored)). held_in o x) (sym (more_branch first (drop i p) (anchored sf true t.2.0) (drop j p) t.2.1))
        ∙ e

    here : walk sf true (re_of t.2.0) true x ≡ r
    here = sym (q ∙ table_walk p ks xs n t.2.0 t.2.2 (more_flat first (drop i p) sf true t.2.0 (drop j p) t.2.1) hk hx sf true x)

    pub search_hit : r ≡ true → (g : Bool) → g ≡ is_some (branches false (drop j p)) → g ≡ held_in (branches_of p) x
    search_hit f g h = h ∙ held_first sf true t.2.0 (branches false (drop j p)) x (here ∙ f) ∙ joined

    pub search_on : r ≡ false → held_in (branches false (drop j p)) x ≡ held_in (branches_of p) x
    search_on f = held_rest sf true t.2.0 (branches false (drop j p)) x (here ∙ f) ∙ joined

  pub search_bad : TableAt p i first ks xs None → false ≡ held_in (branches_of p) x
  search_bad t = ap (λ (o : Option (List Anchored)). held_in o x) (sym (no_branch first (drop i p) t)) ∙ e

-- ---- `fits`
module _ (x p : List ℕ) where
  pub regex_short : length p ≤ 4096 → (r : Bool) → r ≡ held_in (branches_of p) x → r ≡ regex_of x p
  regex_short l r e = e ∙ ap (λ (b : Bool). b && held_in (branches_of p) x) (sym (le-leb (length p) 4096 l))

  pub regex_long : 4096 < length p → false ≡ regex_of x p
  regex_long l = ap (λ (b : Bool). b && held_in (branches_of p) x) (sym (lt-leb (length p) 4096 l))

pub fold_one : (p room : List ℕ) (i v : ℕ) → i < length p → i < length room → v ≡ fold true (get_or p i 0) → take i room ≡ take i (folded true p) → take (i + 1) (set room i v) ≡ take (i + 1) (folded true p)
fold_one p room i v h l ev e =
    let k : i < length (folded true p) = rw (length-map p (fold true)) h in
    let b : get_or (folded true p) i 0 ≡ v = get_or-map (fold true) p i 0 ∙ sym ev in
    rw (add-one i, take-suc-set room i v l, take-suc (folded true p) i 0 k, b, e)

pub fold_all : (p room : List ℕ) (i : ℕ) → i ≤ length p → length p ≤ i → take i room ≡ take i (folded true p) → take (length p) room ≡ folded true p
fold_all p room i h l e =
    let q : i ≡ length p = omega arith in
    let k : length (folded true p) ≤ length p = rw (length-map p (fold true)) (omega arith) in
    (rw q at e) ∙ take_all (length p) (folded true p) k

pub folded_length : (p : List ℕ) → length (folded true p) ≡ length p
folded_length p = length-map p (fold true)
