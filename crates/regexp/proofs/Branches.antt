-- What is computed of the branches is what the grammar derives. Assumes nothing.
use mathlib.Core.Path.{◌≡◌, refl, sym, ap, ◌∙◌}
use mathlib.Core.Bool.{Bool, true, false, not, ◌&&◌, ◌||◌, and-false}
use mathlib.Core.List.{List, [], ◌∷◌, ◌++◌}
use mathlib.Core.Option.{Option, none, some}
use Prim.Native.Nat.{ℕ, zero, suc, ◌<◌}
use native.Mathlib.Omega.{arith}
use lib.Dec.{eqb}
use lib.ListN.{length, drop, length-append}
use borrow.Author.Tests.{eqb-true}
use Rattle.common.specs.Choice.{pick}
use Rattle.common.proofs.Choice.{pick_yes, false_true}
use Rattle.octets.proofs.Theorems.{and_parts}
use Rattle.pattern.specs.Steps.{begins}
use Rattle.pattern.specs.Wildcard.{is_none}
use Rattle.automaton.specs.Pass.{Flat}
use Rattle.regexp.specs.Language.{Tree, Anchored, anchored}
use Rattle.regexp.specs.Grammar.{Body, Edge, free, bound, Pattern, final, further}
use Rattle.regexp.specs.Words.{word_of, ends}
use Rattle.regexp.specs.Scan.{Spot, goes, Steps, here, there, start, tree_of, has, Scan, read, broken, branch_of}
use Rattle.regexp.specs.Regex.{Part, last, more, fault, end_of, ended, hat_of, one_if, part_of, with_first, on_part, branches_from, branches, re_of}
use Rattle.regexp.proofs.Forth.{body_goes}
use Rattle.regexp.proofs.Shape.{flat}
use Rattle.regexp.proofs.Scans.{stays, body_read, read_back}

-- ---- from the grammar

-- what may stand behind a branch
data Rest : List ℕ → Type 0 where
  nothing_left : Rest []
  dollar_left : Rest (36 ∷ [])
  bar_left : {r : List ℕ} → Rest (124 ∷ r)

rest_ends : {z : List ℕ} → Rest z → ends (word_of z) ≡ true
rest_ends nothing_left = refl
rest_ends dollar_left = refl
rest_ends bar_left = refl

rest_no_hat : {z : List ℕ} → Rest z → (w : List ℕ) → z ≡ 94 ∷ w → ⊥
rest_no_hat nothing_left w e = let y : ◌≡◌ {A = ℕ} 0 1 = cc in omega arith
rest_no_hat dollar_left w e = let y : ◌≡◌ {A = ℕ} 36 94 = cc in omega arith
rest_no_hat bar_left w e = let y : ◌≡◌ {A = ℕ} 124 94 = cc in omega arith

edge_rest : {e : List ℕ} {ef : Bool} → Edge 36 true e ef → Rest e
edge_rest free = nothing_left
edge_rest (bound m) = dollar_left

no_hat_steps : {w r : List ℕ} {q : Spot} → Steps (goes (94 ∷ w) start) (goes r q) → r ≡ 94 ∷ w
no_hat_steps (here e) = cc
no_hat_steps (there e p) = let z = stays (sym e) p in let y : ◌≡◌ {A = ℕ} 0 1 = cc in absurd (omega arith)

clashes : {s e w : List ℕ} {b : Bool} {t : Tree} → Body s b t → Rest e → s ++ e ≡ 94 ∷ w → ⊥
clashes {e = e} {w = w} p r h = let x = body_goes p e in rest_no_hat r w (no_hat_steps (rw h at x.1))

head_is : (z : List ℕ) → begins 94 z ≡ true → (w : List ℕ) × (z ≡ 94 ∷ w)
head_is [] e = false_true e
head_is (b ∷ w) e = (w, ap (λ (c : ℕ). c ∷ w) (eqb-true b 94 e))

hat_known : {first sf b : Bool} {t : Tree} {a s e z : List ℕ} → Edge 94 first a sf → Body s b t → Rest e → a ++ (s ++ e) ≡ z → (hat_of first z ≡ not sf) × (drop (one_if (hat_of first z)) z ≡ s ++ e)
hat_known {first = first} {s = s} {e = e} {z = z} free p r q = go (begins 94 z) refl
  where
    go : (y : Bool) → begins 94 z ≡ y → (hat_of first z ≡ false) × (drop (one_if (hat_of first z)) z ≡ s ++ e)
    go true y = absurd (clashes p r (q ∙ (head_is z y).1))
    go false y =
        let k : hat_of first z ≡ false = ap (λ (x : Bool). first && x) y ∙ and-false first in
        (k, ap (λ (h : Bool). drop (one_if h) z) k ∙ sym q)
hat_known {first = first} {z = z} (bound m) p r q =
    let k : hat_of first z ≡ true = ap (λ (x : Bool). x && begins 94 z) m ∙ ap (begins 94) (sym q) in
    (k, ap (λ (h : Bool). drop (one_if h) z) k ∙ ap (drop 1) (sym q))

part_known : {first sf b : Bool} {t : Tree} {a s e z : List ℕ} → Edge 94 first a sf → Body s b t → Rest e → a ++ (s ++ e) ≡ z → part_of first z ≡ end_of (b || not sf) (not sf) t e
part_known {first = first} {sf = sf} {t = t} {e = e} {z = z} g p r q =
    let h = hat_known g p r q in
    let w = body_read p e (rest_ends r) in
    ap (λ (x : Bool). ended x (branch_of (drop (one_if (hat_of first z)) z))) h.0
    ∙ ap (λ (l : List ℕ). ended (not sf) (branch_of l)) h.1
    ∙ ap (ended (not sf)) w.1
    ∙ ap (λ (u : Tree). end_of (has w.0 || not sf) (not sf) u e) w.2
    ∙ ap (λ (x : Bool). end_of (x || not sf) (not sf) t e) w.3

not-not : (b : Bool) → not (not b) ≡ b
not-not true = refl
not-not false = refl

or_drop : (a b : Bool) → (a || (b || false)) ≡ true → (a || b) ≡ true
or_drop true b e = refl
or_drop false true e = refl
or_drop false false e = e

final_part : {first sf ef b : Bool} {a s e z : List ℕ} {t : Tree} → Edge 94 first a sf → Body s b t → Edge 36 true e ef → (b || (not sf || not ef)) ≡ true → a ++ (s ++ e) ≡ z → part_of first z ≡ last (anchored sf ef t)
final_part {sf = sf} {b = b} {t = t} g p free o q =
    part_known g p nothing_left q
    ∙ pick_yes (b || not sf) (λ _. last (anchored (not (not sf)) true t)) (λ _. fault) (or_drop b (not sf) o)
    ∙ ap (λ (x : Bool). last (anchored x true t)) (not-not sf)
final_part {sf = sf} {t = t} g p (bound m) o q = part_known g p dollar_left q ∙ ap (λ (x : Bool). last (anchored x false t)) (not-not sf)

further_part : {first sf b : Bool} {a s r z : List ℕ} {t : Tree} → Edge 94 first a sf → Body s b t → (b || not sf) ≡ true → a ++ (s ++ (124 ∷ r)) ≡ z → part_of first z ≡ more (anchored sf true t) r
further_part {sf = sf} {b = b} {r = r} {t = t} g p o q =
    part_known g p (bar_left {r = r}) q
    ∙ pick_yes (b || not sf) (λ _. more (anchored (not (not sf)) true t) r) (λ _. fault) o
    ∙ ap (λ (x : Bool). more (anchored x true t) r) (not-not sf)

pub derived : {first : Bool} {z : List ℕ} {bs : List Anchored} → Pattern first z bs → (n : ℕ) → length z < n → branches_from n first z ≡ some bs
derived (final g p d o q) zero l = absurd (omega arith)
derived (final g p d o q) (suc n) l = ap (λ (y : Part). on_part y (λ r. branches_from n false r)) (final_part g p d o q)
derived (further g p o w q) zero l = absurd (omega arith)
derived (further {sf = sf} {a = a} {s = s} {r = r} {t = t} g p o w q) (suc n) l =
    ap (λ (y : Part). on_part y (λ r. branches_from n false r)) (further_part g p o q)
    ∙ ap (with_first (anchored sf true t)) (derived w n (omega (arith, ap length q, length-append a (s ++ (124 ∷ r)), length-append s (124 ∷ r))))

-- ---- to the grammar
abbrev FlatTree : Anchored → Type 0
FlatTree (anchored sf ef t) = Flat (re_of t) 8

-- what the first branch of a text is
abbrev pub Came : Bool → List ℕ → Part → Type 0
Came first z (last b) = FlatTree b × Pattern first z (b ∷ [])
Came first z (more b r) = FlatTree b × (length r < length z) × ((bs : List Anchored) → Pattern false r bs → Pattern first z (b ∷ bs))
Came first z fault = Unit {0}

or_keep : (a b : Bool) → (a || b) ≡ true → (a || (not (not b) || false)) ≡ true
or_keep true b e = refl
or_keep false true e = refl
or_keep false false e = e

or_keep_more : (a b : Bool) → (a || b) ≡ true → (a || not (not b)) ≡ true
or_keep_more true b e = refl
or_keep_more false true e = refl
or_keep_more false false e = e

or_end : (a b : Bool) → (a || (b || true)) ≡ true
or_end true b = refl
or_end false true = refl
or_end false false = refl

is_nil : (r : List ℕ) → is_none r ≡ true → r ≡ []
is_nil [] e = refl
is_nil (b ∷ r) e = false_true e

module _ (first : Bool) (z : List ℕ) (h : Bool) (a : List ℕ) (g : Edge 94 first a (not h)) (ps : List Tree) (s : List ℕ) (p : Body s (has ps) (tree_of ps)) where
  at_end : (full : Bool) → (has ps || h) ≡ full → a ++ (s ++ []) ≡ z → Came first z (end_of full h (tree_of ps) [])
  at_end true f q = (flat p, final g p free (or_keep (has ps) h f) q)
  at_end false f q = tt

  at_bar : (full : Bool) → (has ps || h) ≡ full → (r : List ℕ) → a ++ (s ++ (124 ∷ r)) ≡ z
      → Came first z (pick full (λ _. more (anchored (not h) true (tree_of ps)) r) (λ _. fault))
  at_bar true f r q = (
    flat p,
    omega (arith, ap length q, length-append a (s ++ (124 ∷ r)), length-append s (124 ∷ r)),
    λ bs w. further g p (or_keep_more (has ps) h f) w q,
  )
  at_bar false f r q = tt

  at_dollar : (x : Bool) (c : ℕ) (r : List ℕ) → (eqb c 36 && is_none r) ≡ x → a ++ (s ++ (c ∷ r)) ≡ z
      → Came first z (pick x (λ _. last (anchored (not h) false (tree_of ps))) (λ _. fault))
  at_dollar true c r e q =
      let k = and_parts (eqb c 36) (is_none r) e in
      let y : c ∷ r ≡ 36 ∷ [] = cc (eqb-true c 36 k.0, is_nil r k.1) in
      (flat p, final g p (bound refl) (or_end (has ps) (not (not h))) (ap (λ (l : List ℕ). a ++ (s ++ l)) (sym y) ∙ q))
  at_dollar false c r e q = tt

  at_byte : (x : Bool) (c : ℕ) (r : List ℕ) → eqb c 124 ≡ x → a ++ (s ++ (c ∷ r)) ≡ z
      → Came first z (pick x (λ _. pick (has ps || h) (λ _. more (anchored (not h) true (tree_of ps)) r) (λ _. fault)) (λ _. pick (eqb c 36 && is_none r) (λ _. last (anchored (not h) false (tree_of ps))) (λ _. fault)))
  at_byte true c r e q = at_bar (has ps || h) refl r (ap (λ (d : ℕ). a ++ (s ++ (d ∷ r))) (sym (eqb-true c 124 e)) ∙ q)
  at_byte false c r e q = at_dollar (eqb c 36 && is_none r) c r refl q

  at_rest : (r : List ℕ) → a ++ (s ++ r) ≡ z → Came first z (end_of (has ps || h) h (tree_of ps) r)
  at_rest [] q = at_end (has ps || h) refl q
  at_rest (c ∷ r) q = at_byte (eqb c 124) c r refl q

lead : (first : Bool) (z : List ℕ) (h : Bool) → hat_of first z ≡ h → (a : List ℕ) × Edge 94 first a (not h) × (a ++ drop (one_if h) z ≡ z)
lead first z true e =
    let k = and_parts first (begins 94 z) e in
    let w = head_is z k.1 in
    (94 ∷ [], bound k.0, ap (λ (l : List ℕ). 94 ∷ drop 1 l) w.1 ∙ sym w.1)
lead first z false e = ([], free, refl)

pub came : (first : Bool) (z : List ℕ) → Came first z (part_of first z)
came first z = by_hat (hat_of first z) refl
  where
    by_scan : (h : Bool) → hat_of first z ≡ h → (x : Scan) → branch_of (drop (one_if h) z) ≡ x → Came first z (ended h x)
    by_scan h e (read ps r) f =
        let k = lead first z h e in
        let b = read_back (drop (one_if h) z) ps r f in
        at_rest first z h k.0 k.1 ps b.0 b.1 r (ap (λ (l : List ℕ). k.0 ++ l) b.2 ∙ k.2)
    by_scan h e broken f = tt

    by_hat : (h : Bool) → hat_of first z ≡ h → Came first z (ended h (branch_of (drop (one_if h) z)))
    by_hat h e = by_scan h e (branch_of (drop (one_if h) z)) refl

some_is : {bs cs : List Anchored} → some bs ≡ some cs → bs ≡ cs
some_is e = cc

none_some : {A : Type 0} (bs : List Anchored) → none ≡ some bs → A
none_some bs e = let y : ◌≡◌ {A = ℕ} 0 1 = cc in absurd (omega arith)

pub computed : (n : ℕ) (first : Bool) (z : List ℕ) (bs : List Anchored) → branches_from n first z ≡ some bs → Pattern first z bs
computed zero first z bs e = none_some bs e
computed (suc n) first z bs e = go (part_of first z) (came first z) e (λ r cs. computed n false r cs)
  where
    rest : (b : Anchored) (r : List ℕ) → ((cs : List Anchored) → Pattern false r cs → Pattern first z (b ∷ cs)) → (o : Option (List Anchored)) → branches_from n false r ≡ o
        → with_first b o ≡ some bs → ((cs : List Anchored) → branches_from n false r ≡ some cs → Pattern false r cs) → Pattern first z bs
    rest b r k none f q ih = none_some bs q
    rest b r k (some cs) f q ih = (rw (some_is q) at (k cs (ih cs f)))

    go : (y : Part) → Came first z y → on_part y (λ r. branches_from n false r) ≡ some bs → ((r : List ℕ) (cs : List Anchored) → branches_from n false r ≡ some cs → Pattern false r cs) → Pattern first z bs
    go (last b) k q ih = (rw (some_is q) at k.1)
    go (more b r) k q ih = rest b r k.2 (branches_from n false r) refl q (ih r)
    go fault k q ih = none_some bs q

-- ---- how many branches are allowed does not matter
same_branches : (n m : ℕ) (first : Bool) (z : List ℕ) → length z < n → length z < m → branches_from n first z ≡ branches_from m first z
same_branches zero m first z h l = absurd (omega arith)
same_branches (suc n) zero first z h l = absurd (omega arith)
same_branches (suc n) (suc m) first z h l = go (part_of first z) (came first z) (λ r. same_branches n m false r)
  where
    go : (y : Part) → Came first z y → ((r : List ℕ) → length r < n → length r < m → branches_from n false r ≡ branches_from m false r)
        → on_part y (λ r. branches_from n false r) ≡ on_part y (λ r. branches_from m false r)
    go (last b) k ih = refl
    go (more b r) k ih = ap (with_first b) (ih r (omega (arith, k.1)) (omega (arith, k.1)))
    go fault k ih = refl

-- ---- the first branch, and the others
module _ (first : Bool) (z : List ℕ) where
  pub last_branch : (b : Anchored) → part_of first z ≡ last b → branches first z ≡ some (b ∷ [])
  last_branch b e = ap (λ (y : Part). on_part y (λ r. branches_from (length z) false r)) e

  pub no_branch : part_of first z ≡ fault → branches first z ≡ none
  no_branch e = ap (λ (y : Part). on_part y (λ r. branches_from (length z) false r)) e

  pub more_branch : (b : Anchored) (r : List ℕ) → part_of first z ≡ more b r → branches first z ≡ with_first b (branches false r)
  more_branch b r e =
      let k : Came first z (more b r) = (rw e at (came first z)) in
      ap (λ (y : Part). on_part y (λ r. branches_from (length z) false r)) e ∙ ap (with_first b) (same_branches (length z) (suc (length r)) false r k.1 (omega arith))

  pub last_flat : (sf ef : Bool) (t : Tree) → part_of first z ≡ last (anchored sf ef t) → Flat (re_of t) 8
  last_flat sf ef t e = let k : Came first z (last (anchored sf ef t)) = (rw e at (came first z)) in k.0

  pub more_flat : (sf ef : Bool) (t : Tree) (r : List ℕ) → part_of first z ≡ more (anchored sf ef t) r → Flat (re_of t) 8
  more_flat sf ef t r e = let k : Came first z (more (anchored sf ef t) r) = (rw e at (came first z)) in k.0
