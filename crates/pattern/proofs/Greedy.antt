-- The match from the left with one place to go back to: the items behind the last `*`. Assumes nothing.
use mathlib.Core.Path.{◌≡◌, refl, sym, ap, ◌∙◌, subst}
use mathlib.Core.Logic.{◌⊎◌, inl, inr}
use mathlib.Core.Bool.{Bool, true, false, ◌&&◌, ◌||◌, or-true, or_self, and-false}
use mathlib.Core.List.{List, [], ◌∷◌}
use mathlib.Core.Option.{Option, none, some}
use Prim.Native.Nat.{ℕ, zero, suc, ◌+◌, ◌-◌, ◌*◌, ◌≤◌, ◌<◌}
use native.Mathlib.Decide.{dec_lt}
use native.Mathlib.Omega.{arith}
use lib.Dec.{eqb}
use lib.ListN.{length, drop, drop_of_length-le}
use lib.Seq.{drop-drop}
use Rattle.common.specs.Choice.{pick}
use Rattle.common.proofs.Choice.{true_false, false_true}
use Rattle.octets.proofs.Theorems.{and_parts, or_parts}
use Rattle.pattern.specs.Sets.{spans_of, width_of}
use Rattle.pattern.specs.Wildcard.{Item, plain, any, set, run, Part, part, fault, escaped_part, is_set, set_from, set_part, part_of, takes, with_first, items_of, first_fits, some_rest, fits_read, wildcard_of}
use Rattle.std.specs.Prelude.{Some, None}
use Rattle.std.specs.Prelude.{Option as Maybe}
use Rattle.pattern.specs.declared.wildcard.Star.{Star}
use Rattle.pattern.specs.Steps.{begins, taken_of, only_runs}
use Rattle.pattern.proofs.Texts.{sign_here}
use Rattle.pattern.proofs.Items.{PartTold, part_told, part_head, fault_head, items_nil}

-- ---- rests of a value
some_split : (f : List ℕ → Bool) (z : List ℕ) → f z || some_rest f (drop 1 z) ≡ some_rest f z
some_split f [] = or_self (f [])
some_split f (c ∷ z) = refl

some_index : (f : List ℕ → Bool) (z : List ℕ) → some_rest f z ≡ true → (j : ℕ) × (f (drop j z) ≡ true)
some_index f [] e = (0, e)
some_index f (c ∷ z) e = go (some_index f z) (or_parts (f (c ∷ z)) (some_rest f z) e)
  where
    go : (some_rest f z ≡ true → (j : ℕ) × (f (drop j z) ≡ true)) → (f (c ∷ z) ≡ true) ⊎ (some_rest f z ≡ true) → (j : ℕ) × (f (drop j (c ∷ z)) ≡ true)
    go more (inl h) = (0, h)
    go more (inr h) = let r = more h in (suc r.0, r.1)

some_lifts : (f : List ℕ → Bool) (m : ℕ) (z : List ℕ) → some_rest f (drop m z) ≡ true → some_rest f z ≡ true
some_lifts f zero z e = e
some_lifts f (suc m) [] e = e
some_lifts f (suc m) (c ∷ z) e = rw (some_lifts f m z e) (or-true (f (c ∷ z)))

first_rest : (it : Item) (f : List ℕ → Bool) (z : List ℕ) → first_fits it f z ≡ true → f (drop 1 z) ≡ true
first_rest it f [] e = false_true e
first_rest it f (c ∷ z) e = (and_parts (takes it c) (f z) e).1

-- ---- the first item
abbrev is_run : Item → Bool
is_run (plain b) = false
is_run any = false
is_run (set out xs) = false
is_run run = true

taken_one : (it : Item) (c : ℕ) → takes it c ≡ true → is_run it ≡ false
taken_one (plain b) c e = refl
taken_one any c e = refl
taken_one (set out xs) c e = refl
taken_one run c e = sym e

no_rest : (it : Item) (y : List ℕ) → false ≡ first_fits it (fits_read none) y
no_rest it [] = refl
no_rest it (c ∷ y) = sym (and-false (takes it c))

no_run : (y : List ℕ) → false ≡ some_rest (fits_read none) y
no_run [] = refl
no_run (c ∷ y) = no_run y

fits_one : (it : Item) (o : Option (List Item)) (y : List ℕ) → is_run it ≡ false → fits_read (with_first it o) y ≡ first_fits it (fits_read o) y
fits_one it none y e = no_rest it y
fits_one (plain b) (some is) y e = refl
fits_one any (some is) y e = refl
fits_one (set out xs) (some is) y e = refl
fits_one run (some is) y e = true_false e

fits_run : (o : Option (List Item)) (y : List ℕ) → fits_read (with_first run o) y ≡ some_rest (fits_read o) y
fits_run none y = no_run y
fits_run (some is) y = refl

-- a part is a run exactly where a `*` stands
abbrev RunTold : Part → Bool → Type 0
RunTold (part it k) x = is_run it ≡ x
RunTold fault x = Unit {0}

from_told : (out : Bool) (k : ℕ) (s : List ℕ) → RunTold (set_from out k s) false
from_told out k s = go (is_set s)
  where
    go : (x : Bool) → RunTold (pick x (λ _. part (set out (spans_of s)) (k + width_of s)) (λ _. fault)) false
    go true = refl
    go false = tt

set_told : (r : List ℕ) → RunTold (set_part r) false
set_told [] = tt
set_told (b ∷ s) = go (eqb b 33)
  where
    go : (x : Bool) → RunTold (pick x (λ _. set_from true 1 s) (λ _. set_from false 0 (b ∷ s))) false
    go true = from_told true 1 s
    go false = from_told false 0 (b ∷ s)

escaped_told : (r : List ℕ) → RunTold (escaped_part r) false
escaped_told [] = tt
escaped_told (b ∷ r) = refl

run_told : (s : List ℕ) → RunTold (part_of s) (begins 42 s)
run_told [] = tt
run_told (b ∷ r) = go (eqb b 42) (eqb b 63) (eqb b 92) (eqb b 91)
  where
    go : (x y z w : Bool)
        → RunTold (pick x (λ _. part run 0) (λ _. pick y (λ _. part any 0) (λ _. pick z (λ _. escaped_part r) (λ _. pick w (λ _. set_part r) (λ _. part (plain b) 0))))) x
    go true y z w = refl
    go false true z w = refl
    go false false true w = escaped_told r
    go false false false true = set_told r
    go false false false false = refl

-- ---- the items from an index
abbrev pub fits_at : List ℕ → ℕ → List ℕ → Bool
fits_at t i y = fits_read (items_of (drop i t)) y

run_here : (t : List ℕ) (i : ℕ) → begins 42 (drop i t) ≡ true → (y : List ℕ) → fits_at t i y ≡ some_rest (fits_at t (i + 1)) y
run_here t i e y =
    ap (λ (o : Option (List Item)). fits_read o y) (ap items_of (sign_here t i 42 e) ∙ part_head 42 (drop (i + 1) t) run 0 refl)
    ∙ fits_run (items_of (drop (i + 1) t)) y

-- an item that takes a byte
abbrev Took : List ℕ → ℕ → ℕ → ℕ → Type 0
Took t i next c =
    (it : Item) × (takes it c ≡ true) × ((y : List ℕ) → fits_at t i y ≡ first_fits it (fits_at t next) y) × (i < next) × (i < length t)

took : (t : List ℕ) (i next c : ℕ) → Some next ≡ taken_of (part_of (drop i t)) (i + 1) c → Took t i next c
took t i next c e = go (part_of (drop i t)) (part_told t i) e
  where
    by : (it : Item) (k : ℕ) → PartTold t i (part it k) → (x : Bool) → takes it c ≡ x → Some next ≡ pick x (λ _. Some (i + 1 + k)) (λ _. None) → Took t i next c
    by it k d true f q =
        let n : next ≡ i + 1 + k = cc in (
          it,
          f,
          λ y. ap (λ (o : Option (List Item)). fits_read o y) d.0 ∙ fits_one it (items_of (drop (i + 1 + k) t)) y (taken_one it c f) ∙ rw n,
          omega (arith, n),
          d.1,
        )
    by it k d false f q = absurd (cc)

    go : (x : Part) → PartTold t i x → Some next ≡ taken_of x (i + 1) c → Took t i next c
    go (part it k) d q = by it k d (takes it c) refl q
    go fault d q = absurd (cc)

-- an item that takes no byte, and is no `*`
missed : (t : List ℕ) (i c : ℕ) (z : List ℕ) → None ≡ taken_of (part_of (drop i t)) (i + 1) c → begins 42 (drop i t) ≡ false → fits_at t i (c ∷ z) ≡ false
missed t i c z e b = go (part_of (drop i t)) (part_told t i) (run_told (drop i t)) e
  where
    by : (it : Item) (k : ℕ) → PartTold t i (part it k) → is_run it ≡ false → (x : Bool) → takes it c ≡ x → None ≡ pick x (λ _. Some (i + 1 + k)) (λ _. None) → fits_at t i (c ∷ z) ≡ false
    by it k d r true f q = absurd (cc)
    by it k d r false f q =
        ap (λ (o : Option (List Item)). fits_read o (c ∷ z)) d.0
        ∙ fits_one it (items_of (drop (i + 1 + k) t)) (c ∷ z) r
        ∙ ap (λ (x : Bool). x && fits_at t (i + 1 + k) z) f

    none_here : PartTold t i fault → Dec (i < length t) → fits_at t i (c ∷ z) ≡ false
    none_here d (yes h) = ap (λ (o : Option (List Item)). fits_read o (c ∷ z)) (d h)
    none_here d (no h) = ap (λ (l : List ℕ). fits_read (items_of l) (c ∷ z)) (drop_of_length-le t {i = i} (omega arith)) ∙ ap (λ (o : Option (List Item)). fits_read o (c ∷ z)) items_nil

    go : (x : Part) → PartTold t i x → RunTold x (begins 42 (drop i t)) → None ≡ taken_of x (i + 1) c → fits_at t i (c ∷ z) ≡ false
    go (part it k) d r q = by it k d (r ∙ b) (takes it c) refl q
    go fault d r q = none_here d (dec_lt i (length t))

-- the empty rest fits `*` alone
pub runs_fit : (s : List ℕ) → only_runs s ≡ fits_read (items_of s) []
runs_fit [] = sym (ap (λ (o : Option (List Item)). fits_read o []) items_nil)
runs_fit (b ∷ r) = go (eqb b 42) refl (runs_fit r)
  where
    by : (x : Part) → part_of (b ∷ r) ≡ x → RunTold x false → false ≡ fits_read (items_of (b ∷ r)) []
    by (part it k) e q = sym (ap (λ (o : Option (List Item)). fits_read o []) (part_head b r it k e) ∙ fits_one it (items_of (drop k r)) [] q)
    by fault e q = sym (ap (λ (o : Option (List Item)). fits_read o []) (fault_head b r e))

    go : (x : Bool) → eqb b 42 ≡ x → only_runs r ≡ fits_read (items_of r) [] → x && only_runs r ≡ fits_read (items_of (b ∷ r)) []
    go true e more =
        let q : part_of (b ∷ r) ≡ part run 0 = rw e in
        more ∙ sym (ap (λ (o : Option (List Item)). fits_read o []) (part_head b r run 0 q) ∙ fits_run (items_of r) [])
    go false e more = by (part_of (b ∷ r)) refl (subst (RunTold (part_of (b ∷ r))) e (run_told (b ∷ r)))

-- ---- where the match stands: `i` in the pattern and `v` in the value; behind the last `*`, if one was met, and where its present run ends

-- the rest fits here, or the items behind the `*` fit some rest further on; and where these fit, those from `i` on fit as many bytes later as they are later
abbrev pub Starred : List ℕ → List ℕ → ℕ → ℕ → ℕ → ℕ → Type 0
Starred x t i v behind base =
    (base ≤ v) × (fits_at t i (drop v x) || some_rest (fits_at t behind) (drop (base + 1) x) ≡ wildcard_of x t) × ((y : List ℕ) → fits_at t behind y ≡ true → fits_at t i (drop (v - base) y) ≡ true)

abbrev pub Matching : List ℕ → List ℕ → ℕ → ℕ → Maybe Star → Type 0
Matching x t i v None = fits_at t i (drop v x) ≡ wildcard_of x t
Matching x t i v (Some s) = Starred x t i v s.behind s.base

or_absorb : (a b : Bool) → (b ≡ true → a ≡ true) → a ≡ a || b
or_absorb true b h = refl
or_absorb false true h = h refl
or_absorb false false h = refl

module _ (x t : List ℕ) (i v : ℕ) where
  -- what fits further on fits from `i`, further on too
  later : (behind base : ℕ) → Starred x t i v behind base → some_rest (fits_at t behind) (drop (base + 1) x) ≡ true → (j : ℕ) × (fits_at t i (drop (v + 1 + j) x) ≡ true)
  later behind base s e =
      let r = some_index (fits_at t behind) (drop (base + 1) x) e in
      let n : base + 1 + r.0 + (v - base) ≡ v + 1 + r.0 = omega (arith, s.0) in
      let d : drop (v - base) (drop r.0 (drop (base + 1) x)) ≡ drop (v + 1 + r.0) x =
      ap (drop (v - base)) (drop-drop r.0 (base + 1) x) ∙ drop-drop (v - base) (base + 1 + r.0) x ∙ ap (λ (k : ℕ). drop k x) n in
      (r.0, sym (ap (fits_at t i) d) ∙ s.2 (drop r.0 (drop (base + 1) x)) r.1)

  module _ (c : ℕ) (h : drop v x ≡ c ∷ drop (v + 1) x) where
    module _ (next : ℕ) (e : Some next ≡ taken_of (part_of (drop i t)) (i + 1) c) where
      pub match-on : (i < next) × (i < length t)
      match-on = let k = took t i next c e in (k.3, k.4)

      same : fits_at t i (drop v x) ≡ fits_at t next (drop (v + 1) x)
      same =
          let k = took t i next c e in
          k.2 (drop v x) ∙ ap (first_fits k.0 (fits_at t next)) h ∙ ap (λ (b : Bool). b && fits_at t next (drop (v + 1) x)) k.1

      onward : (behind base : ℕ) → Starred x t i v behind base → Starred x t next (v + 1) behind base
      onward behind base s = (omega (arith, s.0), ap (λ (b : Bool). b || some_rest (fits_at t behind) (drop (base + 1) x)) (sym same) ∙ s.1, further)
        where
          further : (y : List ℕ) → fits_at t behind y ≡ true → fits_at t next (drop (v + 1 - base) y) ≡ true
          further y f =
              let k = took t i next c e in
              let g = first_rest k.0 (fits_at t next) (drop (v - base) y) (sym (k.2 (drop (v - base) y)) ∙ s.2 y f) in
              let l : v - base + 1 ≡ v + 1 - base = omega (arith, s.0) in
              ap (fits_at t next) (sym (drop-drop 1 (v - base) y ∙ ap (λ (k : ℕ). drop k y) l)) ∙ g

      -- the item takes the byte
      pub match-taken : (star : Maybe Star) → Matching x t i v star → Matching x t next (v + 1) star
      match-taken None s = sym same ∙ s
      match-taken (Some k) s = onward k.behind k.base s

    module _ (n : None ≡ taken_of (part_of (drop i t)) (i + 1) c) (b : begins 42 (drop i t) ≡ false) where
      misfit : fits_at t i (drop v x) ≡ false
      misfit = ap (fits_at t i) h ∙ missed t i c (drop (v + 1) x) n b

      -- nothing to go back to
      pub match-failed : Matching x t i v None → false ≡ wildcard_of x t
      match-failed s = sym misfit ∙ s

      -- the last `*` takes one byte more
      pub match_back : (behind base : ℕ) → Starred x t i v behind base → Starred x t behind (base + 1) behind (base + 1)
      match_back behind base s =
          let f : fits_at t behind (drop (base + 1) x) || some_rest (fits_at t behind) (drop (base + 1 + 1) x) ≡ some_rest (fits_at t behind) (drop (base + 1) x) =
          ap (λ (z : List ℕ). fits_at t behind (drop (base + 1) x) || some_rest (fits_at t behind) z) (sym (drop-drop 1 (base + 1) x))
          ∙ some_split (fits_at t behind) (drop (base + 1) x) in
          let k : base + 1 - (base + 1) ≡ 0 = omega arith in
          (omega arith, f ∙ ap (λ (b : Bool). b || some_rest (fits_at t behind) (drop (base + 1) x)) (sym misfit) ∙ s.1, λ y g. rw k g)

  -- a `*`: the one before it is done with, since whatever fits further on from it leaves a run for this one
  module _ (b : begins 42 (drop i t) ≡ true) where
    settled : (star : Maybe Star) → Matching x t i v star → fits_at t i (drop v x) ≡ wildcard_of x t
    settled None s = s
    settled (Some k) s = or_absorb (fits_at t i (drop v x)) (some_rest (fits_at t k.behind) (drop (k.base + 1) x)) (λ e. lift (later k.behind k.base s e)) ∙ s.1
      where
        lift : (j : ℕ) × (fits_at t i (drop (v + 1 + j) x) ≡ true) → fits_at t i (drop v x) ≡ true
        lift (j, f) =
            let l : v + (1 + j) ≡ v + 1 + j = omega arith in
            let d : drop (1 + j) (drop v x) ≡ drop (v + 1 + j) x = drop-drop (1 + j) v x ∙ ap (λ (k : ℕ). drop k x) l in
            run_here t i b (drop v x)
            ∙ some_lifts (fits_at t (i + 1)) (1 + j) (drop v x)
            (sym (run_here t i b (drop (1 + j) (drop v x))) ∙ ap (fits_at t i) d ∙ f)

    pub match_run : (star : Maybe Star) → Matching x t i v star → Starred x t (i + 1) v (i + 1) v
    match_run star m =
        let f : fits_at t (i + 1) (drop v x) || some_rest (fits_at t (i + 1)) (drop (v + 1) x) ≡ fits_at t i (drop v x) =
        ap (λ (z : List ℕ). fits_at t (i + 1) (drop v x) || some_rest (fits_at t (i + 1)) z) (sym (drop-drop 1 v x))
        ∙ some_split (fits_at t (i + 1)) (drop v x)
        ∙ sym (run_here t i b (drop v x)) in
        let k : v - v ≡ 0 = omega arith in
        (omega arith, f ∙ settled star m, λ y g. rw k g)

  -- the value is used up
  pub match_end : (star : Maybe Star) → Matching x t i v star → length x ≤ v → only_runs (drop i t) ≡ wildcard_of x t
  match_end star m h = runs_fit (drop i t) ∙ go star m
    where
      used : drop v x ≡ []
      used = drop_of_length-le x {i = v} h

      lift : (j : ℕ) × (fits_at t i (drop (v + 1 + j) x) ≡ true) → fits_at t i [] ≡ true
      lift (j, f) =
          let d : drop (v + 1 + j) x ≡ [] = drop_of_length-le x {i = v + 1 + j} (omega (arith, h)) in
          sym (ap (fits_at t i) d) ∙ f

      go : (star : Maybe Star) → Matching x t i v star → fits_at t i [] ≡ wildcard_of x t
      go None s = ap (fits_at t i) (sym used) ∙ s
      go (Some k) s =
          or_absorb (fits_at t i []) (some_rest (fits_at t k.behind) (drop (k.base + 1) x)) (λ e. lift (later k.behind k.base s e))
          ∙ ap (λ (z : List ℕ). fits_at t i z || some_rest (fits_at t k.behind) (drop (k.base + 1) x)) (sym used)
          ∙ s.1

-- the value's index at which the last `*` was met, or the start
abbrev pub base_of : Maybe Star → ℕ
base_of None = 0
base_of (Some s) = s.base

-- ---- the match ends: a rest of the value for each `*`, and in it the pattern
abbrev pub weight : ℕ → ℕ → ℕ → ℕ → ℕ
weight n k base i = (n - base) * (k + 2) + (k - i)

module _ (n k base i : ℕ) where
  pub lighter_on : (next : ℕ) → i < next → i < k → weight n k base next < weight n k base i
  lighter_on next h g = let q : k - next < k - i = omega (arith, h, g) in plus ((n - base) * (k + 2)) q
    where
      plus : (a : ℕ) {b c : ℕ} → b < c → a + b < a + c
      plus a h = omega (arith, h)
