-- Items read from an index. Assumes nothing.
use mathlib.Core.Path.{◌≡◌, refl, sym, ap, ◌∙◌}
use mathlib.Core.Bool.{Bool, true, false, not, beq}
use mathlib.Core.List.{List, [], ◌∷◌, map}
use mathlib.Core.Option.{Option, none, some}
use Prim.Native.Nat.{ℕ, zero, suc, ◌+◌, ◌≤◌, ◌<◌}
use native.Mathlib.Decide.{dec_lt}
use native.Mathlib.Omega.{arith}
use Rattle.std.proofs.Common.{add-zero}
use lib.Dec.{eqb}
use lib.ListN.{length, get_or, drop, drop_of_length-le}
use lib.Seq.{drop-drop}
use borrow.Author.Tests.{eq-eqb, ne_eqb}
use Rattle.common.specs.Choice.{pick}
use Rattle.octets.specs.Octets.{fold, folded}
use Rattle.octets.proofs.Laws.{drop_map}
use Rattle.pattern.specs.Sets.{spans_of, in_spans, width_of}
use Rattle.pattern.specs.Wildcard.{Item, set, Part, part, fault, escaped_part, is_set, set_from, set_part, part_of, with_first, and_more, items_from, items_of, is_some, well_formed}
use Rattle.std.specs.Prelude.{Some, None}
use mir.Val.{bool_byte}
use Rattle.std.specs.Prelude.{Option as Maybe}
use Rattle.pattern.specs.declared.sets.SetTest.{SetTest}
use Rattle.pattern.specs.Steps.{begins, test_at, end_of, turned, taken_of, plain_taken, only_runs}
use Rattle.pattern.proofs.Texts.{run_sign, any_sign, set_sign, back_sign, keeps, here, past, is_sign, no_sign, inside, sign_here}

-- ---- the set behind a `[`

-- no mark of a complement
pub no_mark : (s : List ℕ) → begins 33 s ≡ false → set_part s ≡ set_from false 0 s
no_mark [] e = refl
no_mark (b ∷ s) e = rw e

-- the index behind a set that was read, and that if the set, or its complement, takes the byte
abbrev pub set_end_of : Maybe SetTest → Maybe ℕ
set_end_of (Some t) = Some t.end
set_end_of None = None

abbrev pub set_taken_of : Bool → Maybe SetTest → Maybe ℕ
set_taken_of out (Some t) = pick (turned out t.hit) (λ _. Some t.end) (λ _. None)
set_taken_of out None = None

pub turned_test : (out hit : Bool) → not (beq hit out) ≡ turned out hit
turned_test true true = refl
turned_test true false = refl
turned_test false true = refl
turned_test false false = refl

module _ (t : List ℕ) (i c : ℕ) where
  from_end : (out : Bool) (before at : ℕ) (s : List ℕ) → at ≡ i + before → set_end_of (test_at at s c) ≡ end_of (set_from out before s) i
  from_end out before at s e = go (is_set s)
    where
      go : (x : Bool)
          → set_end_of (pick x (λ _. Some (record { hit = in_spans (spans_of s) c; end = at + width_of s })) (λ _. None))
          ≡ end_of (pick x (λ _. part (set out (spans_of s)) (before + width_of s)) (λ _. fault)) i
      go true = let n : at + width_of s ≡ i + (before + width_of s) = omega (arith, e) in ap Some n
      go false = refl

  from_taken : (out : Bool) (before at : ℕ) (s : List ℕ) → at ≡ i + before → set_taken_of out (test_at at s c) ≡ taken_of (set_from out before s) i c
  from_taken out before at s e = go out (is_set s)
    where
      num : at + width_of s ≡ i + (before + width_of s)
      num = omega (arith, e)

      go : (o x : Bool)
          → set_taken_of o (pick x (λ _. Some (record { hit = in_spans (spans_of s) c; end = at + width_of s })) (λ _. None))
          ≡ taken_of (pick x (λ _. part (set o (spans_of s)) (before + width_of s)) (λ _. fault)) i c
      go true true = rw num
      go false true = rw num
      go o false = refl

  -- the members begin behind the mark of a complement, if there is one
  pub set_ends : (out : Bool) (n : ℕ) → n ≡ bool_byte out → begins 33 (drop i t) ≡ out → set_end_of (test_at (i + n) (drop (i + n) t) c) ≡ end_of (set_part (drop i t)) i
  set_ends true n h e = rw (h, sign_here t i 33 e) (from_end true 1 (i + 1) (drop (i + 1) t) refl)
  set_ends false n h e = rw (h, no_mark (drop i t) e, add-zero i) (from_end false 0 i (drop i t) (omega arith))

  pub set_takes : (out : Bool) (n : ℕ) → n ≡ bool_byte out → begins 33 (drop i t) ≡ out → set_taken_of out (test_at (i + n) (drop (i + n) t) c) ≡ taken_of (set_part (drop i t)) i c
  set_takes true n h e = rw (h, sign_here t i 33 e) (from_taken true 1 (i + 1) (drop (i + 1) t) refl)
  set_takes false n h e = rw (h, no_mark (drop i t) e, add-zero i) (from_taken false 0 i (drop i t) (omega arith))

-- ---- the answers of `plain_takes` and `item_takes`
module _ (m : Bool) (p : List ℕ) (i c : ℕ) where
  pub plain_past : length p ≤ i → None ≡ plain_taken i (drop i (folded m p)) c
  plain_past h = rw (past m p i h)

  escaped_takes : (s : List ℕ) → plain_taken (i + 1) s c ≡ taken_of (escaped_part s) (i + 1) c
  escaped_takes [] = refl
  escaped_takes (b ∷ r) = refl

  module _ (h : i < length p) where
    pub plain_hit : fold m (get_or p i 0) ≡ c → Some (i + 1) ≡ plain_taken i (drop i (folded m p)) c
    plain_hit e = rw (here m p i h, eq-eqb (fold m (get_or p i 0)) c e)

    pub plain_miss : (fold m (get_or p i 0) ≡ c → ⊥) → None ≡ plain_taken i (drop i (folded m p)) c
    plain_miss e = rw (here m p i h, ne_eqb (fold m (get_or p i 0)) c e)

    pub takes_run : get_or p i 0 ≡ 42 → None ≡ taken_of (part_of (drop i (folded m p))) (i + 1) c
    takes_run e = rw (here m p i h, is_sign m p i 42 run_sign e)

    module _ (n : get_or p i 0 ≡ 42 → ⊥) where
      pub takes-any : get_or p i 0 ≡ 63 → Some (i + 1) ≡ taken_of (part_of (drop i (folded m p))) (i + 1) c
      takes-any e = rw (here m p i h, no_sign m p i 42 run_sign n, is_sign m p i 63 any_sign e) (ap Some (omega arith))

      module _ (o : get_or p i 0 ≡ 63 → ⊥) where
        pub takes-escaped : get_or p i 0 ≡ 92
            → plain_taken (i + 1) (drop (i + 1) (folded m p)) c ≡ taken_of (part_of (drop i (folded m p))) (i + 1) c
        takes-escaped e =
            rw (here m p i h, no_sign m p i 42 run_sign n, no_sign m p i 63 any_sign o, is_sign m p i 92 back_sign e)
            (escaped_takes (drop (i + 1) (folded m p)))

        module _ (q : get_or p i 0 ≡ 92 → ⊥) where
          pub takes-set : get_or p i 0 ≡ 91
              → taken_of (set_part (drop (i + 1) (folded m p))) (i + 1) c ≡ taken_of (part_of (drop i (folded m p))) (i + 1) c
          takes-set e =
              rw (here m p i h, no_sign m p i 42 run_sign n, no_sign m p i 63 any_sign o, no_sign m p i 92 back_sign q, is_sign m p i 91 set_sign e)

          pub takes-plain : (get_or p i 0 ≡ 91 → ⊥) → plain_taken i (drop i (folded m p)) c ≡ taken_of (part_of (drop i (folded m p))) (i + 1) c
          takes-plain e =
              rw (here m p i h, no_sign m p i 42 run_sign n, no_sign m p i 63 any_sign o, no_sign m p i 92 back_sign q, no_sign m p i 91 set_sign e)
              (go (eqb (fold m (get_or p i 0)) c))
            where
              go : (x : Bool) → pick x (λ _. Some (i + 1)) (λ _. None) ≡ pick x (λ _. Some (i + 1 + 0)) (λ _. None)
              go true = ap Some (omega arith)
              go false = refl

-- ---- `only_runs`
runs_map : (m : Bool) (s : List ℕ) → only_runs (map (fold m) s) ≡ only_runs s
runs_map m [] = refl
runs_map m (b ∷ r) = rw (keeps m b 42 run_sign, runs_map m r)

pub runs_folded : (m : Bool) (p : List ℕ) (i : ℕ) → only_runs (drop i (folded m p)) ≡ only_runs (drop i p)
runs_folded m p i = rw (drop_map (fold m) i p) (runs_map m (drop i p))

-- ---- the items from an index
skip : (k : ℕ) (r : List ℕ) → items_from k r ≡ items_of (drop k r)
unfolding items_from
skip zero [] = refl
skip zero (b ∷ r) = refl
skip (suc k) [] = refl
skip (suc k) (b ∷ r) = skip k r

items_cons : (b : ℕ) (r : List ℕ) → items_of (b ∷ r) ≡ and_more (part_of (b ∷ r)) (λ k. items_from k r)
unfolding items_from
items_cons b r = refl

pub items_nil : items_of [] ≡ some []
unfolding items_from
items_nil = refl

pub part_head : (b : ℕ) (r : List ℕ) (it : Item) (k : ℕ) → part_of (b ∷ r) ≡ part it k → items_of (b ∷ r) ≡ with_first it (items_of (drop k r))
part_head b r it k e =
    items_cons b r ∙ ap (λ (x : Part). and_more x (λ k. items_from k r)) e ∙ ap (with_first it) (skip k r)

pub fault_head : (b : ℕ) (r : List ℕ) → part_of (b ∷ r) ≡ fault → items_of (b ∷ r) ≡ none
fault_head b r e = items_cons b r ∙ ap (λ (x : Part). and_more x (λ k. items_from k r)) e

-- what the first part of a text says of its items
abbrev pub PartTold : List ℕ → ℕ → Part → Type 0
PartTold t i (part it k) = (items_of (drop i t) ≡ with_first it (items_of (drop (i + 1 + k) t))) × (i < length t)
PartTold t i fault = i < length t → items_of (drop i t) ≡ none

pub part_told : (t : List ℕ) (i : ℕ) → PartTold t i (part_of (drop i t))
part_told t i = go (dec_lt i (length t))
  where
    some_part : i < length t → (x : Part) → part_of (get_or t i 0 ∷ drop (i + 1) t) ≡ x → PartTold t i x
    some_part h (part it k) e = (
      rw (inside t i h) (part_head (get_or t i 0) (drop (i + 1) t) it k e ∙ ap (λ (l : List ℕ). with_first it (items_of l)) (drop-drop k (i + 1) t)),
      h,
    )
    some_part h fault e = λ _. (rw (inside t i h) (fault_head (get_or t i 0) (drop (i + 1) t) e))

    go : Dec (i < length t) → PartTold t i (part_of (drop i t))
    go (yes h) = rw (inside t i h) (some_part h (part_of (get_or t i 0 ∷ drop (i + 1) t)) refl)
    go (no h) = rw (drop_of_length-le t {i = i} (omega arith)) (λ l. absurd (omega arith))

-- ---- the turns of `well_formed`
some_first : (it : Item) (o : Option (List Item)) → is_some (with_first it o) ≡ is_some o
some_first it none = refl
some_first it (some is) = refl

module _ (p : List ℕ) (i : ℕ) (h : i < length p) where
  pub item_ends : (next : ℕ) → Some next ≡ end_of (part_of (drop i p)) (i + 1) → (well_formed (drop next p) ≡ well_formed (drop i p)) × (i < next)
  item_ends next e = go (part_of (drop i p)) (part_told p i) e
    where
      go : (x : Part) → PartTold p i x → Some next ≡ end_of x (i + 1) → (well_formed (drop next p) ≡ well_formed (drop i p)) × (i < next)
      go (part it k) d q =
          let n : next ≡ i + 1 + k = cc in
          (rw n (sym (ap is_some d.0 ∙ some_first it (items_of (drop (i + 1 + k) p)))), omega (arith, n))
      go fault d q = absurd (cc)

  pub item_bad : None ≡ end_of (part_of (drop i p)) (i + 1) → false ≡ well_formed (drop i p)
  item_bad e = go (part_of (drop i p)) (part_told p i) e
    where
      go : (x : Part) → PartTold p i x → None ≡ end_of x (i + 1) → false ≡ well_formed (drop i p)
      go (part it k) d q = absurd (cc)
      go fault d q = sym (ap is_some (d h))

pub ends_well : (p : List ℕ) (i : ℕ) → length p ≤ i → true ≡ well_formed (drop i p)
ends_well p i h = rw (drop_of_length-le p {i = i} h) (sym (ap is_some items_nil))
