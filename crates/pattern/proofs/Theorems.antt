-- The theorems that specs/Theorems.antt states. Assumes nothing.
use mathlib.Core.Path.{◌≡◌, refl, sym, ap, ◌∙◌, subst}
use mathlib.Core.Logic.{◌⊎◌, inl, inr}
use mathlib.Core.Bool.{Bool, true, false, not, ◌&&◌, or-true, and-false}
use mathlib.Core.List.{List, [], ◌∷◌, ◌++◌, append_assoc}
use mathlib.Core.Option.{Option, none, some}
use Prim.Native.Nat.{ℕ, zero, suc, ◌+◌, ◌≤◌}
use native.Mathlib.Omega.{arith}
use lib.Dec.{eqb}
use lib.ListN.{length, take, drop, take-append-drop}
use lib.Seq.{drop-append-le}
use borrow.Author.Tests.{eqb-true, ne_eqb}
use Rattle.common.specs.Choice.{pick}
use Rattle.common.proofs.Choice.{true_false, false_true}
use Rattle.octets.proofs.Theorems.{and_parts, or_parts}
use Rattle.pattern.specs.Sets.{spans_of, is_closed, is_empty, rises, width_of}
use Rattle.pattern.specs.Wildcard.{Item, plain, any, set, run, Part, part, fault, escaped_part, is_set, set_from, set_part, part_of, Reads, end, next, WellFormed, takes, FitsOne, FitsRun, Fits, Accepts, with_first, items_of, is_some, first_fits, some_rest, fits_items, fits_read, wildcard_of}
use Rattle.pattern.specs.Steps.{begins}
use Rattle.pattern.specs.Theorems.{OneReading, WellFormedExactly, FitsExactly, Behind, Fault, backslash, unclosed, empty, falling, IllFormedExactly}
use Rattle.pattern.proofs.Items.{no_mark, part_head, fault_head, items_nil}
use Rattle.pattern.proofs.Local.{local, no_part}

-- ---- a text's items are its reading
abbrev unread : Option (List Item) → List Item
unread none = []
unread (some is) = is

none_some : {A : Type 0} (is : List Item) → none ≡ some is → A
none_some is e = false_true (ap is_some e)

step_items : (s : List ℕ) (i : Item) (k : ℕ) → part_of s ≡ part i k → items_of s ≡ with_first i (items_of (drop (suc k) s))
step_items [] i k e = no_part i k e
step_items (b ∷ r) i k e = part_head b r i k e

reads_items : (p : List ℕ) (is : List Item) → Reads p is → items_of p ≡ some is
reads_items [] [] end = items_nil
reads_items (_ ∷ _) [] r = elim r [ ]
reads_items p (i ∷ is) (next {k} e r) = step_items p i k e ∙ ap (with_first i) (reads_items (drop (suc k) p) is r)

-- what the computed items say
abbrev ReadAs : List ℕ → Option (List Item) → Type 0
ReadAs p none = Unit {0}
ReadAs p (some is) = Reads p is

drop_shorter : (k : ℕ) (r : List ℕ) → length (drop k r) ≤ length r
drop_shorter zero r = omega arith
drop_shorter (suc k) [] = omega arith
drop_shorter (suc k) (b ∷ r) = let h = drop_shorter k r in omega (arith, h)

read_as : (n : ℕ) (p : List ℕ) → length p ≤ n → ReadAs p (items_of p)
read_as zero [] h = rw items_nil end
read_as zero (b ∷ r) h = absurd (omega arith)
read_as (suc n) [] h = rw items_nil end
read_as (suc n) (b ∷ r) h = go (part_of (b ∷ r)) refl (λ k. read_as n (drop k r) (let l = drop_shorter k r in omega (arith, h, l)))
  where
    first : (i : Item) (k : ℕ) → part_of (b ∷ r) ≡ part i k → (o : Option (List Item)) → ReadAs (drop k r) o → ReadAs (b ∷ r) (with_first i o)
    first i k e none d = tt
    first i k e (some is) d = next {k = k} e d

    go : (x : Part) → part_of (b ∷ r) ≡ x → ((k : ℕ) → ReadAs (drop k r) (items_of (drop k r))) → ReadAs (b ∷ r) (items_of (b ∷ r))
    go (part i k) e more = rw (part_head b r i k e) (first i k e (items_of (drop k r)) (more k))
    go fault e more = rw (fault_head b r e) tt

items_reads : (p : List ℕ) (is : List Item) → items_of p ≡ some is → Reads p is
items_reads p is e = subst (ReadAs p) e (read_as (length p) p (omega arith))

pub one_reading : OneReading
one_reading p is js r s = ap unread (sym (reads_items p is r) ∙ reads_items p js s)

pub well_formed_exactly : WellFormedExactly
well_formed_exactly p = (λ e. go (items_of p) refl e, λ w. ap is_some (reads_items p w.0 w.1))
  where
    go : (o : Option (List Item)) → items_of p ≡ o → is_some o ≡ true → WellFormed p
    go none e h = false_true h
    go (some is) e h = (is, items_reads p is e)

-- ---- the values that fit
one_fits : (i : Item) (is : List Item) → ((x : List ℕ) → fits_items is x ≡ true → Fits is x) → (x : List ℕ) → first_fits i (fits_items is) x ≡ true → FitsOne i (Fits is) x
one_fits i is more [] e = false_true e
one_fits i is more (c ∷ x) e = let k = and_parts (takes i c) (fits_items is x) e in (c, x, refl, k.0, more x k.1)

run_fits : (is : List Item) → ((x : List ℕ) → fits_items is x ≡ true → Fits is x) → (x : List ℕ) → some_rest (fits_items is) x ≡ true → FitsRun (Fits is) x
run_fits is more [] e = ([], [], refl, more [] e)
run_fits is more (c ∷ x) e = go (run_fits is more x) (or_parts (fits_items is (c ∷ x)) (some_rest (fits_items is) x) e)
  where
    go : (some_rest (fits_items is) x ≡ true → FitsRun (Fits is) x) → (fits_items is (c ∷ x) ≡ true) ⊎ (some_rest (fits_items is) x ≡ true) → FitsRun (Fits is) (c ∷ x)
    go further (inl h) = ([], c ∷ x, refl, more (c ∷ x) h)
    go further (inr h) = let k = further h in (c ∷ k.0, k.1, ap (λ (l : List ℕ). c ∷ l) k.2, k.3)

computed_fits : (is : List Item) (x : List ℕ) → fits_items is x ≡ true → Fits is x
computed_fits [] [] e = refl
computed_fits [] (c ∷ x) e = false_true e
computed_fits (plain b ∷ is) x e = one_fits (plain b) is (computed_fits is) x e
computed_fits (any ∷ is) x e = one_fits any is (computed_fits is) x e
computed_fits (set out xs ∷ is) x e = one_fits (set out xs) is (computed_fits is) x e
computed_fits (run ∷ is) x e = run_fits is (computed_fits is) x e

fits_one : (i : Item) (is : List Item) → ((x : List ℕ) → Fits is x → fits_items is x ≡ true) → (x : List ℕ) → FitsOne i (Fits is) x → first_fits i (fits_items is) x ≡ true
fits_one i is more x (c, r, e, h, f) = rw (e, h) (more r f)

some_here : (f : List ℕ → Bool) (r : List ℕ) → f r ≡ true → some_rest f r ≡ true
some_here f [] e = e
some_here f (c ∷ r) e = rw e

some_behind : (f : List ℕ → Bool) (w r : List ℕ) → f r ≡ true → some_rest f (w ++ r) ≡ true
some_behind f [] r e = some_here f r e
some_behind f (c ∷ w) r e = rw (some_behind f w r e) (or-true (f (c ∷ (w ++ r))))

fits_run : (is : List Item) → ((x : List ℕ) → Fits is x → fits_items is x ≡ true) → (x : List ℕ) → FitsRun (Fits is) x → some_rest (fits_items is) x ≡ true
fits_run is more x (w, r, e, f) = rw e (some_behind (fits_items is) w r (more r f))

fits_computed : (is : List Item) (x : List ℕ) → Fits is x → fits_items is x ≡ true
fits_computed [] x e = rw e
fits_computed (plain b ∷ is) x f = fits_one (plain b) is (fits_computed is) x f
fits_computed (any ∷ is) x f = fits_one any is (fits_computed is) x f
fits_computed (set out xs ∷ is) x f = fits_one (set out xs) is (fits_computed is) x f
fits_computed (run ∷ is) x f = fits_run is (fits_computed is) x f

pub fits_exactly : FitsExactly
fits_exactly x p = (λ e. go (items_of p) refl e, λ a. back a.0 a.1 a.2)
  where
    go : (o : Option (List Item)) → items_of p ≡ o → fits_read o x ≡ true → Accepts p x
    go none e h = false_true h
    go (some is) e h = (is, items_reads p is e, computed_fits is x h)

    back : (is : List Item) → Reads p is → Fits is x → wildcard_of x p ≡ true
    back is r f = rw (reads_items p is r) (fits_computed is x f)

-- ---- the four faults
no_item : {A : Type 0} (i : Item) (k : ℕ) → part i k ≡ fault → A
no_item i k e = no_part i k (sym e)

bad_set : (s : List ℕ) → is_set s ≡ false → (is_closed s ≡ false) ⊎ ((is_empty (spans_of s) ≡ true) ⊎ (rises (spans_of s) ≡ false))
bad_set s e = go (is_closed s) (is_empty (spans_of s)) (rises (spans_of s)) refl refl refl e
  where
    go : (x y z : Bool) → is_closed s ≡ x → is_empty (spans_of s) ≡ y → rises (spans_of s) ≡ z → x && (not y && z) ≡ false
        → (is_closed s ≡ false) ⊎ ((is_empty (spans_of s) ≡ true) ⊎ (rises (spans_of s) ≡ false))
    go false y z a b c h = inl a
    go true true z a b c h = inr (inl b)
    go true false false a b c h = inr (inr c)
    go true false true a b c h = true_false h

set_fault : (r s : List ℕ) → Behind r s → is_set s ≡ false → Fault (91 ∷ r)
set_fault r s b e = go (bad_set s e)
  where
    go : (is_closed s ≡ false) ⊎ ((is_empty (spans_of s) ≡ true) ⊎ (rises (spans_of s) ≡ false)) → Fault (91 ∷ r)
    go (inl h) = unclosed r s b h
    go (inr (inl h)) = empty r s b h
    go (inr (inr h)) = falling r s b h

from_fault : (out : Bool) (k : ℕ) (s : List ℕ) → set_from out k s ≡ fault → is_set s ≡ false
from_fault out k s e = go (is_set s) e
  where
    go : (x : Bool) → pick x (λ _. part (set out (spans_of s)) (k + width_of s)) (λ _. fault) ≡ fault → x ≡ false
    go true h = no_item (set out (spans_of s)) (k + width_of s) h
    go false h = refl

abbrev first : List ℕ → ℕ
first [] = 0
first (b ∷ r) = b

fault_set : (r : List ℕ) → set_part r ≡ fault → Fault (91 ∷ r)
fault_set [] e = set_fault [] [] (inr (refl, λ t q. let z : ◌≡◌ {A = ℕ} 0 (suc (length t)) = ap length q in absurd (omega arith))) refl
fault_set (b ∷ s) e = go (eqb b 33) refl e
  where
    go : (x : Bool) → eqb b 33 ≡ x → pick x (λ _. set_from true 1 s) (λ _. set_from false 0 (b ∷ s)) ≡ fault → Fault (91 ∷ (b ∷ s))
    go true q h = set_fault (b ∷ s) s (inl (ap (λ (k : ℕ). k ∷ s) (eqb-true b 33 q))) (from_fault true 1 s h)
    go false q h = set_fault (b ∷ s) (b ∷ s) (inr (refl, λ t z. no (ap first z))) (from_fault false 0 (b ∷ s) h)
      where
        no : b ≡ 33 → ⊥
        no z = let w : eqb 33 33 ≡ false = (rw z at q) in true_false w

fault_escaped : (r : List ℕ) → escaped_part r ≡ fault → Fault (92 ∷ r)
fault_escaped [] e = backslash
fault_escaped (b ∷ r) e = no_item (plain b) 1 e

fault_kind : (b : ℕ) (r : List ℕ) → part_of (b ∷ r) ≡ fault → Fault (b ∷ r)
fault_kind b r e = go (eqb b 42) (eqb b 63) (eqb b 92) (eqb b 91) refl refl e
  where
    go : (x y u w : Bool) → eqb b 92 ≡ u → eqb b 91 ≡ w
        → pick x (λ _. part run 0) (λ _. pick y (λ _. part any 0) (λ _. pick u (λ _. escaped_part r) (λ _. pick w (λ _. set_part r) (λ _. part (plain b) 0)))) ≡ fault → Fault (b ∷ r)
    go true y u w g h q = no_item run 0 q
    go false true u w g h q = no_item any 0 q
    go false false true w g h q = subst (λ (k : ℕ). Fault (k ∷ r)) (sym (eqb-true b 92 g)) (fault_escaped r q)
    go false false false true g h q = subst (λ (k : ℕ). Fault (k ∷ r)) (sym (eqb-true b 91 h)) (fault_set r q)
    go false false false false g h q = no_item (plain b) 0 q

-- and the other way
unmarked : (s : List ℕ) → ((t : List ℕ) → s ≡ 33 ∷ t → ⊥) → begins 33 s ≡ false
unmarked [] h = refl
unmarked (b ∷ t) h = ne_eqb b 33 (λ e. h t (ap (λ (k : ℕ). k ∷ t) e))

behind_fault : (r s : List ℕ) → Behind r s → is_set s ≡ false → set_part r ≡ fault
behind_fault r s (inl e) h = rw (e, h)
behind_fault r s (inr (e, n)) h = rw (e, no_mark s (unmarked s n), h)

fault_items : (r : List ℕ) → Fault r → items_of r ≡ none
fault_items r backslash = fault_head 92 [] refl
fault_items r (unclosed q s b e) = fault_head 91 q (behind_fault q s b (rw e))
fault_items r (empty q s b e) = fault_head 91 q (behind_fault q s b (rw e (and-false (is_closed s))))
fault_items r (falling q s b e) = fault_head 91 q (behind_fault q s b (rw (e, and-false (not (is_empty (spans_of s)))) (and-false (is_closed s))))

-- ---- what is ill-formed
abbrev Broken : List ℕ → Type 0
Broken p = (q : List ℕ) × (r : List ℕ) × (is : List Item) × (p ≡ q ++ r) × Reads q is × Fault r

drop_take : (k : ℕ) (p q : List ℕ) → k ≤ length p → drop k (take k p ++ q) ≡ q
drop_take zero p q h = refl
drop_take (suc k) [] q h = absurd (omega arith)
drop_take (suc k) (b ∷ p) q h = drop_take k p q (omega arith)

broken_later : (p : List ℕ) (i : Item) (k : ℕ) → part_of p ≡ part i k → Broken (drop (suc k) p) → Broken p
broken_later p i k e (q, r, is, d, s, f) =
    let l = local p q i k e in (
      take (suc k) p ++ q,
      r,
      i ∷ is,
      sym (take-append-drop (suc k) p) ∙ ap (λ (z : List ℕ). take (suc k) p ++ z) d ∙ sym (append_assoc (take (suc k) p) q r),
      next {k = k} l.0 (subst (λ (z : List ℕ). Reads z is) (sym (drop_take (suc k) p q l.1)) s),
      f,
    )

broken : (n : ℕ) (p : List ℕ) → length p ≤ n → items_of p ≡ none → Broken p
broken zero [] h e = none_some [] (sym e ∙ items_nil)
broken zero (b ∷ r) h e = absurd (omega arith)
broken (suc n) [] h e = none_some [] (sym e ∙ items_nil)
broken (suc n) (b ∷ r) h e = go (part_of (b ∷ r)) refl (λ k. broken n (drop k r) (let l = drop_shorter k r in omega (arith, h, l)))
  where
    rest : (i : Item) (o : Option (List Item)) → with_first i o ≡ none → o ≡ none
    rest i none q = refl
    rest i (some is) q = none_some (i ∷ is) (sym q)

    go : (x : Part) → part_of (b ∷ r) ≡ x → ((k : ℕ) → items_of (drop k r) ≡ none → Broken (drop k r)) → Broken (b ∷ r)
    go (part i k) q more = broken_later (b ∷ r) i k q (more k (rest i (items_of (drop k r)) (sym (part_head b r i k q) ∙ e)))
    go fault q more = ([], b ∷ r, [], refl, end, fault_kind b r q)

-- a part stays if more bytes follow
longer : (q r : List ℕ) (i : Item) (k : ℕ) → part_of q ≡ part i k → (part_of (q ++ r) ≡ part i k) × (suc k ≤ length q)
longer q r i k e =
    let l = local q (drop (suc k) q ++ r) i k e in
    let d : take (suc k) q ++ (drop (suc k) q ++ r) ≡ q ++ r =
    sym (append_assoc (take (suc k) q) (drop (suc k) q) r) ∙ ap (λ (z : List ℕ). z ++ r) (take-append-drop (suc k) q) in
    (ap part_of (sym d) ∙ l.0, l.1)

broken_items : (q r : List ℕ) (is : List Item) → Reads q is → Fault r → items_of (q ++ r) ≡ none
broken_items [] r [] end f = fault_items r f
broken_items (_ ∷ _) r [] d f = elim d [ ]
broken_items q r (i ∷ is) (next {k} e s) f =
    let l = longer q r i k e in
    step_items (q ++ r) i k l.0
    ∙ ap (λ (z : List ℕ). with_first i (items_of z)) (drop-append-le (suc k) q r l.1)
    ∙ ap (with_first i) (broken_items (drop (suc k) q) r is s f)

pub ill_formed_exactly : IllFormedExactly
ill_formed_exactly p = (λ h. broken (length p) p (omega arith) (go (items_of p) refl h), back)
  where
    go : (o : Option (List Item)) → items_of p ≡ o → (WellFormed p → ⊥) → items_of p ≡ none
    go none e h = e
    go (some is) e h = absurd (h (is, items_reads p is e))

    back : Broken p → WellFormed p → ⊥
    back (q, r, js, d, s, f) (is, t) =
        none_some is (sym (broken_items q r js s f) ∙ ap items_of (sym d) ∙ reads_items p is t)
