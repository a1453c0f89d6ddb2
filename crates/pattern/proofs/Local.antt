-- A part is read from its own bytes alone, whatever follows them. Assumes nothing.
use mathlib.Core.Path.{◌≡◌, refl, ap, ◌∙◌, subst}
use mathlib.Core.Bool.{Bool, true, false, not, ◌&&◌}
use mathlib.Core.List.{List, [], ◌∷◌, ◌++◌}
use Prim.Native.Nat.{ℕ, suc, ◌+◌, ◌≤◌}
use native.Mathlib.Omega.{arith}
use lib.Dec.{eqb}
use lib.ListN.{length, take}
use Rattle.common.specs.Choice.{pick}
use Rattle.common.proofs.Choice.{false_true}
use Rattle.octets.proofs.Theorems.{and_parts}
use Rattle.pattern.specs.Sets.{Member, member, members, spans, spans_of, closes_by, closes, is_closed, rises, is_empty, width_by, width_from, width_of}
use Rattle.pattern.specs.Wildcard.{Item, plain, any, set, run, Part, part, fault, escaped_part, is_set, set_from, set_part, part_of}
use Rattle.pattern.specs.Steps.{begins}
use Rattle.pattern.proofs.Items.{no_mark}

-- ---- a closed set
abbrev pub Alone : Bool → List ℕ → List ℕ → ℕ → Type 0
Alone e s z w =
    (members e (take w s ++ z) ≡ members e s) × (closes e (take w s ++ z) ≡ true) × (width_from e (take w s ++ z) ≡ w) × (w ≤ length s)

pub set_alone : (e : Bool) (s z : List ℕ) → closes e s ≡ true → Alone e s z (width_from e s)
set_alone e [] z h = false_true h
set_alone true (b ∷ r) z h =
    let k = set_alone false r z h in
    (ap (λ (ms : List Member). member true b ∷ ms) k.0, k.1, ap suc k.2, omega (arith, k.3))
set_alone false (b ∷ r) z h = go (eqb b 93) (eqb b 92) refl refl h (λ e. set_alone e r z)
  where
    go : (x y : Bool) → eqb b 93 ≡ x → eqb b 92 ≡ y → closes_by x y (λ e. closes e r) ≡ true → ((e : Bool) → closes e r ≡ true → Alone e r z (width_from e r))
        → Alone false (b ∷ r) z (width_by x y (λ e. width_from e r))
    go true y e f h more = (rw e, rw e, rw e, omega arith)
    go false true e f h more = let k = more true h in (rw (e, f) k.0, rw (e, f) k.1, rw (e, f) (ap suc k.2), omega (arith, k.3))
    go false false e f h more =
        let k = more false h in
        (rw (e, f) (ap (λ (ms : List Member). member false b ∷ ms) k.0), rw (e, f) k.1, rw (e, f) (ap suc k.2), omega (arith, k.3))

-- ---- a part
abbrev is_part : Part → Bool
is_part (part i k) = true
is_part fault = false

pub no_part : {A : Type 0} (i : Item) (k : ℕ) → fault ≡ part i k → A
no_part i k e = false_true (ap is_part e)

-- the text s of the part x, then z
abbrev Kept : List ℕ → (List ℕ → Part) → ℕ → List ℕ → Part → Type 0
Kept s f n z (part i k) = (f (take (n + k) s ++ z) ≡ part i k) × (n + k ≤ length s)
Kept s f n z fault = Unit {0}

from_alone : (out : Bool) (before : ℕ) (s z : List ℕ) → is_set s ≡ true
    → (set_from out before (take (width_of s) s ++ z) ≡ part (set out (spans_of s)) (before + width_of s)) × (width_of s ≤ length s)
from_alone out before s z h =
    let c = and_parts (is_closed s) (not (is_empty (spans_of s)) && rises (spans_of s)) h in
    let k = set_alone false s z c.0 in
    let m : spans_of (take (width_of s) s ++ z) ≡ spans_of s = ap spans k.0 in
    (rw (k.1, m, k.2, c.1), k.3)

head_kept : (b : ℕ) (s z : List ℕ) → begins 33 (take (width_of (b ∷ s)) (b ∷ s) ++ z) ≡ eqb b 33
head_kept b s z = go (eqb b 93) (eqb b 92)
  where
    go : (x y : Bool) → begins 33 (take (width_by x y (λ e. width_from e s)) (b ∷ s) ++ z) ≡ eqb b 33
    go true y = refl
    go false true = refl
    go false false = refl

set_kept : (r z : List ℕ) → Kept r set_part 0 z (set_part r)
set_kept [] z = tt
set_kept (b ∷ s) z = go (eqb b 33) refl
  where
    out : (x : Bool) → is_set s ≡ x → eqb b 33 ≡ true → Kept (b ∷ s) set_part 0 z (pick x (λ _. part (set true (spans_of s)) (1 + width_of s)) (λ _. fault))
    out true h e =
        let k = from_alone true 1 s z h in
        let n : 0 + (1 + width_of s) ≡ suc (width_of s) = omega arith in
        (rw (n, e) k.0, omega (arith, k.1))
    out false h e = tt

    whole : (x : Bool) → is_set (b ∷ s) ≡ x → eqb b 33 ≡ false
        → Kept (b ∷ s) set_part 0 z (pick x (λ _. part (set false (spans_of (b ∷ s))) (0 + width_of (b ∷ s))) (λ _. fault))
    whole true h e =
        let k = from_alone false 0 (b ∷ s) z h in
        let n : 0 + (0 + width_of (b ∷ s)) ≡ width_of (b ∷ s) = omega arith in
        (rw n (no_mark (take (width_of (b ∷ s)) (b ∷ s) ++ z) (head_kept b s z ∙ e) ∙ k.0), omega (arith, k.1))
    whole false h e = tt

    go : (x : Bool) → eqb b 33 ≡ x → Kept (b ∷ s) set_part 0 z (pick x (λ _. set_from true 1 s) (λ _. set_from false 0 (b ∷ s)))
    go true e = out (is_set s) refl e
    go false e = whole (is_set (b ∷ s)) refl e

escaped_kept : (r z : List ℕ) → Kept r escaped_part 0 z (escaped_part r)
escaped_kept [] z = tt
escaped_kept (b ∷ r) z = (refl, omega arith)

-- behind the first byte
behind : (b : ℕ) (r z : List ℕ) (f : List ℕ → Part) → ((s : List ℕ) → part_of (b ∷ s) ≡ f s) → (x : Part) → Kept r f 0 z x → Kept (b ∷ r) part_of 1 z x
behind b r z f g (part i k) q =
    let n : 1 + k ≡ suc (0 + k) = omega arith in
    (rw n (g (take (0 + k) r ++ z) ∙ q.0), omega (arith, q.1))
behind b r z f g fault q = tt

one : (b : ℕ) (r z : List ℕ) (i : Item) → ((s : List ℕ) → part_of (b ∷ s) ≡ part i 0) → Kept (b ∷ r) part_of 1 z (part i 0)
one b r z i g = (g (take 0 r ++ z), omega arith)

part_kept : (s z : List ℕ) → Kept s part_of 1 z (part_of s)
part_kept [] z = tt
part_kept (b ∷ r) z = go (eqb b 42) (eqb b 63) (eqb b 92) (eqb b 91) refl refl refl refl
  where
    go : (x y u w : Bool) → eqb b 42 ≡ x → eqb b 63 ≡ y → eqb b 92 ≡ u → eqb b 91 ≡ w
        → Kept (b ∷ r) part_of 1 z (pick x (λ _. part run 0) (λ _. pick y (λ _. part any 0) (λ _. pick u (λ _. escaped_part r) (λ _. pick w (λ _. set_part r) (λ _. part (plain b) 0)))))
    go true y u w e f g h = one b r z run (λ s. rw e)
    go false true u w e f g h = one b r z any (λ s. rw (e, f))
    go false false true w e f g h = behind b r z escaped_part (λ s. rw (e, f, g)) (escaped_part r) (escaped_kept r z)
    go false false false true e f g h = behind b r z set_part (λ s. rw (e, f, g, h)) (set_part r) (set_kept r z)
    go false false false false e f g h = one b r z (plain b) (λ s. rw (e, f, g, h))

pub local : (s z : List ℕ) (i : Item) (k : ℕ) → part_of s ≡ part i k → (part_of (take (suc k) s ++ z) ≡ part i k) × (suc k ≤ length s)
local s z i k e =
    let q : Kept s part_of 1 z (part i k) = subst (Kept s part_of 1 z) e (part_kept s z) in
    let n : 1 + k ≡ suc k = omega arith in
    (rw n at q)
