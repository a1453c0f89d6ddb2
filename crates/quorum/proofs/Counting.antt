-- Values in a list: whether one is among them, how many are different, and a list of them, each once. Assumes nothing.
use mathlib.Core.Path.{◌≡◌, refl, sym, ap, ◌∙◌}
use mathlib.Core.Bool.{Bool, true, false, cond, not, ◌&&◌, ◌||◌, and-true, or-false, or-true, or_assoc}
use mathlib.Core.List.{List, [], ◌∷◌, ◌++◌}
use Prim.Native.Nat.{ℕ, suc, ◌≤◌}
use native.Mathlib.Omega.{arith}
use lib.ListN.{length, length-append}
use borrow.Author.Tests.{not-true}
use Rattle.common.proofs.Choice.{true_false}
use Rattle.octets.specs.Octets.{same_of}
use Rattle.octets.proofs.Theorems.{and_parts, same, same_refl}
use Rattle.quorum.specs.Decision.{has, different}
use Rattle.quorum.specs.Theorems.{how_many, Numbered, Numberable}

-- neither of two
pub neither : (a b : Bool) → (a || b) ≡ false → (a ≡ false) × (b ≡ false)
neither true b z = true_false z
neither false b z = (refl, z)

-- the same from both sides
pub same_swap : (v w : List ℕ) → same_of v w ≡ same_of w v
same_swap v w = go (same_of v w) (same_of w v) refl refl
  where
    go : (a b : Bool) → same_of v w ≡ a → same_of w v ≡ b → a ≡ b
    go true b p q = sym (sym q ∙ rw ((same v w).0 p) (same_refl w))
    go false true p q = sym p ∙ rw ((same w v).0 q) (same_refl v)
    go false false p q = refl

-- among two lists one after the other
pub has_append : (v : List ℕ) (vs ws : List (List ℕ)) → has v (vs ++ ws) ≡ (has v vs || has v ws)
unfolding has
has_append v [] ws = refl
has_append v (x ∷ vs) ws = go (same_of x v) (has_append v vs ws)
  where
    go : (b : Bool) → has v (vs ++ ws) ≡ (has v vs || has v ws) → (b || has v (vs ++ ws)) ≡ ((b || has v vs) || has v ws)
    go true e = refl
    go false e = e

-- one more that is not among them
pub different_snoc : (v : List ℕ) (vs : List (List ℕ)) → different vs ≡ true → has v vs ≡ false → different (vs ++ (v ∷ [])) ≡ true
unfolding has different
different_snoc v [] e h = refl
different_snoc v (w ∷ ws) e h =
    let p = and_parts (not (has w ws)) (different ws) e in
    let q = neither (same_of w v) (has v ws) h in
    let r : same_of v w ≡ false = same_swap v w ∙ q.0 in
    let t : has w (ws ++ (v ∷ [])) ≡ false = has_append w ws (v ∷ []) ∙ rw (not-true (has w ws) p.0, r) in
    rw (t, different_snoc v ws p.1 q.1)

-- ---- every list of the same values, each once, has that length

-- the values other than d
without : List ℕ → List (List ℕ) → List (List ℕ)
without d [] = []
without d (w ∷ ws) = cond (same_of w d) (without d ws) (w ∷ without d ws)

-- what is the same as another is the same as all that are
same_as : (d w v : List ℕ) → same_of w d ≡ true → same_of w v ≡ same_of d v
same_as d w v e = ap (λ (x : List ℕ). same_of x v) ((same w d).0 e)

has_without : (d v : List ℕ) (ws : List (List ℕ)) → has v (without d ws) ≡ (has v ws && not (same_of d v))
unfolding has without
has_without d v [] = refl
has_without d v (w ∷ ws) = go (same_of w d) (same_of w v) refl refl (has_without d v ws)
  where
    gone : (a b : Bool) → (b && not a) ≡ ((a || b) && not a)
    gone true true = refl
    gone true false = refl
    gone false b = refl

    go : (a b : Bool) → same_of w d ≡ a → same_of w v ≡ b → has v (without d ws) ≡ (has v ws && not (same_of d v))
        → has v (cond (same_of w d) (without d ws) (w ∷ without d ws)) ≡ ((same_of w v || has v ws) && not (same_of d v))
    go true b p q ih = rw (p, same_as d w v p) (ih ∙ gone (same_of d v) (has v ws))
    go false true p q ih =
        let z : same_of d v ≡ false = ap (same_of d) (sym ((same w v).0 q)) ∙ (same_swap d w ∙ p) in
        rw (p, q, z)
    go false false p q ih = rw (p, q) ih

-- taking out one value that is there leaves one less
less_one : (d : List ℕ) (ws : List (List ℕ)) → how_many ws ≡ cond (has d ws) (suc (how_many (without d ws))) (how_many (without d ws))
unfolding has how_many without
less_one d [] = refl
less_one d (w ∷ ws) = go (same_of w d) refl (less_one d ws)
  where
    here : (b : Bool) (n : ℕ) → cond b (cond b (suc n) n) (suc (cond b (suc n) n)) ≡ suc n
    here true n = refl
    here false n = refl

    there : (a b : Bool) (n : ℕ) → cond a (cond b (suc n) n) (suc (cond b (suc n) n)) ≡ cond b (suc (cond a n (suc n))) (cond a n (suc n))
    there true true n = refl
    there true false n = refl
    there false true n = refl
    there false false n = refl

    go : (a : Bool) → same_of w d ≡ a → how_many ws ≡ cond (has d ws) (suc (how_many (without d ws))) (how_many (without d ws))
        → how_many (w ∷ ws)
        ≡ cond (same_of w d || has d ws) (suc (how_many (cond (same_of w d) (without d ws) (w ∷ without d ws)))) (how_many (cond (same_of w d) (without d ws) (w ∷ without d ws)))
    go true p ih =
        let h : has w ws ≡ has d ws = ap (λ (x : List ℕ). has x ws) ((same w d).0 p) in
        rw (p, h, ih) (here (has d ws) (how_many (without d ws)))
    go false p ih =
        let h : has w (without d ws) ≡ has w ws = has_without d w ws ∙ rw (same_swap d w, p) (and-true (has w ws)) in
        rw (p, h, ih) (there (has w ws) (has d ws) (how_many (without d ws)))

-- by taking the values of one list out of the other, one after the other
pub numbered : Numbered
unfolding has different how_many
numbered [] [] e h = refl
numbered (v ∷ vs) [] e h = true_false (sym (h v ∙ rw (same_refl v)))
numbered vs (d ∷ ds) e h =
    let p = and_parts (not (has d ds)) (different ds) e in
    let m : has d vs ≡ true = sym (h d) ∙ rw (same_refl d) in
    let r : how_many vs ≡ suc (how_many (without d vs)) = less_one d vs ∙ rw m in
    ap suc (numbered (without d vs) ds p.1 (λ v. rest v (same_of d v) refl p.0 ∙ (ap (λ (b : Bool). b && not (same_of d v)) (h v) ∙ sym (has_without d v vs)))) ∙ sym r
  where
    rest : (v : List ℕ) (a : Bool) → same_of d v ≡ a → not (has d ds) ≡ true → has v ds ≡ ((same_of d v || has v ds) && not (same_of d v))
    rest v true p q = rw p (ap (λ (x : List ℕ). has x ds) (sym ((same d v).0 p)) ∙ not-true (has d ds) q)
    rest v false p q = rw p (sym (and-true (has v ds)))

-- ---- a list of the values of another, each once

-- one value more, unless it is there
abbrev pub add_once : List (List ℕ) → List ℕ → List (List ℕ)
add_once vs v = cond (has v vs) vs (vs ++ (v ∷ []))

-- the values of ws, one after the other
unfoldable pub collect : List (List ℕ) → List (List ℕ) → List (List ℕ)
collect vs [] = vs
collect vs (w ∷ ws) = collect (add_once vs w) ws

-- one list after the other
pub collect_append : (vs ws xs : List (List ℕ)) → collect vs (ws ++ xs) ≡ collect (collect vs ws) xs
unfolding collect
collect_append vs [] xs = refl
collect_append vs (w ∷ ws) xs = collect_append (add_once vs w) ws xs

has_once : (v w : List ℕ) (vs : List (List ℕ)) → has v (add_once vs w) ≡ (has v vs || same_of w v)
unfolding has
has_once v w vs = go (has w vs) (same_of w v) refl refl
  where
    go : (a b : Bool) → has w vs ≡ a → same_of w v ≡ b → has v (cond (has w vs) vs (vs ++ (w ∷ []))) ≡ (has v vs || same_of w v)
    go true true p q = rw (p, q) ((ap (λ (x : List ℕ). has x vs) (sym ((same w v).0 q)) ∙ p) ∙ sym (or-true (has v vs)))
    go true false p q = rw (p, q) (sym (or-false (has v vs)))
    go false b p q = rw p (has_append v vs (w ∷ []) ∙ ap (λ (x : Bool). has v vs || x) (or-false (same_of w v)))

-- it has the values of both
pub has_collect : (v : List ℕ) (vs ws : List (List ℕ)) → has v (collect vs ws) ≡ (has v vs || has v ws)
unfolding has collect
has_collect v vs [] = sym (or-false (has v vs))
has_collect v vs (w ∷ ws) = has_collect v (add_once vs w) ws ∙ (ap (λ (b : Bool). b || has v ws) (has_once v w vs) ∙ or_assoc (has v vs) (same_of w v) (has v ws))

-- each once
different_collect : (vs ws : List (List ℕ)) → different vs ≡ true → different (collect vs ws) ≡ true
unfolding collect
different_collect vs [] e = e
different_collect vs (w ∷ ws) e = different_collect (add_once vs w) ws (go (has w vs) refl)
  where
    go : (b : Bool) → has w vs ≡ b → different (cond (has w vs) vs (vs ++ (w ∷ []))) ≡ true
    go true p = rw p e
    go false p = rw p (different_snoc w vs e p)

pub numberable : Numberable
unfolding has different
numberable vs = (collect [] vs, different_collect [] vs refl, λ v. has_collect v [] vs)

-- so it is as long as there are different ones
pub collect_number : (vs : List (List ℕ)) → length (collect [] vs) ≡ how_many vs
unfolding has different
collect_number vs = numbered vs (collect [] vs) (different_collect [] vs refl) (λ v. has_collect v [] vs)

-- it grows, or stays the same
collect_grows : (vs ws : List (List ℕ)) → length vs ≤ length (collect vs ws)
unfolding collect
collect_grows vs [] = omega arith
collect_grows vs (w ∷ ws) = let l = collect_grows (add_once vs w) ws in let m = go (has w vs) in omega arith
  where
    go : (b : Bool) → length vs ≤ length (cond b vs (vs ++ (w ∷ [])))
    go true = omega arith
    go false = omega (arith, length-append vs (w ∷ []))

pub collect_full : (vs ws : List (List ℕ)) → length (collect vs ws) ≤ length vs → collect vs ws ≡ vs
unfolding collect
collect_full vs [] h = refl
collect_full vs (w ∷ ws) h = go (has w vs) refl (collect_full vs ws)
  where
    go : (b : Bool) → has w vs ≡ b → (length (collect vs ws) ≤ length vs → collect vs ws ≡ vs) → collect (add_once vs w) ws ≡ vs
    go true p ih = let z : add_once vs w ≡ vs = rw p in rw z (ih (rw z at h))
    go false p ih =
        let z : add_once vs w ≡ vs ++ (w ∷ []) = rw p in
        let l = collect_grows (add_once vs w) ws in
        absurd (omega (arith, h, l, ap length z, length-append vs (w ∷ [])))
