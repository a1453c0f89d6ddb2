-- Where the search may begin. Assumes nothing.
use mathlib.Core.Path.{◌≡◌, refl, sym, ap, ◌∙◌}
use mathlib.Core.Bool.{Bool, true, false, not, and-false}
use mathlib.Core.List.{List, [], ◌∷◌, map}
use Prim.Native.Nat.{ℕ, suc, ◌+◌, ◌≤◌, ◌<◌}
use native.Mathlib.Omega.{arith}
use lib.ListN.{length, get_or, drop, replicate}
use lib.Dec.{eqb, ltb}
use Rattle.std.specs.Prelude.{unwrap_or, Some, None, position, ◌==◌, cond}
use Rattle.std.specs.List.{position_or_len}
use Rattle.std.proofs.lemmas.List.Recursion.{is_position_or_len}
use Rattle.std.proofs.lemmas.List.Sums.{prefix_len-le-length}
use borrow.Author.Tests.{ltb-false, eqb-false, ne_eqb}
use Rattle.octets.proofs.Laws.{drop_map}
use Rattle.octets.proofs.Theorems.{and_parts}
use Rattle.automaton.specs.Pass.{Token, started, left, pass}
use Rattle.automaton.specs.Table.{repeats, absent, outside, sort, tokens_of}
use Rattle.automaton.specs.Decide.{walk_on, decide}
use Rattle.automaton.specs.Word.{single, plain, optional, small, ahead}
use Rattle.automaton.proofs.Word.{lev, quiet, small_parts}

-- ---- the bytes before the first of a kind

first_place : (p : ℕ → Bool) (v : List ℕ) → unwrap_or (position p v) (length v) ≡ position_or_len p v
first_place p v = go (ltb (position_or_len p v) (length v)) refl
  where
    go : (t : Bool) → ltb (position_or_len p v) (length v) ≡ t → unwrap_or (cond t (Some (position_or_len p v)) None) (length v) ≡ position_or_len p v
    go true e = refl
    go false e =
        let h = ltb-false (position_or_len p v) (length v) e in
        let g = prefix_len-le-length (λ x. not (p x)) v in omega (arith, h, g)

pub ahead_position : (b : ℕ) (f : ℕ → ℕ) (v : List ℕ) → unwrap_or (position (λ c. f c == b) v) (length v) ≡ ahead b (map f v)
ahead_position b f v = first_place (λ c. f c == b) v ∙ sym (is_position_or_len (λ x. ahead b (map f x)) (λ c. f c == b) refl (λ c x. one (eqb (f c) b) (ahead b (map f x))) v)
  where
    one : (t : Bool) (n : ℕ) → cond t 0 (suc n) ≡ cond t 0 (1 + n)
    one true n = refl
    one false n = omega arith

pub ahead_within : (b : ℕ) (f : ℕ → ℕ) (v : List ℕ) → ahead b (map f v) ≤ length v
ahead_within b f [] = omega arith
ahead_within b f (c ∷ v) = go (eqb (f c) b) (ahead_within b f v)
  where
    go : (t : Bool) → ahead b (map f v) ≤ length v → cond t 0 (suc (ahead b (map f v))) ≤ suc (length v)
    go true h = omega arith
    go false h = omega (arith, h)

-- ---- a table that begins with one byte of the text

-- another byte marks nothing
silent : (text : List ℕ) (a : ℕ) (ks xs : List ℕ) → plain ks ≡ true → length xs ≡ length ks → (c : ℕ) → eqb (get_or text a 256) c ≡ false
    → pass (tokens_of text (0 ∷ ks) (a ∷ xs)) (replicate (suc (length ks)) false) c (started true) [] ≡ left (replicate (suc (length ks)) false) (lev true false false false)
unfolding repeats absent outside sort
silent text a ks xs p l c e = rw (e, quiet text c ks xs p l true false false)

walk_skip : (ts : List Token) (n b : ℕ) → ((c : ℕ) → eqb b c ≡ false → pass ts (replicate n false) c (started true) [] ≡ left (replicate n false) (lev true false false false))
    → (ef : Bool) (x : List ℕ) → walk_on ts true ef false (replicate n false) false true (drop (ahead b x) x) ≡ walk_on ts true ef false (replicate n false) false true x
walk_skip ts n b h ef [] = refl
walk_skip ts n b h ef (c ∷ x) = go (eqb c b) refl (walk_skip ts n b h ef x)
  where
    go : (t : Bool) → eqb c b ≡ t → walk_on ts true ef false (replicate n false) false true (drop (ahead b x) x) ≡ walk_on ts true ef false (replicate n false) false true x
        → walk_on ts true ef false (replicate n false) false true (drop (ahead b (c ∷ x)) (c ∷ x)) ≡ walk_on ts true ef false (replicate n false) false true (c ∷ x)
    go true t ih = rw t
    go false t ih =
        let q = h c (ne_eqb b c (λ e. eqb-false c b t (sym e))) in
        rw (t, q, and-false ef) ih

-- the first pass leaves nothing marked
first_pass : (text ks xs : List ℕ) → plain ks ≡ true → length xs ≡ length ks → optional ks ≡ false → (ef : Bool) (x : List ℕ)
    → decide (tokens_of text ks xs) (length ks) true ef x ≡ walk_on (tokens_of text ks xs) true ef false (replicate (length ks) false) false true x
first_pass text ks xs p l o ef x = rw (quiet text 0 ks xs p l false true false, o)

-- one byte, no repeat, and not absent: kind 0
skip_zero : (text ks xs : List ℕ) (a : ℕ) → small (0 ∷ ks) ≡ true → length xs ≡ length ks → (b : ℕ) → b ≡ get_or text a 256 → (f : ℕ → ℕ) (v : List ℕ) (ef : Bool)
    → decide (tokens_of text (0 ∷ ks) (a ∷ xs)) (suc (length ks)) true ef (map f (drop (ahead b (map f v)) v)) ≡ decide (tokens_of text (0 ∷ ks) (a ∷ xs)) (suc (length ks)) true ef (map f v)
unfolding absent
skip_zero text ks xs a s l b eb f v ef =
    let p = (small_parts (0 ∷ ks) s).1 in
    let p2 = (and_parts (single 0) (plain ks) p).1 in
    let ts = tokens_of text (0 ∷ ks) (a ∷ xs) in
    let n = suc (length ks) in
    let w = walk_skip ts n b (λ c h. silent text a ks xs p2 l c (rw eb at h)) ef (map f v) in
    let o : optional (0 ∷ ks) ≡ false = refl in
    first_pass text (0 ∷ ks) (a ∷ xs) p (ap suc l) o ef (map f (drop (ahead b (map f v)) v))
    ∙ ap (λ (y : List ℕ). walk_on ts true ef false (replicate n false) false true y) (sym (drop_map f (ahead b (map f v)) v))
    ∙ w
    ∙ sym (first_pass text (0 ∷ ks) (a ∷ xs) p (ap suc l) o ef (map f v))

pub start_skip : (text ks xs : List ℕ) → small ks ≡ true → length xs ≡ length ks → 0 < length ks → get_or ks 0 0 ≡ 0 → (b : ℕ) → b ≡ get_or text (get_or xs 0 0) 256
    → (f : ℕ → ℕ) (v : List ℕ) (r : ℕ) → r ≡ ahead b (map f v) → (ef : Bool)
    → decide (tokens_of text ks xs) (length ks) true ef (map f (drop r v)) ≡ decide (tokens_of text ks xs) (length ks) true ef (map f v)
start_skip text [] xs s l h e b eb f v r er ef = absurd (omega arith)
start_skip text (q ∷ ks) [] s l h e b eb f v r er ef = absurd (omega arith)
start_skip text (q ∷ ks) (a ∷ xs) s l h e b eb f v r er ef = rw (e, er) (skip_zero text ks xs a (rw e at s) (omega arith) b eb f v ef)
