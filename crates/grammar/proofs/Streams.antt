-- The tokens that the arrays stand for, by their index, and what is asked of a single one. Assumes nothing.
use mathlib.Core.Path.{◌≡◌, refl, sym, ap, ◌∙◌}
use mathlib.Core.Bool.{Bool, true, false, cond, not, ◌&&◌, or-true}
use mathlib.Core.List.{List, [], ◌∷◌}
use Prim.Native.Nat.{ℕ, zero, suc, ◌+◌, ◌≤◌, ◌<◌}
use native.Mathlib.Nat.{not-suc-le-zero, le_of_suc-le-suc}
use native.Mathlib.Numerals.{add-one}
use native.Mathlib.Omega.{arith}
use native.Mathlib.Decide.{ℕ_discrete, dec_lt}
use lib.Dec.{eqb}
use lib.ListN.{length, get_or, drop, drop_of_length-le, get_or-eq_default, length-drop}
use lib.Seq.{drop-cons, get_or-drop}
use borrow.Author.Tests.{ne_eqb, lt-ltb, le-ltb, le-leb, lt-leb}
use Rattle.lexer.specs.Token.{name, kind_of, name_at, escaped_at, string_at}
use Rattle.lexer.specs.Run.{takes, ends, run_from, unescaped, body_of}
use Rattle.common.proofs.Choice.{false_true}
use Rattle.grammar.specs.Grammar.{rank, is_prefix}
use Rattle.grammar.specs.Parse.{ended, token_at, kind_at}
use Rattle.grammar.specs.Function.{function_of, op_of_name}
use Rattle.grammar.specs.Nesting.{open_after, row_after, is_flat, deep_from}
use Rattle.grammar.specs.Stream.{token_of, tokens_in}

-- within a list the default does not matter
pub within : {A : Type 0} (l : List A) (n : ℕ) (d e : A) → n < length l → get_or l n d ≡ get_or l n e
within [] n d e h = absurd (not-suc-le-zero h)
within (x ∷ l) zero d e h = refl
within (x ∷ l) (suc n) d e h = within l n d e (le_of_suc-le-suc h)

-- ---- the tokens by index

pub length_tokens : (s kinds starts : List ℕ) → length (tokens_in s kinds starts) ≡ length kinds
unfolding tokens_in
length_tokens s [] starts = refl
length_tokens s (k ∷ ks) starts = ap suc (length_tokens s ks (drop 1 starts))

token_kind : (s : List ℕ) (k p : ℕ) → kind_of (token_of s k p) ≡ k
token_kind s k p = go (ℕ_discrete k 5) (ℕ_discrete k 4) (ℕ_discrete k 1) (ℕ_discrete k 2) (ℕ_discrete k 3)
  where
    go : Dec (k ≡ 5) → Dec (k ≡ 4) → Dec (k ≡ 1) → Dec (k ≡ 2) → Dec (k ≡ 3) → kind_of (token_of s k p) ≡ k
    go (yes e) b c d f = rw e
    go (no a) (yes e) c d f = rw e
    go (no a) (no b) (yes e) d f = rw e
    go (no a) (no b) (no c) (yes e) f = rw e
    go (no a) (no b) (no c) (no d) (yes e) = rw e
    go (no a) (no b) (no c) (no d) (no f) = rw (ne_eqb k 5 a, ne_eqb k 4 b, ne_eqb k 1 c, ne_eqb k 2 d, ne_eqb k 3 f)

pub token_in : (s kinds starts : List ℕ) (i : ℕ) → i < length kinds → token_at (tokens_in s kinds starts) i ≡ token_of s (get_or kinds i 99) (get_or starts i 0)
unfolding tokens_in
token_in s [] starts i h = absurd (not-suc-le-zero h)
token_in s (k ∷ ks) starts zero h = refl
token_in s (k ∷ ks) starts (suc i) h =
    let e : 1 + i ≡ suc i = omega arith in
    token_in s ks (drop 1 starts) i (omega arith) ∙ ap (token_of s (get_or ks i 99)) (get_or-drop 1 starts i 0 ∙ ap (λ (n : ℕ). get_or starts n 0) e)

pub kind_in : (s kinds starts : List ℕ) (i : ℕ) → kind_at (tokens_in s kinds starts) i ≡ get_or kinds i 99
kind_in s kinds starts i = go (dec_lt i (length kinds))
  where
    go : Dec (i < length kinds) → kind_at (tokens_in s kinds starts) i ≡ get_or kinds i 99
    go (yes h) = ap kind_of (token_in s kinds starts i h) ∙ token_kind s (get_or kinds i 99) (get_or starts i 0)
    go (no h) =
        let out : length (tokens_in s kinds starts) ≤ i = rw (length_tokens s kinds starts) (omega arith) in
        ap kind_of (get_or-eq_default (tokens_in s kinds starts) ended out) ∙ sym (get_or-eq_default kinds 99 (omega arith))

-- a token of the kind k, at a place that the arrays have or not
pub token_at_lem : (s kinds starts : List ℕ) (i k : ℕ) → get_or kinds i 99 ≡ k → k < 99 → token_at (tokens_in s kinds starts) i ≡ token_of s k (get_or starts i 0)
token_at_lem s kinds starts i k e lt = go (dec_lt i (length kinds))
  where
    go : Dec (i < length kinds) → token_at (tokens_in s kinds starts) i ≡ token_of s k (get_or starts i 0)
    go (yes h) = token_in s kinds starts i h ∙ rw e
    go (no h) = let z : get_or kinds i 99 ≡ 99 = get_or-eq_default kinds 99 (omega arith) in absurd (omega arith)

pub name_at_lem : (s kinds starts : List ℕ) (i : ℕ) → get_or kinds i 99 ≡ 5 → token_at (tokens_in s kinds starts) i ≡ name (name_at s (get_or starts i 0)) (escaped_at s (get_or starts i 0))
name_at_lem s kinds starts i e = token_at_lem s kinds starts i 5 e (omega arith)

-- the kind that was read, and the function that was named
pub kind_is : (s kinds starts : List ℕ) (i : ℕ) {k : ℕ} → k ≡ get_or kinds i 99 → kind_at (tokens_in s kinds starts) i ≡ k
kind_is s kinds starts i e = kind_in s kinds starts i ∙ sym e

pub function_is : (s kinds starts : List ℕ) (i : ℕ) {p f : ℕ} → get_or kinds i 99 ≡ 5 → p ≡ get_or starts i 0 → f ≡ op_of_name (name_at s p) (escaped_at s p) → f ≡ function_of (token_at (tokens_in s kinds starts) i)
function_is s kinds starts i k ep ef = ef ∙ rw (ep, name_at_lem s kinds starts i k)

-- ---- what a token takes of the pool

pub run_small : (quote : ℕ) (taken : Bool) (s : List ℕ) → length (run_from quote taken s) ≤ length s
run_small quote taken [] = omega arith
run_small quote taken (b ∷ s) = go (not taken && ends quote b) (run_small quote (takes taken b) s)
  where
    go : (t : Bool) → length (run_from quote (takes taken b) s) ≤ length s → length (cond t [] (b ∷ run_from quote (takes taken b) s)) ≤ length (b ∷ s)
    go true h = omega arith
    go false h = omega arith

pub unescaped_small : (taken : Bool) (s : List ℕ) → length (unescaped taken s) ≤ length s
unescaped_small taken [] = omega arith
unescaped_small taken (b ∷ s) = go (takes taken b) (unescaped_small true s) (unescaped_small false s)
  where
    go : (t : Bool) → length (unescaped true s) ≤ length s → length (unescaped false s) ≤ length s → length (cond t (unescaped true s) (b ∷ unescaped false s)) ≤ length (b ∷ s)
    go true h g = omega arith
    go false h g = omega arith

pub name_small : (s : List ℕ) (p : ℕ) → length (name_at s p) ≤ length s
name_small s p = omega (arith, unescaped_small false (run_from 0 false (drop p s)), run_small 0 false (drop p s), length-drop p s)

pub string_small : (s : List ℕ) (p : ℕ) → length (string_at s p) ≤ length s
string_small s p =
    omega (arith, unescaped_small false (body_of (drop p s)), run_small (get_or (drop p s) 0 0) false (drop 1 (drop p s)), length-drop 1 (drop p s), length-drop p s)

-- ---- levels

abbrev pub ranks : List ℕ
ranks = 11 ∷ 11 ∷ 11 ∷ 11 ∷ 11 ∷ 11 ∷ 11 ∷ 11 ∷ 11 ∷ 11 ∷ 11 ∷ 11 ∷ 11 ∷ 11 ∷ 11 ∷ 11 ∷ 10 ∷ 10 ∷ 10 ∷ 9 ∷ 8 ∷ 7 ∷ 6 ∷ 6 ∷ 6 ∷ 5 ∷ 5 ∷ 11 ∷ 11 ∷ 11 ∷ 11 ∷ 11 ∷ 3 ∷ 3 ∷ 4 ∷ 4 ∷ 4 ∷ 4 ∷ 11 ∷ 11 ∷ 11 ∷ 2 ∷ 1 ∷ 0 ∷ []

pub rank_high : (k : ℕ) → 44 ≤ k → (11 ≡ rank k) × (11 ≤ 11)
unfolding rank
rank_high k h = (
  rw (
    ne_eqb k 43 (λ e. omega arith),
    ne_eqb k 42 (λ e. omega arith),
    ne_eqb k 41 (λ e. omega arith),
    lt-leb k 33 (omega arith),
    le-leb 32 k (omega arith),
    lt-leb k 37 (omega arith),
    le-leb 34 k (omega arith),
    lt-leb k 26 (omega arith),
    le-leb 25 k (omega arith),
    lt-leb k 24 (omega arith),
    le-leb 22 k (omega arith),
    ne_eqb k 21 (λ e. omega arith),
    ne_eqb k 20 (λ e. omega arith),
    ne_eqb k 19 (λ e. omega arith),
    lt-leb k 18 (omega arith),
    le-leb 16 k (omega arith),
  ),
  omega arith,
)

-- ---- refusal 6, token by token

flat : (k opened row : ℕ) → is_flat k ≡ true → (open_after k opened ≡ opened) × (row_after k row ≡ 0)
flat k opened row e = go (eqb k 9) refl (eqb k 10) refl (is_prefix k) refl
  where
    go : (a : Bool) → eqb k 9 ≡ a → (b : Bool) → eqb k 10 ≡ b → (c : Bool) → is_prefix k ≡ c → (open_after k opened ≡ opened) × (row_after k row ≡ 0)
    go true f b g c h = false_true (rw f at e)
    go false f true g c h = false_true (rw (f, g) at e)
    go false f false g true h = false_true (rw (f, g, h) at e)
    go false f false g false h = (rw (f, g), rw h)

module _ (ks : List ℕ) (i opened row : ℕ) where
  pub deep_opened : i < length ks → 24 < open_after (get_or ks i 0) opened → true ≡ deep_from opened row (drop i ks)
  unfolding deep_from
  deep_opened h e = rw (drop-cons ks i 0 h, lt-ltb 24 (open_after (get_or ks i 0) opened) e)

  pub deep_row : i < length ks → 24 < row_after (get_or ks i 0) row → true ≡ deep_from opened row (drop i ks)
  unfolding deep_from
  deep_row h e = rw (drop-cons ks i 0 h, lt-ltb 24 (row_after (get_or ks i 0) row) e, or-true)

  pub deep_on : i < length ks → open_after (get_or ks i 0) opened ≤ 24 → row_after (get_or ks i 0) row ≤ 24
      → deep_from (open_after (get_or ks i 0) opened) (row_after (get_or ks i 0) row) (drop (i + 1) ks) ≡ deep_from opened row (drop i ks)
  unfolding deep_from
  deep_on h a b = rw (add-one i, drop-cons ks i 0 h, le-ltb 24 (open_after (get_or ks i 0) opened) a, le-ltb 24 (row_after (get_or ks i 0) row) b)

  pub deep_flat : i < length ks → opened ≤ 24 → is_flat (get_or ks i 0) ≡ true → deep_from opened 0 (drop (i + 1) ks) ≡ deep_from opened row (drop i ks)
  deep_flat h o e =
      let f = flat (get_or ks i 0) opened row e in
      rw (f.0, f.1) at (deep_on h (omega (arith, f.0)) (omega (arith, f.1)))

  pub deep_end : length ks ≤ i → false ≡ deep_from opened row (drop i ks)
  unfolding deep_from
  deep_end h = rw (drop_of_length-le ks h)
