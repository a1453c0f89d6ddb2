-- The tokens of a text from a place on, step by step, as the loop of `lex` goes. Assumes nothing.
use mathlib.Core.Path.{◌≡◌, refl, sym, ap, ◌∙◌}
use mathlib.Core.Bool.{Bool, true, false}
use mathlib.Core.List.{List, [], ◌∷◌, map}
use Prim.Native.Nat.{ℕ, zero, suc, ◌+◌, ◌-◌, ◌≤◌, ◌<◌}
use native.Mathlib.Numerals.{add-one}
use native.Mathlib.Decide.{dec_le}
use native.Mathlib.Omega.{arith}
use lib.Dec.{ltb}
use lib.ListN.{length, get_or, drop, set, drop_of_length-le, length-drop}
use lib.Seq.{drop-cons, drop-drop, sets}
use borrow.Author.Tests.{lt-ltb, le-ltb}
use Rattle.lexer.specs.Byte.{is_space}
use Rattle.lexer.specs.Token.{Token, Placed, kind_of, Scan, good, bad, scan_of, Lexed, tokens, refused, prepend, placed, tokens_from, tokens_of, found, kinds_of, starts_of}
use Rattle.lexer.specs.Answer.{lexing_of, scanned_of}
use Rattle.lexer.specs.Answer.{Lexing}
use Rattle.lexer.specs.Answer.{Tokens, Refused}
use Rattle.lexer.specs.Answer.{Good, Bad}
use Rattle.lexer.proofs.Scans.{pick_yes, pick_no, scan_fit, good_told, bad_told}

-- the bytes of a token are passed over
pub inside : (k at : ℕ) (s : List ℕ) → tokens_from k at s ≡ tokens_from 0 (at + k) (drop k s)
unfolding tokens_from
inside zero at [] = refl
inside (suc k) at [] = refl
inside zero at (b ∷ s) = let e : at + 0 ≡ at = omega arith in rw e
inside (suc k) at (b ∷ s) = let e : suc at + k ≡ at + suc k = omega arith in inside k (suc at) s ∙ ap (λ (n : ℕ). tokens_from 0 n (drop k s)) e

-- what stands first: whitespace, a bad token, a token
module _ (b at : ℕ) (s : List ℕ) where
  pub first_space : is_space b ≡ true → tokens_from 0 at (b ∷ s) ≡ tokens_from 0 (suc at) s
  unfolding tokens_from
  first_space e = pick_yes (is_space b) _ _ e

  module _ (e : is_space b ≡ false) where
    first : tokens_from 0 at (b ∷ s) ≡ placed at (scan_of (b ∷ s)) (λ n. tokens_from (n - 1) (suc at) s)
    unfolding tokens_from
    first = pick_no (is_space b) _ _ e

    pub first_bad : (k : ℕ) → scan_of (b ∷ s) ≡ bad k → tokens_from 0 at (b ∷ s) ≡ refused k at []
    first_bad k f = first ∙ rw f

    pub first_good : (t : Token) (n : ℕ) → scan_of (b ∷ s) ≡ good t n → 0 < n
        → tokens_from 0 at (b ∷ s) ≡ prepend (record { token = t; start = at }) (tokens_from 0 (at + n) (drop n (b ∷ s)))
    first_good t zero f l = absurd (omega arith)
    first_good t (suc m) f l =
        let z : suc m - 1 ≡ m = omega arith in
        let q : suc at + m ≡ at + suc m = omega arith in
        first ∙ rw (f, z, inside m (suc at) s, q)

-- the tokens of a text from a place on
abbrev pub from : List ℕ → ℕ → Lexed
from s at = tokens_from 0 at (drop at s)

module _ (s : List ℕ) (at : ℕ) where
  pub stream_end : length s ≤ at → from s at ≡ tokens []
  unfolding tokens_from
  stream_end h = rw (drop_of_length-le s h)

  module _ (h : at < length s) where
    pub space_passed : is_space (get_or s at 0) ≡ true → from s (at + 1) ≡ from s at
    space_passed e = rw (add-one, drop-cons s at 0 h) (sym (first_space (get_or s at 0) at (drop (suc at) s) e))

    module _ (e : is_space (get_or s at 0) ≡ false) where
      pub token-bad : (k : ℕ) → scan_of (drop at s) ≡ bad k → from s at ≡ refused k at []
      token-bad k f = rw (drop-cons s at 0 h) (first_bad (get_or s at 0) at (drop (suc at) s) e k (rw (drop-cons s at 0 h) at f))

      pub token-here : (t : Token) (n : ℕ) → scan_of (drop at s) ≡ good t n → 0 < n → from s at ≡ prepend (record { token = t; start = at }) (from s (at + n))
      token-here t n f l =
          let d = drop-cons s at 0 h in
          let g = first_good (get_or s at 0) at (drop (suc at) s) e t n (rw d at f) l in
          (rw (← d, drop-drop n at s) at g)

-- the whole text
pub stream_whole : (s : List ℕ) → length s ≤ 4096 → tokens_of s ≡ from s 0
unfolding tokens_of
stream_whole s h = pick_no (ltb 4096 (length s)) _ _ (le-ltb 4096 (length s) h)

pub too_long : (s : List ℕ) → 4096 < length s → tokens_of s ≡ refused 10 0 []
unfolding tokens_of
too_long s h = pick_yes (ltb 4096 (length s)) _ _ (lt-ltb 4096 (length s) h)

-- What holds of every stream: of its end, and before whitespace, a bad token and a token.
module _ (s : List ℕ) (Q : ℕ → Lexed → Type 0)
    (ended : (at : ℕ) → length s ≤ at → Q at (tokens []))
    (spaced : (at : ℕ) (l : Lexed) → at < length s → Q (at + 1) l → Q at l)
    (stopped : (at k : ℕ) → at < length s → Q at (refused k at []))
    (going : (at n : ℕ) (t : Token) (l : Lexed) → at < length s → 0 < n → at + n ≤ length s → scan_of (drop at s) ≡ good t n
    → Q (at + n) l → Q at (prepend (record { token = t; start = at }) l)) where
  within : (n at : ℕ) → length s ≤ at + n → Q at (from s at)
  within zero at h = rw (stream_end s at (omega arith)) (ended at (omega arith))
  within (suc n) at h = go (λ i q. within n i q) (dec_le (length s) at) (is_space (get_or s at 0)) refl (scan_of (drop at s)) refl
    where
      go : ((i : ℕ) → length s ≤ i + n → Q i (from s i))
          → Dec (length s ≤ at) → (x : Bool) → is_space (get_or s at 0) ≡ x → (y : Scan) → scan_of (drop at s) ≡ y → Q at (from s at)
      go ih (yes d) x e y f = rw (stream_end s at d) (ended at d)
      go ih (no d) true e y f = rw (← space_passed s at (omega arith) e) (spaced at (from s (at + 1)) (omega arith) (ih (at + 1) (omega arith)))
      go ih (no d) false e (bad k) f = rw (token-bad s at (omega arith) e k f) (stopped at k (omega arith))
      go ih (no d) false e (good t m) f =
          let g = length-drop at s in
          let w = rw f at (scan_fit (drop at s) (omega (arith, g))) in
          rw (token-here s at (omega arith) e t m f w.0)
          (going at m t (from s (at + m)) (omega arith) w.0 (omega (arith, g, w.1)) f (ih (at + m) (omega (arith, w.0))))

  pub streams : Q 0 (from s 0)
  streams = within (length s) 0 (omega arith)

-- what the code answers, with n tokens found before
abbrev pub after : ℕ → Lexed → Lexing
after n (tokens ps) = Tokens (n + length ps)
after n (refused k at ps) = Refused k at

pub after_none : (l : Lexed) → after 0 l ≡ lexing_of l
after_none (tokens ps) = let e : 0 + length ps ≡ length ps = omega arith in ap Tokens e
after_none (refused k at ps) = refl

after_one : (n : ℕ) (p : Placed) (l : Lexed) → after (n + 1) l ≡ after n (prepend p l)
after_one n p (tokens ps) = let e : n + 1 + length ps ≡ n + suc (length ps) = omega arith in ap Tokens e
after_one n p (refused k at ps) = refl

-- the arrays, with n tokens stored
store : (f : Placed → ℕ) (d : List ℕ) (n v : ℕ) (p : Placed) (l : Lexed) → v ≡ f p → sets (set d n v) (n + 1) (map f (found l)) ≡ sets d n (map f (found (prepend p l)))
store f d n v p (tokens ps) e = rw (add-one, e)
store f d n v p (refused k at ps) e = rw (add-one, e)

-- The loop's invariant: what is left to find, after what was found, is what the whole text has.
pub record Goes (s k₀ p₀ k p : List ℕ) (n at : ℕ) : Type 0 where
  pub count : n ≤ at
  pub within : at ≤ length s
  pub answer : after n (from s at) ≡ lexing_of (from s 0)
  pub kinds : sets k n (kinds_of (from s at)) ≡ sets k₀ 0 (kinds_of (from s 0))
  pub starts : sets p n (starts_of (from s at)) ≡ sets p₀ 0 (starts_of (from s 0))

pub goes_first : (s k p : List ℕ) → Goes s k p k p 0 0
goes_first s k p = record { count = omega arith; within = omega arith; answer = after_none (from s 0); kinds = refl; starts = refl }

module _ (s k₀ p₀ k p : List ℕ) (n at : ℕ) (g : Goes s k₀ p₀ k p n at) (h : at < length s) where
  pub goes_space : is_space (get_or s at 0) ≡ true → Goes s k₀ p₀ k p n (at + 1)
  goes_space e =
      let m = space_passed s at h e in
      record {
        count = omega (arith, g.count);
        within = omega arith;
        answer = rw m g.answer;
        kinds = rw m g.kinds;
        starts = rw m g.starts;
      }

  module _ (e : is_space (get_or s at 0) ≡ false) (t : Token) (l : ℕ) (f : scan_of (drop at s) ≡ good t l) where
    pub token_fits : (0 < l) × (at + l ≤ length s)
    token_fits =
        let d = length-drop at s in
        let w = rw f at (scan_fit (drop at s) (omega (arith, d))) in
        (w.0, omega (arith, w.1, d))

    pub goes_token : (v : ℕ) → kind_of t ≡ v → Goes s k₀ p₀ (set k n v) (set p n at) (n + 1) (at + l)
    goes_token v q =
        let w = token_fits in
        let here : Placed = record { token = t; start = at } in
        let m = token-here s at h e t l f w.0 in
        record {
          count = omega (arith, g.count, w.0);
          within = w.1;
          answer = after_one n here (from s (at + l)) ∙ ap (after n) (sym m) ∙ g.answer;
          kinds = store (λ x. kind_of x.token) k n v here (from s (at + l)) (sym q) ∙ ap (λ x. sets k n (kinds_of x)) (sym m) ∙ g.kinds;
          starts = store (λ x. x.start) p n at here (from s (at + l)) refl ∙ ap (λ x. sets p n (starts_of x)) (sym m) ∙ g.starts;
        }

  -- by the code's answer
  pub goes_on : is_space (get_or s at 0) ≡ false → (v l : ℕ) → scanned_of (scan_of (drop at s)) ≡ Good v l
      → Goes s k₀ p₀ (set k n v) (set p n at) (n + 1) (at + l) × (0 < l) × (at + l ≤ length s)
  goes_on e v l q =
      let t = good_told (scan_of (drop at s)) v l q in
      let w = token_fits e t.0 l t.1 in
      (goes_token e t.0 l t.1 v t.2, w.0, w.1)

-- what `lex` returns
pub record Lexes (s k₀ p₀ k p : List ℕ) (r : Lexing) : Type 0 where
  pub answer : r ≡ lexing_of (tokens_of s)
  pub kinds : k ≡ sets k₀ 0 (kinds_of (tokens_of s))
  pub starts : p ≡ sets p₀ 0 (starts_of (tokens_of s))

pub lexes_long : (s k p : List ℕ) → 4096 < length s → Lexes s k p k p (Refused 10 0)
lexes_long s k p h =
    let e = too_long s h in
    record { answer = rw e; kinds = rw e; starts = rw e }

module _ (s k₀ p₀ k p : List ℕ) (n at : ℕ) (short : length s ≤ 4096) (g : Goes s k₀ p₀ k p n at) where
  finished : (l : Lexed) → from s at ≡ l → found l ≡ [] → (r : Lexing) → r ≡ after n l → Lexes s k₀ p₀ k p r
  finished l e z r q =
      let w = stream_whole s short in
      let a = rw e at g.answer in
      let b = rw (e, z) at g.kinds in
      let c = rw (e, z) at g.starts in
      record { answer = rw w (q ∙ a); kinds = rw w b; starts = rw w c }

  pub lexes_end : length s ≤ at → Lexes s k₀ p₀ k p (Tokens n)
  lexes_end h = let e : n ≡ n + 0 = omega arith in finished (tokens []) (stream_end s at h) refl (Tokens n) (ap Tokens e)

  pub lexes_bad : at < length s → is_space (get_or s at 0) ≡ false → (j : ℕ) → scanned_of (scan_of (drop at s)) ≡ Bad j → Lexes s k₀ p₀ k p (Refused j at)
  lexes_bad h e j q = finished (refused j at []) (token-bad s at h e j (bad_told (scan_of (drop at s)) j q)) refl (Refused j at) refl
