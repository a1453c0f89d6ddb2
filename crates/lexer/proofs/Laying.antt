-- Tokens laid over a text: from the tokens of a text to the layout, and back. Assumes nothing.
use mathlib.Core.Path.{◌≡◌, refl, sym, ap, ◌∙◌}
use mathlib.Core.Logic.{◌⊎◌, inl, inr}
use mathlib.Core.Bool.{Bool, true, false, ◌||◌}
use mathlib.Core.List.{List, [], ◌∷◌, ◌++◌}
use Prim.Native.Nat.{ℕ, zero, suc, ◌+◌, ◌≤◌, ◌<◌}
use native.Mathlib.Omega.{arith}
use lib.Dec.{eqb}
use lib.ListN.{length, get_or, take, drop, length-drop, take-append-drop}
use lib.Seq.{drop-append_seam, length-take-le}
use borrow.Author.Tests.{eqb-true}
use Rattle.octets.proofs.Theorems.{or_parts}
use Rattle.lexer.specs.Byte.{is_space, is_quote, starts_name, starts_number}
use Rattle.lexer.specs.Symbol.{three_bytes, with_equal, doubled, two_bytes, one_byte, symbol_of}
use Rattle.lexer.specs.Token.{Token, Placed, Scan, good, bad, scan_of, Lexed, tokens, refused, prepend, tokens_from}
use Rattle.lexer.specs.Theorems.{Blank, Laid, Nothing, BadToken}
use Rattle.lexer.proofs.Scans.{is-symbol, scan_fit}
use Rattle.lexer.proofs.Streams.{first_space, first_bad, first_good}

-- whitespace is no token
none : (a b c : ℕ) → three_bytes a b c ≡ 0 → with_equal a ≡ 0 → doubled a ≡ 0 → one_byte a ≡ 0 → symbol_of a b c ≡ 0
none a b c t w d o = let e : two_bytes a b ≡ 0 = two (eqb b 61) refl (eqb a b) refl in rw (t, e, o)
  where
    two : (x : Bool) → eqb b 61 ≡ x → (y : Bool) → eqb a b ≡ y → two_bytes a b ≡ 0
    two true p y q = rw p w
    two false p true q = rw (p, q) d
    two false p false q = rw (p, q)

no_token : (c : ℕ) (s : List ℕ) → starts_name c ≡ false → starts_number c (get_or s 0 0) ≡ false → is_quote c ≡ false → symbol_of c (get_or s 0 0) (get_or s 1 0) ≡ 0 → scan_of (c ∷ s) ≡ bad 1
no_token c s n m q k = is-symbol (c ∷ s) n m q ∙ rw k

space_bad : (c : ℕ) (s : List ℕ) → is_space c ≡ true → scan_of (c ∷ s) ≡ bad 1
space_bad c s e = four (or_parts (eqb c 32 || eqb c 9 || eqb c 10) (eqb c 13) e)
  where
    at : (k : ℕ) → c ≡ k → scan_of (k ∷ s) ≡ bad 1 → scan_of (c ∷ s) ≡ bad 1
    at k p q = rw p q

    two : (eqb c 32 ≡ true) ⊎ (eqb c 9 ≡ true) → scan_of (c ∷ s) ≡ bad 1
    two (inl p) = at 32 (eqb-true c 32 p) (no_token 32 s refl refl refl (none 32 (get_or s 0 0) (get_or s 1 0) refl refl refl refl))
    two (inr p) = at 9 (eqb-true c 9 p) (no_token 9 s refl refl refl (none 9 (get_or s 0 0) (get_or s 1 0) refl refl refl refl))

    three : (eqb c 32 || eqb c 9) ≡ true ⊎ (eqb c 10 ≡ true) → scan_of (c ∷ s) ≡ bad 1
    three (inl p) = two (or_parts (eqb c 32) (eqb c 9) p)
    three (inr p) = at 10 (eqb-true c 10 p) (no_token 10 s refl refl refl (none 10 (get_or s 0 0) (get_or s 1 0) refl refl refl refl))

    four : (eqb c 32 || eqb c 9 || eqb c 10) ≡ true ⊎ (eqb c 13 ≡ true) → scan_of (c ∷ s) ≡ bad 1
    four (inl p) = three (or_parts (eqb c 32 || eqb c 9) (eqb c 10) p)
    four (inr p) = at 13 (eqb-true c 13 p) (no_token 13 s refl refl refl (none 13 (get_or s 0 0) (get_or s 1 0) refl refl refl refl))

not_space : (c : ℕ) (s : List ℕ) (t : Token) (n : ℕ) → scan_of (c ∷ s) ≡ good t n → is_space c ≡ false
not_space c s t n f = go (is_space c) refl
  where
    go : (b : Bool) → is_space c ≡ b → is_space c ≡ false
    go true e =
        let g : bad 1 ≡ good t n = sym (space_bad c s e) ∙ f in
        let z : ◌≡◌ {A = ℕ} 0 1 = cc in
        absurd (omega arith)
    go false e = e

-- from the tokens to the layout
lay_space : (E : ℕ → List ℕ → Type 0) (b at : ℕ) (s : List ℕ) (ps : List Placed) → is_space b ≡ true → Laid E (suc at) ps s → Laid E at ps (b ∷ s)
lay_space E b at s [] e l =
    let q : suc at + length l.0 ≡ at + suc (length l.0) = omega arith in
    (b ∷ l.0, l.1, ap (λ (r : List ℕ). b ∷ r) l.2, (e, l.3), rw q at l.4)
lay_space E b at s (p ∷ ps) e l =
    (b ∷ l.0, l.1, l.2, ap (λ (r : List ℕ). b ∷ r) l.3, (e, l.4), omega (arith, l.5), l.6, l.7, l.8)

lay_token : (E : ℕ → List ℕ → Type 0) (s : List ℕ) (at n : ℕ) (t : Token) (ps : List Placed) → scan_of s ≡ good t n → 0 < n → n ≤ length s
    → Laid E (at + n) ps (drop n s) → Laid E at (record { token = t; start = at } ∷ ps) s
lay_token E s at n t ps f p h l =
    let m : length (take n s) ≡ n = length-take-le n s h in
    let j : take n s ++ drop n s ≡ s = take-append-drop n s in
    ([], take n s, drop n s, sym j, tt, omega arith, omega (arith, m), rw (j, m) f, rw m l)

abbrev LaidIn : Lexed → ℕ → List ℕ → Type 0
LaidIn (tokens ps) at s = Laid Nothing at ps s
LaidIn (refused k place ps) at s = Laid (BadToken k place) at ps s

laid_space : (l : Lexed) (b at : ℕ) (s : List ℕ) → is_space b ≡ true → LaidIn l (suc at) s → LaidIn l at (b ∷ s)
laid_space (tokens ps) b at s e l = lay_space Nothing b at s ps e l
laid_space (refused k place ps) b at s e l = lay_space (BadToken k place) b at s ps e l

laid_token : (l : Lexed) (s : List ℕ) (at n : ℕ) (t : Token) → scan_of s ≡ good t n → 0 < n → n ≤ length s → LaidIn l (at + n) (drop n s) → LaidIn (prepend (record { token = t; start = at }) l) at s
laid_token (tokens ps) s at n t f p h l = lay_token Nothing s at n t ps f p h l
laid_token (refused k place ps) s at n t f p h l = lay_token (BadToken k place) s at n t ps f p h l

laid_step : (n : ℕ) → ((s : List ℕ) (at : ℕ) → length s ≤ n → LaidIn (tokens_from 0 at s) at s)
    → (s : List ℕ) (at : ℕ) → length s ≤ suc n → LaidIn (tokens_from 0 at s) at s
unfolding tokens_from
laid_step n ih [] at h = ([], [], refl, tt, refl)
laid_step n ih (b ∷ s) at h = go (is_space b) refl (scan_of (b ∷ s)) refl
  where
    go : (x : Bool) → is_space b ≡ x → (y : Scan) → scan_of (b ∷ s) ≡ y → LaidIn (tokens_from 0 at (b ∷ s)) at (b ∷ s)
    go true e y f = rw (first_space b at s e) (laid_space (tokens_from 0 (suc at) s) b at s e (ih s (suc at) (omega arith)))
    go false e (bad k) f = rw (first_bad b at s e k f) ([], b ∷ s, refl, tt, (omega arith, omega arith, e, f))
    go false e (good t m) f =
        let w = rw f at (scan_fit (b ∷ s) (omega arith)) in
        let d = length-drop m (b ∷ s) in
        let l : length (drop m (b ∷ s)) ≤ n = omega (arith, d, w.0) in
        rw (first_good b at s e t m f w.0)
        (laid_token (tokens_from 0 (at + m) (drop m (b ∷ s))) (b ∷ s) at m t f w.0 w.1 (ih (drop m (b ∷ s)) (at + m) l))

laid_within : (n : ℕ) (s : List ℕ) (at : ℕ) → length s ≤ n → LaidIn (tokens_from 0 at s) at s
unfolding tokens_from
laid_within zero s at h = laid_step zero (λ r i q. laid_none r i q) s at (omega arith)
  where
    laid_none : (r : List ℕ) (i : ℕ) → length r ≤ 0 → LaidIn (tokens_from 0 i r) i r
    laid_none [] i q = ([], [], refl, tt, refl)
    laid_none (b ∷ r) i q = absurd (omega arith)
laid_within (suc n) s at h = laid_step n (λ r i q. laid_within n r i q) s at h

pub laid_tokens : (s : List ℕ) (at : ℕ) (ps : List Placed) → tokens_from 0 at s ≡ tokens ps → Laid Nothing at ps s
laid_tokens s at ps e = rw e at (laid_within (length s) s at (omega arith))

pub laid_bad : (s : List ℕ) (at k place : ℕ) (ps : List Placed) → tokens_from 0 at s ≡ refused k place ps → Laid (BadToken k place) at ps s
laid_bad s at k place ps e = rw e at (laid_within (length s) s at (omega arith))

-- from the layout to the tokens
spaces_passed : (space s : List ℕ) (at : ℕ) → Blank space → tokens_from 0 at (space ++ s) ≡ tokens_from 0 (at + length space) s
spaces_passed [] s at p = let e : at ≡ at + 0 = omega arith in ap (λ (n : ℕ). tokens_from 0 n s) e
spaces_passed (b ∷ r) s at p =
    let e : suc at + length r ≡ at + suc (length r) = omega arith in
    first_space b at (r ++ s) p.0 ∙ spaces_passed r s (suc at) p.1 ∙ ap (λ (n : ℕ). tokens_from 0 n s) e

abbrev prepends : List Placed → Lexed → Lexed
prepends [] l = l
prepends (p ∷ ps) l = prepend p (prepends ps l)

own_first : (own more : List ℕ) (at : ℕ) (t : Token) → 0 < length own → scan_of (own ++ more) ≡ good t (length own)
    → tokens_from 0 at (own ++ more) ≡ prepend (record { token = t; start = at }) (tokens_from 0 (at + length own) more)
own_first [] more at t h f = absurd (omega arith)
own_first (c ∷ o) more at t h f =
    let e = not_space c (o ++ more) t (length (c ∷ o)) f in
    let d = drop-append_seam (c ∷ o) more in
    first_good c at (o ++ more) e t (length (c ∷ o)) f h ∙ rw d

laid_back : (E : ℕ → List ℕ → Type 0) (l : Lexed) → ((at : ℕ) (last : List ℕ) → E at last → tokens_from 0 at last ≡ l)
    → (ps : List Placed) (at : ℕ) (s : List ℕ) → Laid E at ps s → tokens_from 0 at s ≡ prepends ps l
laid_back E l f [] at s h = rw h.2 (spaces_passed h.0 h.1 at h.3 ∙ f (at + length h.0) h.1 h.4)
laid_back E l f (p ∷ ps) at s h =
    let ih = laid_back E l f ps (p.start + length h.1) h.2 h.8 in
    let q = h.5 in
    rw h.3
    (spaces_passed h.0 (h.1 ++ h.2) at h.4
    ∙ ap (λ (n : ℕ). tokens_from 0 n (h.1 ++ h.2)) (sym q)
    ∙ own_first h.1 h.2 p.start p.token h.6 h.7
    ∙ ap (prepend p) ih)

prepends_tokens : (ps : List Placed) → prepends ps (tokens []) ≡ tokens ps
prepends_tokens [] = refl
prepends_tokens (p ∷ ps) = ap (prepend p) (prepends_tokens ps)

prepends_refused : (k place : ℕ) (ps : List Placed) → prepends ps (refused k place []) ≡ refused k place ps
prepends_refused k place [] = refl
prepends_refused k place (p ∷ ps) = ap (prepend p) (prepends_refused k place ps)

pub tokens_laid : (s : List ℕ) (at : ℕ) (ps : List Placed) → Laid Nothing at ps s → tokens_from 0 at s ≡ tokens ps
unfolding tokens_from
tokens_laid s at ps h = laid_back Nothing (tokens []) ends ps at s h ∙ prepends_tokens ps
  where
    ends : (at : ℕ) (last : List ℕ) → Nothing at last → tokens_from 0 at last ≡ tokens []
    ends at last e = rw e

pub bad_laid : (s : List ℕ) (at k place : ℕ) (ps : List Placed) → Laid (BadToken k place) at ps s → tokens_from 0 at s ≡ refused k place ps
bad_laid s at k place ps h = laid_back (BadToken k place) (refused k place []) ends ps at s h ∙ prepends_refused k place ps
  where
    ends : (at : ℕ) (last : List ℕ) → BadToken k place at last → tokens_from 0 at last ≡ refused k place []
    ends at [] e = absurd (omega (arith, e.1))
    ends at (b ∷ s) e = first_bad b at s e.2 k e.3 ∙ ap (λ (n : ℕ). refused k n []) e.0
