-- The theorems that specs/Theorems.antt states. Assumes nothing.
use mathlib.Core.Path.{◌≡◌, refl, sym, ap, subst, ◌∙◌}
use mathlib.Core.Logic.{◌⊎◌, inl, inr}
use mathlib.Core.Bool.{Bool, true, false, cond, ◌&&◌}
use mathlib.Core.List.{List, [], ◌∷◌, IsPrefix}
use Prim.Native.Nat.{ℕ, suc, ◌+◌, ◌-◌, ◌^◌, ◌≤◌, ◌<◌}
use native.Mathlib.Decide.{dec_le}
use native.Mathlib.Omega.{arith}
use lib.Dec.{eqb, leb, ltb}
use lib.ListN.{length, get_or, drop}
use lib.Seq.{sets-eq, take-append_seam}
use lib.IntN.{ℤ, nat_abs}
use lib.Signed.{mag}
use lib.Ieee.{Float, nan}
use mir.Syntax.{w32, w64}
use borrow.Author.Tests.{eqb-true, eqb-false, ltb-true, lt-ltb}
use Rattle.common.specs.Each.{Each}
use Rattle.common.proofs.Choice.{true_false}
use Rattle.octets.proofs.Theorems.{and_parts}
use Rattle.number.specs.Integer.{fits_in}
use Rattle.lexer.specs.Byte.{starts_name, starts_number, is_quote}
use Rattle.lexer.specs.Run.{run_of, unescaped, has_escape, legal_name, name_fits, body_of, is_closed}
use Rattle.lexer.specs.Digits.{whole_of}
use Rattle.lexer.specs.Integer.{is_long, is_integer, integer_fits, integer_of, held}
use Rattle.lexer.specs.Real.{exponent_part, exponent_digits, real_digits, no_zeros, scale_of, is_real, real_fits, real_of}
use Rattle.lexer.specs.Token.{Token, name, int32, int64, real, text, symbol, Placed, good, bad, judged, scan_name, integer_token, scan_number, scan_string, scan_symbol, scan_of, Lexed, tokens, refused, prepend, tokens_from, tokens_of, found, integer_at, long_at, real_at}
use Rattle.lexer.specs.Answer.{lexing_of, number_of, place_of}
use Rattle.lexer.specs.Theorems.{Some, Laid, Nothing, BadToken, Whole, FirstBad, HasNumber, Numbered, ValueAt, Values, StartsInside, Counted, Stored, Spelling, spellings, StartsNoOther, LongestMatch, RealsHaveValues, Examples}
use Rattle.lexer.proofs.Decimals.{fifteen, real_decimal}
use Rattle.lexer.proofs.Scans.{judged_legal, is_symbol, scan_judged, bad_number, is_name, is_number, is-string, is-symbol, scan_real, scan_integer_lem}
use Rattle.lexer.proofs.Spellings.{some_map, each_some, right, kind_by, prefix_kind, Spells, kind_prefix, most_once, Best, best}
use Rattle.lexer.proofs.Streams.{from, stream_whole, too_long, streams}
use Rattle.lexer.proofs.Laying.{laid_tokens, laid_bad, tokens_laid, bad_laid}

-- the layout of a text
differ : {A : Type 0} (k at : ℕ) (ps qs : List Placed) → refused k at ps ≡ tokens qs → A
differ k at ps qs e = let z : ◌≡◌ {A = ℕ} 0 1 = cc in absurd (omega arith)

pub whole : Whole
whole s ps = (there, λ h. stream_whole s h.0 ∙ tokens_laid s 0 ps h.1)
  where
    there : tokens_of s ≡ tokens ps → (length s ≤ 4096) × Laid Nothing 0 ps s
    there e = go (dec_le (length s) 4096)
      where
        go : Dec (length s ≤ 4096) → (length s ≤ 4096) × Laid Nothing 0 ps s
        go (yes h) = (h, laid_tokens s 0 ps (sym (stream_whole s h) ∙ e))
        go (no h) = differ 10 0 [] ps (sym (too_long s (omega arith)) ∙ e)

pub first_bad : FirstBad
first_bad s k place ps = (there, back)
  where
    there : tokens_of s ≡ refused k place ps → ((length s ≤ 4096) × Laid (BadToken k place) 0 ps s) ⊎ ((4096 < length s) × (k ≡ 10) × (place ≡ 0) × (ps ≡ []))
    there e = go (dec_le (length s) 4096)
      where
        go : Dec (length s ≤ 4096) → ((length s ≤ 4096) × Laid (BadToken k place) 0 ps s) ⊎ ((4096 < length s) × (k ≡ 10) × (place ≡ 0) × (ps ≡ []))
        go (yes h) = inl (h, laid_bad s 0 k place ps (sym (stream_whole s h) ∙ e))
        go (no h) =
            let g : refused k place ps ≡ refused 10 0 [] = sym e ∙ too_long s (omega arith) in
            inr (omega arith, cc, cc, cc)

    back : ((length s ≤ 4096) × Laid (BadToken k place) 0 ps s) ⊎ ((4096 < length s) × (k ≡ 10) × (place ≡ 0) × (ps ≡ [])) → tokens_of s ≡ refused k place ps
    back (inl h) = stream_whole s h.0 ∙ bad_laid s 0 k place ps h.1
    back (inr h) = too_long s h.0 ∙ sym (rw (h.1, h.2, h.3) refl)

-- number and place: what is laid over a text ends with what comes last
laid_last : (E : ℕ → List ℕ → Type 0) (ps : List Placed) (at : ℕ) (s : List ℕ) → Laid E at ps s → (place : ℕ) × (last : List ℕ) × E place last
laid_last E [] at s l = (at + length l.0, l.1, l.4)
laid_last E (p ∷ ps) at s l = laid_last E ps (p.start + length l.1) l.2 l.8

first_refused : (s : List ℕ) (k place : ℕ) (ps : List Placed) → tokens_of s ≡ refused k place ps → HasNumber s k place
first_refused s k place ps e = go ((first_bad s k place ps).0 e)
  where
    go : ((length s ≤ 4096) × Laid (BadToken k place) 0 ps s) ⊎ ((4096 < length s) × (k ≡ 10) × (place ≡ 0) × (ps ≡ [])) → HasNumber s k place
    go (inl h) = let b = laid_last (BadToken k place) ps 0 s h.1 in inr (inl (h.0, bad_number b.1 k b.2.3, ps, h.1))
    go (inr h) = inl (h.0, h.1, h.2)

pub numbered : Numbered
numbered s k place = (λ e. there (tokens_of s) refl e, back)
  where
    there : (l : Lexed) → tokens_of s ≡ l → (number_of (lexing_of (tokens_of s)) ≡ k) × (place_of (lexing_of (tokens_of s)) ≡ place) → HasNumber s k place
    there (tokens ps) f e =
        let n = rw f at e in
        let w = (whole s ps).0 f in
        inr (inr (w.0, sym n.0, sym n.1, ps, w.1))
    there (refused j at ps) f e =
        let n = rw f at e in
        rw (n.0, n.1) at (first_refused s j at ps f)

    back : HasNumber s k place → (number_of (lexing_of (tokens_of s)) ≡ k) × (place_of (lexing_of (tokens_of s)) ≡ place)
    back (inl h) = let e = too_long s h.0 in (ap (λ (l : Lexed). number_of (lexing_of l)) e ∙ sym h.1, ap (λ (l : Lexed). place_of (lexing_of l)) e ∙ sym h.2)
    back (inr (inl h)) =
        let e = (first_bad s k place h.2).1 (inl (h.0, h.3)) in
        (ap (λ (l : Lexed). number_of (lexing_of l)) e, ap (λ (l : Lexed). place_of (lexing_of l)) e)
    back (inr (inr h)) =
        let e = (whole s h.3).1 (h.0, h.4) in
        (ap (λ (l : Lexed). number_of (lexing_of l)) e ∙ sym h.1, ap (λ (l : Lexed). place_of (lexing_of l)) e ∙ sym h.2)

-- an integer that fits its type, as 64 bits hold it
wide_fits : (z : ℤ) → fits_in w32 z ≡ true → fits_in w64 z ≡ true
wide_fits z e = let h = ltb-true (mag z) (2 ^ 31) e in lt-ltb (mag z) (2 ^ 63) (omega arith)

held_fits : (z : ℤ) → fits_in w64 z ≡ true → z ≡ held z
held_fits z e = rw e

-- the value of each class
module _ (s : List ℕ) (at : ℕ) where
  value : (form limits : Bool) (t u : Token) (m n : ℕ) → judged form limits t m ≡ good u n → (form ≡ true → limits ≡ true → ValueAt s at t) → ValueAt s at u
  value form limits t u m n e f =
      let j = judged_legal form limits t u m n e in
      subst (ValueAt s at) j.2 (f j.0 j.1)

  typed_value : (long : Bool) (z : ℤ) → long_at s at ≡ long → integer_at s at ≡ held z → fits_in (cond long w64 w32) z ≡ true
      → ValueAt s at (cond long (int64 z) (int32 z))
  typed_value true z l e f = (held_fits z f ∙ sym e, l)
  typed_value false z l e f = (held_fits z (wide_fits z f) ∙ sym e, l)

  real_value : (fits : Bool) (x : Float) → real_at s at ≡ cond fits x nan → fits ≡ true → ValueAt s at (real x)
  real_value fits x e f = sym (e ∙ rw f)

  number_value : (t : Token) (n : ℕ) → scan_number (drop at s) ≡ good t n → ValueAt s at t
  number_value t n e = go (is_real (run_of 0 (drop at s))) refl
    where
      go : (b : Bool) → is_real (run_of 0 (drop at s)) ≡ b → ValueAt s at t
      go true f =
          let run = run_of 0 (drop at s) in
          value true (real_fits run) (real (real_of run)) t (length run) n (sym (scan_real run f) ∙ e)
          (λ _ l. real_value (real_fits run) (real_of run) refl l)
      go false f =
          let run = run_of 0 (drop at s) in
          value (is_integer run) (integer_fits run) (integer_token run) t (length run) n (sym (scan_integer_lem run f) ∙ e)
          (λ _ l. typed_value (is_long run) (integer_of run) refl refl l)

  name_value : (t : Token) (n : ℕ) → scan_name (drop at s) ≡ good t n → ValueAt s at t
  name_value t n e =
      let run = run_of 0 (drop at s) in
      value (legal_name false run) (name_fits (unescaped false run)) (name (unescaped false run) (has_escape run)) t (length run) n e (λ _ _. (refl, refl))

  string_value : (t : Token) (n : ℕ) → scan_string (drop at s) ≡ good t n → ValueAt s at t
  string_value t n e =
      let body = body_of (drop at s) in
      value (is_closed (drop at s)) true (text (unescaped false body)) t (length body + 2) n e (λ _ _. refl)

-- a symbol's kind is a spelling's
symbol_value : (s : List ℕ) (at : ℕ) (t : Token) (n : ℕ) → scan_symbol (drop at s) ≡ good t n → ValueAt s at t
symbol_value s at t n e = go (best (drop at s))
  where
    go : Best (drop at s) → ValueAt s at t
    go (inl h) = let g : bad 1 ≡ good t n = sym h.0 ∙ e in let z : ◌≡◌ {A = ℕ} 0 1 = cc in absurd (omega arith)
    go (inr (m, h, f)) =
        let g : good (symbol (kind_by (drop at s) m)) m ≡ good t n = sym f ∙ e in
        let u : symbol (kind_by (drop at s) m) ≡ t = cc in
        subst (ValueAt s at) u (each_some spellings (λ x r q. (omega (arith, r.1, q.0), omega (arith, r.2, q.0))) right (kind_prefix (drop at s) m h.0))

value_here : (s : List ℕ) (at : ℕ) (t : Token) (n : ℕ) → scan_of (drop at s) ≡ good t n → ValueAt s at t
value_here s at t n f = go (starts_name (get_or r 0 0)) refl (starts_number (get_or r 0 0) (get_or r 1 0)) refl (is_quote (get_or r 0 0)) refl
  where
    r : List ℕ
    r = drop at s

    go : (x : Bool) → starts_name (get_or r 0 0) ≡ x → (y : Bool) → starts_number (get_or r 0 0) (get_or r 1 0) ≡ y → (z : Bool) → is_quote (get_or r 0 0) ≡ z → ValueAt s at t
    go true e y g z h = name_value s at t n (sym (is_name r e) ∙ f)
    go false e true g z h = number_value s at t n (sym (is_number r e g) ∙ f)
    go false e false g true h = string_value s at t n (sym (is-string r e g h) ∙ f)
    go false e false g false h = symbol_value s at t n (sym (is-symbol r e g h) ∙ f)

-- what holds of the tokens of every text holds of those of a long one, which has none
of_text : (s : List ℕ) (Q : Lexed → Type 0) → Q (refused 10 0 []) → (length s ≤ 4096 → Q (from s 0)) → Q (tokens_of s)
of_text s Q long short = go (dec_le (length s) 4096)
  where
    go : Dec (length s ≤ 4096) → Q (tokens_of s)
    go (yes h) = rw (stream_whole s h) (short h)
    go (no h) = rw (too_long s (omega arith)) long

-- each token
module _ (s : List ℕ) (P : Placed → Type 0) (here : (at n : ℕ) (t : Token) → at < length s → scan_of (drop at s) ≡ good t n → P (record { token = t; start = at })) where
  more_found : (p : Placed) (l : Lexed) → P p → Each P (found l) → Each P (found (prepend p l))
  more_found p (tokens ps) r e = (r, e)
  more_found p (refused k at ps) r e = (r, e)

  each_found : Each P (found (tokens_of s))
  each_found =
      of_text s (λ l. Each P (found l)) tt
      (λ _. streams s (λ at l. Each P (found l)) (λ at h. tt) (λ at l h e. e) (λ at k h. tt)
      (λ at n t l h p q f e. more_found (record { token = t; start = at }) l (here at n t h f) e))

pub values : Values
values s = each_found s (λ p. ValueAt s p.start p.token) (λ at n t h f. value_here s at t n f)

pub starts_inside : StartsInside
starts_inside s = each_found s (λ p. p.start < length s) (λ at n t h f. h)

count_more : (p : Placed) (l : Lexed) → length (found (prepend p l)) ≡ suc (length (found l))
count_more p (tokens ps) = refl
count_more p (refused k at ps) = refl

pub counted : Counted
counted s =
    of_text s (λ l. (length (found l) ≤ 4096) × (length (found l) ≤ length s)) (omega arith, omega arith)
    (λ h.
    let c = streams s (λ at l. length (found l) ≤ length s - at)
    (λ at h. omega arith)
    (λ at l h e. omega (arith, e))
    (λ at k h. omega arith)
    (λ at n t l h p q f e. omega (arith, e, count_more (record { token = t; start = at }) l))
    in
    (omega (arith, c), omega (arith, c)))

pub stored : Stored
stored d vs h =
    let e = sets-eq vs d 0 (omega arith) in
    rw e (take-append_seam vs (drop (0 + length vs) d))

pub reals_have_values : RealsHaveValues
reals_have_values run e =
    let three = leb (length (exponent_digits (exponent_part run))) 3 in
    let scale = leb (nat_abs (scale_of run)) 22 in
    let p = and_parts (three && scale) (leb (length (no_zeros (real_digits run))) 15) e in
    let d = fifteen (real_digits run) (real_decimal run) ∙ p.1 in
    let q = (and_parts three scale p.0).1 in
    both (ltb (whole_of 10 (real_digits run)) (10 ^ 15)) scale d q
  where
    both : (a b : Bool) → a ≡ true → b ≡ true → (a && b) ≡ true
    both a b p q = rw (p, q)

-- the longest match
module _ (s : List ℕ) where
  starts_no_other : (k n : ℕ) → scan_of s ≡ good (symbol k) n → StartsNoOther s
  starts_no_other k n e = let j = scan_judged s in go j.2 (judged_legal j.0 j.1 j.2 (symbol k) j.3 n (sym j.4 ∙ e)).2 j.5
    where
      go : (t : Token) → t ≡ symbol k → (is_symbol t ≡ false) ⊎ StartsNoOther s → StartsNoOther s
      go t e (inl f) = true_false (ap is_symbol (sym e) ∙ f)
      go t e (inr h) = h

  -- no spelling that is longer is a prefix, if no more bytes give a kind; and back
  none_longer : (n : ℕ) → ((m : ℕ) → n < m → kind_by s m ≡ 0) → Some (λ x. (n < length x.bytes) × IsPrefix x.bytes s) spellings → ⊥
  none_longer n f e = each_some spellings (λ x r q. (prefix_kind s x r q.1).1 (f (length x.bytes) q.0)) right e

  none_by : (n : ℕ) → (Some (λ x. (n < length x.bytes) × IsPrefix x.bytes s) spellings → ⊥) → (m : ℕ) → n < m → kind_by s m ≡ 0
  none_by n f m h = go (eqb (kind_by s m) 0) refl
    where
      longer : (x : Spelling) → Spells s (kind_by s m) m x → (n < length x.bytes) × IsPrefix x.bytes s
      longer x q = (omega (arith, q.1), q.2)

      go : (b : Bool) → eqb (kind_by s m) 0 ≡ b → kind_by s m ≡ 0
      go true e = eqb-true (kind_by s m) 0 e
      go false e = absurd (f (some_map spellings longer (kind_prefix s m (eqb-false (kind_by s m) 0 e))))

  module _ (other : StartsNoOther s) where
    here : scan_of s ≡ scan_symbol s
    here = is-symbol s other.0 other.1 other.2

    matched : (k n : ℕ) → Best s → scan_of s ≡ good (symbol k) n → Some (Spells s k n) spellings × (Some (λ x. (n < length x.bytes) × IsPrefix x.bytes s) spellings → ⊥)
    matched k n (inl h) e = let g : bad 1 ≡ good (symbol k) n = sym h.0 ∙ sym here ∙ e in let z : ◌≡◌ {A = ℕ} 0 1 = cc in absurd (omega arith)
    matched k n (inr (m, h, f)) e =
        let g : good (symbol (kind_by s m)) m ≡ good (symbol k) n = sym f ∙ sym here ∙ e in
        let p : kind_by s m ≡ k = cc in
        let q : m ≡ n = cc in
        (rw (p, q) at (kind_prefix s m h.0), rw q at (none_longer m h.1))

    taken : (k n : ℕ) → Some (Spells s k n) spellings → (Some (λ x. (n < length x.bytes) × IsPrefix x.bytes s) spellings → ⊥) → Best s → scan_of s ≡ good (symbol k) n
    taken k n a none = go
      where
        by : (kind_by s n ≡ k) × (kind_by s n ≡ 0 → ⊥)
        by = each_some {Q = Spells s k n} spellings (λ x r q. rw (q.0, q.1) at (prefix_kind s x r q.2)) right a

        go : Best s → scan_of s ≡ good (symbol k) n
        go (inl h) = absurd (by.1 (h.1 n))
        go (inr (m, h, f)) = let q : m ≡ n = most_once s m n h (by.1, none_by n none) in here ∙ f ∙ rw (q, by.0)

    no_match : Best s → scan_of s ≡ bad 1 → Some (λ x. IsPrefix x.bytes s) spellings → ⊥
    no_match (inl h) e a = each_some spellings (λ x r q. (prefix_kind s x r q).1 (h.1 (length x.bytes))) right a
    no_match (inr (m, h, f)) e a =
        let g : bad 1 ≡ good (symbol (kind_by s m)) m = sym e ∙ here ∙ f in
        let z : ◌≡◌ {A = ℕ} 0 1 = cc in
        absurd (omega arith)

    refused_by_lem : Best s → (Some (λ x. IsPrefix x.bytes s) spellings → ⊥) → scan_of s ≡ bad 1
    refused_by_lem (inl h) none = here ∙ h.0
    refused_by_lem (inr (m, h, f)) none = absurd (none (some_map {P = Spells s (kind_by s m) m} spellings (λ x q. q.2) (kind_prefix s m h.0)))

pub longest_match : LongestMatch
longest_match s = (
  λ k n. (
    λ e. let other = starts_no_other s k n e in let m = matched s other k n (best s) e in (other, m.0, m.1),
    λ h. taken s h.0 k n h.1 h.2 (best s),
  ),
  λ other. (no_match s other (best s), refused_by_lem s other (best s)),
)

pub examples : Examples
unfolding tokens_of tokens_from scan_of
examples = (refl, (refl, (refl, (refl, (refl, (refl, (refl, (refl, (refl, (refl, (refl, (refl, tt))))))))))))
