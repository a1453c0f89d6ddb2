-- What the lexer's theorems say of a text's tokens: each is right, they are no more than the bytes, and so is what they bring to the pool. Assumes nothing.
use Prim.Native.Nat.{ℕ, zero, suc, ◌+◌, ◌≤◌, ◌<◌}
use native.Mathlib.Omega.{arith}
use mathlib.Core.Path.{◌≡◌, refl, sym, ap, ap₂, ◌∙◌, subst}
use mathlib.Core.Bool.{Bool, true, false, cond, not, ◌&&◌}
use mathlib.Core.List.{List, [], ◌∷◌, ◌++◌, map}
use lib.Dec.{T, eqb, leb}
use lib.IntN.{ℤ, nat_abs}
use lib.Ieee.{Float, binary64, fits}
use lib.Ieee.Fits.{cond-fits, nan-fits, neg-fits, mul-fits, div-fits}
use lib.ListN.{length, get_or, drop, length-append}
use borrow.Author.Tests.{leb-true, le-leb, ltb-true, ne_eqb}
use mir.Syntax.{w32, w64}
use mir.Val.{SFits}
use Rattle.common.specs.Choice.{pick}
use Rattle.common.specs.Each.{Each}
use Rattle.word.specs.Word.{Bytes}
use Rattle.number.specs.Real.{scaled_of, signed_real, decimal_of, in_limits}
use Rattle.number.specs.Integer.{fits_in, is_negative}
use Rattle.notice.specs.Field.{printable, name_right}
use Rattle.table.proofs.Tests.{both_true, are_true}
use Rattle.lexer.specs.Byte.{within, starts_name, starts_number, is_quote, is_plain}
use Rattle.lexer.specs.Run.{takes, ends, run_from, run_of, unescaped, has_escape, legal_name, name_fits, body_of, is_closed}
use Rattle.lexer.specs.Integer.{is_long, is_integer, integer_fits, integer_of}
use Rattle.lexer.specs.Digits.{is_minus, whole_of}
use Rattle.lexer.specs.Real.{real_digits, scale_of, is_real, real_fits, real_of}
use Rattle.lexer.specs.Symbol.{symbol_of, symbol_length}
use Rattle.lexer.specs.Token.{Token, name, int32, int64, real, text, symbol, kind_of, Placed, Scan, good, bad, judged, scan_name, integer_token, scan_number, scan_string, scan_symbol, scan_of, tokens, tokens_of}
use Rattle.lexer.specs.Theorems.{Laid, Nothing, ValueAt}
use Rattle.lexer.proofs.Theorems.{whole, values}
use Rattle.grammar.specs.Parse.{kind_at}
use Rattle.grammar.specs.Size.{pool_bytes}
use Rattle.grammar.specs.Marks.{calling}
use Rattle.grammar.specs.Stream.{token_of, tokens_in}
use Rattle.grammar.proofs.Streams.{unescaped_small}
use Rattle.translator.proofs.Entries.{TokenRight}
use Rattle.translator.proofs.Derived.{AllRight}
use Rattle.translator.proofs.Bounded.{total_of}

-- ---- bytes

bytes_run : (quote : ℕ) (taken : Bool) (s : List ℕ) → Bytes s → Bytes (run_from quote taken s)
bytes_run quote taken [] h = h
bytes_run quote taken (b ∷ s) h = go (not taken && ends quote b) (bytes_run quote (takes taken b) s (λ i. h (suc i)))
  where
    go : (t : Bool) → Bytes (run_from quote (takes taken b) s) → Bytes (cond t [] (b ∷ run_from quote (takes taken b) s))
    go true r i = omega arith
    go false r zero = h 0
    go false r (suc i) = r i

bytes_unescaped : (taken : Bool) (s : List ℕ) → Bytes s → Bytes (unescaped taken s)
bytes_unescaped taken [] h = h
bytes_unescaped taken (b ∷ s) h = go (takes taken b) (bytes_unescaped true s (λ i. h (suc i))) (bytes_unescaped false s (λ i. h (suc i)))
  where
    go : (t : Bool) → Bytes (unescaped true s) → Bytes (unescaped false s) → Bytes (cond t (unescaped true s) (b ∷ unescaped false s))
    go true r q i = r i
    go false r q zero = h 0
    go false r q (suc i) = q i

bytes_rest : (s : List ℕ) → Bytes s → Bytes (drop 1 s)
bytes_rest [] h = h
bytes_rest (b ∷ s) h = λ i. h (suc i)

bytes_after : (s t : List ℕ) → Bytes (s ++ t) → Bytes t
bytes_after [] t h = h
bytes_after (b ∷ s) t h = bytes_after s t (λ i. h (suc i))

-- a legal name's bytes without escapes are 32..126
printed : (b : ℕ) (s : List ℕ) → 32 ≤ b → b ≤ 126 → printable s ≡ true → printable (b ∷ s) ≡ true
printed b s lo hi e = rw (le-leb 32 b lo, le-leb b 126 hi, e)

legal_printable : (taken : Bool) (s : List ℕ) → legal_name taken s ≡ true → printable (unescaped taken s) ≡ true
legal_printable taken [] e = refl
legal_printable true (b ∷ s) e =
    let p = both_true (within 32 126 b) (legal_name false s) e in
    let q = both_true (leb 32 b) (leb b 126) p.0 in
    printed b (unescaped false s) (leb-true 32 b q.0) (leb-true b 126 q.1) (legal_printable false s p.1)
legal_printable false (b ∷ s) e = go (eqb b 92) e (legal_printable true s) (legal_printable false s)
  where
    go : (t : Bool) → (is_plain b && legal_name t s) ≡ true → (legal_name true s ≡ true → printable (unescaped true s) ≡ true) → (legal_name false s ≡ true → printable (unescaped false s) ≡ true)
        → printable (cond t (unescaped true s) (b ∷ unescaped false s)) ≡ true
    go true h r q = r (both_true (is_plain b) (legal_name true s) h).1
    go false h r q =
        let p = both_true (is_plain b) (legal_name false s) h in
        let w = both_true (leb 33 b) (leb b 126) (both_true (within 33 126 b) _ p.0).0 in
        let lo = leb-true 33 b w.0 in
        printed b (unescaped false s) (omega arith) (leb-true b 126 w.1) (q p.1)

-- ---- one token

-- of a token that was scanned, with its length: it is right, a symbol's kind aside, and it brings no more bytes than it takes
abbrev ValueRight : Token → Type 0
ValueRight (name s e) = name_right s ≡ true
ValueRight (int32 z) = SFits w32 z
ValueRight (int64 z) = SFits w64 z
ValueRight (real x) = T (fits binary64 x)
ValueRight (text s) = Bytes s
ValueRight (symbol k) = Unit {0}

record Good (t : Token) (n : ℕ) : Type 0 where
  right : ValueRight t
  small : pool_bytes t ≤ n

abbrev Fine : Scan → Type 0
Fine (good t n) = Good t n
Fine (bad k) = Unit {0}

judged_fine : (f l : Bool) (t : Token) (n : ℕ) → (f ≡ true → l ≡ true → Good t n) → Fine (judged f l t n)
judged_fine false l t n h = tt
judged_fine true false t n h = tt
judged_fine true true t n h = h refl refl

pick_fine : (b : Bool) (x y : Unit {0} → Scan) → Fine (x tt) → Fine (y tt) → Fine (pick b x y)
pick_fine true x y h g = h
pick_fine false x y h g = g

scaled_fits : (d e : ℕ) (down : Bool) → T (fits binary64 (scaled_of d e down))
scaled_fits d e false = mul-fits binary64 _ _
scaled_fits d e true = div-fits binary64 _ _

signed_fits : (b : Bool) (x : Float) → T (fits binary64 x) → T (fits binary64 (signed_real b x))
signed_fits false x h = h
signed_fits true x h = neg-fits binary64 x h

decimal_fits : (d e : ℕ) (down negative : Bool) → T (fits binary64 (decimal_of d e down negative))
decimal_fits d e down negative = cond-fits binary64 (in_limits d e) _ _ (signed_fits negative _ (scaled_fits d e down)) (nan-fits binary64)

real_good : (run : List ℕ) (n : ℕ) → Good (real (real_of run)) n
real_good run n = record { right = decimal_fits (whole_of 10 (real_digits run)) (nat_abs (scale_of run)) (is_negative (scale_of run)) (is_minus run); small = omega arith }

integer_good : (long : Bool) (z : ℤ) (n : ℕ) → fits_in (cond long w64 w32) z ≡ true → Good (cond long (int64 z) (int32 z)) n
integer_good true z n e = record { right = record { sfits = ltb-true _ _ e }; small = omega arith }
integer_good false z n e = record { right = record { sfits = ltb-true _ _ e }; small = omega arith }

scan_good : (s : List ℕ) → Bytes s → Fine (scan_of s)
unfolding scan_of
scan_good s h =
    pick_fine (starts_name (get_or s 0 0)) _ _ by_name
    (pick_fine (starts_number (get_or s 0 0) (get_or s 1 0)) _ _ by_number (pick_fine (is_quote (get_or s 0 0)) _ _ by_string by_symbol))
  where
    by_name : Fine (scan_name s)
    by_name =
        judged_fine (legal_name false (run_of 0 s)) (name_fits (unescaped false (run_of 0 s))) (name (unescaped false (run_of 0 s)) (has_escape (run_of 0 s))) (length (run_of 0 s))
        (λ f l. record { right = are_true (name_fits (unescaped false (run_of 0 s))) (printable (unescaped false (run_of 0 s))) l (legal_printable false (run_of 0 s) f); small = unescaped_small false (run_of 0 s) })

    by_number : Fine (scan_number s)
    by_number =
        pick_fine (is_real (run_of 0 s)) (λ _. judged true (real_fits (run_of 0 s)) (real (real_of (run_of 0 s))) (length (run_of 0 s))) (λ _. judged (is_integer (run_of 0 s)) (integer_fits (run_of 0 s)) (integer_token (run_of 0 s)) (length (run_of 0 s))) (judged_fine true (real_fits (run_of 0 s)) (real (real_of (run_of 0 s))) (length (run_of 0 s)) (λ f l. real_good (run_of 0 s) (length (run_of 0 s))))
        (judged_fine (is_integer (run_of 0 s)) (integer_fits (run_of 0 s)) (integer_token (run_of 0 s)) (length (run_of 0 s)) (λ f l. integer_good (is_long (run_of 0 s)) (integer_of (run_of 0 s)) (length (run_of 0 s)) l))

    by_string : Fine (scan_string s)
    by_string =
        judged_fine (is_closed s) true (text (unescaped false (body_of s))) (length (body_of s) + 2)
        (λ f l. record { right = bytes_unescaped false (body_of s) (bytes_run (get_or s 0 0) false (drop 1 s) (bytes_rest s h)); small = omega (arith, unescaped_small false (body_of s)) })

    by_symbol : Fine (scan_symbol s)
    by_symbol = judged_fine (not (eqb (symbol_of (get_or s 0 0) (get_or s 1 0) (get_or s 2 0)) 0)) true (symbol (symbol_of (get_or s 0 0) (get_or s 1 0) (get_or s 2 0))) (symbol_length (get_or s 0 0) (get_or s 1 0) (get_or s 2 0)) (λ f l. record { right = tt; small = omega arith })

scanned : (s : List ℕ) (t : Token) (n : ℕ) → Bytes s → scan_of s ≡ good t n → Good t n
scanned s t n h e = subst Fine e (scan_good s h)

-- ---- all tokens

abbrev pub tokens_only : List Placed → List Token
tokens_only ps = map (λ p. p.token) ps

abbrev AllValues : List Token → Type 0
AllValues [] = Unit {0}
AllValues (x ∷ xs) = ValueRight x × AllValues xs

record Lay (ps : List Placed) (s : List ℕ) : Type 0 where
  count : length ps ≤ length s
  total : total_of (tokens_only ps) ≤ length s
  all : AllValues (tokens_only ps)

lays : (at : ℕ) (ps : List Placed) (s : List ℕ) → Bytes s → Laid Nothing at ps s → Lay ps s
lays at [] s h l = record { count = omega arith; total = omega arith; all = tt }
lays at (p ∷ ps) s h l =
    let space = l.0 in
    let own = l.1 in
    let rest = l.2 in
    let e : s ≡ space ++ (own ++ rest) = l.3 in
    let b : Bytes (own ++ rest) = bytes_after space (own ++ rest) (subst Bytes e h) in
    let g = scanned (own ++ rest) p.token (length own) b l.7 in
    let r = lays (p.start + length own) ps rest (bytes_after own rest b) l.8 in
    let n : length s ≡ length space + (length own + length rest) = ap length e ∙ length-append space (own ++ rest) ∙ ap (λ (m : ℕ). length space + m) (length-append own rest) in
    record {
      count = omega (arith, n, l.6, r.count);
      total = omega (arith, n, g.small, r.total);
      all = (g.right, r.all);
    }

token_right : (s : List ℕ) (at : ℕ) (x : Token) → ValueRight x → ValueAt s at x → TokenRight x
token_right s at (name b e) r v = r
token_right s at (int32 z) r v = r
token_right s at (int64 z) r v = r
token_right s at (real x) r v = r
token_right s at (text b) r v = r
token_right s at (symbol k) r v = let l = v.0 in omega arith

token_is : (s : List ℕ) (at : ℕ) (x : Token) → ValueAt s at x → token_of s (kind_of x) at ≡ x
token_is s at (name b e) v = ap₂ name (sym v.0) (sym v.1)
token_is s at (int32 z) v = ap int32 (sym v.0)
token_is s at (int64 z) v = ap int64 (sym v.0)
token_is s at (real x) v = ap real (sym v)
token_is s at (text b) v = ap text (sym v)
token_is s at (symbol k) v =
    let l = v.0 in
    rw (ne_eqb k 5 (λ e. omega arith), ne_eqb k 4 (λ e. omega arith), ne_eqb k 1 (λ e. omega arith), ne_eqb k 2 (λ e. omega arith), ne_eqb k 3 (λ e. omega arith))

rights : (s : List ℕ) (ps : List Placed) → AllValues (tokens_only ps) → Each (λ p. ValueAt s p.start p.token) ps → AllRight (tokens_only ps)
rights s [] a v = tt
rights s (p ∷ ps) a v = (token_right s p.start p.token a.0 v.0, rights s ps a.1 v.1)

tokens_are : (s : List ℕ) (ps : List Placed) → Each (λ p. ValueAt s p.start p.token) ps → tokens_in s (map (λ p. kind_of p.token) ps) (map (λ p. p.start) ps) ≡ tokens_only ps
unfolding tokens_in
tokens_are s [] v = refl
tokens_are s (p ∷ ps) v = ap₂ (λ (x : Token) (xs : List Token). x ∷ xs) (token_is s p.start p.token v.0) (tokens_are s ps v.1)

kind_low : (s : List ℕ) (at : ℕ) (x : Token) → ValueAt s at x → kind_of x < calling
kind_low s at (name b e) v = omega arith
kind_low s at (int32 z) v = omega arith
kind_low s at (int64 z) v = omega arith
kind_low s at (real x) v = omega arith
kind_low s at (text b) v = omega arith
kind_low s at (symbol k) v = omega (arith, v.1)

-- no kind is as large as the mark of a call
lows : (s : List ℕ) (ps : List Placed) → Each (λ p. ValueAt s p.start p.token) ps → (i : ℕ) → kind_at (tokens_only ps) i < calling
lows s [] v i = omega arith
lows s (p ∷ ps) v zero = kind_low s p.start p.token v.0
lows s (p ∷ ps) v (suc i) = lows s ps v.1 i

-- What holds of the tokens of a text.
pub record LexedText (s : List ℕ) (ps : List Placed) : Type 0 where
  pub short : length s ≤ 4096
  pub count : length ps ≤ length s
  pub low : (i : ℕ) → kind_at (tokens_only ps) i < calling
  pub total : total_of (tokens_only ps) ≤ 4096
  pub right : AllRight (tokens_only ps)
  pub stand : tokens_in s (map (λ p. kind_of p.token) ps) (map (λ p. p.start) ps) ≡ tokens_only ps

pub lexed_text : (s : List ℕ) (ps : List Placed) → Bytes s → tokens_of s ≡ tokens ps → LexedText s ps
lexed_text s ps h e =
    let w = (whole s ps).0 e in
    let l = lays 0 ps s h w.1 in
    let v : Each (λ p. ValueAt s p.start p.token) ps = rw e at (values s) in
    record {
      short = w.0;
      count = l.count;
      low = lows s ps v;
      total = omega (arith, w.0, l.total);
      right = rights s ps l.all v;
      stand = tokens_are s ps v;
    }
