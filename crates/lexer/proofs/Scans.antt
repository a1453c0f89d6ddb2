-- What stands first in a text: its class, what the code answers of it, and that a token takes at least one byte and not more than there are. Assumes nothing.
use mathlib.Core.Path.{◌≡◌, refl, sym, ap, ◌∙◌}
use mathlib.Core.Logic.{◌⊎◌, inl, inr}
use mathlib.Core.Bool.{Bool, true, false, not, cond, ◌&&◌, ◌||◌}
use mathlib.Core.List.{List, [], ◌∷◌, ◌++◌}
use Prim.Native.Nat.{ℕ, suc, ◌+◌, ◌-◌, ◌≤◌, ◌<◌}
use native.Mathlib.Decide.{dec_le}
use native.Mathlib.Numerals.{add-one}
use native.Mathlib.Omega.{arith}
use lib.Dec.{eqb, leb, lit<}
use lib.IntN.{ℤ}
use lib.ListN.{length, get_or, drop, length-drop, length-append, get_or-eq_default, get_or-append}
use lib.Seq.{length-take-le, drop-cons, drop-drop, drop-append_seam, get_or-append-add}
use borrow.Author.Tests.{leb-true, le-leb, lt-ltb, eqb-true, eqb-false, ne_eqb, eq-eqb}
use Rattle.common.specs.Choice.{pick}
use Rattle.number.specs.Integer.{signed_of}
use Rattle.common.proofs.Choice.{false_true}
use Rattle.octets.proofs.Theorems.{and_parts}
use Rattle.lexer.specs.Byte.{within, is_common, starts_name, starts_number, is_quote}
use Rattle.lexer.specs.Run.{run_of, unescaped, Passes, takes, has_escape, legal_name, name_fits, body_of, is_empty, is_closed}
use Rattle.lexer.specs.Digits.{is_minus, sign_length, digits_of, whole_of, capped}
use Rattle.lexer.specs.Integer.{base_of, prefix_length, integer_digits, suffix_at, is_long, is_integer, integer_fits, integer_of}
use Rattle.lexer.specs.Real.{whole_digits, from_point, fraction_digits, exponent_part, is_exponent, is_real, real_fits, real_of}
use Rattle.lexer.specs.Symbol.{three_bytes, two_bytes, symbol_of, symbol_length}
use Rattle.lexer.specs.Token.{Token, name, int32, int64, real, text, symbol, kind_of, Scan, good, bad, judged, scan_name, integer_token, scan_integer, scan_run, scan_number, scan_string, scan_bytes, scan_symbol, scan_of, string_at}
use Rattle.lexer.specs.Theorems.{StartsNoOther}
use Rattle.lexer.specs.Answer.{scanned_of, Stand}
use Rattle.lexer.specs.Answer.{Good, Bad}
use Rattle.lexer.proofs.Bytes.{range, common_ends_none, common_takes_none}
use Rattle.lexer.proofs.Runs.{ends_quote, run_stop, run_end, byte_here, rest_later, none_left, empty, passes_all, first_fits, run_first}
use Rattle.lexer.proofs.Wholes.{digits_fit, digits_part, digits_again, digits_in_run, first_digit, lone_zero, suffix_byte}

pub pick_yes : {A : Type 0} (b : Bool) (x y : Unit {0} → A) → b ≡ true → pick b x y ≡ x tt
pick_yes b x y e = rw e

pub pick_no : {A : Type 0} (b : Bool) (x y : Unit {0} → A) → b ≡ false → pick b x y ≡ y tt
pick_no b x y e = rw e

-- the class of what stands first
module _ (s : List ℕ) where
  pub is_name : starts_name (get_or s 0 0) ≡ true → scan_of s ≡ scan_name s
  unfolding scan_of
  is_name e = pick_yes (starts_name (get_or s 0 0)) _ _ e

  module _ (n : starts_name (get_or s 0 0) ≡ false) where
    pub is_number : starts_number (get_or s 0 0) (get_or s 1 0) ≡ true → scan_of s ≡ scan_number s
    unfolding scan_of
    is_number e = pick_no (starts_name (get_or s 0 0)) _ _ n ∙ pick_yes (starts_number (get_or s 0 0) (get_or s 1 0)) _ _ e

    module _ (m : starts_number (get_or s 0 0) (get_or s 1 0) ≡ false) where
      pub is-string : is_quote (get_or s 0 0) ≡ true → scan_of s ≡ scan_string s
      unfolding scan_of
      is-string e =
          pick_no (starts_name (get_or s 0 0)) _ _ n
          ∙ pick_no (starts_number (get_or s 0 0) (get_or s 1 0)) _ _ m
          ∙ pick_yes (is_quote (get_or s 0 0)) _ _ e

      pub is-symbol : is_quote (get_or s 0 0) ≡ false → scan_of s ≡ scan_symbol s
      unfolding scan_of
      is-symbol e =
          pick_no (starts_name (get_or s 0 0)) _ _ n
          ∙ pick_no (starts_number (get_or s 0 0) (get_or s 1 0)) _ _ m
          ∙ pick_no (is_quote (get_or s 0 0)) _ _ e

-- a token that was judged legal, and one that was not
pub judged_legal : (form limits : Bool) (t u : Token) (m n : ℕ) → judged form limits t m ≡ good u n → (form ≡ true) × (limits ≡ true) × (t ≡ u)
judged_legal false limits t u m n e = let z : ◌≡◌ {A = ℕ} 0 1 = cc in absurd (omega arith)
judged_legal true false t u m n e = let z : ◌≡◌ {A = ℕ} 0 1 = cc in absurd (omega arith)
judged_legal true true t u m n e = (refl, refl, cc)

judged_bad : (form limits : Bool) (t : Token) (m k : ℕ) → judged form limits t m ≡ bad k → (k ≡ 1) ⊎ (k ≡ 3)
judged_bad false limits t m k e = inl cc
judged_bad true false t m k e = inr cc
judged_bad true true t m k e = let z : ◌≡◌ {A = ℕ} 0 1 = cc in absurd (omega arith)

-- what the code answers of a form, limits and a token
module _ (form limits : Bool) (t : Token) (n : ℕ) where
  pub no_form : form ≡ false → Bad 1 ≡ scanned_of (judged form limits t n)
  no_form e = rw e

  pub no_limits : form ≡ true → limits ≡ false → Bad 3 ≡ scanned_of (judged form limits t n)
  no_limits e f = rw (e, f)

  pub legal : form ≡ true → limits ≡ true → Good (kind_of t) n ≡ scanned_of (judged form limits t n)
  legal e f = rw (e, f)

module _ (s : List ℕ) where
  named : Token
  named = name (unescaped false (run_of 0 s)) (has_escape (run_of 0 s))

  pub name_illegal : legal_name false (run_of 0 s) ≡ false → Bad 1 ≡ scanned_of (scan_name s)
  name_illegal e = no_form (legal_name false (run_of 0 s)) (name_fits (unescaped false (run_of 0 s))) _ _ e

  pub name_over : legal_name false (run_of 0 s) ≡ true → name_fits (unescaped false (run_of 0 s)) ≡ false → Bad 3 ≡ scanned_of (scan_name s)
  name_over e f = no_limits (legal_name false (run_of 0 s)) (name_fits (unescaped false (run_of 0 s))) _ _ e f

  pub name_legal : legal_name false (run_of 0 s) ≡ true → name_fits (unescaped false (run_of 0 s)) ≡ true → Good 5 (length (run_of 0 s)) ≡ scanned_of (scan_name s)
  unfolding named
  name_legal e f = legal (legal_name false (run_of 0 s)) (name_fits (unescaped false (run_of 0 s))) named (length (run_of 0 s)) e f

pub scan_real : (run : List ℕ) → is_real run ≡ true → scan_run run ≡ judged true (real_fits run) (real (real_of run)) (length run)
scan_real run e = pick_yes (is_real run) _ _ e

pub scan_integer_lem : (run : List ℕ) → is_real run ≡ false → scan_run run ≡ scan_integer run
scan_integer_lem run e = pick_no (is_real run) _ _ e

module _ (run : List ℕ) where
  pub real_over : is_real run ≡ true → real_fits run ≡ false → Bad 3 ≡ scanned_of (scan_run run)
  real_over e f = no_limits true (real_fits run) (real (real_of run)) (length run) refl f ∙ ap scanned_of (sym (scan_real run e))

  pub real_legal : is_real run ≡ true → real_fits run ≡ true → Good 3 (length run) ≡ scanned_of (scan_run run)
  real_legal e f = legal true (real_fits run) (real (real_of run)) (length run) refl f ∙ ap scanned_of (sym (scan_real run e))

  pub integer_illegal : is_integer run ≡ false → Bad 1 ≡ scanned_of (scan_integer run)
  integer_illegal e = no_form (is_integer run) (integer_fits run) (integer_token run) (length run) e

  pub integer_over : is_integer run ≡ true → integer_fits run ≡ false → Bad 3 ≡ scanned_of (scan_integer run)
  integer_over e f = no_limits (is_integer run) (integer_fits run) (integer_token run) (length run) e f

  integer_legal : is_integer run ≡ true → integer_fits run ≡ true → Good (kind_of (integer_token run)) (length run) ≡ scanned_of (scan_integer run)
  integer_legal e f = legal (is_integer run) (integer_fits run) (integer_token run) (length run) e f

  pub long_legal : is_integer run ≡ true → integer_fits run ≡ true → is_long run ≡ true → Good 2 (length run) ≡ scanned_of (scan_integer run)
  long_legal e f l = let k : 2 ≡ kind_of (integer_token run) = kind_of_lem (is_long run) l in ap (λ (k : ℕ). Good k (length run)) k ∙ integer_legal e f
    where
      kind_of_lem : (b : Bool) → b ≡ true → 2 ≡ kind_of (cond b (int64 (integer_of run)) (int32 (integer_of run)))
      kind_of_lem b e = rw e

  pub short_legal : is_integer run ≡ true → integer_fits run ≡ true → is_long run ≡ false → Good 1 (length run) ≡ scanned_of (scan_integer run)
  short_legal e f l = let k : 1 ≡ kind_of (integer_token run) = kind_of_lem (is_long run) l in ap (λ (k : ℕ). Good k (length run)) k ∙ integer_legal e f
    where
      kind_of_lem : (b : Bool) → b ≡ false → 1 ≡ kind_of (cond b (int64 (integer_of run)) (int32 (integer_of run)))
      kind_of_lem b e = rw e

-- decimal digits that do not start with `0`, and what stands after them
module _ (ds t : List ℕ) (all : digits_of 10 (ds ++ t) ≡ ds) (m : is_minus (ds ++ t) ≡ false) (z : eqb (get_or (ds ++ t) 0 0) 48 ≡ false) (h : 0 < length ds) where
  no_point : eqb (get_or t 0 0) 46 ≡ false → is_real (ds ++ t) ≡ false
  no_point f =
      let p : get_or (from_point (ds ++ t)) 0 0 ≡ get_or t 0 0 = rw (m, all, drop-append_seam ds t) in
      let e : eqb (get_or (from_point (ds ++ t)) 0 0) 46 ≡ false = ap (λ (b : ℕ). eqb b 46) p ∙ f in
      cut (not (is_empty (whole_digits (ds ++ t)))) (eqb (get_or (from_point (ds ++ t)) 0 0) 46) (not (is_empty (fraction_digits (ds ++ t)))) (is_empty (exponent_part (ds ++ t)) || is_exponent (exponent_part (ds ++ t))) e
    where
      cut : (a b c d : Bool) → b ≡ false → (a && b && c && d) ≡ false
      cut true b c d e = rw e
      cut false b c d e = refl

  digits_all : integer_digits (ds ++ t) ≡ ds
  digits_all = rw (m, z) all

  at_end : suffix_at (ds ++ t) ≡ length ds
  at_end = rw (m, z, all) (omega arith)

  suffix : get_or (ds ++ t) (suffix_at (ds ++ t)) 0 ≡ get_or t 0 0
  suffix = let k : length ds + 0 ≡ suffix_at (ds ++ t) = omega (arith, at_end) in ap (λ (n : ℕ). get_or (ds ++ t) n 0) (sym k) ∙ get_or-append-add ds t 0 0

  right_form : cond (is_long (ds ++ t)) 1 0 ≡ length t → is_integer (ds ++ t) ≡ true
  right_form n =
      let l : length (drop (suffix_at (ds ++ t)) (ds ++ t)) ≡ length t = ap (λ (k : ℕ). length (drop k (ds ++ t))) at_end ∙ ap length (drop-append_seam ds t) in
      let i : is_empty (integer_digits (ds ++ t)) ≡ false = rw digits_all (ne_eqb (length ds) 0 (λ y. omega arith)) in
      rw i (eq-eqb (length (drop (suffix_at (ds ++ t)) (ds ++ t))) (cond (is_long (ds ++ t)) 1 0) (l ∙ sym n))

  no_suffix : t ≡ [] → is_long (ds ++ t) ≡ false
  no_suffix e = let g : get_or (ds ++ t) (suffix_at (ds ++ t)) 0 ≡ 0 = suffix ∙ ap (λ (l : List ℕ). get_or l 0 0) e in rw g

  digits_only : t ≡ [] → whole_of 10 ds < 2147483648 → Good 1 (length (ds ++ t)) ≡ scanned_of (scan_run (ds ++ t))
  digits_only e v =
      let s = no_suffix e in
      let fits : integer_fits (ds ++ t) ≡ true = rw (s, m, z, all) (lt-ltb (whole_of 10 ds) 2147483648 v) in
      short_legal (ds ++ t) (right_form (rw (s, e))) fits s ∙ ap scanned_of (sym (scan_integer_lem (ds ++ t) (no_point (rw e))))

  digits_long : (x : ℕ) → t ≡ x ∷ [] → (eqb x 108 || eqb x 76) ≡ true → whole_of 10 ds < 9223372036854775808 → Good 2 (length (ds ++ t)) ≡ scanned_of (scan_run (ds ++ t))
  digits_long x e l v =
      let g : get_or (ds ++ t) (suffix_at (ds ++ t)) 0 ≡ x = suffix ∙ ap (λ (l : List ℕ). get_or l 0 0) e in
      let s : is_long (ds ++ t) ≡ true = rw g l in
      let fits : integer_fits (ds ++ t) ≡ true = rw (s, m, z, all) (lt-ltb (whole_of 10 ds) 9223372036854775808 v) in
      let p : eqb (get_or t 0 0) 46 ≡ false = rw e (ne_eqb x 46 (λ y. false_true (rw y at l))) in
      long_legal (ds ++ t) (right_form (rw (s, e))) fits s ∙ ap scanned_of (sym (scan_integer_lem (ds ++ t) (no_point p)))

-- a byte that is not 0 is there
pub is_there : (s : List ℕ) (i : ℕ) → (get_or s i 0 ≡ 0 → ⊥) → i < length s
is_there s i f = go (dec_le (length s) i)
  where
    go : Dec (length s ≤ i) → i < length s
    go (yes h) = absurd (f (get_or-eq_default s 0 h))
    go (no h) = omega arith

-- a number of a text from a place on, by where its decimal digits end
module _ (s : List ℕ) (at e v : ℕ) (h : at < length s) (d : e ≡ at + length (digits_of 10 (drop at s))) (w : v ≡ capped (whole_of 10 (digits_of 10 (drop at s)))) where
  count : e - at ≡ length (digits_of 10 (drop at s))
  count = omega (arith, d)

  parts : run_of 0 (drop at s) ≡ digits_of 10 (drop at s) ++ run_of 0 (drop e s)
  parts =
      let k : drop (length (digits_of 10 (drop at s))) (drop at s) ≡ drop e s = drop-drop (length (digits_of 10 (drop at s))) at s ∙ ap (λ (k : ℕ). drop k s) (sym d) in
      digits_part (drop at s) ∙ ap (λ (l : List ℕ). digits_of 10 (drop at s) ++ run_of 0 l) k

  module _ (b : within 49 57 (get_or s at 0) ≡ true) where
    leading : (t : List ℕ) → (get_or (digits_of 10 (drop at s) ++ t) 0 0 ≡ get_or s at 0) × (0 < length (digits_of 10 (drop at s)))
    leading t =
        let f : (get_or (digits_of 10 (drop at s)) 0 0 ≡ get_or s at 0) × (0 < length (digits_of 10 (drop at s))) = rw (drop-cons s at 0 h) (first_digit (get_or s at 0) (drop (suc at) s) b) in
        (get_or-append (digits_of 10 (drop at s)) t 0 0 f.1 ∙ f.0, f.1)

    other : (t : List ℕ) (k : ℕ) → k < 49 → eqb (get_or (digits_of 10 (drop at s) ++ t) 0 0) k ≡ false
    other t k l = let y = range 49 57 (get_or s at 0) b in ne_eqb _ k (λ q. omega (arith, y.0, (leading t).0, q))

    plain_number : v < 2147483648 → is_empty (run_of 0 (drop e s)) ≡ true → Good 1 (e - at) ≡ scanned_of (scan_number (drop at s))
    plain_number l n =
        let t = run_of 0 (drop e s) in
        let ds = digits_of 10 (drop at s) in
        let z = none_left t (empty t n) in
        let c : e - at ≡ length (ds ++ t) = omega (arith, count, length-append ds t, ap length z) in
        let all : digits_of 10 (ds ++ t) ≡ ds = digits_again 10 (drop at s) t (ap (digits_of 10) z) in
        ap (λ (k : ℕ). Good 1 k) c
        ∙ digits_only ds t all (other t 45 (lit< tt)) (other t 48 (lit< tt)) (leading t).1 z (omega (arith, w, l))
        ∙ ap (λ l. scanned_of (scan_run l)) (sym parts)

    pub long_number : (eqb (get_or s e 0) 108 || eqb (get_or s e 0) 76) ≡ true → v < 9223372036854775808 → is_empty (run_of 0 (drop (e + 1) s)) ≡ true
        → Good 2 (e - at + 1) ≡ scanned_of (scan_number (drop at s))
    long_number x l n =
        let t = run_of 0 (drop e s) in
        let ds = digits_of 10 (drop at s) in
        let q = suffix_byte (get_or s e 0) x in
        let i = is_there s e (λ y. false_true (rw y at x)) in
        let none = ap (λ (k : ℕ). run_of 0 (drop k s)) (sym (add-one e)) ∙ none_left (run_of 0 (drop (e + 1) s)) (empty (run_of 0 (drop (e + 1) s)) n) in
        let z : t ≡ get_or s e 0 ∷ [] = rw (drop-cons s e 0 i, common_ends_none _ q.0, common_takes_none _ q.0) (ap (λ (l : List ℕ). get_or s e 0 ∷ l) none) in
        let c : e - at + 1 ≡ length (ds ++ t) = omega (arith, count, length-append ds t, ap length z) in
        let all : digits_of 10 (ds ++ t) ≡ ds = digits_again 10 (drop at s) t (ap (digits_of 10) z ∙ rw q.1) in
        ap (λ (k : ℕ). Good 2 k) c
        ∙ digits_long ds t all (other t 45 (lit< tt)) (other t 48 (lit< tt)) (leading t).1 (get_or s e 0) z x (omega (arith, w, l))
        ∙ ap (λ l. scanned_of (scan_run l)) (sym parts)

  -- one digit, which may be `0`, or digits that do not start with it
  pub short_number : (within 49 57 (get_or s at 0) || eqb (e - at) 1) ≡ true → v < 2147483648 → is_empty (run_of 0 (drop e s)) ≡ true → Good 1 (e - at) ≡ scanned_of (scan_number (drop at s))
  short_number b l n = go (within 49 57 (get_or s at 0)) refl
    where
      go : (x : Bool) → within 49 57 (get_or s at 0) ≡ x → Good 1 (e - at) ≡ scanned_of (scan_number (drop at s))
      go true f = plain_number f l n
      go false f =
          let t = run_of 0 (drop e s) in
          let one : e - at ≡ 1 = eqb-true (e - at) 1 (rw f at b) in
          let k = drop-cons s at 0 h in
          let z : digits_of 10 (drop at s) ≡ 48 ∷ [] =
          ap (digits_of 10) k ∙ lone_zero (get_or s at 0) (drop (suc at) s) (ap (λ (l : List ℕ). length (digits_of 10 l)) (sym k) ∙ sym count ∙ one) f in
          let r : run_of 0 (drop at s) ≡ 48 ∷ [] = parts ∙ ap (λ (l : List ℕ). l ++ t) z ∙ ap (λ (l : List ℕ). 48 ∷ l) (none_left t (empty t n)) in
          rw (one, r)

-- the value of an integer that starts with 1..9, by the digits of the text
pub leading_integer : (s : List ℕ) (at : ℕ) → at < length s → within 49 57 (get_or s at 0) ≡ true
    → signed_of false (whole_of 10 (digits_of 10 (drop at s))) ≡ integer_of (run_of 0 (drop at s))
leading_integer s at h b =
    let x = get_or s at 0 in
    let y = range 49 57 x b in
    let c : is_common x ≡ true = rw (le-leb 45 x (omega (arith, y.0)), le-leb x 90 (omega (arith, y.1))) in
    let f : get_or (run_of 0 (drop at s)) 0 0 ≡ x = rw (drop-cons s at 0 h, common_ends_none x c) in
    let m : is_minus (run_of 0 (drop at s)) ≡ false = ap (λ (k : ℕ). eqb k 45) f ∙ ne_eqb x 45 (λ q. omega (arith, y.0)) in
    let z : eqb (get_or (run_of 0 (drop at s)) 0 0) 48 ≡ false = ap (λ (k : ℕ). eqb k 48) f ∙ ne_eqb x 48 (λ q. omega (arith, y.0)) in
    rw (m, z, digits_in_run (drop at s))

-- What stands first is judged by its form and its limits, whatever its class; it is no symbol, or the text starts nothing else.
abbrev pub is_symbol : Token → Bool
is_symbol (name bytes escaped) = false
is_symbol (int32 z) = false
is_symbol (int64 z) = false
is_symbol (real x) = false
is_symbol (text bytes) = false
is_symbol (symbol k) = true

abbrev Judged : List ℕ → Type 0
Judged s = (form limits : Bool) × (t : Token) × (n : ℕ) × (scan_of s ≡ judged form limits t n) × ((is_symbol t ≡ false) ⊎ StartsNoOther s)

number_judged : (s : List ℕ) → scan_of s ≡ scan_number s → Judged s
number_judged s e = go (is_real (run_of 0 s)) refl
  where
    typed : (long : Bool) (z : ℤ) → is_symbol (cond long (int64 z) (int32 z)) ≡ false
    typed true z = refl
    typed false z = refl

    go : (b : Bool) → is_real (run_of 0 s) ≡ b → Judged s
    go true f = let run = run_of 0 s in (true, real_fits run, real (real_of run), length run, e ∙ scan_real run f, inl refl)
    go false f = let run = run_of 0 s in (is_integer run, integer_fits run, integer_token run, length run, e ∙ scan_integer_lem run f, inl (typed (is_long run) (integer_of run)))

pub scan_judged : (s : List ℕ) → Judged s
scan_judged s = go (starts_name a) refl (starts_number a b) refl (is_quote a) refl
  where
    a : ℕ
    a = get_or s 0 0

    b : ℕ
    b = get_or s 1 0

    c : ℕ
    c = get_or s 2 0

    go : (x : Bool) → starts_name a ≡ x → (y : Bool) → starts_number a b ≡ y → (z : Bool) → is_quote a ≡ z → Judged s
    go true e y f z g =
        let run = run_of 0 s in
        (legal_name false run, name_fits (unescaped false run), name (unescaped false run) (has_escape run), length run, is_name s e, inl refl)
    go false e true f z g = number_judged s (is_number s e f)
    go false e false f true g = (is_closed s, true, text (unescaped false (body_of s)), length (body_of s) + 2, is-string s e f g, inl refl)
    go false e false f false g = (not (eqb (symbol_of a b c) 0), true, symbol (symbol_of a b c), symbol_length a b c, is-symbol s e f g, inr (e, f, g))

-- the numbers by which it is refused
pub bad_number : (s : List ℕ) (k : ℕ) → scan_of s ≡ bad k → (k ≡ 1) ⊎ (k ≡ 3)
bad_number s k e = let j = scan_judged s in judged_bad j.0 j.1 j.2 j.3 k (sym j.4 ∙ e)

-- a string that closes, and one that does not
module _ (s : List ℕ) where
  pub string_open : length (drop (length (body_of s) + 1) s) ≡ 0 → Bad 1 ≡ scanned_of (scan_string s)
  string_open e =
      let z : is_closed s ≡ false = rw (eq-eqb (length (drop (length (body_of s) + 1) s)) 0 e) in
      no_form (is_closed s) true (text (unescaped false (body_of s))) (length (body_of s) + 2) z

  pub string_legal : (length (drop (length (body_of s) + 1) s) ≡ 0 → ⊥) → Good 4 (length (body_of s) + 2) ≡ scanned_of (scan_string s)
  string_legal f =
      let z : is_closed s ≡ true = rw (ne_eqb (length (drop (length (body_of s) + 1) s)) 0 f) in
      legal (is_closed s) true (text (unescaped false (body_of s))) (length (body_of s) + 2) z refl

pub quote_some : (q : ℕ) → is_quote q ≡ true → q ≡ 0 → ⊥
quote_some q e z = false_true (rw z at e)

-- a string in a text, by where its bytes without a quote and a backslash end
module _ (s : List ℕ) (at e : ℕ) (h : at < length s) (l : at + 1 ≤ e) (p : Passes (get_or s at 0) (drop (at + 1) s) (e - (at + 1))) where
  body_at : body_of (drop at s) ≡ run_of (get_or s at 0) (drop (at + 1) s)
  body_at = rw (byte_here s at, drop-drop 1 at s)

  body_length : length (run_of (get_or s at 0) (drop e s)) ≡ 0 → length (body_of (drop at s)) ≡ e - (at + 1)
  body_length z =
      let none : length (run_of (get_or s at 0) (drop (e - (at + 1)) (drop (at + 1) s))) ≡ 0 = rw (rest_later s (at + 1) e l) z in
      rw body_at (sym (passes_all (get_or s at 0) (drop (at + 1) s) (e - (at + 1)) p none).0)

  left : length (drop (length (body_of (drop at s)) + 1) (drop at s)) ≡ length s - at - (length (body_of (drop at s)) + 1)
  left = simp length-drop refl

  pub string_unclosed : length s ≤ e → Bad 1 ≡ scanned_of (scan_string (drop at s))
  string_unclosed m =
      let b = body_length (run_end s e m (get_or s at 0) false) in
      string_open (drop at s) (omega (arith, b, left, p.0, length-drop (at + 1) s))

  pub string_closed : e < length s → (get_or s at 0 ≡ 0 → ⊥) → get_or s e 0 ≡ get_or s at 0 → Good 4 (e - at + 1) ≡ scanned_of (scan_string (drop at s))
  string_closed m f z =
      let q = get_or s at 0 in
      let b = body_length (run_stop s e m q false (sym (ends_quote q (get_or s e 0) f) ∙ eq-eqb (get_or s e 0) q z)) in
      let n : e - at + 1 ≡ length (body_of (drop at s)) + 2 = omega (arith, b) in
      ap (λ (k : ℕ). Good 4 k) n ∙ string_legal (drop at s) (λ y. omega (arith, b, left, y))

  -- its bytes stand between the quotes
  pub string_stands : e < length s → (get_or s at 0 ≡ 0 → ⊥) → get_or s e 0 ≡ get_or s at 0 → Stand s (at + 1) (e - (at + 1)) (string_at s at)
  string_stands m f z =
      let q = get_or s at 0 in
      let none : length (run_of q (drop (e - (at + 1)) (drop (at + 1) s))) ≡ 0 =
      rw (rest_later s (at + 1) e l) (run_stop s e m q false (sym (ends_quote q (get_or s e 0) f) ∙ eq-eqb (get_or s e 0) q z)) in
      let w = (passes_all q (drop (at + 1) s) (e - (at + 1)) p none).1 in
      (omega arith, w ∙ ap (unescaped false) (sym body_at))

pub stand_length : (s : List ℕ) (at n : ℕ) (bytes : List ℕ) → Stand s at n bytes → n ≡ length bytes
stand_length s at n bytes p =
    let h : n ≤ length (drop at s) = simp length-drop (omega (arith, p.0)) in
    omega (arith, ap length p.1, length-take-le n (drop at s) h)

module _ (a b c : ℕ) where
  pub symbol_none : symbol_of a b c ≡ 0 → Bad 1 ≡ scanned_of (scan_bytes a b c)
  symbol_none e =
      let z : not (eqb (symbol_of a b c) 0) ≡ false = ap not (eq-eqb (symbol_of a b c) 0 e) in
      no_form (not (eqb (symbol_of a b c) 0)) true (symbol (symbol_of a b c)) (symbol_length a b c) z

  pub symbol_legal : (symbol_of a b c ≡ 0 → ⊥) → Good (symbol_of a b c) (symbol_length a b c) ≡ scanned_of (scan_bytes a b c)
  symbol_legal f =
      let z : not (eqb (symbol_of a b c) 0) ≡ true = ap not (ne_eqb (symbol_of a b c) 0 f) in
      legal (not (eqb (symbol_of a b c) 0)) true (symbol (symbol_of a b c)) (symbol_length a b c) z refl

-- what the code's answer tells of the token
pub good_told : (x : Scan) (k n : ℕ) → scanned_of x ≡ Good k n → (t : Token) × (x ≡ good t n) × (kind_of t ≡ k)
good_told (good t m) k n e = (t, cc, cc)
good_told (bad j) k n e = let z : ◌≡◌ {A = ℕ} 0 1 = cc in absurd (omega arith)

pub bad_told : (x : Scan) (k : ℕ) → scanned_of x ≡ Bad k → x ≡ bad k
bad_told (good t m) k e = let z : ◌≡◌ {A = ℕ} 0 1 = cc in absurd (omega arith)
bad_told (bad j) k e = cc

-- a token takes at least one byte, and not more than there are
abbrev pub Fit : ℕ → Scan → Type 0
Fit m (good t n) = (0 < n) × (n ≤ m)
Fit m (bad k) = Unit {0}

judged_fit : (m : ℕ) (form limits : Bool) (t : Token) (n : ℕ) → (form ≡ true → limits ≡ true → (0 < n) × (n ≤ m)) → Fit m (judged form limits t n)
judged_fit m false limits t n f = tt
judged_fit m true false t n f = tt
judged_fit m true true t n f = f refl refl

pub unescaped_fits : (t : Bool) (s : List ℕ) → length (unescaped t s) ≤ length s
unescaped_fits t [] = omega arith
unescaped_fits t (b ∷ s) = go (unescaped_fits true s) (unescaped_fits false s) (takes t b) refl
  where
    go : length (unescaped true s) ≤ length s → length (unescaped false s) ≤ length s → (e : Bool) → takes t b ≡ e → length (unescaped t (b ∷ s)) ≤ length (b ∷ s)
    go p q true e = rw e (omega arith)
    go p q false e = rw e (omega arith)

not_empty : (s : List ℕ) → not (is_empty s) ≡ true → 0 < length s
not_empty [] e = false_true e
not_empty (b ∷ s) e = omega arith

pub run_fit : (q : ℕ) (s : List ℕ) → length (run_of q s) ≤ length s
run_fit q s = first_fits (run_of q s) s (run_first q false s)

name_fit : (s : List ℕ) → Fit (length s) (scan_name s)
name_fit s =
    judged_fit (length s) (legal_name false (run_of 0 s)) (name_fits (unescaped false (run_of 0 s))) _ (length (run_of 0 s))
    (λ e f.
    let n = length (unescaped false (run_of 0 s)) in
    let l = leb-true 1 n (and_parts (leb 1 n) (leb n 64) f).0 in
    (omega (arith, l, unescaped_fits false (run_of 0 s)), run_fit 0 s))

real_digit : (run : List ℕ) → is_real run ≡ true → 0 < length run
real_digit run e =
    let some = not (is_empty (whole_digits run)) in
    let point = eqb (get_or (from_point run) 0 0) 46 in
    let more = not (is_empty (fraction_digits run)) in
    let part = is_empty (exponent_part run) || is_exponent (exponent_part run) in
    let p = (and_parts some point (and_parts (some && point) more (and_parts (some && point && more) part e).0).0).0 in
    let h = not_empty (whole_digits run) p in
    omega (arith, h, digits_fit 10 (sign_length run) run)

integer_digit : (run : List ℕ) → is_integer run ≡ true → 0 < length run
integer_digit run e =
    let p = (and_parts (not (is_empty (integer_digits run))) (eqb (length (drop (suffix_at run) run)) (cond (is_long run) 1 0)) e).0 in
    let h = not_empty (integer_digits run) p in
    omega (arith, h, digits_fit (base_of run) (prefix_length run) run)

number_fit : (s : List ℕ) → Fit (length s) (scan_number s)
number_fit s = go (is_real (run_of 0 s)) refl
  where
    go : (b : Bool) → is_real (run_of 0 s) ≡ b → Fit (length s) (scan_number s)
    go true e =
        rw (scan_real (run_of 0 s) e)
        (judged_fit (length s) true (real_fits (run_of 0 s)) _ (length (run_of 0 s)) (λ _ f. (real_digit (run_of 0 s) e, run_fit 0 s)))
    go false e =
        rw (scan_integer_lem (run_of 0 s) e)
        (judged_fit (length s) (is_integer (run_of 0 s)) (integer_fits (run_of 0 s)) _ (length (run_of 0 s)) (λ i f. (integer_digit (run_of 0 s) i, run_fit 0 s)))

string_fit : (s : List ℕ) → Fit (length s) (scan_string s)
string_fit s =
    judged_fit (length s) (is_closed s) true _ (length (body_of s) + 2)
    (λ e f. (omega arith, omega (arith, not_empty (drop (length (body_of s) + 1) s) e, length-drop (length (body_of s) + 1) s)))

pub two_none : (a : ℕ) → two_bytes a 0 ≡ 0
two_none a = go (eqb a 0) refl
  where
    go : (e : Bool) → eqb a 0 ≡ e → two_bytes a 0 ≡ 0
    go true e = let z = eqb-true a 0 e in rw z
    go false e = rw e

pub three_none : (a b : ℕ) → three_bytes a b 0 ≡ 0
three_none a b = go (eqb a 62 && eqb b 62)
  where
    go : (e : Bool) → ◌≡◌ {A = ℕ} (cond (e && false) 18 0) 0
    go true = refl
    go false = refl

symbol_fit : (s : List ℕ) → 0 < length s → Fit (length s) (scan_symbol s)
symbol_fit s h =
    judged_fit (length s) (not (eqb (symbol_of a b c) 0)) true _ (symbol_length a b c)
    (λ e f. go (eqb (three_bytes a b c) 0) refl (eqb (two_bytes a b) 0) refl)
  where
    a : ℕ
    a = get_or s 0 0

    b : ℕ
    b = get_or s 1 0

    c : ℕ
    c = get_or s 2 0

    go : (x : Bool) → eqb (three_bytes a b c) 0 ≡ x → (y : Bool) → eqb (two_bytes a b) 0 ≡ y → (0 < symbol_length a b c) × (symbol_length a b c ≤ length s)
    go true e true f = rw (e, f) (omega arith, omega arith)
    go true e false f =
        let l = is_there s 1 (λ z. eqb-false (two_bytes a b) 0 f (ap (two_bytes a) z ∙ two_none a)) in
        rw (e, f) (omega arith, omega arith)
    go false e y f =
        let l = is_there s 2 (λ z. eqb-false (three_bytes a b c) 0 e (ap (three_bytes a b) z ∙ three_none a b)) in
        rw e (omega arith, omega arith)

pub scan_fit : (s : List ℕ) → 0 < length s → Fit (length s) (scan_of s)
scan_fit s h = go (starts_name (get_or s 0 0)) refl (starts_number (get_or s 0 0) (get_or s 1 0)) refl (is_quote (get_or s 0 0)) refl
  where
    go : (x : Bool) → starts_name (get_or s 0 0) ≡ x → (y : Bool) → starts_number (get_or s 0 0) (get_or s 1 0) ≡ y → (z : Bool) → is_quote (get_or s 0 0) ≡ z → Fit (length s) (scan_of s)
    go true e y f z g = rw (is_name s e) (name_fit s)
    go false e true f z g = rw (is_number s e f) (number_fit s)
    go false e false f true g = rw (is-string s e f g) (string_fit s)
    go false e false f false g = rw (is-symbol s e f g) (symbol_fit s h)
