-- The pass that judges patterns. Assumes nothing.
use Prim.Native.Nat.{ℕ, zero, suc, ◌+◌, ◌-◌, ◌*◌, ◌/◌, ◌%◌, ◌^◌, ◌≤◌, ◌<◌}
use native.Mathlib.Omega.{arith}
use native.Mathlib.Numerals.{add-one}
use native.Mathlib.Nat.{pow-suc, pow-le-pow_right}
use mathlib.Core.Path.{◌≡◌, refl, sym, ap, ◌∙◌}
use mathlib.Core.Bool.{Bool, true, false, cond, ◌&&◌, ◌||◌}
use mathlib.Core.List.{List, [], ◌∷◌}
use lib.Dec.{eqb, ltb}
use lib.ListN.{length, get_or, drop}
use lib.Seq.{drop-cons}
use borrow.Author.Tests.{ltb-false}
use Rattle.common.proofs.Choice.{true_false}
use Rattle.opcode.specs.Number.{wildcard_op, regex_op}
use Rattle.pattern.specs.Wildcard.{well_formed}
use Rattle.regexp.specs.Regex.{well_formed as regexFormed}
use Rattle.lexer.specs.Token.{string_at}
use Rattle.grammar.specs.Judge.{takes_patterns, pattern_test}
use Rattle.grammar.specs.Nesting.{open_after, row_after, deep_from, too_deep}
use Rattle.grammar.proofs.Streams.{within}
use Rattle.operands.specs.Patterns.{asks_patterns, mark_before, digit_of, function_by, opens_after, is_later, right_at, patterns_from, patterns_by}

-- ---- digits

pub digit_small : (f : ℕ) → digit_of f < 4
digit_small f = go (eqb f wildcard_op) (eqb f regex_op)
  where
    go : (a b : Bool) → cond a 1 (cond b 2 0) < 4
    go true b = omega arith
    go false true = omega arith
    go false false = omega arith

pub digit_test : (f : ℕ) (p : List ℕ) → pattern_test (function_by (digit_of f)) p ≡ pattern_test f p
digit_test f p = go (eqb f wildcard_op) (eqb f regex_op)
  where
    go : (a b : Bool) → pattern_test (function_by (cond a 1 (cond b 2 0))) p ≡ cond a (well_formed p) (cond b (regexFormed p) true)
    go true b = refl
    go false true = refl
    go false false = refl

no_digit : (f : ℕ) → takes_patterns f ≡ false → digit_of f ≡ 0
no_digit f e = go (eqb f wildcard_op) (eqb f regex_op) e
  where
    go : (a b : Bool) → (a || b) ≡ false → ◌≡◌ {A = ℕ} (cond a 1 (cond b 2 0)) 0
    go true b h = true_false h
    go false true h = true_false h
    go false false h = refl

pub before_later : (ms : List ℕ) (i : ℕ) → (i ≡ 0 → ⊥) → get_or ms (i - 1) 99 ≡ mark_before ms i
before_later ms zero h = absurd (h refl)
before_later ms (suc i) h = let e : suc i - 1 ≡ i = omega arith in rw e

-- ---- the token i

always : (b : Bool) {c : Bool} → c ≡ true → cond b c true ≡ true
always true e = e
always false e = refl

module _ (s ms starts : List ℕ) (opens i : ℕ) where
  pub right_unasked : {f : ℕ} → f ≡ function_by (opens % 4) → f ≡ 0 → true ≡ right_at s ms starts opens i
  right_unasked e z = sym (always (is_later ms i) (ap (λ (f : ℕ). pattern_test f (string_at s (get_or starts i 0))) (sym e ∙ z)))

  pub right_judged : {f p : ℕ} {b r : Bool} → f ≡ function_by (opens % 4) → b ≡ is_later ms i → b ≡ true → p ≡ get_or starts i 0 → r ≡ pattern_test f (string_at s p) → r ≡ right_at s ms starts opens i
  right_judged {p = p} ef eb t ep er =
      let q = function_by (opens % 4) in
      let there = string_at s (get_or starts i 0) in
      er
      ∙ ap (λ (x : ℕ). pattern_test x (string_at s p)) ef
      ∙ ap (λ (x : ℕ). pattern_test q (string_at s x)) ep
      ∙ ap (λ (x : Bool). cond x (pattern_test q there) true) (sym t ∙ eb)

  pub right_other : {b : Bool} → b ≡ is_later ms i → b ≡ false → true ≡ right_at s ms starts opens i
  right_other eb f = rw (← eb, f)

-- ---- the loop

pub record Judging (s ms starts : List ℕ) (opens i : ℕ) : Type 0 where
  pub in_it : i ≤ length ms
  pub opened : ℕ
  pub row : ℕ
  pub few : opened ≤ 24
  pub small : opens < 4 ^ opened
  pub shallow : deep_from opened row (drop i ms) ≡ false
  pub is_left : patterns_from s ms starts opens i (length ms - i) ≡ patterns_by s ms starts

pub judging_starts : (s ms starts : List ℕ) → too_deep ms ≡ false → Judging s ms starts 0 0
unfolding too_deep
judging_starts s ms starts e =
    let z : length ms - 0 ≡ length ms = omega arith in
    record { in_it = omega arith; opened = 0; row = 0; few = omega arith; small = omega arith; shallow = e; is_left = rw z }

either_false : (a b : Bool) → (a || b) ≡ false → (a ≡ false) × (b ≡ false)
either_false true b e = true_false e
either_false false b e = (refl, e)

-- a parenthesis more is a digit more
opens_small : (m before opens opened : ℕ) → opens < 4 ^ opened → opens_after m before opens < 4 ^ open_after m opened
opens_small m before opens opened h = go (eqb m 9) (eqb m 10)
  where
    pow_down : (n : ℕ) → opens < 4 ^ n → opens / 4 < 4 ^ (n - 1)
    pow_down zero l = omega arith
    pow_down (suc n) l = let e : suc n - 1 ≡ n = omega arith in rw e (omega (arith, pow-suc 4 n))

    go : (a b : Bool) → cond a (4 * opens + digit_of (before - 128)) (cond b (opens / 4) opens) < 4 ^ cond a (opened + 1) (cond b (opened - 1) opened)
    go true b = rw (add-one opened) (omega (arith, pow-suc 4 opened, digit_small (before - 128)))
    go false true = pow_down opened h
    go false false = h

module _ {s ms starts : List ℕ} {opens i : ℕ} (g : Judging s ms starts opens i) where
  pub judging_small : opens < 4 ^ 24
  judging_small = omega (arith, g.small, pow-le-pow_right {n = 4} (omega arith) g.few)

  next_is : i < length ms → patterns_from s ms starts opens i (length ms - i) ≡ (right_at s ms starts opens i && patterns_from s ms starts (opens_after (get_or ms i 99) (mark_before ms i) opens) (i + 1) (length ms - (i + 1)))
  unfolding patterns_from
  next_is h = let e : length ms - i ≡ suc (length ms - (i + 1)) = omega arith in rw e

  pub judging_wrong : {b : Bool} → i < length ms → b ≡ right_at s ms starts opens i → b ≡ false → false ≡ patterns_by s ms starts
  judging_wrong h e f =
      sym (ap (λ (a : Bool). a && patterns_from s ms starts (opens_after (get_or ms i 99) (mark_before ms i) opens) (i + 1) (length ms - (i + 1))) (sym e ∙ f)) ∙ sym (next_is h) ∙ g.is_left

  pub judging_on : {b : Bool} {before to : ℕ} → i < length ms → b ≡ right_at s ms starts opens i → b ≡ true → before ≡ mark_before ms i → to ≡ opens_after (get_or ms i 0) before opens → Judging s ms starts to (i + 1)
  unfolding deep_from
  judging_on {b} {before} {to} h e t eb et =
      let m = get_or ms i 99 in
      let d : ((ltb 24 (open_after m g.opened) || ltb 24 (row_after m g.row)) || deep_from (open_after m g.opened) (row_after m g.row) (drop (suc i) ms)) ≡ false = rw (drop-cons ms i 99 h) at g.shallow in
      let o : Bool = ltb 24 (open_after m g.opened) in
      let r : Bool = ltb 24 (row_after m g.row) in
      let p = either_false (o || r) (deep_from (open_after m g.opened) (row_after m g.row) (drop (suc i) ms)) d in
      let q = either_false o r p.0 in
      let to_is : to ≡ opens_after m (mark_before ms i) opens = et ∙ ap (λ (k : ℕ). opens_after k before opens) (within ms i 0 99 h) ∙ ap (λ (k : ℕ). opens_after m k opens) eb in
      record {
        in_it = omega arith;
        opened = open_after m g.opened;
        row = row_after m g.row;
        few = ltb-false 24 (open_after m g.opened) q.0;
        small = rw to_is (opens_small m (mark_before ms i) opens g.opened g.small);
        shallow = rw (add-one i) p.1;
        is_left =
            ap (λ (k : ℕ). patterns_from s ms starts k (i + 1) (length ms - (i + 1))) to_is
            ∙ ap (λ (a : Bool). a && patterns_from s ms starts (opens_after m (mark_before ms i) opens) (i + 1) (length ms - (i + 1))) (sym t ∙ e)
            ∙ sym (next_is h)
            ∙ g.is_left;
      }

  pub judging_ends : length ms ≤ i → true ≡ patterns_by s ms starts
  unfolding patterns_from
  judging_ends h = let e : length ms - i ≡ 0 = omega arith in rw e at g.is_left

-- ---- where no function takes patterns

none_called : (ms : List ℕ) (i : ℕ) → asks_patterns ms ≡ false → digit_of (get_or ms i 99 - 128) ≡ 0
unfolding asks_patterns
none_called [] i e = refl
none_called (m ∷ ms) zero e = no_digit (m - 128) (either_false (takes_patterns (m - 128)) (asks_patterns ms) e).0
none_called (m ∷ ms) (suc i) e = none_called ms i (either_false (takes_patterns (m - 128)) (asks_patterns ms) e).1

none_before : (ms : List ℕ) (i : ℕ) → asks_patterns ms ≡ false → digit_of (mark_before ms i - 128) ≡ 0
none_before ms zero e = refl
none_before ms (suc i) e = none_called ms i e

none_from : (s ms starts : List ℕ) → asks_patterns ms ≡ false → (n i : ℕ) → patterns_from s ms starts 0 i n ≡ true
unfolding patterns_from
none_from s ms starts e zero i = refl
none_from s ms starts e (suc n) i =
    let opens : opens_after (get_or ms i 99) (mark_before ms i) 0 ≡ 0 = go (eqb (get_or ms i 99) 9) (eqb (get_or ms i 99) 10) in
    rw (always (is_later ms i) {c = pattern_test 0 (string_at s (get_or starts i 0))} refl, opens, none_from s ms starts e n (i + 1))
  where
    go : (a b : Bool) → cond a (4 * 0 + digit_of (mark_before ms i - 128)) (cond b (0 / 4) 0) ≡ 0
    go true b = rw (none_before ms i e)
    go false true = refl
    go false false = refl

pub none_asked : (s ms starts : List ℕ) → asks_patterns ms ≡ false → patterns_by s ms starts ≡ true
none_asked s ms starts e = none_from s ms starts e (length ms) 0
