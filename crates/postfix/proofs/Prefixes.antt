-- A run of prefix operators. Assumes nothing.
use mathlib.Core.Path.{◌≡◌, refl, sym, ap, ◌∙◌}
use mathlib.Core.Bool.{Bool, true, false, cond}
use mathlib.Core.List.{List, [], ◌∷◌}
use Prim.Native.Nat.{ℕ, zero, suc, ◌+◌, ◌-◌, ◌*◌, ◌≤◌, ◌<◌}
use native.Mathlib.Decide.{dec_lt, ℕ_discrete}
use native.Mathlib.Omega.{arith}
use lib.ListN.{length, get_or, take, drop, get_or-eq_default}
use Rattle.std.proofs.lemmas.List.{get_or-drop}
use Rattle.std.specs.List.{prefix_len, take_while}
use lib.Seq.{sets, length-sets}
use borrow.Author.Tests.{ne_eqb}
use Rattle.common.proofs.Choice.{false_true}
use Rattle.lexer.specs.Kind.{ending}
use Rattle.lexer.specs.Token.{Token}
use Rattle.grammar.specs.Grammar.{is_prefix}
use Rattle.grammar.specs.Parse.{prefix_of}
use Rattle.grammar.specs.Marks.{calling}
use Rattle.grammar.specs.Code.{code}
use Rattle.grammar.proofs.Sound.{at_prefix}
use Rattle.grammar.proofs.Laws.{prefix_applied}
use Rattle.postfix.specs.Marked.{Marked}
use Rattle.postfix.specs.Packed.{end_in, broken, unary_part, unary_codes}
use Rattle.postfix.specs.Answer.{Answered, Run}
use Rattle.postfix.proofs.Marks.{is_plain, same_prefix}
use Rattle.postfix.proofs.Bounds.{bounded_prefix}
use Rattle.postfix.proofs.Steps.{small, unary_answered}

-- what stands at the front of a list, and after it
prefix-each : (xs : List ℕ) (k : ℕ) → k < prefix_len is_prefix xs → is_prefix (get_or xs k 99) ≡ true
prefix-each [] k = λ h. absurd (omega arith)
prefix-each (x ∷ xs) k = go (is_prefix x) refl (prefix-each xs) k
  where
    go : (b : Bool) → is_prefix x ≡ b → ((k : ℕ) → k < prefix_len is_prefix xs → is_prefix (get_or xs k 99) ≡ true) → (k : ℕ) → k < cond b (1 + prefix_len is_prefix xs) 0
        → is_prefix (get_or (x ∷ xs) k 99) ≡ true
    go true e f zero h = e
    go true e f (suc k) h = f k (omega arith)
    go false e f k h = absurd (omega arith)

prefix-past : (xs : List ℕ) → is_prefix (get_or xs (prefix_len is_prefix xs) 99) ≡ false
prefix-past [] = refl
prefix-past (x ∷ xs) = go (is_prefix x) refl (prefix-past xs)
  where
    go : (b : Bool) → is_prefix x ≡ b → is_prefix (get_or xs (prefix_len is_prefix xs) 99) ≡ false → is_prefix (get_or (x ∷ xs) (cond b (1 + prefix_len is_prefix xs) 0) 99) ≡ false
    go true e f = let n : 1 + prefix_len is_prefix xs ≡ suc (prefix_len is_prefix xs) = omega arith in rw n f
    go false e f = e

sized : (xs : List ℕ) → length (take_while is_prefix xs) ≡ prefix_len is_prefix xs
sized [] = refl
sized (x ∷ xs) = go (is_prefix x) (sized xs)
  where
    go : (b : Bool) → length (take_while is_prefix xs) ≡ prefix_len is_prefix xs → length (take (cond b (1 + prefix_len is_prefix xs) 0) (x ∷ xs)) ≡ cond b (1 + prefix_len is_prefix xs) 0
    go true e = let n : 1 + prefix_len is_prefix xs ≡ suc (prefix_len is_prefix xs) = omega arith in rw n (ap suc e)
    go false e = refl

pub run_of : (ms : List ℕ) (i : ℕ) → Run ms i (i + length (take_while is_prefix (drop i ms)))
run_of ms i =
    let xs = drop i ms in
    rw (sized xs) (record {
      upto = omega arith;
      each = λ n a b. let e : i + (n - i) ≡ n = omega arith in ap (λ (k : ℕ). is_prefix (get_or ms k 99)) (sym e) ∙ ap is_prefix (sym (get_or-drop i ms (n - i) 99)) ∙ prefix-each (drop i ms) (n - i) (omega arith);
      past = ap is_prefix (sym (get_or-drop i ms (prefix_len is_prefix (drop i ms)) 99)) ∙ prefix-past (drop i ms);
    })

-- a mark past the end is no prefix operator
pub prefix_within : (ms : List ℕ) (n : ℕ) → is_prefix (get_or ms n 99) ≡ true → n < length ms
prefix_within ms n e = go (dec_lt n (length ms))
  where
    go : Dec (n < length ms) → n < length ms
    go (yes h) = h
    go (no h) = false_true (ap is_prefix (sym (get_or-eq_default ms 99 (omega arith))) ∙ e)

-- ---- the expression that follows the run, wrapped from the last operator to the first

prefix_low : (k : ℕ) → is_prefix k ≡ true → k < calling
prefix_low k e = go (ℕ_discrete k 40) (ℕ_discrete k 8)
  where
    go : Dec (k ≡ 40) → Dec (k ≡ 8) → k < calling
    go (yes q) b = omega arith
    go (no a) (yes q) = omega arith
    go (no a) (no b) = false_true (sym (rw (ne_eqb k 40 a, ne_eqb k 8 b)) ∙ e)

pub unary_length : (k a : ℕ) (mid : List ℕ) → length (unary_codes k a mid) ≡ length mid
unary_length k a mid = go (broken a)
  where
    go : (b : Bool) → length (cond b mid (sets mid (end_in a) (code k 0 ∷ []))) ≡ length mid
    go true = refl
    go false = length-sets mid (end_in a) (code k 0 ∷ [])

-- the answer for the operators from n on
abbrev pub Wrapping : List ℕ → ℕ → ℕ → ℕ → List ℕ → List ℕ → ℕ → ℕ → Type 0
Wrapping ms at first inner mid now x n =
    (length now ≡ length mid)
    × ((ks : List Token) (i : ℕ) (was : List ℕ) → Marked ms ks → Run ms at first → length ks ≤ 4096 → i ≤ 2 * at → Answered (prefix_of ks first) i was mid inner
    → (at ≤ n) × (n ≤ first) × Answered (prefix_of ks n) i was now x)

module _ {ms : List ℕ} {ks : List Token} (m : Marked ms ks) (at first n i : ℕ) (run : Run ms at first) (few : length ks ≤ 4096) (room : i ≤ 2 * at) (lt : at < n) (le : n ≤ first) where
  pub wrapped_one : {was mid now : List ℕ} {a r : ℕ} (k : ℕ) → Answered (prefix_of ks n) i was mid a → k ≡ get_or ms (n - 1) ending → r ≡ unary_part k a → now ≡ unary_codes k a mid → Answered (prefix_of ks (n - 1)) i was now r
  wrapped_one {was} {mid} {now} {a} {r} k h ek er ec =
      let p = run.each (n - 1) (omega arith) (omega arith) in
      let here = sym (same_prefix m (n - 1)) ∙ p in
      let kind = (is_plain m (n - 1) (prefix_low (get_or ms (n - 1) ending) p)).0 ∙ sym ek in
      let within = at_prefix ks (n - 1) here in
      let e : n - 1 + 1 ≡ n = omega arith in
      let s = small ks n i (prefix_of ks n) few (omega arith) (bounded_prefix ks n (omega arith)) in
      let u = unary_answered k (prefix_of ks n) i s h er ec in
      rw (prefix_applied ks (n - 1) here, e, kind) u
