-- The pass that gathers the operands, and that what it gathers stands for them. Assumes nothing.
use Prim.Native.Nat.{ℕ, zero, suc, ◌+◌, ◌-◌, ◌≤◌, ◌<◌}
use native.Mathlib.Omega.{arith}
use mathlib.Core.Path.{◌≡◌, refl, sym, ap, ◌∙◌}
use mathlib.Core.Bool.{Bool, true, false, cond, ◌&&◌}
use mathlib.Core.List.{List, [], ◌∷◌, ◌++◌, map}
use lib.Dec.{eqb, leb}
use lib.ListN.{length, get_or, set, length-append, length-map}
use lib.Seq.{sets, length-sets}
use borrow.Author.Tests.{leb-true, ne_eqb}
use Rattle.common.proofs.Choice.{false_true}
use Rattle.common.proofs.Stores.{sets_append}
use Rattle.lexer.specs.Token.{Token, int32, int64, real, symbol, kind_of, integer_at, real_at}
use Rattle.grammar.specs.Parse.{token_at, kind_at}
use Rattle.grammar.specs.Function.{function_of}
use Rattle.grammar.specs.Size.{pool_bytes}
use Rattle.grammar.specs.Stream.{token_of, tokens_in}
use Rattle.grammar.specs.Marks.{mark_at, marks_of, is_operand, operands_from, operands_in}
use Rattle.grammar.proofs.Streams.{within, kind_in, token_at_lem}
use Rattle.operands.specs.Gather.{each_from, each, place_at, size_at}
use Rattle.operands.specs.Theorems.{Stands}
use Rattle.grammar.proofs.Marks.{length_marks, mark_at_lem}
use Rattle.operands.proofs.Marks.{no_operand, Marked, plainly, by_call, marked}

-- ---- one token

module _ {A : Type 0} (f : ℕ → A) (ms : List ℕ) (i : ℕ) where
  each_none : is_operand (get_or ms i 99) ≡ false → each_from f ms i 1 ≡ []
  unfolding each_from
  each_none e = rw e

  each_one : is_operand (get_or ms i 99) ≡ true → each_from f ms i 1 ≡ f i ∷ []
  unfolding each_from
  each_one e = rw e

  each_on : (n : ℕ) → i < n → each_from f ms i (n - i) ≡ each_from f ms i 1 ++ each_from f ms (i + 1) (n - (i + 1))
  unfolding each_from
  each_on n h = let e : n - i ≡ suc (n - (i + 1)) = omega arith in rw e (go (is_operand (get_or ms i 99)))
    where
      go : (b : Bool) → cond b (f i ∷ each_from f ms (i + 1) (n - (i + 1))) (each_from f ms (i + 1) (n - (i + 1))) ≡ cond b (f i ∷ []) [] ++ each_from f ms (i + 1) (n - (i + 1))
      go true = refl
      go false = refl

each_length : {A B : Type 0} (f : ℕ → A) (g : ℕ → B) (ms : List ℕ) (i n : ℕ) → length (each_from f ms i n) ≡ length (each_from g ms i n)
unfolding each_from
each_length f g ms i zero = refl
each_length f g ms i (suc n) = go (is_operand (get_or ms i 99)) (each_length f g ms (i + 1) n)
  where
    go : (b : Bool) → length (each_from f ms (i + 1) n) ≡ length (each_from g ms (i + 1) n)
        → length (cond b (f i ∷ each_from f ms (i + 1) n) (each_from f ms (i + 1) n)) ≡ length (cond b (g i ∷ each_from g ms (i + 1) n) (each_from g ms (i + 1) n))
    go true e = ap suc e
    go false e = e

at_most_one : (f : ℕ → ℕ) (ms : List ℕ) (i : ℕ) → length (each_from f ms i 1) ≤ 1
unfolding each_from
at_most_one f ms i = go (is_operand (get_or ms i 99))
  where
    go : (b : Bool) → length (cond b (f i ∷ []) []) ≤ 1
    go true = omega arith
    go false = omega arith

-- what the arrays have of the token i, an operand or not
module _ (ms : List ℕ) (i n : ℕ) (h : i < length ms) {b : Bool} (e : b ≡ is_operand (get_or ms i 0)) where
  tested : {c : Bool} → b ≡ c → is_operand (get_or ms i 99) ≡ c
  tested q = ap is_operand (within ms i 99 0 h) ∙ sym e ∙ q

  pub none_counted : (f : ℕ → ℕ) → b ≡ false → n ≡ n + length (each_from f ms i 1)
  none_counted f q = rw (each_none f ms i (tested q)) (omega arith)

  pub none_stored : (f : ℕ → ℕ) (l : List ℕ) → b ≡ false → l ≡ sets l n (each_from f ms i 1)
  none_stored f l q = rw (each_none f ms i (tested q))

  pub one_counted : (f : ℕ → ℕ) → b ≡ true → n + 1 ≡ n + length (each_from f ms i 1)
  one_counted f q = rw (each_one f ms i (tested q))

  pub one_stored : (f : ℕ → ℕ) (l : List ℕ) {now : List ℕ} {x : ℕ} → b ≡ true → now ≡ set l n x → x ≡ f i → now ≡ sets l n (each_from f ms i 1)
  one_stored f l q en ex = en ∙ ap (set l n) ex ∙ sym (ap (sets l n) (each_one f ms i (tested q)))

pub size_here : (s ms starts : List ℕ) (i : ℕ) {x p : ℕ} → i < length ms → p ≡ get_or starts i 0 → x ≡ pool_bytes (token_of s (get_or ms i 0) p) → x ≡ size_at s ms starts i
size_here s ms starts i {x} {p} h ep ex =
    ex ∙ ap (λ (k : ℕ). pool_bytes (token_of s k p)) (within ms i 0 99 h) ∙ ap (λ (q : ℕ). pool_bytes (token_of s (get_or ms i 99) q)) ep

pub no_bytes : (s : List ℕ) (k p : ℕ) → (k ≡ 5 → ⊥) → (k ≡ 4 → ⊥) → pool_bytes (token_of s k p) ≡ 0
no_bytes s k p a b = rw (ne_eqb k 5 a, ne_eqb k 4 b) (go (eqb k 1) (eqb k 2) (eqb k 3))
  where
    go : (a b c : Bool) → pool_bytes (cond a (int32 (integer_at s p)) (cond b (int64 (integer_at s p)) (cond c (real (real_at s p)) (symbol k)))) ≡ 0
    go true b c = refl
    go false true c = refl
    go false false true = refl
    go false false false = refl

-- ---- the pass

pub record Gathering (f : ℕ → ℕ) (ms was now : List ℕ) (n i : ℕ) : Type 0 where
  pub in_it : i ≤ length ms
  pub few : n ≤ i
  pub long : length now ≡ length was
  pub counted : n + length (each_from f ms i (length ms - i)) ≡ length (each f ms)
  pub stored : sets now n (each_from f ms i (length ms - i)) ≡ sets was 0 (each f ms)

pub gathering_starts : (f : ℕ → ℕ) (ms was : List ℕ) → Gathering f ms was was 0 0
gathering_starts f ms was =
    let e : length ms - 0 ≡ length ms = omega arith in
    record { in_it = omega arith; few = omega arith; long = refl; counted = rw e (omega arith); stored = rw e }

module _ {f : ℕ → ℕ} {ms was now : List ℕ} {n i : ℕ} (g : Gathering f ms was now n i) where
  pub gathering_on : (h : ℕ → ℕ) {mid : List ℕ} {to : ℕ} → i < length ms → to ≡ n + length (each_from h ms i 1) → mid ≡ sets now n (each_from f ms i 1) → Gathering f ms was mid to (i + 1)
  gathering_on h {mid} {to} lt e q =
      let p = each_on f ms i (length ms) lt in
      let more = each_from f ms (i + 1) (length ms - (i + 1)) in
      let to_is : to ≡ n + length (each_from f ms i 1) = e ∙ ap (λ (m : ℕ). n + m) (each_length h f ms i 1) in
      record {
        in_it = omega arith;
        few = omega (arith, g.few, to_is, at_most_one f ms i);
        long = ap length q ∙ simp length-sets g.long;
        counted = omega (arith, to_is, g.counted, ap length p, length-append (each_from f ms i 1) more);
        stored =
            ap (λ (l : List ℕ). sets l to more) q
            ∙ ap (λ (m : ℕ). sets (sets now n (each_from f ms i 1)) m more) to_is
            ∙ sym (sets_append (each_from f ms i 1) more now n)
            ∙ ap (sets now n) (sym p)
            ∙ g.stored;
      }

  pub gathering_ends : length ms ≤ i → now ≡ sets was 0 (each f ms)
  unfolding each_from
  gathering_ends h = let e : length ms - i ≡ 0 = omega arith in rw e at g.stored

  pub counting_ends : length ms ≤ i → n ≡ length (each f ms)
  unfolding each_from
  counting_ends h = let e : length ms - i ≡ 0 = omega arith in omega (arith, rw e at g.counted)

-- ---- what is gathered stands for the operands

module _ (s kinds starts : List ℕ) where
  abbrev ks : List Token
  ks = tokens_in s kinds starts

  -- the mark of an operand is its kind
  operand_kind : (i : ℕ) → is_operand (mark_at ks i) ≡ true → mark_at ks i ≡ kind_at ks i
  operand_kind i h = go (marked ks i)
    where
      go : Marked ks i → mark_at ks i ≡ kind_at ks i
      go (plainly e) = e
      go (by_call k e) = false_true (sym (no_operand (128 + function_of (token_at ks i)) (omega arith)) ∙ (rw e at h))

  operand_small : (i : ℕ) → is_operand (mark_at ks i) ≡ true → mark_at ks i ≤ 5
  operand_small i h = leb-true (mark_at ks i) 5 (second (leb 1 (mark_at ks i)) _ h)
    where
      second : (a b : Bool) → (a && b) ≡ true → b ≡ true
      second true b e = e
      second false b e = false_true e

  -- and the token is that of its kind at its place
  operand_token : (i : ℕ) → is_operand (mark_at ks i) ≡ true → token_of s (mark_at ks i) (get_or starts i 0) ≡ token_at ks i
  operand_token i h =
      let small = operand_small i h in
      sym (token_at_lem s kinds starts i (mark_at ks i) (sym (kind_in s kinds starts i) ∙ sym (operand_kind i h)) (omega arith))

  each_map : {A : Type 0} (f : ℕ → A) (g : Token → A) → ((i : ℕ) → is_operand (mark_at ks i) ≡ true → f i ≡ g (token_at ks i)) → (n i : ℕ)
      → each_from f (marks_of ks) i n ≡ map g (operands_from ks i n)
  unfolding each_from operands_from
  each_map f g p zero i = refl
  each_map {A} f g p (suc n) i = rw (mark_at_lem ks i) (go (is_operand (mark_at ks i)) refl (each_map f g p n (i + 1)))
    where
      go : (b : Bool) → is_operand (mark_at ks i) ≡ b → each_from f (marks_of ks) (i + 1) n ≡ map g (operands_from ks (i + 1) n)
          → cond b (f i ∷ each_from f (marks_of ks) (i + 1) n) (each_from f (marks_of ks) (i + 1) n) ≡ map g (cond b (token_at ks i ∷ operands_from ks (i + 1) n) (operands_from ks (i + 1) n))
      go true e r = rw (p i e, r)
      go false e r = r

  places_stand : (n i : ℕ) → tokens_in s (map kind_of (operands_from ks i n)) (each_from (place_at starts) (marks_of ks) i n) ≡ operands_from ks i n
  unfolding each_from operands_from tokens_in
  places_stand zero i = refl
  places_stand (suc n) i = rw (mark_at_lem ks i) (go (is_operand (mark_at ks i)) refl (places_stand n (i + 1)))
    where
      go : (b : Bool) → is_operand (mark_at ks i) ≡ b → tokens_in s (map kind_of (operands_from ks (i + 1) n)) (each_from (place_at starts) (marks_of ks) (i + 1) n) ≡ operands_from ks (i + 1) n
          → tokens_in s (map kind_of (cond b (token_at ks i ∷ operands_from ks (i + 1) n) (operands_from ks (i + 1) n))) (cond b (get_or starts i 0 ∷ each_from (place_at starts) (marks_of ks) (i + 1) n) (each_from (place_at starts) (marks_of ks) (i + 1) n))
          ≡ cond b (token_at ks i ∷ operands_from ks (i + 1) n) (operands_from ks (i + 1) n)
      go true e r = rw (← (operand_kind i e), operand_token i e, r)
      go false e r = r

  pub stands : Stands s kinds starts
  stands =
      let n = length_marks ks in
      record {
        kinds_are = rw n (each_map (λ i. get_or (marks_of ks) i 99) kind_of (λ i e. mark_at_lem ks i ∙ operand_kind i e) (length ks) 0);
        places_are = rw n (places_stand (length ks) 0);
        sizes_are = rw n (each_map (size_at s (marks_of ks) starts) pool_bytes (λ i e. rw (mark_at_lem ks i) (ap pool_bytes (operand_token i e))) (length ks) 0);
        as_many =
            rw n (each_length (place_at starts) (λ i. get_or (marks_of ks) i 99) (marks_of ks) 0 (length ks)
            ∙ ap length (each_map (λ i. get_or (marks_of ks) i 99) kind_of (λ i e. mark_at_lem ks i ∙ operand_kind i e) (length ks) 0)
            ∙ length-map (operands_in ks) kind_of);
      }
