-- Running the table of a tree gives its meaning: from any entry and any stack, with the skips of `&&` and `||`. Assumes nothing.
use Prim.Native.Nat.{ℕ, zero, suc, ◌+◌, ◌-◌, ◌%◌, ◌^◌, ◌<◌, ◌≤◌}
use native.Mathlib.Omega.{arith}
use native.Mathlib.Decide.{ℕ_discrete}
use mathlib.Core.Path.{◌≡◌, refl, sym, ap, ◌∙◌}
use mathlib.Core.Logic.{inl, inr}
use mathlib.Core.Bool.{Bool, true, false, cond}
use mathlib.Core.List.{List, [], ◌∷◌, ◌++◌, append_assoc, reverse, reverse-cons, reverse-append, reverse-reverse}
use lib.ListN.{length, get_or, take, drop, length-append, length-reverse}
use lib.Seq.{take_at, drop_at, get_or_at, drop-drop, take-length}
use lib.IntN.{ℤ, pos, negsuc}
use mir.Syntax.{w32, w64}
use mir.Val.{SFits, to_z, of_z}
use mir.ValLaws.{to_z-of_z}
use borrow.Author.Tests.{ne_eqb, lt-ltb, le-leb}
use Rattle.truth.specs.declared.Truth.TheVariants.{Bottom}
use Rattle.truth.specs.Truth.{is_true, is_false, and_of, or_of}
use Rattle.truth.proofs.Theorems.{false_and, true_or}
use Rattle.opcode.specs.Opcode.{op_of}
use Rattle.opcode.specs.declared.Edition.{Edition}
use Rattle.opcode.specs.declared.Skip.{Skip}
use Rattle.opcode.specs.declared.Op.{Op}
use Rattle.opcode.specs.declared.Unary.{Unary}
use Rattle.opcode.specs.declared.Binary.{Binary}
use Rattle.opcode.specs.declared.Many.{Many}
use Rattle.number.proofs.Theorems.{real_bits}
use Rattle.lexer.specs.Token.{Token, name, int32, int64, real, text, symbol}
use Rattle.grammar.specs.Tree.{Tree, leaf, group, unary, binary, call, Trees, none, ◌then◌}
use Rattle.grammar.specs.Function.{function_of}
use Rattle.grammar.specs.Size.{count_of, skips, entries_of, entries_in, pool_of, pool_in}
use Rattle.table.specs.Table.{blank, Program}
use Rattle.table.specs.declared.Entry.{Entry}
use Rattle.value.specs.Value as value
use Rattle.interpreter.specs.Run.{State, start, slot_at, stack_by, stride_by, visit, after_from, run_of}
use Rattle.interpreter.proofs.Safe.{more_visits, stays}
use Rattle.meaning.specs.Meaning.{leaf_item, by_unary, by_binary, by_call, item_of, items_of}
use Rattle.translator.proofs.Sound.{size, size_in, pool_size, pool_in_lem}
use Rattle.translator.specs.Compile.{entry, leaf_entry, skip_entries, call_entry, code_of, code_in, leaf_bytes, bytes_of, bytes_in, compile}
use Rattle.router.specs.Agree.{LeafMade, CallMade, Made, MadeIn}

-- ---- literals

low_bits : (z : ℤ) → SFits w32 z → to_z w32 (of_z w64 z % 2 ^ 32) ≡ z
low_bits (pos n) f = let h = f.sfits in let e : n % 2 ^ 32 ≡ n = omega arith in ap (to_z w32) e ∙ to_z-of_z w32 (pos n) f
low_bits (negsuc n) f =
    let h = f.sfits in
    let e : (2 ^ 64 - suc n) % 2 ^ 32 ≡ 2 ^ 32 - suc n = omega arith in
    ap (to_z w32) e ∙ to_z-of_z w32 (negsuc n) f

-- what the left operand decides, the right does not change
decided_false : (x y : value.Item) → is_false (value.truth_in x) ≡ true → value.logic (and_of (value.truth_in x) (value.truth_in y)) ≡ x
decided_false (value.logic t) y e = ap value.logic (false_and t (value.truth_in y) e)
decided_false (value.value v) y e = let z : ◌≡◌ {A = ℕ} 0 1 = cc in absurd (omega arith)

decided_true : (x y : value.Item) → is_true (value.truth_in x) ≡ true → value.logic (or_of (value.truth_in x) (value.truth_in y)) ≡ x
decided_true (value.logic t) y e = ap value.logic (true_or t (value.truth_in y) e)
decided_true (value.value v) y e = let z : ◌≡◌ {A = ℕ} 0 1 = cc in absurd (omega arith)

-- ---- the arguments on the stack

abbrev pushed : Edition → (List ℕ → value.Value) → Trees → List value.Item → List value.Item
pushed e field none st = st
pushed e field (◌then◌ ts t) st = item_of e field t ∷ pushed e field ts st

pushed_is : (e : Edition) (field : List ℕ → value.Value) (ts : Trees) (st : List value.Item) → pushed e field ts st ≡ reverse (items_of e field ts) ++ st
unfolding item_of
pushed_is e field none st = refl
pushed_is e field (◌then◌ ts t) st = rw reverse-append (ap (λ (l : List value.Item). item_of e field t ∷ l) (pushed_is e field ts st))

items_size : (e : Edition) (field : List ℕ → value.Value) (ts : Trees) → length (items_of e field ts) ≡ count_of ts
unfolding item_of count_of
items_size e field none = refl
items_size e field (◌then◌ ts t) = rw length-append (ap (λ (n : ℕ). n + 1) (items_size e field ts))

-- the first and the later ones, from the stack
module _ (x : value.Item) (ys st : List value.Item) where
  below : List value.Item
  below = reverse (x ∷ ys) ++ st

  split_below : reverse (x ∷ ys) ++ st ≡ reverse ys ++ (x ∷ st)
  split_below = rw (reverse-cons x ys, append_assoc)

  first_slot : slot_at (reverse (x ∷ ys) ++ st) (length ys) ≡ x
  first_slot = rw split_below (get_or_at (reverse ys) x st (value.logic Bottom) (length ys) (length-reverse ys))

  later_slots : reverse (take (length ys) (reverse (x ∷ ys) ++ st)) ≡ ys
  later_slots = rw (split_below, take_at (reverse ys) (x ∷ st) (length ys) (length-reverse ys)) (reverse-reverse ys)

  rest_slots : drop (suc (length ys)) (reverse (x ∷ ys) ++ st) ≡ st
  rest_slots =
      let e : suc (length ys) ≡ length (reverse (x ∷ ys)) = sym (length-reverse (x ∷ ys)) in
      rw e (drop_at (reverse (x ∷ ys)) st (length (reverse (x ∷ ys))) refl)

-- ---- the run

module _ (p : Program) (notice : List ℕ) where
  -- the entries xs stand from i on
  abbrev pub Stands : ℕ → List Entry → Type 0
  Stands i [] = Unit {0}
  Stands i (x ∷ xs) = ((i < length p.entries) × (get_or p.entries i blank ≡ x)) × Stands (i + 1) xs

  stands_split : (i : ℕ) (xs ys : List Entry) → Stands i (xs ++ ys) → Stands i xs × Stands (i + length xs) ys
  stands_split i [] ys s = let e : i + 0 ≡ i = omega arith in (tt, rw e s)
  stands_split i (x ∷ xs) ys s =
      let r = stands_split (i + 1) xs ys s.1 in
      let e : i + 1 + length xs ≡ i + suc (length xs) = omega arith in
      ((s.0, r.0), rw e at r.1)

  -- these bytes stand in the pool from `at` on
  abbrev pub Pooled : ℕ → List ℕ → Type 0
  Pooled at s = (at + length s ≤ length p.pool) × (take (length s) (drop at p.pool) ≡ s)

  pooled_split : (at : ℕ) (s r : List ℕ) → Pooled at (s ++ r) → Pooled at s × Pooled (at + length s) r
  pooled_split at s r h =
      let n = length-append s r in
      let e : take (length s + length r) (drop at p.pool) ≡ s ++ r = rw n at h.1 in
      let l : take (length s) (drop at p.pool) ≡ s =
      sym (take-prefix (length s) (length r) (drop at p.pool)) ∙ ap (take (length s)) e ∙ take_at s r (length s) refl in
      let m : take (length r) (drop (length s) (drop at p.pool)) ≡ r =
      sym (drop-prefix (length s) (length r) (drop at p.pool)) ∙ ap (drop (length s)) e ∙ drop_at s r (length s) refl in
      ((omega (arith, h.0, n), l), (omega (arith, h.0, n), rw drop-drop at m))
    where
      take-prefix : (a b : ℕ) (xs : List ℕ) → take a (take (a + b) xs) ≡ take a xs
      take-prefix a b xs = lib.Seq.take-take a (a + b) xs (omega arith)

      drop-prefix : (a b : ℕ) (xs : List ℕ) → drop a (take (a + b) xs) ≡ take b (drop a xs)
      drop-prefix zero b xs = let e : 0 + b ≡ b = omega arith in rw e
      drop-prefix (suc a) b [] = let e : suc a + b ≡ suc (a + b) = omega arith in rw e (sym (lib.Seq.take-nil b))
      drop-prefix (suc a) b (x ∷ xs) = let e : suc a + b ≡ suc (a + b) = omega arith in rw e (drop-prefix a b xs)

  abbrev state : ℕ → List value.Item → ℕ → State
  state i st k = record { next = i; stack = st; steps = k }

  -- From the entry i and the stack st, in at most n visits, to the entry j and the stack st'. The count of visits k goes on.
  pub record Ran (i : ℕ) (st : List value.Item) (k n j : ℕ) (st' : List value.Item) : Type 0 where
    pub visited : ℕ
    pub few : visited ≤ n
    pub goes : after_from p notice visited (state i st k) ≡ state j st' (k + visited)

  one : {i k j : ℕ} {st st' : List value.Item} (e : Entry) → (i < length p.entries) × (get_or p.entries i blank ≡ e) → visit p.edition p.pool notice e (state i st k) ≡ state j st' (k + 1) → Ran i st k 1 j st'
  unfolding after_from
  one {i} {k} {j} {st} {st'} e q v = record { visited = 1; few = omega arith; goes = rw (lt-ltb i (length p.entries) q.0, q.1) v }

  chain : {i k n m j l : ℕ} {st st' st'' : List value.Item} → Ran i st k n j st' → ((k' : ℕ) → Ran j st' k' m l st'') → Ran i st k (n + m) l st''
  chain {i} {k} {n} {m} {j} {l} {st} {st'} {st''} r f =
      let q = f (k + r.visited) in
      let sum : k + r.visited + q.visited ≡ k + (r.visited + q.visited) = omega arith in
      record {
        visited = r.visited + q.visited;
        few = omega (arith, r.few, q.few);
        goes = more_visits p notice r.visited q.visited (state i st k) ∙ ap (after_from p notice q.visited) r.goes ∙ q.goes ∙ ap (state l st'') sum;
      }

  lax : {i k n n' j j' : ℕ} {st st' : List value.Item} → n ≤ n' → j ≡ j' → Ran i st k n j st' → Ran i st k n' j' st'
  lax le e r = record { visited = r.visited; few = omega (arith, r.few); goes = rw e at r.goes }

  nowhere : {i k : ℕ} {st : List value.Item} → Ran i st k 0 i st
  unfolding after_from
  nowhere {i} {k} {st} = let e : k ≡ k + 0 = omega arith in record { visited = 0; few = omega arith; goes = ap (state i st) e }

  abbrev field : List ℕ → value.Value
  field = value.value_named notice

  -- a literal or a name
  loads : (x : Token) (at : ℕ) (st : List value.Item) → LeafMade x → Pooled at (leaf_bytes x) → length p.pool < 2 ^ 16
      → (stack_by p.edition p.pool notice (op_of (leaf_entry at x).op) (leaf_entry at x) st ≡ leaf_item field x ∷ st) × (stride_by (op_of (leaf_entry at x).op) (leaf_entry at x) st ≡ 1)
  loads (name s escaped) at st m h small =
      let e : at % 2 ^ 16 ≡ at = omega (arith, h.0) in
      (ap (λ (n : List ℕ). value.value (field n) ∷ st) (rw e h.1), refl)
  loads (int32 z) at st m h small = (ap (λ (y : ℤ). value.value (value.int32 y) ∷ st) (low_bits z m), refl)
  loads (int64 z) at st m h small = (ap (λ (y : ℤ). value.value (value.int64 y) ∷ st) (to_z-of_z w64 z m), refl)
  loads (real x) at st m h small = (ap (λ (y : lib.Ieee.Float). value.value (value.real y) ∷ st) (real_bits x m), refl)
  loads (text s) at st m h small =
      let e : at % 2 ^ 16 ≡ at = omega (arith, h.0) in
      (ap (λ (n : List ℕ). value.value (value.text n) ∷ st) (rw e h.1), refl)
  loads (symbol k) at st m h small = absurd m

  -- an operator of one operand, and one of two, of ops that are so
  does_unary : (k : ℕ) (u : Unary) (x : value.Item) (i n : ℕ) (st : List value.Item) → op_of k ≡ Op.Unary u → visit p.edition p.pool notice (entry k 0 0) (state i (x ∷ st) n) ≡ state (i + 1) (by_unary (op_of k) x ∷ st) (n + 1)
  does_unary k u x i n st e = rw e

  does_binary : (k : ℕ) (b : Binary) (x y : value.Item) (i n : ℕ) (st : List value.Item) → op_of k ≡ Op.Binary b → visit p.edition p.pool notice (entry k 0 0) (state i (y ∷ x ∷ st) n) ≡ state (i + 1) (by_binary p.edition (op_of k) x y ∷ st) (n + 1)
  does_binary k b x y i n st e = rw e

  does_one : (f c : ℕ) (u : Unary) (x : value.Item) (i n : ℕ) (st : List value.Item) → op_of f ≡ Op.Unary u → visit p.edition p.pool notice (call_entry f c) (state i (x ∷ st) n) ≡ state (i + 1) (by_call (op_of f) (x ∷ []) ∷ st) (n + 1)
  does_one f c u x i n st e = rw e

  does_many : (f : ℕ) (m : Many) (x : value.Item) (ys : List value.Item) (i n : ℕ) (st : List value.Item) → op_of f ≡ Op.Many m → 56 ≤ f
      → visit p.edition p.pool notice (call_entry f (suc (length ys))) (state i (reverse (x ∷ ys) ++ st) n) ≡ state (i + 1) (by_call (op_of f) (x ∷ ys) ∷ st) (n + 1)
  does_many f m x ys i n st e h =
      let c : suc (length ys) - 1 ≡ length ys = omega arith in
      rw (e, le-leb 56 f h, c, first_slot x ys st, later_slots x ys st, rest_slots x ys st)

  -- a left operand, the skip, a right operand and the operator, by whether the left decides
  module _ (op : ℕ) (s : Skip) (i k n m : ℕ) (st : List value.Item) (x y z : value.Item) (is-skip : op_of op ≡ Op.Skip s) where
    skipped : (c : ℕ) → (i + n < length p.entries) × (get_or p.entries (i + n) blank ≡ entry op (m + 1) 0) → z ≡ x
        → Rattle.interpreter.specs.Run.skips s (value.truth_in x) ≡ true → Ran i st k n (i + n) (x ∷ st) → Ran i st k (n + m + 2) (i + (n + m + 2)) (z ∷ st)
    skipped c q e d left =
        rw e (lax (omega arith) (omega arith) (chain {l = i + n + (m + 1 + 1)} left (λ k'. one (entry op (m + 1) 0) q (rw (is-skip, d)))))

    went_on : (j : ℕ) → (i + n < length p.entries) × (get_or p.entries (i + n) blank ≡ entry op (m + 1) 0)
        → Rattle.interpreter.specs.Run.skips s (value.truth_in x) ≡ false → Ran i st k n (i + n) (x ∷ st)
        → ((k' : ℕ) → Ran (i + n + 1) (x ∷ st) k' m (i + n + 1 + m) (y ∷ x ∷ st))
        → ((k' : ℕ) → Ran (i + n + 1 + m) (y ∷ x ∷ st) k' 1 (i + n + 1 + m + 1) (z ∷ st))
        → Ran i st k (n + m + 2) (i + (n + m + 2)) (z ∷ st)
    went_on j q d left right last =
        lax (omega arith) (omega arith) (chain {l = i + n + 1 + m + 1} left (λ k'. chain (one (entry op (m + 1) 0) q (rw (is-skip, d))) (λ k''. chain (right k'') last)))

    either : (w : Bool) → Rattle.interpreter.specs.Run.skips s (value.truth_in x) ≡ w → (Rattle.interpreter.specs.Run.skips s (value.truth_in x) ≡ true → z ≡ x)
        → (i + n < length p.entries) × (get_or p.entries (i + n) blank ≡ entry op (m + 1) 0) → Ran i st k n (i + n) (x ∷ st)
        → ((k' : ℕ) → Ran (i + n + 1) (x ∷ st) k' m (i + n + 1 + m) (y ∷ x ∷ st))
        → ((k' : ℕ) → Ran (i + n + 1 + m) (y ∷ x ∷ st) k' 1 (i + n + 1 + m + 1) (z ∷ st))
        → Ran i st k (n + m + 2) (i + (n + m + 2)) (z ∷ st)
    either true d e q left right last = skipped 0 q (e d) d left
    either false d e q left right last = went_on 0 q d left right last

  -- code, and what stands after it
  parts : (at : ℕ) (t : Tree) (i : ℕ) (ys : List Entry) → Stands i (code_of at t ++ ys) → Stands i (code_of at t) × Stands (i + entries_of t) ys
  parts at t i ys s = rw (size t at) at (stands_split i (code_of at t) ys s)

  -- a binary operator, with its skip where it has one, from what its two sides do
  two_sides : (k : ℕ) → ((b : Binary) × (op_of k ≡ Op.Binary b)) → (i c at n : ℕ) (st : List value.Item) (x y : value.Item) (u : Tree)
      → Stands (i + n) (skip_entries k (entries_of u) ++ (code_of at u ++ (entry k 0 0 ∷ [])))
      → Ran i st c n (i + n) (x ∷ st)
      → ((j k' : ℕ) → Stands j (code_of at u) → Ran j (x ∷ st) k' (entries_of u) (j + entries_of u) (y ∷ x ∷ st))
      → Ran i st c (n + entries_of u + cond (skips k) 2 1) (i + (n + entries_of u + cond (skips k) 2 1)) (by_binary p.edition (op_of k) x y ∷ st)
  two_sides k made i c at n st x y u s left right = go (ℕ_discrete k 41) (ℕ_discrete k 43)
    where
      go : Dec (k ≡ 41) → Dec (k ≡ 43) → Ran i st c (n + entries_of u + cond (skips k) 2 1) (i + (n + entries_of u + cond (skips k) 2 1)) (by_binary p.edition (op_of k) x y ∷ st)
      go (yes e) d =
          let s1 = rw e at s in
          let q = parts at u (i + n + 1) (entry 41 0 0 ∷ []) s1.1 in
          rw e (either 44 Skip.IfFalse i c n (entries_of u) st x y (value.logic (and_of (value.truth_in x) (value.truth_in y))) refl
          (is_false (value.truth_in x)) refl (decided_false x y) s1.0 left (λ k'. right (i + n + 1) k' q.0) (λ k'. one (entry 41 0 0) q.1.0 refl))
      go (no a) (yes e) =
          let s1 = rw e at s in
          let q = parts at u (i + n + 1) (entry 43 0 0 ∷ []) s1.1 in
          rw e (either 45 Skip.IfTrue i c n (entries_of u) st x y (value.logic (or_of (value.truth_in x) (value.truth_in y))) refl
          (is_true (value.truth_in x)) refl (decided_true x y) s1.0 left (λ k'. right (i + n + 1) k' q.0) (λ k'. one (entry 43 0 0) q.1.0 refl))
      go (no a) (no b) =
          let s1 = rw (ne_eqb k 41 a, ne_eqb k 43 b) at s in
          let q = parts at u (i + n) (entry k 0 0 ∷ []) s1 in
          rw (ne_eqb k 41 a, ne_eqb k 43 b) (lax (omega arith) (omega arith)
          (chain {l = i + n + entries_of u + 1} left (λ k'. chain (right (i + n) k' q.0) (λ k''. one (entry k 0 0) q.1.0 (does_binary k made.0 x y (i + n + entries_of u) k'' st made.1)))))

  -- a call, from what its arguments left
  calls : (x : Token) (ts : Trees) (i c : ℕ) (st : List value.Item) → CallMade (function_of x) (count_of ts)
      → (i < length p.entries) × (get_or p.entries i blank ≡ call_entry (function_of x) (count_of ts))
      → Ran i (pushed p.edition field ts st) c 1 (i + 1) (by_call (op_of (function_of x)) (items_of p.edition field ts) ∷ st)
  calls x ts i c st made q = go (items_of p.edition field ts) refl (sym (items_size p.edition field ts)) made
    where
      f : ℕ
      f = function_of x

      go : (ys : List value.Item) → items_of p.edition field ts ≡ ys → count_of ts ≡ length (items_of p.edition field ts) → CallMade (function_of x) (count_of ts) → Ran i (pushed p.edition field ts st) c 1 (i + 1) (by_call (op_of (function_of x)) (items_of p.edition field ts) ∷ st)
      go [] e n (inl (u, o, l, one')) = let z : count_of ts ≡ 0 = n ∙ ap length e in absurd (omega arith)
      go [] e n (inr (m, o, l, some)) = let z : count_of ts ≡ 0 = n ∙ ap length e in absurd (omega arith)
      go (y ∷ []) e n (inl (u, o, l, one')) =
          rw (pushed_is p.edition field ts st, e) (one (call_entry (function_of x) (count_of ts)) q (does_one (function_of x) (count_of ts) u y i c st o))
      go (y ∷ (w ∷ ys)) e n (inl (u, o, l, one')) = let z : count_of ts ≡ suc (suc (length ys)) = n ∙ ap length e in absurd (omega arith)
      go (y ∷ ys) e n (inr (m, o, l, some)) =
          let z : count_of ts ≡ suc (length ys) = n ∙ ap length e in
          rw (pushed_is p.edition field ts st, e) (one (call_entry (function_of x) (suc (length ys))) (rw z at q) (does_many (function_of x) m y ys i c st o l))

  mutual
    unfolding code_of bytes_of entries_of item_of Made pool_of

    pub ran : (t : Tree) (at i k : ℕ) (st : List value.Item) → length p.pool < 2 ^ 16 → Made t → Stands i (code_of at t) → Pooled at (bytes_of t)
        → Ran i st k (entries_of t) (i + entries_of t) (item_of p.edition field t ∷ st)
    ran (leaf x) at i k st small m s h =
        let l = loads x at st m h small in
        one (leaf_entry at x) s.0 (rw (l.0, l.1))
    ran (group t) at i k st small m s h = ran t at i k st small m s h
    ran (unary o t) at i k st small m s h =
        let q = parts at t i (entry o 0 0 ∷ []) s in
        lax (omega arith) (omega arith)
        (chain {l = i + entries_of t + 1} (ran t at i k st small m.1 q.0 h)
        (λ k'. one (entry o 0 0) q.1.0 (does_unary o m.0.0 (item_of p.edition field t) (i + entries_of t) k' st m.0.1)))
    ran (binary o t u) at i k st small m s h =
        let q = parts at t i (skip_entries o (entries_of u) ++ (code_of (at + pool_of t) u ++ (entry o 0 0 ∷ []))) s in
        let g = pooled_split at (bytes_of t) (bytes_of u) h in
        two_sides o m.0 i k (at + pool_of t) (entries_of t) st (item_of p.edition field t) (item_of p.edition field u) u q.1 (ran t at i k st small m.1 q.0 g.0)
        (λ j k' w. ran u (at + pool_of t) j k' (item_of p.edition field t ∷ st) small m.2 w (rw (pool_size t) at g.1))
    ran (call x ts) at i k st small m s h =
        let q = stands_split i (code_in at ts) (call_entry (function_of x) (count_of ts) ∷ []) s in
        let e = size_in ts at in
        lax (omega arith) (omega arith)
        (chain {l = i + entries_in ts + 1} (ran_in ts at i k st small m.1 q.0 h) (λ k'. calls x ts (i + entries_in ts) k' st m.0 (rw e at q.1).0))

    ran_in : (ts : Trees) (at i k : ℕ) (st : List value.Item) → length p.pool < 2 ^ 16 → MadeIn ts → Stands i (code_in at ts) → Pooled at (bytes_in ts)
        → Ran i st k (entries_in ts) (i + entries_in ts) (pushed p.edition field ts st)
    ran_in none at i k st small m s h = lax (omega arith) (omega arith) nowhere
    ran_in (◌then◌ ts t) at i k st small m s h =
        let q = stands_split i (code_in at ts) (code_of (at + pool_in ts) t) s in
        let e = size_in ts at in
        let g = pooled_split at (bytes_in ts) (bytes_of t) h in
        lax (omega arith) (omega arith)
        (chain {l = i + entries_in ts + entries_of t} (ran_in ts at i k st small m.0 q.0 g.0)
        (λ k'. ran t (at + pool_in ts) (i + entries_in ts) k' (pushed p.edition field ts st) small m.1 (rw e at q.1) (rw (pool_in_lem ts) at g.1)))

-- ---- the whole table

stands_from : (p : Program) (notice : List ℕ) (pre xs : List Entry) → p.entries ≡ pre ++ xs → Stands p notice (length pre) xs
stands_from p notice pre [] e = tt
stands_from p notice pre (x ∷ xs) e =
    let n : length p.entries ≡ length pre + suc (length xs) = ap length e ∙ length-append pre (x ∷ xs) in
    let here : get_or p.entries (length pre) blank ≡ x = rw e (get_or_at pre x xs blank (length pre) refl) in
    let next : length (pre ++ (x ∷ [])) ≡ length pre + 1 = length-append pre (x ∷ []) in
    let rest = stands_from p notice (pre ++ (x ∷ [])) xs (e ∙ sym (append_assoc pre (x ∷ []) xs)) in
    ((omega arith, here), rw next at rest)

-- The run of a tree's table: it ends at N with the one slot that the tree is.
pub record Whole (e : Edition) (t : Tree) (notice : List ℕ) : Type 0 where
  pub visited : ℕ
  pub few : visited ≤ entries_of t
  pub ends : run_of (compile e t) notice ≡ record { next = entries_of t; stack = item_of e (value.value_named notice) t ∷ []; steps = visited }

pub runs_whole : (e : Edition) (t : Tree) (notice : List ℕ) → pool_of t < 2 ^ 16 → Made t → Whole e t notice
runs_whole e t notice small made =
    let p = compile e t in
    let n : length p.entries ≡ entries_of t = size t 0 in
    let m : length p.pool ≡ pool_of t = pool_size t in
    let zero_more : 0 + entries_of t ≡ entries_of t = omega arith in
    let r = ran p notice t 0 0 0 [] (rw m small) made (stands_from p notice [] p.entries refl) (omega arith, take-length p.pool) in
    let g = rw zero_more at r.goes in
    let none : 0 + r.visited ≡ r.visited = omega arith in
    let split : r.visited + (entries_of t - r.visited) ≡ entries_of t = omega (arith, r.few) in
    record {
      visited = r.visited;
      few = r.few;
      ends =
          ap (λ (k : ℕ). after_from p notice k start) (n ∙ sym split) ∙ more_visits p notice r.visited (entries_of t - r.visited) start
          ∙ ap (after_from p notice (entries_of t - r.visited)) g ∙ stays p notice (entries_of t - r.visited) _ (omega (arith, n))
          ∙ ap (λ (k : ℕ). record { next = entries_of t; stack = item_of e (value.value_named notice) t ∷ []; steps = k }) none;
    }
