-- The patterns of the code of a tree: each stands directly before the entry that takes it, as an entry of op 4. Assumes nothing.
use Prim.Native.Nat.{ℕ, zero, suc, ◌+◌, ◌-◌, ◌≤◌, ◌<◌}
use native.Mathlib.Nat.{not-suc-le-zero}
use native.Mathlib.Decide.{dec_lt}
use native.Mathlib.Numerals.{add-one}
use native.Mathlib.Omega.{arith}
use mathlib.Core.Path.{◌≡◌, refl, sym, ◌∙◌}
use mathlib.Core.Bool.{Bool, true, false, cond, ◌&&◌, ◌||◌}
use mathlib.Core.List.{List, [], ◌∷◌, ◌++◌, append-nil}
use mathlib.Core.Option.{Option, none, some, some-injective}
use lib.Dec.{eqb, leb}
use lib.ListN.{length, get_or, length-append, get_or-append}
use lib.Seq.{get_or-append-add, get_or-append_seam}
use borrow.Author.Tests.{lt-ltb}
use Rattle.common.specs.Each.{Each}
use Rattle.common.proofs.Choice.{false_true}
use Rattle.opcode.specs.Number.{begins_with_op}
use Rattle.opcode.specs.Opcode.{op_of}
use Rattle.table.specs.declared.Entry.{Entry}
use Rattle.table.specs.Table.{blank}
use Rattle.table.specs.Check.{operand_right, operands_right, pattern_by, patterns_before, pattern_right}
use Rattle.table.specs.Check.{pattern_test as test_of, patterns_right as all_right}
use Rattle.table.proofs.Passes.{all_patterns}
use Rattle.table.proofs.Patterns.{patterned, has_test}
use Rattle.table.proofs.Tests.{both_true, are_true}
use Rattle.lexer.specs.Token.{Token, name, int32, int64, real, text, symbol, kind_of}
use Rattle.grammar.specs.Tree.{Tree, leaf, Trees, ◌then◌}
use Rattle.grammar.specs.Function.{function_of}
use Rattle.grammar.specs.Size.{count_of, entries_of, pool_of, pool_in}
use Rattle.grammar.specs.Judge.{Form, FoldCase, Other, form_of, is_name, is_text, is_folding, first_of, later_texts, call_right, takes_texts, pattern_test, later_right, forms_right, forms_in, patterns_right, patterns_in}
use Rattle.translator.specs.Compile.{entry, leaf_entry, skip_entries, call_entry, code_of, code_in, bytes_of, bytes_in}
use Rattle.translator.proofs.Entries.{TokenRight, part_is}
use Rattle.translator.proofs.Sound.{Sound, SoundIn, a_leaf, a_group, a_unary, a_binary, a_call, no_more, one_more, pool_size, pool_in_lem, regroup, before}

-- ---- the patterns of entries that stand between others

operands_front : (test : List ℕ → Bool) (pool : List ℕ) (xs ys : List Entry) (i a : ℕ) → i ≤ length xs → operands_right test pool (xs ++ ys) i a ≡ operands_right test pool xs i a
unfolding operands_right
operands_front test pool xs ys i zero h = refl
operands_front test pool xs ys zero (suc a) h = refl
operands_front test pool xs ys (suc i) (suc a) h = rw (get_or-append xs ys blank i h, operands_front test pool xs ys i a (omega arith))

operands_rest : (test : List ℕ → Bool) (pool : List ℕ) (xs ys : List Entry) (i a : ℕ) → operands_right test pool ys i a ≡ true → operands_right test pool (xs ++ ys) (length xs + i) a ≡ true
unfolding operands_right
operands_rest test pool xs ys i zero h = refl
operands_rest test pool xs ys zero (suc a) h = false_true h
operands_rest test pool xs ys (suc i) (suc a) h =
    let p = both_true (operand_right test pool (get_or ys i blank)) (operands_right test pool ys i a) h in
    let n : length xs + suc i ≡ suc (length xs + i) = omega arith in
    rw (n, get_or-append-add xs ys i blank) (are_true _ _ p.0 (operands_rest test pool xs ys i a p.1))

operands_last : (test : List ℕ → Bool) (pool : List ℕ) (xs : List Entry) (e : Entry) (a : ℕ) → operand_right test pool e ≡ true → operands_right test pool xs (length xs) a ≡ true
    → operands_right test pool (xs ++ (e ∷ [])) (length (xs ++ (e ∷ []))) (suc a) ≡ true
unfolding operands_right
operands_last test pool xs e a h k =
    let n : length (xs ++ (e ∷ [])) ≡ suc (length xs) = length-append xs (e ∷ []) ∙ add-one (length xs) in
    rw (n, get_or-append_seam xs e [] blank, operands_front test pool xs (e ∷ []) (length xs) a (omega arith)) (are_true _ _ h k)

by_front : (o : Option (List ℕ → Bool)) (pool : List ℕ) (xs ys : List Entry) (i a : ℕ) → i ≤ length xs → pattern_by o pool (xs ++ ys) i a ≡ pattern_by o pool xs i a
by_front none pool xs ys i a h = refl
by_front (some test) pool xs ys i a h = operands_front test pool xs ys i a h

by_rest : (o : Option (List ℕ → Bool)) (pool : List ℕ) (xs ys : List Entry) (i a : ℕ) → pattern_by o pool ys i a ≡ true → pattern_by o pool (xs ++ ys) (length xs + i) a ≡ true
by_rest none pool xs ys i a h = refl
by_rest (some test) pool xs ys i a h = operands_rest test pool xs ys i a h

by_none : (o : Option (List ℕ → Bool)) (pool : List ℕ) (es : List Entry) (i : ℕ) → pattern_by o pool es i 0 ≡ true
unfolding operands_right
by_none none pool es i = refl
by_none (some test) pool es i = refl

-- each entry finds its patterns among these entries
abbrev Marked : List ℕ → List Entry → Type 0
Marked pool es = (i : ℕ) → i < length es → pattern_right pool es i ≡ true

marked_front : (pool : List ℕ) (xs ys : List Entry) → Marked pool xs → (i : ℕ) → i < length xs → pattern_right pool (xs ++ ys) i ≡ true
marked_front pool xs ys m i h =
    let e = get_or xs i blank in
    rw (get_or-append xs ys blank i h) (by_front (test_of (op_of e.op)) pool xs ys i e.a (omega arith) ∙ m i h)

marked_append : (pool : List ℕ) (xs ys : List Entry) → Marked pool xs → Marked pool ys → Marked pool (xs ++ ys)
marked_append pool xs ys m n i h = go (dec_lt i (length xs))
  where
    go : Dec (i < length xs) → pattern_right pool (xs ++ ys) i ≡ true
    go (yes l) = marked_front pool xs ys m i l
    go (no l) =
        let j = i - length xs in
        let q : i ≡ length xs + j = omega arith in
        let e = get_or ys j blank in
        let len = length-append xs ys in
        rw (q, get_or-append-add xs ys j blank) (by_rest (test_of (op_of e.op)) pool xs ys j e.a (n j (omega arith)))

marked_last : (pool : List ℕ) (xs : List Entry) (e : Entry) → Marked pool xs → patterns_before pool xs (length xs) e ≡ true → Marked pool (xs ++ (e ∷ []))
marked_last pool xs e m p i h = go (dec_lt i (length xs))
  where
    go : Dec (i < length xs) → pattern_right pool (xs ++ (e ∷ [])) i ≡ true
    go (yes l) = marked_front pool xs (e ∷ []) m i l
    go (no l) =
        let len = length-append xs (e ∷ []) in
        let q : i ≡ length xs = omega arith in
        rw (q, get_or-append_seam xs e [] blank) (by_front (test_of (op_of e.op)) pool xs (e ∷ []) (length xs) e.a (omega arith) ∙ p)

marked_one : (pool : List ℕ) (e : Entry) → patterns_before pool (e ∷ []) 0 e ≡ true → Marked pool (e ∷ [])
marked_one pool e p zero h = p
marked_one pool e p (suc i) h = absurd (omega arith)

operator_marked : (pool : List ℕ) (k : ℕ) → Marked pool (entry k 0 0 ∷ [])
operator_marked pool k = marked_one pool (entry k 0 0) (by_none (test_of (op_of k)) pool (entry k 0 0 ∷ []) 0)

skip_marked : (pool : List ℕ) (k n : ℕ) → Marked pool (skip_entries k n)
skip_marked pool k n = go (eqb k 41) (eqb k 43)
  where
    go : (a b : Bool) → Marked pool (cond a (entry 44 (n + 1) 0 ∷ []) (cond b (entry 45 (n + 1) 0 ∷ []) []))
    go true b = marked_one pool (entry 44 (n + 1) 0) refl
    go false true = marked_one pool (entry 45 (n + 1) 0) refl
    go false false = λ i h. absurd (not-suc-le-zero h)

leaf_marked : (pool : List ℕ) (at : ℕ) (x : Token) → kind_of x ≤ 5 → TokenRight x → Marked pool (leaf_entry at x ∷ [])
leaf_marked pool at (name s b) k r = marked_one pool _ refl
leaf_marked pool at (int32 z) k r = marked_one pool _ refl
leaf_marked pool at (int64 z) k r = marked_one pool _ refl
leaf_marked pool at (real x) k r = marked_one pool _ refl
leaf_marked pool at (text s) k r = marked_one pool _ refl
leaf_marked pool at (symbol j) k r = absurd (omega arith)

-- ---- the patterns of a call

leaf_text : (x : Token) → kind_of x ≤ 5 → TokenRight x → is_text (form_of (leaf x)) ≡ true → (s : List ℕ) × (leaf x ≡ leaf (text s))
leaf_text (name s b) k r h = false_true h
leaf_text (int32 z) k r h = false_true h
leaf_text (int64 z) k r h = false_true h
leaf_text (real x) k r h = false_true h
leaf_text (text s) k r h = (s, refl)
leaf_text (symbol j) k r h = absurd (omega arith)

no_call : {A : Type 0} (b : Bool) → is_text (cond b FoldCase Other) ≡ true → A
no_call true h = false_true h
no_call false h = false_true h

is_literal_lem : {t : Tree} → Sound t → is_text (form_of t) ≡ true → (s : List ℕ) × (t ≡ leaf (text s))
is_literal_lem (a_leaf {x} k r) h = leaf_text x k r h
is_literal_lem (a_group d) h = false_true h
is_literal_lem (a_unary a d e) h = false_true h
is_literal_lem (a_binary a d e f g) h = false_true h
is_literal_lem (a_call {x} a d) h = no_call (eqb (function_of x) 6) h

-- the string literals after the first argument are patterns of the function, and stand last
module _ (f : ℕ) where
  literal_operand : (pre s post : List ℕ) (at : ℕ) → length pre ≡ at → pattern_test f s ≡ true → operand_right (pattern_test f) (pre ++ (s ++ post)) (leaf_entry at (text s)) ≡ true
  literal_operand pre s post at e h = rw (part_is pre s post at e) h

  operands_in_lem : {ts : Trees} → SoundIn ts → later_texts ts ≡ true → patterns_in f ts ≡ true → (at : ℕ) (pre post : List ℕ) → length pre ≡ at
      → operands_right (pattern_test f) (pre ++ (bytes_in ts ++ post)) (code_in at ts) (length (code_in at ts)) (count_of ts - 1) ≡ true
  unfolding operands_right later_texts patterns_right count_of code_of bytes_of pool_of
  operands_in_lem no_more l p at pre post e = refl
  operands_in_lem (one_more no_more d g) l p at pre post e = refl
  operands_in_lem (one_more {t = t} (one_more {ts} {t = u} d g h) j k) l p at pre post e =
      let all = ◌then◌ ts u in
      let ls = both_true (later_texts all) (is_text (form_of t)) l in
      let ps = both_true (patterns_in f all) (patterns_right t && later_right f (count_of all) t) p in
      let (s, is-t) = is_literal_lem j ls.1 in
      let right : pattern_test f s ≡ true = (rw (is-t, lt-ltb 0 (count_of ts + 1) (omega arith)) at (both_true (patterns_right t) (later_right f (count_of all) t) ps.1).1) in
      let len : length (pre ++ bytes_in all) ≡ at + pool_in all = length-append pre (bytes_in all) ∙ rw (e, pool_in_lem all) in
      let n : count_of ts + 1 + 1 - 1 ≡ suc (count_of ts + 1 - 1) = omega arith in
      rw (is-t, n)
      (operands_last (pattern_test f) _ (code_in at all) (leaf_entry (at + pool_in all) (text s)) (count_of ts + 1 - 1)
      (rw regroup at (literal_operand (pre ++ bytes_in all) s post (at + pool_in all) len right))
      (rw before at (operands_in_lem (one_more d g h) ls.0 ps.0 at pre (s ++ post) e)))

all_texts_lem : (form : Form) (count : ℕ) (texts : Bool) → takes_texts form count texts ≡ true → texts ≡ true
all_texts_lem form count texts h =
    let p = (both_true (is_name form || is_folding form) (leb 2 count && (leb count 9 && texts)) h).1 in
    (both_true (leb count 9) texts (both_true (leb 2 count) (leb count 9 && texts) p).1).1

-- a function that takes patterns takes a value and string literals, and the check asks for the patterns that refusal 18 asks for
abbrev Alike : ℕ → Type 0
Alike f =
    (test_of (op_of f) ≡ some (pattern_test f)) × (leb begins_with_op f ≡ true) × ((form : Form) (count : ℕ) (texts : Bool) → call_right f form count texts ≡ takes_texts form count texts)

each_alike : Each Alike patterned
each_alike = ((refl, refl, λ form count texts. refl), ((refl, refl, λ form count texts. refl), tt))

call_before : (f : ℕ) {ts : Trees} → SoundIn ts → call_right f (first_of ts) (count_of ts) (later_texts ts) ≡ true → patterns_in f ts ≡ true → (at : ℕ) (pre post : List ℕ) → length pre ≡ at
    → patterns_before (pre ++ (bytes_in ts ++ post)) (code_in at ts) (length (code_in at ts)) (call_entry f (count_of ts)) ≡ true
call_before f {ts} d c p at pre post e = go (test_of (op_of f)) refl
  where
    go : (o : Option (List ℕ → Bool)) → test_of (op_of f) ≡ o → pattern_by o (pre ++ (bytes_in ts ++ post)) (code_in at ts) (length (code_in at ts)) (call_entry f (count_of ts)).a ≡ true
    go none o = refl
    go (some test) o =
        let (same, many, form) = has_test Alike each_alike f test o in
        let t : pattern_test f ≡ test = some-injective _ _ (sym same ∙ o) in
        let l = all_texts_lem (first_of ts) (count_of ts) (later_texts ts) (sym (form (first_of ts) (count_of ts) (later_texts ts)) ∙ c) in
        rw (many, sym t) (operands_in_lem f d l p at pre post e)

-- ---- the whole code

mutual
  unfolding code_of bytes_of pool_of forms_right patterns_right

  marked : {t : Tree} → Sound t → forms_right t ≡ true → patterns_right t ≡ true → (at : ℕ) (pre post : List ℕ) → length pre ≡ at → Marked (pre ++ (bytes_of t ++ post)) (code_of at t)
  marked (a_leaf {x} k r) f p at pre post e = leaf_marked _ at x k r
  marked (a_group d) f p at pre post e = marked d f p at pre post e
  marked (a_unary {k} {t} a d g) f p at pre post e = marked_append _ (code_of at t) (entry k 0 0 ∷ []) (marked d f p at pre post e) (operator_marked _ k)
  marked (a_binary {k} {t} {u} a d g h j) f p at pre post e =
      let pool = pre ++ ((bytes_of t ++ bytes_of u) ++ post) in
      let fs = both_true (forms_right t) (forms_right u) f in
      let ps = both_true (patterns_right t) (patterns_right u) p in
      let left : Marked pool (code_of at t) = rw before at (marked d fs.0 ps.0 at pre (bytes_of u ++ post) e) in
      let len : length (pre ++ bytes_of t) ≡ at + pool_of t = length-append pre (bytes_of t) ∙ rw (e, pool_size t) in
      let right : Marked pool (code_of (at + pool_of t) u) = rw regroup at (marked h fs.1 ps.1 (at + pool_of t) (pre ++ bytes_of t) post len) in
      let rest = code_of (at + pool_of t) u ++ (entry k 0 0 ∷ []) in
      marked_append pool (code_of at t) (skip_entries k (entries_of u) ++ rest) left
      (marked_append pool (skip_entries k (entries_of u)) rest (skip_marked pool k (entries_of u))
      (marked_append pool (code_of (at + pool_of t) u) (entry k 0 0 ∷ []) right (operator_marked pool k)))
  marked (a_call {x} {ts} a d) f p at pre post e =
      let fs = both_true (forms_in ts) (call_right (function_of x) (first_of ts) (count_of ts) (later_texts ts)) f in
      marked_last _ (code_in at ts) (call_entry (function_of x) (count_of ts)) (marked_in d fs.0 (function_of x) p at pre post e) (call_before (function_of x) d fs.1 p at pre post e)

  marked_in : {ts : Trees} → SoundIn ts → forms_in ts ≡ true → (f : ℕ) → patterns_in f ts ≡ true → (at : ℕ) (pre post : List ℕ) → length pre ≡ at → Marked (pre ++ (bytes_in ts ++ post)) (code_in at ts)
  marked_in no_more f g p at pre post e = λ i h. absurd (not-suc-le-zero h)
  marked_in (one_more {ts} {t} d h j) f g p at pre post e =
      let pool = pre ++ ((bytes_in ts ++ bytes_of t) ++ post) in
      let fs = both_true (forms_in ts) (forms_right t) f in
      let ps = both_true (patterns_in g ts) (patterns_right t && later_right g (count_of ts) t) p in
      let left : Marked pool (code_in at ts) = rw before at (marked_in d fs.0 g ps.0 at pre (bytes_of t ++ post) e) in
      let len : length (pre ++ bytes_in ts) ≡ at + pool_in ts = length-append pre (bytes_in ts) ∙ rw (e, pool_in_lem ts) in
      let own = (both_true (patterns_right t) (later_right g (count_of ts) t) ps.1).0 in
      let right : Marked pool (code_of (at + pool_in ts) t) = rw regroup at (marked h fs.1 own (at + pool_in ts) (pre ++ bytes_in ts) post len) in
      marked_append pool (code_in at ts) (code_of (at + pool_in ts) t) left right

pub patterns_right_lem : (t : Tree) → Sound t → forms_right t ≡ true → patterns_right t ≡ true → all_right (bytes_of t) (code_of 0 t) (length (code_of 0 t)) ≡ true
patterns_right_lem t d f p = all_patterns (bytes_of t) (code_of 0 t) (length (code_of 0 t)) (rw append-nil at (marked d f p 0 [] [] refl))
