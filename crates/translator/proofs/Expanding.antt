-- The codes of a sound tree, taken apart one after the other, are its entries and its pool, and the sizes are those of its operands. Assumes nothing.
use Prim.Native.Nat.{ℕ, suc, ◌+◌, ◌*◌, ◌≤◌, ◌<◌}
use native.Mathlib.Nat.{mod-eq_of_lt}
use native.Mathlib.Omega.{arith}
use native.Mathlib.Decide.{ℕ_discrete}
use mathlib.Core.Path.{◌≡◌, refl, sym, ap, ap₂, ◌∙◌, subst}
use mathlib.Core.Bool.{Bool, true, false, cond, ◌&&◌}
use mathlib.Core.List.{List, [], ◌∷◌, ◌++◌, append_assoc, append-nil}
use lib.Dec.{eqb, leb}
use lib.ListN.{length, get_or, length-append}
use borrow.Author.Tests.{leb-true, lt-leb}
use Rattle.common.proofs.Choice.{false_true}
use Rattle.table.specs.declared.Entry.{Entry}
use Rattle.table.proofs.Tests.{both_true}
use Rattle.lexer.specs.Token.{Token, name, int32, int64, real, text, symbol, kind_of}
use Rattle.grammar.specs.Tree.{Tree, leaf, group, unary, binary, call, Trees, none, ◌then◌}
use Rattle.grammar.specs.Function.{function_of}
use Rattle.grammar.specs.Size.{count_of, entries_of, entries_in, pool_bytes, pool_of, pool_in}
use Rattle.grammar.specs.Marks.{is_operand}
use Rattle.grammar.specs.Code.{code, skip_codes, call_code, codes_of, codes_in, leaves_of, leaves_in}
use Rattle.grammar.specs.Stream.{token_of}
use Rattle.translator.specs.Compile.{entry, leaf_entry, skip_entries, call_entry, code_of, code_in, leaf_bytes, bytes_of, bytes_in}
use Rattle.translator.specs.Expand.{op_in, a_in, operands_by, brought_by, entry_by, expand, pooled, Sized}
use Rattle.translator.proofs.Entries.{TokenRight}
use Rattle.translator.proofs.Sound.{Sound, SoundIn, a_leaf, a_group, a_unary, a_binary, a_call, no_more, one_more, leaf_size}
use Rattle.translator.proofs.Bounded.{total_of, total_append}

-- ---- sizes

mutual
  unfolding leaves_of entries_of

  pub leaf_count : (t : Tree) → length (leaves_of t) ≤ entries_of t
  leaf_count (leaf x) = omega arith
  leaf_count (group t) = leaf_count t
  leaf_count (unary k t) = omega (arith, leaf_count t)
  leaf_count (binary k t u) = omega (arith, length-append (leaves_of t) (leaves_of u), leaf_count t, leaf_count u)
  leaf_count (call x ts) = omega (arith, leaf_count_in ts)

  leaf_count_in : (ts : Trees) → length (leaves_in ts) ≤ entries_in ts
  leaf_count_in none = omega arith
  leaf_count_in (◌then◌ ts t) = omega (arith, length-append (leaves_in ts) (leaves_of t), leaf_count_in ts, leaf_count t)

mutual
  unfolding leaves_of pool_of

  pub leaf_total : (t : Tree) → total_of (leaves_of t) ≡ pool_of t
  leaf_total (leaf x) = omega arith
  leaf_total (group t) = leaf_total t
  leaf_total (unary k t) = leaf_total t
  leaf_total (binary k t u) = omega (arith, total_append (leaves_of t) (leaves_of u), leaf_total t, leaf_total u)
  leaf_total (call x ts) = leaf_total_in ts

  leaf_total_in : (ts : Trees) → total_of (leaves_in ts) ≡ pool_in ts
  leaf_total_in none = refl
  leaf_total_in (◌then◌ ts t) = omega (arith, total_append (leaves_in ts) (leaves_of t), leaf_total_in ts, leaf_total t)

-- ---- one code

code_whole : (op a : ℕ) → op < 64 → a < 1024 → code op a ≡ op + 64 * a
code_whole op a h k = mod-eq_of_lt (omega arith)

code_op : (op a : ℕ) → op < 64 → a < 1024 → op_in (code op a) ≡ op
code_op op a h k = let e = code_whole op a h k in rw e (omega arith)

code_a : (op a : ℕ) → op < 64 → a < 1024 → a_in (code op a) ≡ a
code_a op a h k = let e = code_whole op a h k in rw e (omega arith)

not_operand : (op : ℕ) → 5 < op → is_operand op ≡ false
not_operand op h = go (leb 1 op)
  where
    go : (b : Bool) → (b && leb op 5) ≡ false
    go true = lt-leb op 5 h
    go false = refl

is_operand_lem : (x : Token) → kind_of x ≤ 5 → TokenRight x → is_operand (kind_of x) ≡ true
is_operand_lem (name s b) k r = refl
is_operand_lem (int32 z) k r = refl
is_operand_lem (int64 z) k r = refl
is_operand_lem (real x) k r = refl
is_operand_lem (text s) k r = refl
is_operand_lem (symbol j) k r = absurd (omega arith)

pub operand_cases : (P : ℕ → Type 0) (k : ℕ) → is_operand k ≡ true → P 1 → P 2 → P 3 → P 4 → P 5 → P k
operand_cases P k o p1 p2 p3 p4 p5 =
    let b = both_true (leb 1 k) (leb k 5) o in
    let low = leb-true 1 k b.0 in
    let high = leb-true k 5 b.1 in
    by (ℕ_discrete k 1) (ℕ_discrete k 2) (ℕ_discrete k 3) (ℕ_discrete k 4) low high
  where
    by : Dec (k ≡ 1) → Dec (k ≡ 2) → Dec (k ≡ 3) → Dec (k ≡ 4) → 1 ≤ k → k ≤ 5 → P k
    by (yes e) b c d low high = rw e p1
    by (no a) (yes e) c d low high = rw e p2
    by (no a) (no b) (yes e) d low high = rw e p3
    by (no a) (no b) (no c) (yes e) low high = rw e p4
    by (no a) (no b) (no c) (no d) low high = let e : k ≡ 5 = omega arith in rw e p5

-- tokens that are the operands from l on, by their kinds, the places and the sizes
abbrev pub Stand : List ℕ → List ℕ → List ℕ → ℕ → List Token → Type 0
Stand s places sizes l [] = Unit {0}
Stand s places sizes l (x ∷ xs) = (token_of s (kind_of x) (get_or places l 0) ≡ x) × (get_or sizes l 0 ≡ pool_bytes x) × Stand s places sizes (l + 1) xs

module _ (s places sizes : List ℕ) where
  stand_left : (xs ys : List Token) (l : ℕ) → Stand s places sizes l (xs ++ ys) → Stand s places sizes l xs
  stand_left [] ys l h = tt
  stand_left (x ∷ xs) ys l h = (h.0, h.1, stand_left xs ys (l + 1) h.2)

  stand_rest : (xs ys : List Token) (l : ℕ) → Stand s places sizes l (xs ++ ys) → Stand s places sizes (l + length xs) ys
  stand_rest [] ys l h = let e : l + 0 ≡ l = omega arith in rw e h
  stand_rest (x ∷ xs) ys l h = let e : l + suc (length xs) ≡ l + 1 + length xs = omega arith in rw e (stand_rest xs ys (l + 1) h.2)

  module _ (c : ℕ) (x : Token) (e : op_in c ≡ kind_of x) (o : is_operand (kind_of x) ≡ true) (place : ℕ) (h : token_of s (kind_of x) place ≡ x) where
    pushed_entry : (at : ℕ) → entry_by s c place at ≡ leaf_entry at x
    pushed_entry at = rw (e, o, h)

    pushed_bytes : brought_by s c place ≡ leaf_bytes x
    pushed_bytes = rw (e, o, h)

  pushed_one : (c k : ℕ) → op_in c ≡ k → is_operand k ≡ true → operands_by c ≡ 1
  pushed_one c k e o = rw (e, o)

  -- an operator's code, a call's or a skip's
  module _ (op a : ℕ) (over : 5 < op) (under : op < 64) (low : a < 1024) (cs : List ℕ) (l : ℕ) where
    acted : (at : ℕ) → expand s places (code op a ∷ cs) l at ≡ entry op a 0 ∷ expand s places cs l at
    unfolding expand
    acted at =
        let e = code_op op a under low in
        let n : l + 0 ≡ l = omega arith in
        let m : at + 0 ≡ at = omega arith in
        rw (e, not_operand op over, code_a op a under low) (ap₂ (λ (x y : ℕ). entry op a 0 ∷ expand s places cs x y) n m)

    acted_pool : pooled s places (code op a ∷ cs) l ≡ pooled s places cs l
    unfolding pooled
    acted_pool =
        let e = code_op op a under low in
        let n : l + 0 ≡ l = omega arith in
        rw (e, not_operand op over) (ap (λ (x : ℕ). pooled s places cs x) n)

  skipped : (k n : ℕ) → n ≤ 512 → (cs : List ℕ) (l at : ℕ) → expand s places (skip_codes k n ++ cs) l at ≡ skip_entries k n ++ expand s places cs l at
  skipped k n h cs l at = go (eqb k 41) (eqb k 43)
    where
      go : (a b : Bool) → expand s places (cond a (code 44 (n + 1) ∷ []) (cond b (code 45 (n + 1) ∷ []) []) ++ cs) l at ≡ cond a (entry 44 (n + 1) 0 ∷ []) (cond b (entry 45 (n + 1) 0 ∷ []) []) ++ expand s places cs l at
      go true b = acted 44 (n + 1) (omega arith) (omega arith) (omega arith) cs l at
      go false true = acted 45 (n + 1) (omega arith) (omega arith) (omega arith) cs l at
      go false false = refl

  skipped_pool : (k n : ℕ) → n ≤ 512 → (cs : List ℕ) (l : ℕ) → pooled s places (skip_codes k n ++ cs) l ≡ pooled s places cs l
  skipped_pool k n h cs l = go (eqb k 41) (eqb k 43)
    where
      go : (a b : Bool) → pooled s places (cond a (code 44 (n + 1) ∷ []) (cond b (code 45 (n + 1) ∷ []) []) ++ cs) l ≡ pooled s places cs l
      go true b = acted_pool 44 (n + 1) (omega arith) (omega arith) (omega arith) cs l
      go false true = acted_pool 45 (n + 1) (omega arith) (omega arith) (omega arith) cs l
      go false false = refl

  -- ---- the entries of a tree, and then some more

  mutual
    unfolding codes_of leaves_of code_of entries_of pool_of expand

    expanded : {t : Tree} → Sound t → entries_of t ≤ 512 → (cs : List ℕ) (l at : ℕ) → Stand s places sizes l (leaves_of t)
        → expand s places (codes_of t ++ cs) l at ≡ code_of at t ++ expand s places cs (l + length (leaves_of t)) (at + pool_of t)
    expanded (a_leaf {x} k r) few cs l at h =
        let c = code (kind_of x) 0 in
        let e : op_in c ≡ kind_of x = code_op (kind_of x) 0 (omega arith) (omega arith) in
        let o = is_operand_lem x k r in
        let b = ap length (pushed_bytes c x e o (get_or places l 0) h.0) ∙ leaf_size x in
        ap₂ (λ (y : Entry) (ys : List Entry). y ∷ ys) (pushed_entry c x e o (get_or places l 0) h.0 at)
        (ap₂ (λ (m n : ℕ). expand s places cs (l + m) (at + n)) (pushed_one c (kind_of x) e o) b)
    expanded (a_group d) few cs l at h = expanded d few cs l at h
    expanded (a_unary {k} {t} a d e) few cs l at h =
        rw append_assoc (expanded d (omega arith) (code k 0 ∷ cs) l at h
        ∙ ap (λ (es : List Entry). code_of at t ++ es) (acted k 0 a.over a.under (omega arith) cs (l + length (leaves_of t)) (at + pool_of t))
        ∙ sym (append_assoc (code_of at t) (entry k 0 0 ∷ []) (expand s places cs (l + length (leaves_of t)) (at + pool_of t))))
    expanded (a_binary {k} {t} {u} a d e f g) few cs l at h =
        let lu = l + length (leaves_of t) in
        let pu = at + pool_of t in
        let ends : l + length (leaves_of t ++ leaves_of u) ≡ lu + length (leaves_of u) = omega (arith, length-append (leaves_of t) (leaves_of u)) in
        let pool : at + (pool_of t + pool_of u) ≡ pu + pool_of u = omega arith in
        let last = expand s places cs (lu + length (leaves_of u)) (pu + pool_of u) in
        let right : expand s places (codes_of u ++ (code k 0 ∷ cs)) lu pu ≡ code_of pu u ++ (entry k 0 0 ∷ last) =
        expanded f (omega arith) (code k 0 ∷ cs) lu pu (stand_rest (leaves_of t) (leaves_of u) l h)
        ∙ ap (λ (es : List Entry). code_of pu u ++ es) (acted k 0 a.over a.under (omega arith) cs (lu + length (leaves_of u)) (pu + pool_of u)) in
        let all : expand s places (codes_of t ++ (skip_codes k (entries_of u) ++ (codes_of u ++ (code k 0 ∷ cs)))) l at ≡ code_of at t ++ (skip_entries k (entries_of u) ++ (code_of pu u ++ (entry k 0 0 ∷ last))) =
        expanded d (omega arith) (skip_codes k (entries_of u) ++ (codes_of u ++ (code k 0 ∷ cs))) l at (stand_left (leaves_of t) (leaves_of u) l h)
        ∙ ap (λ (es : List Entry). code_of at t ++ es)
        (skipped k (entries_of u) (omega arith) (codes_of u ++ (code k 0 ∷ cs)) lu pu ∙ ap (λ (es : List Entry). skip_entries k (entries_of u) ++ es) right) in
        rw (ends, pool) (simp append_assoc all)
    expanded (a_call {x} {ts} a d) few cs l at h =
        let f = function_of x in
        rw append_assoc (expanded_in d (omega arith) (call_code f (count_of ts) ∷ cs) l at h
        ∙ ap (λ (es : List Entry). code_in at ts ++ es) (acted f (call_entry f (count_of ts)).a a.over a.under (omega (arith, a.low)) cs (l + length (leaves_in ts)) (at + pool_in ts))
        ∙ sym (append_assoc (code_in at ts) (call_entry f (count_of ts) ∷ []) (expand s places cs (l + length (leaves_in ts)) (at + pool_in ts))))

    expanded_in : {ts : Trees} → SoundIn ts → entries_in ts ≤ 512 → (cs : List ℕ) (l at : ℕ) → Stand s places sizes l (leaves_in ts)
        → expand s places (codes_in ts ++ cs) l at ≡ code_in at ts ++ expand s places cs (l + length (leaves_in ts)) (at + pool_in ts)
    expanded_in no_more few cs l at h =
        let n : l + 0 ≡ l = omega arith in
        let m : at + 0 ≡ at = omega arith in
        rw (n, m)
    expanded_in (one_more {ts} {t} d e f) few cs l at h =
        let lu = l + length (leaves_in ts) in
        let pu = at + pool_in ts in
        let ends : l + length (leaves_in ts ++ leaves_of t) ≡ lu + length (leaves_of t) = omega (arith, length-append (leaves_in ts) (leaves_of t)) in
        let pool : at + (pool_in ts + pool_of t) ≡ pu + pool_of t = omega arith in
        let all : expand s places (codes_in ts ++ (codes_of t ++ cs)) l at ≡ code_in at ts ++ (code_of pu t ++ expand s places cs (lu + length (leaves_of t)) (pu + pool_of t)) =
        expanded_in d (omega arith) (codes_of t ++ cs) l at (stand_left (leaves_in ts) (leaves_of t) l h)
        ∙ ap (λ (es : List Entry). code_in at ts ++ es) (expanded e (omega arith) cs lu pu (stand_rest (leaves_in ts) (leaves_of t) l h)) in
        rw (ends, pool) (simp append_assoc all)

  -- ---- and its pool

  mutual
    unfolding codes_of leaves_of bytes_of entries_of pooled

    gathered : {t : Tree} → Sound t → entries_of t ≤ 512 → (cs : List ℕ) (l : ℕ) → Stand s places sizes l (leaves_of t)
        → pooled s places (codes_of t ++ cs) l ≡ bytes_of t ++ pooled s places cs (l + length (leaves_of t))
    gathered (a_leaf {x} k r) few cs l h =
        let c = code (kind_of x) 0 in
        let e : op_in c ≡ kind_of x = code_op (kind_of x) 0 (omega arith) (omega arith) in
        let o = is_operand_lem x k r in
        ap₂ (λ (b : List ℕ) (m : ℕ). b ++ pooled s places cs (l + m)) (pushed_bytes c x e o (get_or places l 0) h.0) (pushed_one c (kind_of x) e o)
    gathered (a_group d) few cs l h = gathered d few cs l h
    gathered (a_unary {k} {t} a d e) few cs l h =
        rw append_assoc (gathered d (omega arith) (code k 0 ∷ cs) l h
        ∙ ap (λ (b : List ℕ). bytes_of t ++ b) (acted_pool k 0 a.over a.under (omega arith) cs (l + length (leaves_of t))))
    gathered (a_binary {k} {t} {u} a d e f g) few cs l h =
        let lu = l + length (leaves_of t) in
        let ends : l + length (leaves_of t ++ leaves_of u) ≡ lu + length (leaves_of u) = omega (arith, length-append (leaves_of t) (leaves_of u)) in
        let all : pooled s places (codes_of t ++ (skip_codes k (entries_of u) ++ (codes_of u ++ (code k 0 ∷ cs)))) l ≡ bytes_of t ++ (bytes_of u ++ pooled s places cs (lu + length (leaves_of u))) =
        gathered d (omega arith) (skip_codes k (entries_of u) ++ (codes_of u ++ (code k 0 ∷ cs))) l (stand_left (leaves_of t) (leaves_of u) l h)
        ∙ ap (λ (b : List ℕ). bytes_of t ++ b)
        (skipped_pool k (entries_of u) (omega arith) (codes_of u ++ (code k 0 ∷ cs)) lu
        ∙ gathered f (omega arith) (code k 0 ∷ cs) lu (stand_rest (leaves_of t) (leaves_of u) l h)
        ∙ ap (λ (b : List ℕ). bytes_of u ++ b) (acted_pool k 0 a.over a.under (omega arith) cs (lu + length (leaves_of u)))) in
        rw ends (simp append_assoc all)
    gathered (a_call {x} {ts} a d) few cs l h =
        let f = function_of x in
        rw append_assoc (gathered_in d (omega arith) (call_code f (count_of ts) ∷ cs) l h
        ∙ ap (λ (b : List ℕ). bytes_in ts ++ b) (acted_pool f (call_entry f (count_of ts)).a a.over a.under (omega (arith, a.low)) cs (l + length (leaves_in ts))))

    gathered_in : {ts : Trees} → SoundIn ts → entries_in ts ≤ 512 → (cs : List ℕ) (l : ℕ) → Stand s places sizes l (leaves_in ts)
        → pooled s places (codes_in ts ++ cs) l ≡ bytes_in ts ++ pooled s places cs (l + length (leaves_in ts))
    gathered_in no_more few cs l h = let n : l + 0 ≡ l = omega arith in rw n
    gathered_in (one_more {ts} {t} d e f) few cs l h =
        let lu = l + length (leaves_in ts) in
        let ends : l + length (leaves_in ts ++ leaves_of t) ≡ lu + length (leaves_of t) = omega (arith, length-append (leaves_in ts) (leaves_of t)) in
        let all : pooled s places (codes_in ts ++ (codes_of t ++ cs)) l ≡ bytes_in ts ++ (bytes_of t ++ pooled s places cs (lu + length (leaves_of t))) =
        gathered_in d (omega arith) (codes_of t ++ cs) l (stand_left (leaves_in ts) (leaves_of t) l h)
        ∙ ap (λ (b : List ℕ). bytes_in ts ++ b) (gathered e (omega arith) cs lu (stand_rest (leaves_in ts) (leaves_of t) l h)) in
        rw ends (simp append_assoc all)

  -- ---- and its operands' sizes

  acted_sized : (op a : ℕ) → 5 < op → op < 64 → a < 1024 → (cs : List ℕ) (l : ℕ) → Sized s places sizes cs l → Sized s places sizes (code op a ∷ cs) l
  acted_sized op a over under low cs l h =
      let none : is_operand (op_in (code op a)) ≡ false = ap is_operand (code_op op a under low) ∙ not_operand op over in
      let n : l + 0 ≡ l = omega arith in
      (λ p. false_true (sym none ∙ p), rw (none, n) h)

  skipped_sized : (k n : ℕ) → n ≤ 512 → (cs : List ℕ) (l : ℕ) → Sized s places sizes cs l → Sized s places sizes (skip_codes k n ++ cs) l
  skipped_sized k n h cs l g = go (eqb k 41) (eqb k 43)
    where
      go : (a b : Bool) → Sized s places sizes (cond a (code 44 (n + 1) ∷ []) (cond b (code 45 (n + 1) ∷ []) []) ++ cs) l
      go true b = acted_sized 44 (n + 1) (omega arith) (omega arith) (omega arith) cs l g
      go false true = acted_sized 45 (n + 1) (omega arith) (omega arith) (omega arith) cs l g
      go false false = g

  mutual
    unfolding codes_of leaves_of entries_of

    sized : {t : Tree} → Sound t → entries_of t ≤ 512 → (cs : List ℕ) (l : ℕ) → Stand s places sizes l (leaves_of t) → Sized s places sizes cs (l + length (leaves_of t)) → Sized s places sizes (codes_of t ++ cs) l
    sized (a_leaf {x} k r) few cs l h g =
        let c = code (kind_of x) 0 in
        let e : op_in c ≡ kind_of x = code_op (kind_of x) 0 (omega arith) (omega arith) in
        let o = is_operand_lem x k r in
        (λ p. h.1 ∙ sym (ap length (pushed_bytes c x e o (get_or places l 0) h.0) ∙ leaf_size x), rw (pushed_one c (kind_of x) e o) g)
    sized (a_group d) few cs l h g = sized d few cs l h g
    sized (a_unary {k} {t} a d e) few cs l h g = rw append_assoc (sized d (omega arith) (code k 0 ∷ cs) l h (acted_sized k 0 a.over a.under (omega arith) cs (l + length (leaves_of t)) g))
    sized (a_binary {k} {t} {u} a d e f g) few cs l h q =
        let lu = l + length (leaves_of t) in
        let ends : l + length (leaves_of t ++ leaves_of u) ≡ lu + length (leaves_of u) = omega (arith, length-append (leaves_of t) (leaves_of u)) in
        let right : Sized s places sizes (codes_of u ++ (code k 0 ∷ cs)) lu =
        sized f (omega arith) (code k 0 ∷ cs) lu (stand_rest (leaves_of t) (leaves_of u) l h) (acted_sized k 0 a.over a.under (omega arith) cs (lu + length (leaves_of u)) (rw ends at q)) in
        let all : Sized s places sizes (codes_of t ++ (skip_codes k (entries_of u) ++ (codes_of u ++ (code k 0 ∷ cs)))) l =
        sized d (omega arith) (skip_codes k (entries_of u) ++ (codes_of u ++ (code k 0 ∷ cs))) l (stand_left (leaves_of t) (leaves_of u) l h) (skipped_sized k (entries_of u) (omega arith) (codes_of u ++ (code k 0 ∷ cs)) lu right) in
        simp append_assoc all
    sized (a_call {x} {ts} a d) few cs l h g =
        let f = function_of x in
        rw append_assoc (sized_in d (omega arith) (call_code f (count_of ts) ∷ cs) l h (acted_sized f (call_entry f (count_of ts)).a a.over a.under (omega (arith, a.low)) cs (l + length (leaves_in ts)) g))

    sized_in : {ts : Trees} → SoundIn ts → entries_in ts ≤ 512 → (cs : List ℕ) (l : ℕ) → Stand s places sizes l (leaves_in ts) → Sized s places sizes cs (l + length (leaves_in ts)) → Sized s places sizes (codes_in ts ++ cs) l
    sized_in no_more few cs l h g = let n : l + 0 ≡ l = omega arith in rw n at g
    sized_in (one_more {ts} {t} d e f) few cs l h g =
        let lu = l + length (leaves_in ts) in
        let ends : l + length (leaves_in ts ++ leaves_of t) ≡ lu + length (leaves_of t) = omega (arith, length-append (leaves_in ts) (leaves_of t)) in
        let all : Sized s places sizes (codes_in ts ++ (codes_of t ++ cs)) l = sized_in d (omega arith) (codes_of t ++ cs) l (stand_left (leaves_in ts) (leaves_of t) l h) (sized e (omega arith) cs lu (stand_rest (leaves_in ts) (leaves_of t) l h) (rw ends at g)) in
        simp append_assoc all

  -- ---- the whole

  module _ (t : Tree) (d : Sound t) (few : entries_of t ≤ 512) (h : Stand s places sizes 0 (leaves_of t)) where
    pub entries_are : expand s places (codes_of t) 0 0 ≡ code_of 0 t
    unfolding expand
    entries_are = ap (λ (cs : List ℕ). expand s places cs 0 0) (sym (append-nil (codes_of t))) ∙ expanded d few [] 0 0 h ∙ append-nil (code_of 0 t)

    pub pool_is : pooled s places (codes_of t) 0 ≡ bytes_of t
    unfolding pooled
    pool_is = ap (λ (cs : List ℕ). pooled s places cs 0) (sym (append-nil (codes_of t))) ∙ gathered d few [] 0 h ∙ append-nil (bytes_of t)

    pub sizes_are : Sized s places sizes (codes_of t) 0
    sizes_are = subst (λ (cs : List ℕ). Sized s places sizes cs 0) (append-nil (codes_of t)) (sized d few [] 0 h tt)
