-- The code of a tree whose forms and kinds are right: it leaves one slot, its skips land right, and each entry is right by itself. Assumes nothing.
use Prim.Native.Nat.{ℕ, zero, suc, ◌+◌, ◌≤◌, ◌<◌}
use native.Mathlib.Nat.{not-suc-le-zero, le_of_suc-le-suc}
use native.Mathlib.Numerals.{add-one}
use native.Mathlib.Omega.{arith}
use mathlib.Core.Path.{◌≡◌, refl, sym, ap, ◌∙◌, subst}
use mathlib.Core.Bool.{Bool, true, false, cond, not, ◌||◌}
use mathlib.Core.List.{List, [], ◌∷◌, ◌++◌, append_assoc, append-nil}
use mathlib.Core.Option.{Option, some}
use lib.Dec.{eqb}
use lib.ListN.{length, replicate, get_or, length-append, length-replicate}
use borrow.Author.Tests.{eqb-true, le-leb}
use Rattle.common.specs.Each.{Each}
use Rattle.common.proofs.Choice.{false_true}
use Rattle.common.proofs.Each.{each_append, each_at}
use Rattle.opcode.specs.Opcode.{Kind, logic, value}
use Rattle.table.specs.declared.Entry.{Entry}
use Rattle.table.specs.Table.{blank}
use Rattle.table.specs.Check.{after, shape_from, is_skip, entry_right, lands_right, skips_right}
use Rattle.table.specs.Theorems.{Fits}
use Rattle.table.proofs.Tests.{are_true}
use Rattle.table.proofs.Numbers.{eq_shape}
use Rattle.table.proofs.Shapes.{from_front}
use Rattle.table.proofs.Passes.{all_land}
use Rattle.lexer.specs.Token.{Token, name, int32, int64, real, text, symbol, kind_of}
use Rattle.grammar.specs.Tree.{Tree, leaf, group, unary, binary, call, Trees, none, ◌then◌}
use Rattle.grammar.specs.Function.{function_of}
use Rattle.grammar.specs.Size.{count_of, skips, entries_of, entries_in, pool_bytes, pool_of, pool_in, depth_of, depth_in}
use Rattle.grammar.specs.Judge.{gives_logic, takes_logic, is_logic}
use Rattle.translator.specs.Compile.{entry, leaf_entry, skip_entries, call_entry, code_of, code_in, leaf_bytes, bytes_of, bytes_in}
use Rattle.translator.proofs.Entries.{kind_by, does_flow, Acts, Skips, skip_false, skip_true, TokenRight, leaf_does, leaf_pushes}

-- ---- sizes

pub skip_size : (k n : ℕ) → length (skip_entries k n) + 1 ≡ cond (skips k) 2 1
skip_size k n = go (eqb k 41) (eqb k 43)
  where
    go : (a b : Bool) → length (cond a (entry 44 (n + 1) 0 ∷ []) (cond b (entry 45 (n + 1) 0 ∷ []) [])) + 1 ≡ cond (a || b) 2 1
    go true b = refl
    go false true = refl
    go false false = refl

mutual
  unfolding code_of entries_of

  pub size : (t : Tree) (at : ℕ) → length (code_of at t) ≡ entries_of t
  size (leaf x) at = refl
  size (group t) at = size t at
  size (unary k t) at = length-append (code_of at t) (entry k 0 0 ∷ []) ∙ ap (λ (n : ℕ). n + 1) (size t at)
  size (binary k t u) at =
      let rest = code_of (at + pool_of t) u ++ (entry k 0 0 ∷ []) in
      let a = length-append (code_of at t) (skip_entries k (entries_of u) ++ rest) in
      let b = length-append (skip_entries k (entries_of u)) rest in
      let c = length-append (code_of (at + pool_of t) u) (entry k 0 0 ∷ []) in
      let s = skip_size k (entries_of u) in
      omega (arith, a, b, c, s, size t at, size u (at + pool_of t))
  size (call x ts) at = length-append (code_in at ts) (call_entry (function_of x) (count_of ts) ∷ []) ∙ ap (λ (n : ℕ). n + 1) (size_in ts at)

  pub size_in : (ts : Trees) (at : ℕ) → length (code_in at ts) ≡ entries_in ts
  size_in none at = refl
  size_in (◌then◌ ts t) at = omega (arith, length-append (code_in at ts) (code_of (at + pool_in ts) t), size_in ts at, size t (at + pool_in ts))

pub leaf_size : (x : Token) → length (leaf_bytes x) ≡ pool_bytes x
leaf_size (name s e) = refl
leaf_size (int32 z) = refl
leaf_size (int64 z) = refl
leaf_size (real x) = refl
leaf_size (text s) = refl
leaf_size (symbol k) = refl

mutual
  unfolding bytes_of pool_of

  pub pool_size : (t : Tree) → length (bytes_of t) ≡ pool_of t
  pool_size (leaf x) = leaf_size x
  pool_size (group t) = pool_size t
  pool_size (unary k t) = pool_size t
  pool_size (binary k t u) = omega (arith, length-append (bytes_of t) (bytes_of u), pool_size t, pool_size u)
  pool_size (call x ts) = pool_in_lem ts

  pub pool_in_lem : (ts : Trees) → length (bytes_in ts) ≡ pool_in ts
  pool_in_lem none = refl
  pool_in_lem (◌then◌ ts t) = omega (arith, length-append (bytes_in ts) (bytes_of t), pool_in_lem ts, pool_size t)

-- ---- trees whose operators, forms and kinds are right

mutual
  pub data Sound : Tree → Type 0 where
    a_leaf : {x : Token} → kind_of x ≤ 5 → TokenRight x → Sound (leaf x)
    a_group : {t : Tree} → Sound t → Sound (group t)
    a_unary : {k : ℕ} {t : Tree} → Acts (entry k 0 0) (kind_by (takes_logic k) ∷ []) (kind_by (gives_logic k)) → Sound t → is_logic t ≡ takes_logic k → Sound (unary k t)
    a_binary : {k : ℕ} {t u : Tree} → Acts (entry k 0 0) (kind_by (takes_logic k) ∷ kind_by (takes_logic k) ∷ []) (kind_by (gives_logic k)) → Sound t → is_logic t ≡ takes_logic k → Sound u → is_logic u ≡ takes_logic k
        → Sound (binary k t u)
    a_call : {x : Token} {ts : Trees} → Acts (call_entry (function_of x) (count_of ts)) (replicate (count_of ts) value) (kind_by (gives_logic (function_of x))) → SoundIn ts → Sound (call x ts)

  pub data SoundIn : Trees → Type 0 where
    no_more : SoundIn none
    one_more : {ts : Trees} {t : Tree} → SoundIn ts → Sound t → is_logic t ≡ false → SoundIn (◌then◌ ts t)

-- ---- the kinds after all of some entries

abbrev pub ended : List Entry → Option (List Kind) → Option (List Kind)
ended es s = shape_from es s (length es)

pub ended_append : (xs ys : List Entry) (s : Option (List Kind)) → ended (xs ++ ys) s ≡ ended ys (ended xs s)
unfolding shape_from
ended_append [] ys s = refl
ended_append (x ∷ xs) ys s = ended_append xs ys (after x s)

-- and then some more
then_ended : (xs ys : List Entry) (ks ls : List Kind) → ended xs (some ks) ≡ some ls → ended (xs ++ ys) (some ks) ≡ ended ys (some ls)
then_ended xs ys ks ls e = ended_append xs ys (some ks) ∙ ap (ended ys) e

pub ended_one : (e : Entry) (s : Option (List Kind)) → ended (e ∷ []) s ≡ after e s
unfolding shape_from
ended_one e s = refl

mutual
  unfolding depth_of

  pub depth_some : (t : Tree) → 1 ≤ depth_of t
  depth_some (leaf x) = omega arith
  depth_some (group t) = depth_some t
  depth_some (unary k t) = depth_some t
  depth_some (binary k t u) = let h = depth_some t in omega arith
  depth_some (call x ts) = depth_in_lem ts

  depth_in_lem : (ts : Trees) → 1 ≤ depth_in ts
  depth_in_lem none = omega arith
  depth_in_lem (◌then◌ ts t) = let h = depth_some t in omega arith

-- a skip leaves the kinds
skip_ended : (k n : ℕ) (ks : List Kind) → length ks < 32 → ended (skip_entries k n) (some (kind_by (takes_logic k) ∷ ks)) ≡ some (kind_by (takes_logic k) ∷ ks)
unfolding shape_from
skip_ended k n ks h = go (eqb k 41) (eqb k 43) refl refl
  where
    go : (a b : Bool) → eqb k 41 ≡ a → eqb k 43 ≡ b
        → ended (cond a (entry 44 (n + 1) 0 ∷ []) (cond b (entry 45 (n + 1) 0 ∷ []) [])) (some (kind_by (takes_logic k) ∷ ks)) ≡ some (kind_by (takes_logic k) ∷ ks)
    go true b ea eb = rw (eqb-true k 41 ea) (does_flow (skip_false n).does ks h)
    go false true ea eb = rw (eqb-true k 43 eb) (does_flow (skip_true n).does ks h)
    go false false ea eb = refl

mutual
  unfolding code_of depth_of is_logic shape_from count_of

  pub leaves : {t : Tree} → Sound t → (at : ℕ) (ks : List Kind) → length ks + depth_of t ≤ 32 → ended (code_of at t) (some ks) ≡ some (kind_by (is_logic t) ∷ ks)
  leaves (a_leaf {x} k r) at ks h = does_flow (leaf_does at x k r) ks (omega arith)
  leaves (a_group d) at ks h = leaves d at ks h
  leaves (a_unary {k} {t} a d e) at ks h =
      let p = depth_some t in
      then_ended (code_of at t) (entry k 0 0 ∷ []) ks (kind_by (is_logic t) ∷ ks) (leaves d at ks h) ∙ rw e (does_flow a.does ks (omega arith))
  leaves (a_binary {k} {t} {u} a d e f g) at ks h =
      let p = depth_some t in
      let rest = code_of (at + pool_of t) u ++ (entry k 0 0 ∷ []) in
      let ls = kind_by (takes_logic k) ∷ ks in
      let left : ended (code_of at t) (some ks) ≡ some ls = leaves d at ks (omega arith) ∙ rw e in
      let right : ended (code_of (at + pool_of t) u) (some ls) ≡ some (kind_by (takes_logic k) ∷ ls) = leaves f (at + pool_of t) ls (omega arith) ∙ rw g in
      then_ended (code_of at t) (skip_entries k (entries_of u) ++ rest) ks ls left
      ∙ then_ended (skip_entries k (entries_of u)) rest ls ls (skip_ended k (entries_of u) ks (omega arith))
      ∙ then_ended (code_of (at + pool_of t) u) (entry k 0 0 ∷ []) ls (kind_by (takes_logic k) ∷ ls) right
      ∙ does_flow a.does ks (omega arith)
  leaves (a_call {x} {ts} a d) at ks h =
      let p = depth_in_lem ts in
      then_ended (code_in at ts) _ ks (replicate (count_of ts) value ++ ks) (leaves_in d at ks h) ∙ does_flow a.does ks (omega arith)

  leaves_in : {ts : Trees} → SoundIn ts → (at : ℕ) (ks : List Kind) → length ks + depth_in ts ≤ 32 → ended (code_in at ts) (some ks) ≡ some (replicate (count_of ts) value ++ ks)
  leaves_in no_more at ks h = refl
  leaves_in (one_more {ts} {t} d e f) at ks h =
      let n : length (replicate (count_of ts) value ++ ks) ≡ count_of ts + length ks = simp (length-append, length-replicate) in
      let ls = replicate (count_of ts) value ++ ks in
      then_ended (code_in at ts) (code_of (at + pool_in ts) t) ks ls (leaves_in d at ks (omega arith))
      ∙ leaves e (at + pool_in ts) ls (omega arith)
      ∙ rw (f, add-one)

-- ---- each skip lands within the entries, on the kinds that it was reached with

abbrev Landing : Entry → List Entry → Option (List Kind) → Type 0
Landing e es s = is_skip e ≡ true → (e.a ≤ length es) × (shape_from es (after e s) e.a ≡ s)

abbrev Lands : List Entry → Option (List Kind) → Type 0
Lands [] s = Unit {0}
Lands (e ∷ es) s = Landing e es s × Lands es (after e s)

landing_more : (e : Entry) (es ys : List Entry) (s : Option (List Kind)) → Landing e es s → Landing e (es ++ ys) s
landing_more e es ys s h t =
    let r = h t in
    let l = r.0 in
    (rw length-append (omega arith), from_front es ys (after e s) e.a l ∙ r.1)

lands_append : (xs ys : List Entry) (s : Option (List Kind)) → Lands xs s → Lands ys (ended xs s) → Lands (xs ++ ys) s
unfolding shape_from
lands_append [] ys s a b = b
lands_append (x ∷ xs) ys s a b = (landing_more x xs ys s a.0, lands_append xs ys (after x s) a.1 b)

plain_lands : (e : Entry) (s : Option (List Kind)) → is_skip e ≡ false → Lands (e ∷ []) s
plain_lands e s h = (λ t. false_true (sym h ∙ t), tt)

-- a skip over all of some entries, which leave the kinds as they were
module _ (n : ℕ) (es : List Entry) (ks : List Kind) (h : length ks < 32) (l : length es ≡ n + 1) where
  over_lands : (x : Entry) → x.a ≡ n + 1 → Skips x → ended es (some (logic ∷ ks)) ≡ some (logic ∷ ks) → Lands es (some (logic ∷ ks)) → Lands (x ∷ es) (some (logic ∷ ks))
  over_lands x a k e d =
      let f : after x (some (logic ∷ ks)) ≡ some (logic ∷ ks) = does_flow k.does ks h in
      let to : shape_from es (some (logic ∷ ks)) x.a ≡ some (logic ∷ ks) = ap (shape_from es (some (logic ∷ ks))) (a ∙ sym l) ∙ e in
      (λ t. (omega arith, ap (λ (s : Option (List Kind)). shape_from es s x.a) f ∙ to), subst (Lands es) (sym f) d)

  skip_lands : (k : ℕ) → ended es (some (kind_by (takes_logic k) ∷ ks)) ≡ some (kind_by (gives_logic k) ∷ ks) → Lands es (some (kind_by (takes_logic k) ∷ ks))
      → Lands (skip_entries k n ++ es) (some (kind_by (takes_logic k) ∷ ks))
  skip_lands k e d = go (eqb k 41) (eqb k 43) refl refl
    where
      go : (a b : Bool) → eqb k 41 ≡ a → eqb k 43 ≡ b → Lands (cond a (entry 44 (n + 1) 0 ∷ []) (cond b (entry 45 (n + 1) 0 ∷ []) []) ++ es) (some (kind_by (takes_logic k) ∷ ks))
      go true b ea eb =
          let q = eqb-true k 41 ea in
          rw q (over_lands (entry 44 (n + 1) 0) refl (skip_false n) (rw q at e) (rw q at d))
      go false true ea eb =
          let q = eqb-true k 43 eb in
          rw q (over_lands (entry 45 (n + 1) 0) refl (skip_true n) (rw q at e) (rw q at d))
      go false false ea eb = d

leaf_plain : (at : ℕ) (x : Token) → kind_of x ≤ 5 → TokenRight x → is_skip (leaf_entry at x) ≡ false
leaf_plain at (name s b) k r = refl
leaf_plain at (int32 z) k r = refl
leaf_plain at (int64 z) k r = refl
leaf_plain at (real x) k r = refl
leaf_plain at (text s) k r = refl
leaf_plain at (symbol j) k r = absurd (omega arith)

mutual
  unfolding code_of depth_of is_logic shape_from count_of

  pub lands : {t : Tree} → Sound t → (at : ℕ) (ks : List Kind) → length ks + depth_of t ≤ 32 → Lands (code_of at t) (some ks)
  lands (a_leaf {x} k r) at ks h = plain_lands (leaf_entry at x) (some ks) (leaf_plain at x k r)
  lands (a_group d) at ks h = lands d at ks h
  lands (a_unary {k} {t} a d e) at ks h = lands_append (code_of at t) (entry k 0 0 ∷ []) (some ks) (lands d at ks h) (plain_lands (entry k 0 0) _ a.plain)
  lands (a_binary {k} {t} {u} a d e f g) at ks h =
      let p = depth_some t in
      let ls = kind_by (takes_logic k) ∷ ks in
      let rest = code_of (at + pool_of t) u ++ (entry k 0 0 ∷ []) in
      let left : ended (code_of at t) (some ks) ≡ some ls = leaves d at ks (omega arith) ∙ rw e in
      let right : ended (code_of (at + pool_of t) u) (some ls) ≡ some (kind_by (takes_logic k) ∷ ls) = leaves f (at + pool_of t) ls (omega arith) ∙ rw g in
      let all : ended rest (some ls) ≡ some (kind_by (gives_logic k) ∷ ks) =
      then_ended (code_of (at + pool_of t) u) (entry k 0 0 ∷ []) ls (kind_by (takes_logic k) ∷ ls) right ∙ does_flow a.does ks (omega arith) in
      let n : length rest ≡ entries_of u + 1 = length-append (code_of (at + pool_of t) u) (entry k 0 0 ∷ []) ∙ ap (λ (m : ℕ). m + 1) (size u (at + pool_of t)) in
      let inner : Lands rest (some ls) = lands_append (code_of (at + pool_of t) u) (entry k 0 0 ∷ []) (some ls) (lands f (at + pool_of t) ls (omega arith)) (plain_lands (entry k 0 0) _ a.plain) in
      lands_append (code_of at t) (skip_entries k (entries_of u) ++ rest) (some ks) (lands d at ks (omega arith))
      (rw left (skip_lands (entries_of u) rest ks (omega arith) n k all inner))
  lands (a_call {x} {ts} a d) at ks h =
      lands_append (code_in at ts) (call_entry (function_of x) (count_of ts) ∷ []) (some ks) (lands_in d at ks h) (plain_lands (call_entry (function_of x) (count_of ts)) _ a.plain)

  lands_in : {ts : Trees} → SoundIn ts → (at : ℕ) (ks : List Kind) → length ks + depth_in ts ≤ 32 → Lands (code_in at ts) (some ks)
  lands_in no_more at ks h = tt
  lands_in (one_more {ts} {t} d e f) at ks h =
      let ls = replicate (count_of ts) value ++ ks in
      let n : length (replicate (count_of ts) value ++ ks) ≡ count_of ts + length ks = simp (length-append, length-replicate) in
      lands_append (code_in at ts) (code_of (at + pool_in ts) t) (some ks) (lands_in d at ks (omega arith))
      (rw (leaves_in d at ks (omega arith)) (lands e (at + pool_in ts) ls (omega arith)))

-- the same by the index of the skip
lands_at : (es : List Entry) (s : Option (List Kind)) (i : ℕ) → Lands es s → i < length es → is_skip (get_or es i blank) ≡ true
    → (i + (get_or es i blank).a + 1 ≤ length es) × (shape_from es s (i + (get_or es i blank).a + 1) ≡ shape_from es s i)
unfolding shape_from
lands_at [] s i d h t = absurd (not-suc-le-zero h)
lands_at (x ∷ es) s zero d h t =
    let l = d.0 t in
    let n : 0 + x.a + 1 ≡ suc x.a = omega arith in
    (omega arith, rw n l.1)
lands_at (x ∷ es) s (suc i) d h t =
    let l = lands_at es (after x s) i d.1 (le_of_suc-le-suc h) t in
    let n : suc i + (get_or es i blank).a + 1 ≡ suc (i + (get_or es i blank).a + 1) = omega arith in
    (omega arith, rw n l.1)

pub skips_right_lem : (t : Tree) → Sound t → depth_of t ≤ 32 → skips_right (code_of 0 t) (length (code_of 0 t)) ≡ true
skips_right_lem t d h = all_land (code_of 0 t) (length (code_of 0 t)) (λ i l. go i l (is_skip (get_or (code_of 0 t) i blank)) refl)
  where
    go : (i : ℕ) → i < length (code_of 0 t) → (b : Bool) → is_skip (get_or (code_of 0 t) i blank) ≡ b → (not b || lands_right (code_of 0 t) i) ≡ true
    go i l true e =
        let r = lands_at (code_of 0 t) (some []) i (lands d 0 [] (omega arith)) l e in
        are_true _ _ (le-leb _ _ r.0) (eq_shape _ _ r.1)
    go i l false e = refl

-- ---- each entry by itself

-- bytes of a pool between others
abbrev pub EntryGood : List ℕ → Entry → Type 0
EntryGood pool e = (entry_right pool e ≡ true) × Fits e

skip_good : (pool : List ℕ) (k n : ℕ) → n ≤ 512 → Each (EntryGood pool) (skip_entries k n)
skip_good pool k n h = go (eqb k 41) (eqb k 43)
  where
    go : (a b : Bool) → Each (EntryGood pool) (cond a (entry 44 (n + 1) 0 ∷ []) (cond b (entry 45 (n + 1) 0 ∷ []) []))
    go true b = (((skip_false n).right pool, (skip_false n).fits (omega arith)), tt)
    go false true = (((skip_true n).right pool, (skip_true n).fits (omega arith)), tt)
    go false false = tt

acts_good : (pool : List ℕ) {e : Entry} {ts : List Kind} {g : Kind} → Acts e ts g → Each (EntryGood pool) (e ∷ [])
acts_good pool a = ((a.right pool, a.fits), tt)

-- the same pool, its parts grouped otherwise
pub regroup : (pre s t post : List ℕ) → (pre ++ s) ++ (t ++ post) ≡ pre ++ ((s ++ t) ++ post)
regroup pre s t post = simp append_assoc

pub before : (pre s t post : List ℕ) → pre ++ (s ++ (t ++ post)) ≡ pre ++ ((s ++ t) ++ post)
before pre s t post = simp append_assoc

mutual
  unfolding code_of bytes_of entries_of pool_of

  good : {t : Tree} → Sound t → (at : ℕ) (pre post : List ℕ) → length pre ≡ at → at + pool_of t ≤ 4096 → entries_of t ≤ 512 → Each (EntryGood (pre ++ (bytes_of t ++ post))) (code_of at t)
  good (a_leaf {x} k r) at pre post e p n =
      let s = leaf_size x in
      let g = leaf_pushes pre post at e x k r (omega arith) (omega arith) in
      ((g.right, g.fits), tt)
  good (a_group d) at pre post e p n = good d at pre post e p n
  good (a_unary {k} {t} a d f) at pre post e p n = each_append _ (code_of at t) (entry k 0 0 ∷ []) (good d at pre post e p (omega arith)) (acts_good _ a)
  good (a_binary {k} {t} {u} a d f g h) at pre post e p n =
      let pool = pre ++ ((bytes_of t ++ bytes_of u) ++ post) in
      let o = skip_size k (entries_of u) in
      let left : Each (EntryGood pool) (code_of at t) = rw before at (good d at pre (bytes_of u ++ post) e (omega arith) (omega arith)) in
      let len : length (pre ++ bytes_of t) ≡ at + pool_of t = length-append pre (bytes_of t) ∙ rw (e, pool_size t) in
      let right : Each (EntryGood pool) (code_of (at + pool_of t) u) = rw regroup at (good g (at + pool_of t) (pre ++ bytes_of t) post len (omega arith) (omega arith)) in
      let rest = code_of (at + pool_of t) u ++ (entry k 0 0 ∷ []) in
      each_append (EntryGood pool) (code_of at t) (skip_entries k (entries_of u) ++ rest) left
      (each_append (EntryGood pool) (skip_entries k (entries_of u)) rest (skip_good pool k (entries_of u) (omega arith))
      (each_append (EntryGood pool) (code_of (at + pool_of t) u) (entry k 0 0 ∷ []) right (acts_good pool a)))
  good (a_call {x} {ts} a d) at pre post e p n =
      each_append _ (code_in at ts) (call_entry (function_of x) (count_of ts) ∷ []) (good_in d at pre post e p (omega arith)) (acts_good _ a)

  good_in : {ts : Trees} → SoundIn ts → (at : ℕ) (pre post : List ℕ) → length pre ≡ at → at + pool_in ts ≤ 4096 → entries_in ts ≤ 512 → Each (EntryGood (pre ++ (bytes_in ts ++ post))) (code_in at ts)
  good_in no_more at pre post e p n = tt
  good_in (one_more {ts} {t} d f g) at pre post e p n =
      let pool = pre ++ ((bytes_in ts ++ bytes_of t) ++ post) in
      let left : Each (EntryGood pool) (code_in at ts) = rw before at (good_in d at pre (bytes_of t ++ post) e (omega arith) (omega arith)) in
      let len : length (pre ++ bytes_in ts) ≡ at + pool_in ts = length-append pre (bytes_in ts) ∙ rw (e, pool_in_lem ts) in
      let right : Each (EntryGood pool) (code_of (at + pool_in ts) t) = rw regroup at (good f (at + pool_in ts) (pre ++ bytes_in ts) post len (omega arith) (omega arith)) in
      each_append (EntryGood pool) (code_in at ts) (code_of (at + pool_in ts) t) left right

pub good_all : (t : Tree) → Sound t → pool_of t ≤ 4096 → entries_of t ≤ 512 → Each (EntryGood (bytes_of t)) (code_of 0 t)
good_all t d p n = rw append-nil at (good d 0 [] [] refl (omega arith) n)

pub good_at : (t : Tree) → Sound t → pool_of t ≤ 4096 → entries_of t ≤ 512 → (i : ℕ) → i < length (code_of 0 t) → EntryGood (bytes_of t) (get_or (code_of 0 t) i blank)
good_at t d p n i h = each_at (EntryGood (bytes_of t)) (code_of 0 t) blank (good_all t d p n) i h

pub entries_some : (t : Tree) → 1 ≤ entries_of t
unfolding entries_of
entries_some (leaf x) = omega arith
entries_some (group t) = entries_some t
entries_some (unary k t) = omega arith
entries_some (binary k t u) = omega (arith, entries_some t)
entries_some (call x ts) = omega arith
