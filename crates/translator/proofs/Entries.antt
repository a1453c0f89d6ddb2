-- What each entry of a tree's code takes from the stack and gives, and that it is right by itself. Assumes nothing.
use Prim.Native.Nat.{ℕ, zero, suc, ◌+◌, ◌-◌, ◌^◌, ◌≤◌, ◌<◌}
use native.Mathlib.Nat.{not-suc-le-zero}
use native.Mathlib.Decide.{dec_lt}
use native.Mathlib.Omega.{arith}
use mathlib.Core.Path.{◌≡◌, refl, subst}
use mathlib.Core.Bool.{Bool, true, false, cond, not, ◌&&◌, ◌||◌}
use mathlib.Core.List.{List, [], ◌∷◌, ◌++◌}
use mathlib.Core.Option.{some}
use lib.IntN.{ℤ, pos, negsuc}
use lib.Dec.{T, eqb, leb, ltb, lit<}
use lib.Ieee.{binary64, fits}
use lib.ListN.{length, replicate, take, drop, length-append}
use lib.Seq.{drop_at, take_at}
use borrow.Author.Tests.{ne_eqb, eqb-true, leb-true, le-leb, lt-ltb, lt-leb}
use mir.Syntax.{w32, w64}
use mir.Val.{SFits, of_z}
use mir.ValLaws.{of_z_fits}
use Rattle.common.proofs.Choice.{false_true}
use Rattle.word.specs.Word.{Bytes}
use Rattle.number.proofs.Theorems.{bits_bounded}
use Rattle.notice.specs.Field.{name_right}
use Rattle.opcode.specs.Number.{begins_with_op, equals_op, regex_op}
use Rattle.opcode.specs.Opcode.{Kind, logic, value, ops, op_of, unary_takes, unary_gives, binary_takes, binary_gives, takes_of, gives_of}
use Rattle.opcode.specs.declared.Op.{Op}
use Rattle.table.specs.declared.Entry.{Entry}
use Rattle.table.specs.Check.{same_kind, after, is_skip, entry_right}
use Rattle.table.specs.Theorems.{Fits}
use Rattle.table.proofs.Tests.{both_true, are_true}
use Rattle.table.proofs.Numbers.{kind_eq}
use Rattle.table.proofs.Shapes.{pop_front}
use Rattle.table.proofs.Theorems.{widened}
use Rattle.lexer.specs.Token.{Token, name, int32, int64, real, text, symbol, kind_of}
use Rattle.grammar.specs.Grammar.{rank, is_prefix}
use Rattle.grammar.specs.Judge.{Form, gives_logic, takes_logic, is_name, is_folding, call_right, takes_folded, takes_values, takes_texts, takes_name}
use Rattle.grammar.proofs.Streams.{rank_high}
use Rattle.translator.specs.Compile.{entry, leaf_entry, call_entry, leaf_bytes}

-- the kind of an expression that is logic or not
abbrev pub kind_by : Bool → Kind
kind_by true = logic
kind_by false = value

-- ---- a test over all numbers below a bound, computed once

unfoldable pub below : (ℕ → Bool) → ℕ → Bool
below p zero = true
below p (suc n) = p n && below p n

pub below_at : (p : ℕ → Bool) (n k : ℕ) → below p n ≡ true → k < n → p k ≡ true
unfolding below
below_at p zero k e h = absurd (not-suc-le-zero h)
below_at p (suc n) k e h = go (dec_lt k n) (below_at p n k)
  where
    go : Dec (k < n) → (below p n ≡ true → k < n → p k ≡ true) → p k ≡ true
    go (yes l) ih = ih (both_true (p n) (below p n) e).1 l
    go (no l) ih = let q : k ≡ n = omega arith in rw q (both_true (p n) (below p n) e).0

implied : (a b : Bool) → (not a || b) ≡ true → a ≡ true → b ≡ true
implied true b e h = e
implied false b e h = false_true h

-- ---- what an entry does

pub record Does (e : Entry) (ts : List Kind) (g : Kind) : Type 0 where
  pub takes : takes_of (op_of e.op) e.a ≡ ts
  pub gives : gives_of (op_of e.op) ≡ g

-- its operands off, its result on
pub does_flow : {e : Entry} {ts : List Kind} {g : Kind} → Does e ts g → (ks : List Kind) → length ks < 32 → after e (some (ts ++ ks)) ≡ some (g ∷ ks)
does_flow {e} {ts} {g} d ks h = rw (d.takes, d.gives, pop_front ts ks, lt-ltb (length ks) 32 h)

-- an entry that is right in every table, and neither a skip nor that of a literal or a name; its op and its a fit into a code
pub record Acts (e : Entry) (ts : List Kind) (g : Kind) : Type 0 where
  pub does : Does e ts g
  pub right : (pool : List ℕ) → entry_right pool e ≡ true
  pub plain : is_skip e ≡ false
  pub fits : Fits e
  pub over : 5 < e.op
  pub under : e.op < 64
  pub low : e.a ≤ 8

-- ---- operators

abbrev unary_fits : Op → Kind → Kind → Bool
unary_fits (Op.Load l) t g = false
unary_fits (Op.Unary u) t g = same_kind (unary_takes u) t && same_kind (unary_gives u) g
unary_fits (Op.Binary b) t g = false
unary_fits (Op.Many m) t g = false
unary_fits (Op.Skip s) t g = false
unary_fits Op.Unknown t g = false

abbrev binary_fits : Op → Kind → Kind → Bool
binary_fits (Op.Load l) t g = false
binary_fits (Op.Unary u) t g = false
binary_fits (Op.Binary b) t g = same_kind (binary_takes b) t && same_kind (binary_gives b) g
binary_fits (Op.Many m) t g = false
binary_fits (Op.Skip s) t g = false
binary_fits Op.Unknown t g = false

abbrev many_fits : Op → Bool
many_fits (Op.Load l) = false
many_fits (Op.Unary u) = false
many_fits (Op.Binary b) = false
many_fits (Op.Many m) = true
many_fits (Op.Skip s) = false
many_fits Op.Unknown = false

acts_unary : (k : ℕ) (t g : Kind) (op : Op) → op_of k ≡ op → (5 < k) × (k < 64) → unary_fits op t g ≡ true → Acts (entry k 0 0) (t ∷ []) g
acts_unary k t g (Op.Load l) e f h = false_true h
acts_unary k t g (Op.Unary u) e f h =
    let p = both_true _ _ h in
    record {
      does = record { takes = rw (e, kind_eq (unary_takes u) t p.0); gives = rw (e, kind_eq (unary_gives u) g p.1) };
      right = λ pool. rw e;
      plain = rw e;
      fits = record { op = omega (arith, f.1); a = lit< tt; b = lit< tt };
      over = f.0;
      under = f.1;
      low = omega arith;
    }
acts_unary k t g (Op.Binary b) e f h = false_true h
acts_unary k t g (Op.Many m) e f h = false_true h
acts_unary k t g (Op.Skip s) e f h = false_true h
acts_unary k t g Op.Unknown e f h = false_true h

acts_binary : (k : ℕ) (t g : Kind) (op : Op) → op_of k ≡ op → (5 < k) × (k < 64) → binary_fits op t g ≡ true → Acts (entry k 0 0) (t ∷ t ∷ []) g
acts_binary k t g (Op.Load l) e f h = false_true h
acts_binary k t g (Op.Unary u) e f h = false_true h
acts_binary k t g (Op.Binary b) e f h =
    let p = both_true _ _ h in
    record {
      does = record { takes = rw (e, kind_eq (binary_takes b) t p.0); gives = rw (e, kind_eq (binary_gives b) g p.1) };
      right = λ pool. rw e;
      plain = rw e;
      fits = record { op = omega (arith, f.1); a = lit< tt; b = lit< tt };
      over = f.0;
      under = f.1;
      low = omega arith;
    }
acts_binary k t g (Op.Many m) e f h = false_true h
acts_binary k t g (Op.Skip s) e f h = false_true h
acts_binary k t g Op.Unknown e f h = false_true h

acts_many : (k a : ℕ) (op : Op) → op_of k ≡ op → (5 < k) × (k < 64) → many_fits op ≡ true → 1 ≤ a → a ≤ 8 → Acts (entry k a 0) (replicate (suc a) value) logic
acts_many k a (Op.Load l) e f h m n = false_true h
acts_many k a (Op.Unary u) e f h m n = false_true h
acts_many k a (Op.Binary b) e f h m n = false_true h
acts_many k a (Op.Many o) e f h m n =
    record {
      does = record { takes = rw e; gives = rw e };
      right = λ pool. rw (e, le-leb 1 a m, le-leb a 8 n);
      plain = rw e;
      fits = record { op = omega (arith, f.1); a = omega arith; b = lit< tt };
      over = f.0;
      under = f.1;
      low = n;
    }
acts_many k a (Op.Skip s) e f h m n = false_true h
acts_many k a Op.Unknown e f h m n = false_true h

prefix_right : ℕ → Bool
prefix_right k = not (is_prefix k) || (leb 6 k && unary_fits (op_of k) (kind_by (takes_logic k)) (kind_by (gives_logic k)))

binary_right : ℕ → Bool
binary_right k = not (ltb (rank k) 11) || (leb 6 k && binary_fits (op_of k) (kind_by (takes_logic k)) (kind_by (gives_logic k)))

-- `!` and `~`
pub prefix_acts : (k : ℕ) → is_prefix k ≡ true → Acts (entry k 0 0) (kind_by (takes_logic k) ∷ []) (kind_by (gives_logic k))
unfolding prefix_right below
prefix_acts k e =
    let l : k < 41 = go (dec_lt k 41) in
    let p = both_true _ _ (implied _ _ (below_at prefix_right 41 k refl l) e) in
    acts_unary k _ _ (op_of k) refl (leb-true 6 k p.0, omega arith) p.1
  where
    go : Dec (k < 41) → k < 41
    go (yes h) = h
    go (no h) = false_true (rw (ne_eqb k 40 (λ q. omega arith), ne_eqb k 8 (λ q. omega arith)) at e)

-- a binary operator
pub binary_acts : (k : ℕ) → rank k < 11 → Acts (entry k 0 0) (kind_by (takes_logic k) ∷ kind_by (takes_logic k) ∷ []) (kind_by (gives_logic k))
unfolding binary_right below rank
binary_acts k h =
    let l : k < 44 = go (dec_lt k 44) in
    let p = both_true _ _ (implied _ _ (below_at binary_right 44 k refl l) (lt-ltb _ _ h)) in
    acts_binary k _ _ (op_of k) refl (leb-true 6 k p.0, omega arith) p.1
  where
    go : Dec (k < 44) → k < 44
    go (yes q) = q
    go (no q) = absurd (omega (arith, (rank_high k (omega arith)).0))

-- ---- calls

abbrev of_one : ℕ → Bool
of_one f = eqb f 6 || (eqb f 7 || (leb 48 f && leb f 54))

-- `equals`, and the functions of a value and string literals
abbrev pub of_many : ℕ → Bool
of_many f = leb begins_with_op f && leb f regex_op

pub many_range : (f : ℕ) → of_many f ≡ true → (56 ≤ f) × (f < length ops)
many_range f e =
    let p = both_true (leb begins_with_op f) (leb f regex_op) e in
    let high = leb-true f regex_op p.1 in
    (leb-true begins_with_op f p.0, omega arith)

pub equals_many : (f : ℕ) → f ≡ equals_op → of_many f ≡ true
equals_many f e = rw e

one_right : ℕ → Bool
one_right f = not (of_one f) || (not (leb 56 f) && (leb 6 f && unary_fits (op_of f) value (kind_by (gives_logic f))))

many_right : ℕ → Bool
many_right f = not (of_many f) || many_fits (op_of f)

not_false_of : (b : Bool) → not b ≡ true → b ≡ false
not_false_of true e = false_true e
not_false_of false e = refl

one_acts : (f count : ℕ) → of_one f ≡ true → count ≡ 1 → Acts (call_entry f count) (replicate count value) (kind_by (gives_logic f))
unfolding one_right below
one_acts f count e n =
    let l : f < 55 = go (dec_lt f 55) in
    let p = both_true _ _ (implied _ _ (below_at one_right 55 f refl l) e) in
    let q = both_true _ _ p.1 in
    rw (n, not_false_of (leb 56 f) p.0) (acts_unary f value (kind_by (gives_logic f)) (op_of f) refl (leb-true 6 f q.0, omega arith) q.1)
  where
    go : Dec (f < 55) → f < 55
    go (yes h) = h
    go (no h) = false_true (rw (ne_eqb f 6 (λ q. omega arith), ne_eqb f 7 (λ q. omega arith), le-leb 48 f (omega arith), lt-leb f 54 (omega arith)) at e)

many_acts : (f count : ℕ) → of_many f ≡ true → 2 ≤ count → count ≤ 9 → Acts (call_entry f count) (replicate count value) (kind_by (gives_logic f))
unfolding many_right below
many_acts f count e m n =
    let (low, l) = many_range f e in
    let q : suc (count - 1) ≡ count = omega arith in
    let fits = implied _ _ (below_at many_right (length ops) f refl l) e in
    rw (le-leb 56 f low, le-leb 32 f (omega arith))
    (subst (λ (n : ℕ). Acts (entry f (count - 1) 0) (replicate n value) logic) q (acts_many f (count - 1) (op_of f) refl (omega arith, omega arith) fits (omega arith) (omega arith)))

-- a call whose arguments refusal 4 does not name
pub call_acts : (f count : ℕ) (form : Form) (texts : Bool) → call_right f form count texts ≡ true → Acts (call_entry f count) (replicate count value) (kind_by (gives_logic f))
call_acts f count form texts h = go (eqb f 6) (eqb f 59) (of_many f) (eqb f 7 || (leb 48 f && leb f 54)) refl refl refl refl h
  where
    go : (a b c d : Bool) → eqb f 6 ≡ a → eqb f 59 ≡ b → of_many f ≡ c → (eqb f 7 || (leb 48 f && leb f 54)) ≡ d
        → cond a (takes_folded form count) (cond b (takes_values form count) (cond c (takes_texts form count texts) (cond d (takes_name form count) false))) ≡ true
        → Acts (call_entry f count) (replicate count value) (kind_by (gives_logic f))
    go true b c d ea eb ec ed r = one_acts f count (rw ea) (eqb-true count 1 (both_true _ _ r).0)
    go false true c d ea eb ec ed r =
        let p = both_true (leb 2 count) (leb count 9) (both_true (is_name form) (leb 2 count && leb count 9) r).1 in
        many_acts f count (equals_many f (eqb-true f equals_op eb)) (leb-true 2 count p.0) (leb-true count 9 p.1)
    go false false true d ea eb ec ed r =
        let p = both_true (leb 2 count) (leb count 9 && texts) (both_true (is_name form || is_folding form) (leb 2 count && (leb count 9 && texts)) r).1 in
        many_acts f count ec (leb-true 2 count p.0) (leb-true count 9 (both_true (leb count 9) texts p.1).0)
    go false false false true ea eb ec ed r = one_acts f count (rw (ea, ed)) (eqb-true count 1 (both_true _ _ r).0)
    go false false false false ea eb ec ed r = false_true r

-- ---- skips, over n + 1 entries

pub record Skips (e : Entry) : Type 0 where
  pub does : Does e (logic ∷ []) logic
  pub right : (pool : List ℕ) → entry_right pool e ≡ true
  pub fits : e.a < 2 ^ 16 → Fits e

pub skip_false : (n : ℕ) → Skips (entry 44 (n + 1) 0)
skip_false n =
    record { does = record { takes = refl; gives = refl }; right = λ pool. rw (le-leb 1 (n + 1) (omega arith)); fits = λ h. record { op = lit< tt; a = h; b = lit< tt } }

pub skip_true : (n : ℕ) → Skips (entry 45 (n + 1) 0)
skip_true n =
    record { does = record { takes = refl; gives = refl }; right = λ pool. rw (le-leb 1 (n + 1) (omega arith)); fits = λ h. record { op = lit< tt; a = h; b = lit< tt } }

-- ---- literals and names

-- what the lexer says of a token: a name keeps the name rules, a number lies in its type's range, a string is bytes; and a symbol's kind is no literal's
abbrev pub TokenRight : Token → Type 0
TokenRight (name s escaped) = name_right s ≡ true
TokenRight (int32 z) = SFits w32 z
TokenRight (int64 z) = SFits w64 z
TokenRight (real x) = T (fits binary64 x)
TokenRight (text s) = Bytes s
TokenRight (symbol k) = 5 < k

pub leaf_does : (at : ℕ) (x : Token) → kind_of x ≤ 5 → TokenRight x → Does (leaf_entry at x) [] value
leaf_does at (name s b) k r = record { takes = refl; gives = refl }
leaf_does at (int32 z) k r = record { takes = refl; gives = refl }
leaf_does at (int64 z) k r = record { takes = refl; gives = refl }
leaf_does at (real x) k r = record { takes = refl; gives = refl }
leaf_does at (text s) k r = record { takes = refl; gives = refl }
leaf_does at (symbol j) k r = absurd (omega arith)

pub record Pushes (pool : List ℕ) (e : Entry) : Type 0 where
  pub right : entry_right pool e ≡ true
  pub plain : is_skip e ≡ false
  pub fits : Fits e

-- a part of the pool between other bytes
pub part_is : (pre s post : List ℕ) (at : ℕ) → length pre ≡ at → take (length s) (drop at (pre ++ (s ++ post))) ≡ s
part_is pre s post at e = rw (drop_at pre (s ++ post) at e) (take_at s post (length s) refl)

part_fits : (pre s post : List ℕ) (at : ℕ) → length pre ≡ at → leb (length s + at) (length (pre ++ (s ++ post))) ≡ true
part_fits pre s post at e =
    let n : length (pre ++ (s ++ post)) ≡ length pre + (length s + length post) = simp length-append in
    le-leb (length s + at) (length (pre ++ (s ++ post))) (omega arith)

wide_fits : (z : ℤ) → SFits w32 z → SFits w64 z
wide_fits (pos n) h = let l = h.sfits in record { sfits = omega arith }
wide_fits (negsuc n) h = let l = h.sfits in record { sfits = omega arith }

module _ (pre post : List ℕ) (at : ℕ) (e : length pre ≡ at) where
  pub leaf_pushes : (x : Token) → kind_of x ≤ 5 → TokenRight x → at < 2 ^ 64 → length (leaf_bytes x) < 2 ^ 16 → Pushes (pre ++ (leaf_bytes x ++ post)) (leaf_entry at x)
  leaf_pushes (name s b) k r h l =
      record {
        right = are_true _ _ (part_fits pre s post at e) (rw (part_is pre s post at e) r);
        plain = refl;
        fits = record { op = lit< tt; a = l; b = h };
      }
  leaf_pushes (int32 z) k r h l =
      record {
        right = (widened (of_z w64 z)).1 (z, r, refl);
        plain = refl;
        fits = record { op = lit< tt; a = lit< tt; b = (of_z_fits w64 z (wide_fits z r)).fits };
      }
  leaf_pushes (int64 z) k r h l =
      record {
        right = refl;
        plain = refl;
        fits = record { op = lit< tt; a = lit< tt; b = (of_z_fits w64 z r).fits };
      }
  leaf_pushes (real x) k r h l =
      record {
        right = refl;
        plain = refl;
        fits = record { op = lit< tt; a = lit< tt; b = bits_bounded x r };
      }
  leaf_pushes (text s) k r h l =
      record {
        right = part_fits pre s post at e;
        plain = refl;
        fits = record { op = lit< tt; a = l; b = h };
      }
  leaf_pushes (symbol j) k r h l = absurd (omega arith)
