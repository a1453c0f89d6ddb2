-- The tree of an accepted text is made as its table asks: by the grammar, by refusal 4, and by the limits of its tokens. Assumes nothing.
use Prim.Native.Nat.{ℕ, suc, ◌<◌, ◌≤◌}
use native.Mathlib.Omega.{arith}
use native.Mathlib.Decide.{ℕ_discrete, dec_lt}
use mathlib.Core.Path.{◌≡◌, refl}
use mathlib.Core.Logic.{◌⊎◌, inl, inr}
use mathlib.Core.Bool.{Bool, true, false, not, ◌&&◌, ◌||◌}
use mathlib.Core.List.{List, [], ◌∷◌}
use lib.Dec.{eqb, leb, ltb, T}
use borrow.Author.Tests.{eq-eqb, ne_eqb, lt-ltb, eqb-true, leb-true}
use Rattle.common.proofs.Choice.{false_true}
use Rattle.opcode.specs.Opcode.{ops, op_of}
use Rattle.opcode.specs.declared.Op.{Op}
use Rattle.opcode.specs.declared.Unary.{Unary}
use Rattle.opcode.specs.declared.Binary.{Binary}
use Rattle.opcode.specs.declared.Many.{Many}
use Rattle.number.proofs.Table.{at}
use Rattle.octets.proofs.Theorems.{and_parts}
use Rattle.lexer.specs.Token.{Token, name, int32, int64, real, text, symbol, kind_of}
use Rattle.grammar.specs.Tree.{Tree, Trees, none}
use Rattle.grammar.specs.Grammar.{rank, is_prefix, Level, operator, tighter, tightest, Prefix, applied, plain, Operand, a_literal, a_name, a_group, a_call_none, a_call, Arguments, first, next}
use Rattle.grammar.specs.Function.{function_of}
use Rattle.grammar.specs.Size.{count_of}
use Rattle.grammar.specs.Judge.{Form, call_right, takes_name, takes_texts, takes_values, takes_folded, is_name, is_text, is_folding, first_of, later_texts, forms_right, forms_in}
use Rattle.grammar.proofs.Streams.{ranks, rank_high}
use Rattle.translator.proofs.Entries.{TokenRight, of_many, many_range, equals_many}
use Rattle.translator.proofs.Derived.{AllRight, all_left, all_rest}
use Rattle.router.specs.Agree.{LeafMade, CallMade, Made, MadeIn}

-- ---- ops by their numbers

abbrev is_unary_op : Op → Bool
is_unary_op (Op.Load l) = false
is_unary_op (Op.Unary u) = true
is_unary_op (Op.Binary b) = false
is_unary_op (Op.Many m) = false
is_unary_op (Op.Skip s) = false
is_unary_op Op.Unknown = false

abbrev is_binary_op : Op → Bool
is_binary_op (Op.Load l) = false
is_binary_op (Op.Unary u) = false
is_binary_op (Op.Binary b) = true
is_binary_op (Op.Many m) = false
is_binary_op (Op.Skip s) = false
is_binary_op Op.Unknown = false

abbrev is_many_op : Op → Bool
is_many_op (Op.Load l) = false
is_many_op (Op.Unary u) = false
is_many_op (Op.Binary b) = false
is_many_op (Op.Many m) = true
is_many_op (Op.Skip s) = false
is_many_op Op.Unknown = false

unary_op : (o : Op) → T (is_unary_op o) → (u : Unary) × (o ≡ Op.Unary u)
unary_op (Op.Load l) t = absurd t
unary_op (Op.Unary u) t = (u, refl)
unary_op (Op.Binary b) t = absurd t
unary_op (Op.Many m) t = absurd t
unary_op (Op.Skip s) t = absurd t
unary_op Op.Unknown t = absurd t

binary_op : (o : Op) → T (is_binary_op o) → (b : Binary) × (o ≡ Op.Binary b)
binary_op (Op.Load l) t = absurd t
binary_op (Op.Unary u) t = absurd t
binary_op (Op.Binary b) t = (b, refl)
binary_op (Op.Many m) t = absurd t
binary_op (Op.Skip s) t = absurd t
binary_op Op.Unknown t = absurd t

many_op : (o : Op) → T (is_many_op o) → (m : Many) × (o ≡ Op.Many m)
many_op (Op.Load l) t = absurd t
many_op (Op.Unary u) t = absurd t
many_op (Op.Binary b) t = absurd t
many_op (Op.Many m) t = (m, refl)
many_op (Op.Skip s) t = absurd t
many_op Op.Unknown t = absurd t

implied : (a b : Bool) → T (not a || b) → a ≡ true → T b
implied true b t e = t
implied false b t e = false_true e

-- a binary operator's kind is a binary op
binary_rule : ℕ → ℕ → Bool
binary_rule k x = not (ltb (rank k) 11) || is_binary_op (op_of k)

ranked : (k : ℕ) → rank k < 11 → (b : Binary) × (op_of k ≡ Op.Binary b)
unfolding rank binary_rule
ranked k h = go (dec_lt k 44)
  where
    go : Dec (k < 44) → (b : Binary) × (op_of k ≡ Op.Binary b)
    go (yes l) = binary_op (op_of k) (implied (ltb (rank k) 11) (is_binary_op (op_of k)) (at binary_rule ranks tt k l) (lt-ltb (rank k) 11 h))
    go (no l) = let e = (rank_high k (omega arith)).0 in absurd (omega (arith, e))

prefixed : (k : ℕ) → is_prefix k ≡ true → (u : Unary) × (op_of k ≡ Op.Unary u)
prefixed k e = go (ℕ_discrete k 40) (ℕ_discrete k 8)
  where
    go : Dec (k ≡ 40) → Dec (k ≡ 8) → (u : Unary) × (op_of k ≡ Op.Unary u)
    go (yes q) d = rw q (unary_op (op_of 40) tt)
    go (no q) (yes r) = rw r (unary_op (op_of 8) tt)
    go (no q) (no r) = false_true (rw (ne_eqb k 40 q, ne_eqb k 8 r) at e)

-- functions of one argument are unary ops below 56, the others take a first and more
all_ops : List ℕ
all_ops = lib.ListN.replicate (lib.ListN.length ops) 0

one_rule : ℕ → ℕ → Bool
one_rule k x = not (eqb k 7 || (leb 48 k && leb k 54)) || is_unary_op (op_of k)

many_rule : ℕ → ℕ → Bool
many_rule k x = not (of_many k) || is_many_op (op_of k)

one_argument : (f : ℕ) → (eqb f 7 || (leb 48 f && leb f 54)) ≡ true → f < 56 → (u : Unary) × (op_of f ≡ Op.Unary u)
unfolding one_rule all_ops
one_argument f e h = unary_op (op_of f) (implied (eqb f 7 || (leb 48 f && leb f 54)) (is_unary_op (op_of f)) (at one_rule all_ops tt f (omega arith)) e)

more_arguments : (f : ℕ) → of_many f ≡ true → (m : Many) × (op_of f ≡ Op.Many m)
unfolding many_rule all_ops
more_arguments f e = let (low, l) = many_range f e in many_op (op_of f) (implied (of_many f) (is_many_op (op_of f)) (at many_rule all_ops tt f (omega arith)) e)

-- ---- calls

or_cases : (a b : Bool) → (a || b) ≡ true → (a ≡ true) ⊎ (b ≡ true)
or_cases true b e = inl refl
or_cases false b e = inr e

low_function : (f : ℕ) → (eqb f 7 || (leb 48 f && leb f 54)) ≡ true → f < 56
low_function f e = go (or_cases (eqb f 7) (leb 48 f && leb f 54) e)
  where
    go : (eqb f 7 ≡ true) ⊎ ((leb 48 f && leb f 54) ≡ true) → f < 56
    go (inl h) = let q = eqb-true f 7 h in omega arith
    go (inr h) = let q = leb-true f 54 (and_parts (leb 48 f) (leb f 54) h).1 in omega arith

call_made : (f count : ℕ) (form : Form) (texts : Bool) → call_right f form count texts ≡ true → CallMade f count
call_made f count form texts e = go (ℕ_discrete f 6) (ℕ_discrete f 59) (of_many f) refl (eqb f 7 || (leb 48 f && leb f 54)) refl
  where
    go : Dec (f ≡ 6) → Dec (f ≡ 59) → (c : Bool) → of_many f ≡ c → (d : Bool) → (eqb f 7 || (leb 48 f && leb f 54)) ≡ d → CallMade f count
    go (yes q) b c ec d ed =
        let r : takes_folded form count ≡ true = rw (eq-eqb f 6 q) at e in
        let n = eqb-true count 1 (and_parts (eqb count 1) (is_name form || (is_text form || is_folding form)) r).0 in
        let u : (u : Unary) × (op_of f ≡ Op.Unary u) = rw q (unary_op (op_of 6) tt) in
        inl (u.0, u.1, omega arith, n)
    go (no a) (yes q) c ec d ed =
        let r : takes_values form count ≡ true = rw (ne_eqb f 6 a, eq-eqb f 59 q) at e in
        let n = leb-true 2 count (and_parts (leb 2 count) (leb count 9) (and_parts (is_name form) (leb 2 count && leb count 9) r).1).0 in
        let m = more_arguments f (equals_many f q) in
        inr (m.0, m.1, omega arith, omega arith)
    go (no a) (no b) true ec d ed =
        let r : takes_texts form count texts ≡ true = rw (ne_eqb f 6 a, ne_eqb f 59 b, ec) at e in
        let s = (and_parts (is_name form || is_folding form) (leb 2 count && (leb count 9 && texts)) r).1 in
        let n = leb-true 2 count (and_parts (leb 2 count) (leb count 9 && texts) s).0 in
        let m = more_arguments f ec in
        inr (m.0, m.1, (many_range f ec).0, omega arith)
    go (no a) (no b) false ec true ed =
        let r : takes_name form count ≡ true = rw (ne_eqb f 6 a, ne_eqb f 59 b, ec, ed) at e in
        let n = eqb-true count 1 (and_parts (eqb count 1) (is_name form) r).0 in
        let l = low_function f ed in
        let u = one_argument f ed l in
        inl (u.0, u.1, l, n)
    go (no a) (no b) false ec false ed = false_true (rw (ne_eqb f 6 a, ne_eqb f 59 b, ec, ed) at e)

-- ---- trees

leaf_made : (x : Token) → kind_of x ≤ 5 → TokenRight x → LeafMade x
leaf_made (name s escaped) e l = tt
leaf_made (int32 z) e l = l
leaf_made (int64 z) e l = l
leaf_made (real x) e l = l
leaf_made (text s) e l = tt
leaf_made (symbol k) e l = omega arith

mutual
  unfolding Made forms_right

  made_level : (l : ℕ) (xs : List Token) (t : Tree) → Level l xs t → AllRight xs → forms_right t ≡ true → Made t
  made_level l zs v (operator x {k = k} {xs = xs} {ys = ys} {t = t} {u = u} k0 r lt d e q) h f =
      let p = rw (← q) at h in
      let g = and_parts (forms_right t) (forms_right u) f in
      (ranked k (omega arith), made_level l xs t d (all_left xs (x ∷ ys) p) g.0, made_level (suc l) ys u e (all_rest xs (x ∷ ys) p).1 g.1)
  made_level l xs t (tighter lt d) h f = made_level (suc l) xs t d h f
  made_level l xs t (tightest d) h f = made_prefix xs t d h f

  made_prefix : (xs : List Token) (t : Tree) → Prefix xs t → AllRight xs → forms_right t ≡ true → Made t
  made_prefix zs v (applied {x} {k} {xs} {t} k0 q d) h f = (prefixed k q, made_prefix xs t d h.1 f)
  made_prefix xs t (plain d) h f = made_operand xs t d h f

  made_operand : (xs : List Token) (t : Tree) → Operand xs t → AllRight xs → forms_right t ≡ true → Made t
  made_operand xs t (a_literal {x} q) h f =
      let b = leb-true (kind_of x) 4 (and_parts (leb 1 (kind_of x)) (leb (kind_of x) 4) q).1 in
      leaf_made x (omega arith) h.0
  made_operand xs t (a_name {x} q) h f = leaf_made x (omega arith) h.0
  made_operand zs v (a_group o c {xs} {t = t} a b d q) h f =
      let p = rw (← q) at h in made_level 0 xs t d (all_left xs (c ∷ []) p.1) f
  made_operand xs t (a_call_none {x} a b c) h f = (call_made (function_of x) (count_of none) (first_of none) (later_texts none) f, tt)
  made_operand zs v (a_call o c {x} {xs} {ts = ts} a b e d q) h f =
      let p = rw (← q) at h in
      let g = and_parts (forms_in ts) (call_right (function_of x) (first_of ts) (count_of ts) (later_texts ts)) f in
      (call_made (function_of x) (count_of ts) (first_of ts) (later_texts ts) g.1, made_arguments xs ts d (all_left xs (c ∷ []) p.1.1) g.0)

  made_arguments : (xs : List Token) (ts : Trees) → Arguments xs ts → AllRight xs → forms_in ts ≡ true → MadeIn ts
  made_arguments xs us (first {t = t} d) h f = (tt, made_level 0 xs t d h f)
  made_arguments zs us (next m {xs} {ys} {ts = ts} {t = t} k a d q) h f =
      let p = rw (← q) at h in
      let g = and_parts (forms_in ts) (forms_right t) f in
      (made_arguments xs ts a (all_left xs (m ∷ ys) p) g.0, made_level 0 ys t d (all_rest xs (m ∷ ys) p).1 g.1)

-- The tree of tokens within their limits to which refusal 4 does not apply.
pub accepted_made : (xs : List Token) (t : Tree) → Level 0 xs t → AllRight xs → forms_right t ≡ true → Made t
accepted_made xs t d h f = made_level 0 xs t d h f
