-- The patterns before an entry: which operators take them, and what the rule says of each. Assumes nothing.
use mathlib.Core.Path.{◌≡◌, refl, sym, ap, ◌∙◌}
use mathlib.Core.Bool.{Bool, true, false, not, ◌&&◌}
use mathlib.Core.List.{List, [], ◌∷◌}
use mathlib.Core.Option.{Option, none, some, some-injective}
use Prim.Native.Nat.{ℕ, zero, suc, ◌+◌, ◌-◌, ◌≤◌, ◌<◌}
use native.Mathlib.Decide.{dec_lt, ℕ_discrete}
use native.Mathlib.Omega.{arith}
use borrow.Author.Tests.{eqb-true, eq-eqb, ne_eqb}
use lib.Dec.{eqb}
use lib.ListN.{length, get_or, get_or-eq_default}
use Rattle.common.specs.Each.{Each}
use Rattle.common.proofs.Choice.{true_false, false_true}
use Rattle.pattern.specs.Wildcard.{well_formed}
use Rattle.regexp.specs.Regex.{well_formed as regexFormed}
use Rattle.opcode.specs.Opcode.{ops, op_of}
use Rattle.opcode.specs.declared.Op.{Op}
use Rattle.opcode.proofs.Unknown.{Rest, one_or_rest, among, all_below, below_but}
use Rattle.table.specs.Table.{Entry, blank}
use Rattle.table.specs.Check.{part_right, entry_right, pattern_test, operand_right, operands_right, pattern_by, patterns_right}
use Rattle.table.specs.Groups.{group_of}
use Rattle.table.specs.Ways.{EveryPattern}
use Rattle.table.specs.declared.groups.Group.{Group}
use Rattle.table.proofs.Tests.{both_true, are_true}
use Rattle.table.proofs.Passes.{all_patterns, each_pattern}

-- ---- which operators take patterns

is_none : Option (List ℕ → Bool) → Bool
is_none none = true
is_none (some test) = false

none_is : (o : Option (List ℕ → Bool)) → is_none o ≡ true → o ≡ none
unfolding is_none
none_is none e = refl
none_is (some test) e = false_true e

takes_none : ℕ → Bool
takes_none n = is_none (pattern_test (op_of n))

-- the operators that take patterns, the last first
abbrev pub patterned : List ℕ
patterned = 61 ∷ 60 ∷ []

pub no_patterns : (n : ℕ) → Rest patterned n → pattern_test (op_of n) ≡ none
unfolding all_below among is_none takes_none
no_patterns n r = go (dec_lt n (length ops))
  where
    go : Dec (n < length ops) → pattern_test (op_of n) ≡ none
    go (yes h) = none_is (pattern_test (op_of n)) (below_but takes_none patterned (length ops) n refl r h)
    go (no h) = ap pattern_test (get_or-eq_default ops Op.Unknown {n = n} (omega arith))

pub no_test : {A : Type 0} (n : ℕ) (test : List ℕ → Bool) → Rest patterned n → pattern_test (op_of n) ≡ some test → A
no_test n test r e = let z : ◌≡◌ {A = ℕ} 0 1 = cc (no_patterns n r) in absurd (omega arith)

-- what holds of each of them holds of an operator that has a test
pub has_test : (P : ℕ → Type 0) → Each P patterned → (n : ℕ) (test : List ℕ → Bool) → pattern_test (op_of n) ≡ some test → P n
has_test P each n test e = one_or_rest P patterned n each (λ r. no_test n test r e)

-- the test of one of them, by its number
pub the_test : (n k : ℕ) (known test : List ℕ → Bool) → n ≡ k → pattern_test (op_of k) ≡ some known → pattern_test (op_of n) ≡ some test → known ≡ test
the_test n k known test h t e = some-injective _ _ (sym t ∙ rw h at e)

-- a number that is tested against each of some
abbrev beside : ℕ → List ℕ → Bool
beside n [] = true
beside n (k ∷ ks) = beside n ks && not (eqb n k)

rest_beside : (n : ℕ) (ks : List ℕ) → Rest ks n → beside n ks ≡ true
rest_beside n [] r = refl
rest_beside n (k ∷ ks) r = rw (rest_beside n ks r.0, ne_eqb n k r.1)

beside_rest : (n : ℕ) (ks : List ℕ) → beside n ks ≡ true → Rest ks n
beside_rest n [] e = tt
beside_rest n (k ∷ ks) e =
    let p = both_true (beside n ks) (not (eqb n k)) e in
    (beside_rest n ks p.0, λ q. false_true (rw (eq-eqb n k q) at p.1))

pub none_beside : (n : ℕ) → beside n patterned ≡ true → pattern_test (op_of n) ≡ none
none_beside n e = no_patterns n (beside_rest n patterned e)

-- an operator that takes patterns has a test, and takes a value and more
abbrev Tested : ℕ → Type 0
Tested n = (test : List ℕ → Bool) × (pattern_test (op_of n) ≡ some test) × (group_of (op_of n) ≡ Group.Many)

pub some_beside : (n : ℕ) → beside n patterned ≡ false → Tested n
some_beside n e = one_or_rest Tested patterned n ((regexFormed, refl, refl), ((well_formed, refl, refl), tt)) (λ r. true_false (sym (rest_beside n patterned r) ∙ e))

-- ---- the entries directly before an entry

-- the string of an entry that is right by itself, which the code has read as y, lies in the pool
pub string_lies : (pool : List ℕ) (y x : Entry) → y ≡ x → entry_right pool x ≡ true → y.op ≡ 4 → part_right pool y ≡ true
string_lies pool y x e r q = let o : x.op ≡ 4 = ap (λ (z : Entry). z.op) (sym e) ∙ q in rw e (rw o at r)

module _ (test : List ℕ → Bool) (pool : List ℕ) (es : List Entry) where
  -- the last of them, which the code has found right or wrong, and those before it
  pub operands_turn : (i a : ℕ) (x : Entry) (r b : Bool) → 0 < i → 0 < a → get_or es (i - 1) blank ≡ x → r ≡ operand_right test pool x → r ≡ b
      → operands_right test pool es i a ≡ (b && operands_right test pool es (i - 1) (a - 1))
  unfolding operands_right
  operands_turn zero a x r b h k e f g = absurd (omega arith)
  operands_turn (suc i) zero x r b h k e f g = absurd (omega arith)
  operands_turn (suc i) (suc a) x r b h k e f g =
      let p : suc i - 1 ≡ i = omega arith in
      let q : suc a - 1 ≡ a = omega arith in
      let o : operand_right test pool (get_or es i blank) ≡ b = rw p at (ap (operand_right test pool) e ∙ sym f ∙ g) in
      rw (o, p, q)

  pub operands_none : (i a : ℕ) → i ≡ 0 → 0 < a → operands_right test pool es i a ≡ false
  unfolding operands_right
  operands_none zero zero h k = absurd (omega arith)
  operands_none zero (suc a) h k = refl
  operands_none (suc i) a h k = absurd (omega arith)

  pub operands_all : (i a : ℕ) → a ≡ 0 → operands_right test pool es i a ≡ true
  unfolding operands_right
  operands_all i zero h = refl
  operands_all i (suc a) h = absurd (omega arith)

  operands_are : (i a : ℕ) → operands_right test pool es i a ≡ true → (a ≤ i) × ((k : ℕ) → k < i → i ≤ k + a → operand_right test pool (get_or es k blank) ≡ true)
  unfolding operands_right
  operands_are i zero e = (omega arith, λ k l m. absurd (omega arith))
  operands_are zero (suc a) e = false_true e
  operands_are (suc i) (suc a) e =
      let p = both_true (operand_right test pool (get_or es i blank)) _ e in
      let r = operands_are i a p.1 in
      (omega (arith, r.0), λ k l m. go k l m (ℕ_discrete k i) p.0 r.1)
    where
      go : (k : ℕ) → k < suc i → suc i ≤ k + suc a → Dec (k ≡ i) → operand_right test pool (get_or es i blank) ≡ true
          → ((j : ℕ) → j < i → i ≤ j + a → operand_right test pool (get_or es j blank) ≡ true) → operand_right test pool (get_or es k blank) ≡ true
      go k l m (yes q) last before = rw q last
      go k l m (no q) last before = before k (omega arith) (omega arith)

  are_operands : (i a : ℕ) → a ≤ i → ((k : ℕ) → k < i → i ≤ k + a → operand_right test pool (get_or es k blank) ≡ true) → operands_right test pool es i a ≡ true
  unfolding operands_right
  are_operands i zero h f = refl
  are_operands zero (suc a) h f = absurd (omega arith)
  are_operands (suc i) (suc a) h f = are_true _ _ (f i (omega arith) (omega arith)) (are_operands i a (omega arith) (λ k l m. f k (omega arith) (omega arith)))

-- ---- the rule in the paper's words

module _ (pool : List ℕ) (es : List Entry) where
  pub every_pattern : patterns_right pool es (length es) ≡ true → EveryPattern pool es
  every_pattern e i h test t =
      let r : operands_right test pool es i (get_or es i blank).a ≡ true = rw t at (each_pattern pool es (length es) i h e) in
      let o = operands_are test pool es i (get_or es i blank).a r in
      record {
        enough = o.0;
        string = λ k l m. eqb-true (get_or es k blank).op 4 (both_true (eqb (get_or es k blank).op 4) _ (o.1 k l m)).0;
        formed = λ k l m. (both_true (eqb (get_or es k blank).op 4) _ (o.1 k l m)).1;
      }

  pub patterns_right_lem : EveryPattern pool es → patterns_right pool es (length es) ≡ true
  patterns_right_lem w = all_patterns pool es (length es) (λ i h. go i h (pattern_test (op_of (get_or es i blank).op)) refl)
    where
      go : (i : ℕ) → i < length es → (o : Option (List ℕ → Bool)) → pattern_test (op_of (get_or es i blank).op) ≡ o → pattern_by o pool es i (get_or es i blank).a ≡ true
      go i h none e = refl
      go i h (some test) e =
          let p = w i h test e in
          are_operands test pool es i (get_or es i blank).a p.enough
          (λ k l m. are_true _ _ (eq-eqb (get_or es k blank).op 4 (p.string k l m)) (p.formed k l m))
