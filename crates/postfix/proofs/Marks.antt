-- What a mark tells of the token. Assumes nothing.
use mathlib.Core.Path.{◌≡◌, refl, sym, ap, ◌∙◌}
use mathlib.Core.Bool.{Bool, true, false}
use mathlib.Core.List.{List}
use Prim.Native.Nat.{ℕ, zero, suc, ◌+◌, ◌≤◌, ◌<◌}
use native.Mathlib.Decide.{dec_lt}
use native.Mathlib.Omega.{arith}
use lib.ListN.{length, get_or, get_or-eq_default}
use borrow.Author.Tests.{ne_eqb, eqb-true, eqb-false}
use Rattle.lexer.specs.Kind.{naming, opening, ending}
use Rattle.lexer.specs.Token.{Token}
use Rattle.grammar.specs.Grammar.{rank, is_prefix}
use Rattle.grammar.specs.Parse.{ended, token_at, kind_at, is}
use Rattle.grammar.specs.Function.{function_of}
use Rattle.grammar.specs.Marks.{calling, mark_at, marks_from, marks_of}
use Rattle.grammar.proofs.Streams.{rank_high}
use Rattle.postfix.specs.Marked.{Marked}
use Rattle.postfix.specs.Packed.{function_in}

length_from : (ks : List Token) (i n : ℕ) → length (marks_from ks i n) ≡ n
unfolding marks_from
length_from ks i zero = refl
length_from ks i (suc n) = ap suc (length_from ks (i + 1) n)

from_at : (ks : List Token) (i n j : ℕ) → j < n → get_or (marks_from ks i n) j ending ≡ mark_at ks (i + j)
unfolding marks_from
from_at ks i zero j h = absurd (omega arith)
from_at ks i (suc n) zero h = let e : i ≡ i + 0 = omega arith in ap (mark_at ks) e
from_at ks i (suc n) (suc j) h = let e : i + 1 + j ≡ i + suc j = omega arith in from_at ks (i + 1) n j (omega arith) ∙ ap (mark_at ks) e

past_at : (ks : List Token) (i : ℕ) → length ks ≤ i → mark_at ks i ≡ ending
past_at ks i h = rw (get_or-eq_default ks ended h)

module _ {ms : List ℕ} {ks : List Token} (m : Marked ms ks) where
  pub length_marks : length ms ≡ length ks
  length_marks = ap length m.are ∙ length_from ks 0 (length ks)

  pub mark_at_lem : (i : ℕ) → get_or ms i ending ≡ mark_at ks i
  mark_at_lem i = ap (λ (l : List ℕ). get_or l i ending) m.are ∙ go (dec_lt i (length ks))
    where
      go : Dec (i < length ks) → get_or (marks_of ks) i ending ≡ mark_at ks i
      go (yes h) = let e : 0 + i ≡ i = omega arith in from_at ks 0 (length ks) i h ∙ ap (mark_at ks) e
      go (no h) =
          let out : length (marks_of ks) ≤ i = omega (arith, length_from ks 0 (length ks)) in
          get_or-eq_default (marks_of ks) ending out ∙ sym (past_at ks i (omega arith))

-- a token is the name of a call, or its mark is its kind
data Either (ks : List Token) (i : ℕ) : Type 0 where
  called : kind_at ks i ≡ naming → kind_at ks (i + 1) ≡ opening → mark_at ks i ≡ calling + function_of (token_at ks i) → Either ks i
  plain : mark_at ks i ≡ kind_at ks i → (kind_at ks i ≡ naming → kind_at ks (i + 1) ≡ opening → ⊥) → Either ks i

either : (ks : List Token) (i : ℕ) → Either ks i
either ks i = go (is ks i naming) (is ks (i + 1) opening) refl refl
  where
    go : (a b : Bool) → is ks i naming ≡ a → is ks (i + 1) opening ≡ b → Either ks i
    go true true p q = called (eqb-true _ _ p) (eqb-true _ _ q) (rw (p, q))
    go true false p q = plain (rw (p, q)) (λ _ e. eqb-false _ _ q e)
    go false true p q = plain (rw p) (λ e _. eqb-false _ _ p e)
    go false false p q = plain (rw p) (λ e _. eqb-false _ _ p e)

module _ {ms : List ℕ} {ks : List Token} (m : Marked ms ks) (i : ℕ) where
  pub record Called : Type 0 where
    pub name : kind_at ks i ≡ naming
    pub opens : kind_at ks (i + 1) ≡ opening
    pub function : function_in (get_or ms i ending) ≡ function_of (token_at ks i)

  pub is_called : calling ≤ get_or ms i ending → Called
  is_called h = go (either ks i)
    where
      go : Either ks i → Called
      go (called a b e) = record { name = a; opens = b; function = rw (mark_at_lem m i, e) (omega arith) }
      go (plain e n) = absurd (omega (arith, mark_at_lem m i, e, m.low i, h))

  -- a mark below `calling` is the kind, and a name there is not called
  pub is_plain : get_or ms i ending < calling → (kind_at ks i ≡ get_or ms i ending) × (kind_at ks i ≡ naming → kind_at ks (i + 1) ≡ opening → ⊥)
  is_plain h = go (either ks i)
    where
      go : Either ks i → (kind_at ks i ≡ get_or ms i ending) × (kind_at ks i ≡ naming → kind_at ks (i + 1) ≡ opening → ⊥)
      go (called a b e) = absurd (omega (arith, mark_at_lem m i, e, h))
      go (plain e n) = (sym (mark_at_lem m i ∙ e), n)

  module _ (k : ℕ) where
    pub kind_of_lem : k < calling → get_or ms i ending ≡ k → kind_at ks i ≡ k
    kind_of_lem h e = (is_plain (omega arith)).0 ∙ e

    pub mark_of : (k ≡ naming → ⊥) → kind_at ks i ≡ k → get_or ms i ending ≡ k
    mark_of ne q = go (either ks i)
      where
        go : Either ks i → get_or ms i ending ≡ k
        go (called a b e) = absurd (ne (sym q ∙ a))
        go (plain e n) = mark_at_lem m i ∙ e ∙ q

  pub same_rank : rank (get_or ms i ending) ≡ rank (kind_at ks i)
  unfolding rank
  same_rank = go (either ks i)
    where
      go : Either ks i → rank (get_or ms i ending) ≡ rank (kind_at ks i)
      go (called a b e) = sym (rank_high (get_or ms i ending) (omega (arith, mark_at_lem m i, e))).0 ∙ rw a
      go (plain e n) = ap rank (mark_at_lem m i ∙ e)

  pub same_prefix : is_prefix (get_or ms i ending) ≡ is_prefix (kind_at ks i)
  same_prefix = go (either ks i)
    where
      go : Either ks i → is_prefix (get_or ms i ending) ≡ is_prefix (kind_at ks i)
      go (called a b e) = rw (mark_at_lem m i, e, ne_eqb (calling + function_of (token_at ks i)) 40 (λ q. omega arith), ne_eqb (calling + function_of (token_at ks i)) 8 (λ q. omega arith), a)
      go (plain e n) = ap is_prefix (mark_at_lem m i ∙ e)
