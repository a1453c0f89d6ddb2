-- The marks of tokens by index, past the last one too. Assumes nothing.
use Prim.Native.Nat.{ℕ, zero, suc, ◌+◌, ◌≤◌, ◌<◌}
use native.Mathlib.Omega.{arith}
use native.Mathlib.Decide.{dec_lt}
use mathlib.Core.Path.{◌≡◌, refl, sym, ap, ◌∙◌}
use mathlib.Core.List.{List}
use lib.ListN.{length, get_or, get_or-eq_default}
use Rattle.lexer.specs.Kind.{ending}
use Rattle.lexer.specs.Token.{Token}
use Rattle.grammar.specs.Parse.{ended}
use Rattle.grammar.specs.Marks.{mark_at, marks_from, marks_of}

length_from : (ks : List Token) (i n : ℕ) → length (marks_from ks i n) ≡ n
unfolding marks_from
length_from ks i zero = refl
length_from ks i (suc n) = ap suc (length_from ks (i + 1) n)

from_at : (ks : List Token) (i n j : ℕ) → j < n → get_or (marks_from ks i n) j ending ≡ mark_at ks (i + j)
unfolding marks_from
from_at ks i zero j h = absurd (omega arith)
from_at ks i (suc n) zero h = let e : i ≡ i + 0 = omega arith in ap (mark_at ks) e
from_at ks i (suc n) (suc j) h = let e : i + 1 + j ≡ i + suc j = omega arith in from_at ks (i + 1) n j (omega arith) ∙ ap (mark_at ks) e

pub length_marks : (ks : List Token) → length (marks_of ks) ≡ length ks
length_marks ks = length_from ks 0 (length ks)

pub mark_at_lem : (ks : List Token) (i : ℕ) → get_or (marks_of ks) i ending ≡ mark_at ks i
mark_at_lem ks i = go (dec_lt i (length ks))
  where
    go : Dec (i < length ks) → get_or (marks_of ks) i ending ≡ mark_at ks i
    go (yes h) = let e : 0 + i ≡ i = omega arith in from_at ks 0 (length ks) i h ∙ ap (mark_at ks) e
    go (no h) =
        let out : length (marks_of ks) ≤ i = omega (arith, length_marks ks) in
        get_or-eq_default (marks_of ks) ending out ∙ sym (rw (get_or-eq_default ks ended {n = i} (omega arith)))
