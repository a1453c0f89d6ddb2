-- How many entries and pool bytes an expression has at most, by the tokens that the grammar derives it from. Assumes nothing.
use Prim.Native.Nat.{ℕ, ◌+◌, ◌*◌, ◌≤◌}
use native.Mathlib.Omega.{arith}
use mathlib.Core.Path.{◌≡◌, subst}
use mathlib.Core.Bool.{Bool, true, false, cond}
use mathlib.Core.List.{List, [], ◌∷◌, ◌++◌}
use lib.ListN.{length, length-append}
use Rattle.lexer.specs.Token.{Token}
use Rattle.grammar.specs.Tree.{Tree, group, binary, call, Trees, ◌then◌}
use Rattle.grammar.specs.Grammar.{Level, operator, tighter, tightest, Prefix, applied, plain, Operand, a_literal, a_name, a_group, a_call_none, a_call, Arguments, first, next}
use Rattle.grammar.specs.Size.{skips, entries_of, entries_in, pool_bytes, pool_of, pool_in}

-- the bytes that tokens can bring to the pool
abbrev pub total_of : List Token → ℕ
total_of [] = 0
total_of (x ∷ xs) = pool_bytes x + total_of xs

pub total_append : (xs ys : List Token) → total_of (xs ++ ys) ≡ total_of xs + total_of ys
total_append [] ys = omega arith
total_append (x ∷ xs) ys = omega (arith, total_append xs ys)

pub record Bounded (xs : List Token) (t : Tree) : Type 0 where
  pub entries : entries_of t + 1 ≤ 2 * length xs
  pub pool : pool_of t ≤ total_of xs

record BoundedIn (xs : List Token) (ts : Trees) : Type 0 where
  entries : entries_in ts ≤ 2 * length xs
  pool : pool_in ts ≤ total_of xs

at_most_two : (b : Bool) → cond b 2 1 ≤ 2
at_most_two true = omega arith
at_most_two false = omega arith

mutual
  unfolding entries_of pool_of

  pub bounded : {l : ℕ} {xs : List Token} {t : Tree} → Level l xs t → Bounded xs t
  bounded (operator x {l} {k} {xs} {ys} {zs} {t} {u} ek er lt d e q) =
      let a = bounded d in
      let b = bounded e in
      subst (λ (zs : List Token). Bounded zs (binary k t u)) q
      (record {
        entries = omega (arith, a.entries, b.entries, at_most_two (skips k), length-append xs (x ∷ ys));
        pool = omega (arith, a.pool, b.pool, total_append xs (x ∷ ys));
      })
  bounded (tighter lt d) = bounded d
  bounded (tightest d) = bounded_prefix d

  bounded_prefix : {xs : List Token} {t : Tree} → Prefix xs t → Bounded xs t
  bounded_prefix (applied {x} {k} {xs} {t} ek ep d) = let a = bounded_prefix d in record { entries = omega (arith, a.entries); pool = omega (arith, a.pool) }
  bounded_prefix (plain d) = bounded_operand d

  bounded_operand : {xs : List Token} {t : Tree} → Operand xs t → Bounded xs t
  bounded_operand (a_literal e) = record { entries = omega arith; pool = omega arith }
  bounded_operand (a_name e) = record { entries = omega arith; pool = omega arith }
  bounded_operand (a_group o c {xs} {zs} {t} eo ec d q) =
      let a = bounded d in
      subst (λ (zs : List Token). Bounded zs (group t)) q
      (record {
        entries = omega (arith, a.entries, length-append xs (c ∷ []));
        pool = omega (arith, a.pool, total_append xs (c ∷ []));
      })
  bounded_operand (a_call_none ex eo ec) = record { entries = omega arith; pool = omega arith }
  bounded_operand (a_call o c {x} {xs} {zs} {ts} ex eo ec d q) =
      let a = bounded_arguments d in
      subst (λ (zs : List Token). Bounded zs (call x ts)) q
      (record {
        entries = omega (arith, a.entries, length-append xs (c ∷ []));
        pool = omega (arith, a.pool, total_append xs (c ∷ []));
      })

  bounded_arguments : {xs : List Token} {ts : Trees} → Arguments xs ts → BoundedIn xs ts
  bounded_arguments (first d) = let a = bounded d in record { entries = omega (arith, a.entries); pool = omega (arith, a.pool) }
  bounded_arguments (next m {xs} {ys} {zs} {ts} {t} em d e q) =
      let a = bounded_arguments d in
      let b = bounded e in
      subst (λ (zs : List Token). BoundedIn zs (◌then◌ ts t)) q
      (record {
        entries = omega (arith, a.entries, b.entries, length-append xs (m ∷ ys));
        pool = omega (arith, a.pool, b.pool, total_append xs (m ∷ ys));
      })
