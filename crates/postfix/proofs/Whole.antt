-- The answer of the whole, from the number of the expression that starts the tokens. Assumes nothing.
use Rattle.std.specs.Prelude.{Result as Reply}
use Prim.Native.Nat.{ℕ, ◌+◌, ◌≤◌, ◌<◌}
use native.Mathlib.Omega.{arith}
use native.Mathlib.Decide.{ℕ_discrete}
use mathlib.Core.Path.{◌≡◌, refl, sym, ◌∙◌}
use mathlib.Core.Bool.{false}
use mathlib.Core.List.{List}
use lib.ListN.{length}
use borrow.Author.Tests.{eq-eqb, ne_eqb}
use Rattle.lexer.specs.Token.{Token}
use Rattle.grammar.specs.Tree.{Tree}
use Rattle.grammar.specs.Parse.{Result, ok, bad, level_of, parse_all}
use Rattle.grammar.specs.Size.{entries_of}
use Rattle.postfix.specs.Packed.{next_in, end_in, broken, known_of}
use Rattle.postfix.specs.Answer.{answer_of, Leaves, Answered, read_by}
use Rattle.postfix.specs.declared.Judged.{Judged}
use Rattle.postfix.proofs.Bounds.{Bounded, Spans, bounded_level}
use Rattle.postfix.proofs.Reading.{view_tree, Parts, parts, broken_is, whole_is}
use Rattle.postfix.proofs.Steps.{kept}

-- the answer and the codes
abbrev Told : Result → List ℕ → List ℕ → Reply Judged ℕ → Type 0
Told y was now r = (r ≡ answer_of y) × Leaves y 0 was now

module _ (ks : List Token) (few : length ks ≤ 4096) {was now : List ℕ} (x : ℕ) {r : Reply Judged ℕ} (er : r ≡ read_by (length ks) x) where
  module _ (t : Tree) (j : ℕ) (s : Spans ks 0 t j) (h : Answered (ok t j) 0 was now x) where
    p : Parts x j (0 + entries_of t) (known_of t)
    p = parts h.is (omega (arith, s.le)) (omega (arith, s.le, s.entries))

    w : broken x ≡ false
    w = whole_is p (view_tree t).whole

    all : j ≡ length ks → Told (ok t j) was now r
    all q =
        let v = view_tree t in
        let e : entries_of t ≡ end_in x = omega (arith, p.end_is) in
        (er ∙ rw (w, eq-eqb (next_in x) (length ks) (p.next_is ∙ q), p.known_is, v.logic_is, v.forms_is, v.kinds_is, v.depth_is, e), h.leaves)

    part : (j ≡ length ks → ⊥) → Told (bad j) was now r
    part ne = (er ∙ rw (w, ne_eqb (next_in x) (length ks) (λ q. ne (sym p.next_is ∙ q)), p.next_is), kept (ok t j) h)

  pub whole_answered : Answered (level_of ks 0 0) 0 was now x → Told (parse_all ks) was now r
  unfolding parse_all
  whole_answered g = go (level_of ks 0 0) refl (bounded_level ks 0 0 (omega arith) (omega arith)) g
    where
      go : (y : Result) → level_of ks 0 0 ≡ y → Bounded ks 0 y → Answered y 0 was now x → Told (parse_all ks) was now r
      go (ok t j) e s h = ends (ℕ_discrete j (length ks))
        where
          ends : Dec (j ≡ length ks) → Told (parse_all ks) was now r
          ends (yes q) = rw (e, eq-eqb j (length ks) q) (all t j s h q)
          ends (no q) = rw (e, ne_eqb j (length ks) q) (part t j s h q)
      go (bad q) e b h =
          let f : q < 65536 = omega (arith, b) in
          let n = parts {x = x} {n = q} {e = 0} {f = 128} h.is f (omega arith) in
          rw e (er ∙ rw (broken_is h.is f, n.next_is), h.leaves)
