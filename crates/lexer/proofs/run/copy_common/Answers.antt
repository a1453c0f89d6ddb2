use Prim.Native.Nat.{ℕ}
use mathlib.Core.Path.{◌≡◌, refl, sym, ap, ◌∙◌}
use mathlib.Core.List.{List}
use native.Mathlib.Omega.{arith}
use lib.ListN.{get_or, set, length-set}
use Rattle.lexer.proofs.Bytes.{low_common}
use Rattle.lexer.proofs.Runs.{passes_first, goes_on, stored_on}
use Rattle.lexer.proofs.run.copy_common.Goals as goal

pub loop-i-init : goal.loop-i-init
loop-i-init c = (refl, (passes_first 0 c.args.s.now, refl), refl)

pub returns-then-not-is_common : goal.returns-then-not-is_common
returns-then-not-is_common c = let l = c.loop-i in record { goes_on = l.invariant.1; part_after = l.invariant.2 }

pub loop-i-preserved-then-b-lt94 : goal.loop-i-preserved-then-b-lt94
loop-i-preserved-then-b-lt94 c =
    let l = c.loop-i in
    let a = c.args in
    let b = get_or a.s.now l.i 0 in
    let e = sym c.is_common.ensures ∙ c.if-not-is_common.false in (
      length-set l.part l.i b ∙ l.invariant.0,
      goes_on a.s.now l.i (omega arith) e l.invariant.1,
      ap (λ (x : List ℕ). set x l.i b) l.invariant.2 ∙ stored_on a.part.now a.s.now l.i (omega arith),
    )

pub returns-then-b-gt126 : goal.returns-then-b-gt126
returns-then-b-gt126 c = let l = c.loop-i in record { goes_on = l.invariant.1; part_after = l.invariant.2 }

pub loop-i-preserved : goal.loop-i-preserved
loop-i-preserved c =
    let l = c.loop-i in
    let a = c.args in
    let b = get_or a.s.now l.i 0 in
    let e = low_common (get_or a.s.now l.i 0) c.if-b-lt94.false c.if-b-gt126.false in (
      length-set l.part l.i b ∙ l.invariant.0,
      goes_on a.s.now l.i (omega arith) e l.invariant.1,
      ap (λ (x : List ℕ). set x l.i b) l.invariant.2 ∙ stored_on a.part.now a.s.now l.i (omega arith),
    )

pub returns : goal.returns
returns c =
    let l = c.loop-i in
    let z : c.min-most.result ≡ l.i = omega arith in
    rw z (record { goes_on = l.invariant.1; part_after = l.invariant.2 })
