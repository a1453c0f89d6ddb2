use mathlib.Core.Path.{◌≡◌, sym, ◌∙◌}
use Prim.Native.Nat.{◌+◌, ◌-◌}
use native.Mathlib.Omega.{arith}
use Rattle.table.proofs.Reading.{entry_of}
use Rattle.table.proofs.Patterns.{string_lies, operands_turn, operands_none, operands_all}
use Rattle.table.proofs.operands_right.Goals as goal

pub loop-k-init : goal.loop-k-init
loop-k-init c = (omega arith, λ test t. let z : c.args.i - 0 ≡ c.args.i = omega arith in let y : c.args.a - 0 ≡ c.args.a = omega arith in rw (z, y))

pub returns-then-i-k : goal.returns-then-i-k
returns-then-i-k c =
    λ test t.
    let l = c.loop-k in let a = c.args in
    sym (operands_none test _ _ (a.i - l.k) (a.a - l.k) (omega arith) (omega arith)) ∙ l.invariant.1 test t

pub entry_at-e-requires : goal.entry_at-e-requires
entry_at-e-requires c = let p = c.requires in omega (arith, p.0, p.1)

pub operand_right-requires : goal.operand_right-requires
operand_right-requires c =
    λ q.
    let p = c.requires in
    string_lies _ _ _ c.entry_at-e.ensures (p.2 (c.args.i - c.loop-k.k - 1) (omega arith)) q

pub returns-then-not-operand_right : goal.returns-then-not-operand_right
returns-then-not-operand_right c =
    λ test t.
    let p = c.requires in
    let l = c.loop-k in let a = c.args in
    let e = entry_of a.table.now (a.i - l.k - 1) (omega (arith, p.0)) in
    let o = operands_turn test _ _ (a.i - l.k) (a.a - l.k) _ _ _ (omega arith) (omega arith) (e ∙ sym c.entry_at-e.ensures) (c.operand_right.ensures test t) (c.if-not-operand_right.true) in
    sym o ∙ l.invariant.1 test t

pub loop-k-preserved : goal.loop-k-preserved
loop-k-preserved c =
    let p = c.requires in
    let l = c.loop-k in let a = c.args in
    let e = entry_of a.table.now (a.i - l.k - 1) (omega (arith, p.0)) in
    let m : a.i - (l.k + 1) ≡ a.i - l.k - 1 = omega arith in
    let n : a.a - (l.k + 1) ≡ a.a - l.k - 1 = omega arith in (
      omega arith,
      λ test t.
          let o = operands_turn test _ _ (a.i - l.k) (a.a - l.k) _ _ _ (omega arith) (omega arith) (e ∙ sym c.entry_at-e.ensures) (c.operand_right.ensures test t) (c.if-not-operand_right.false) in
          rw (m, n) (sym o ∙ l.invariant.1 test t),
    )

pub returns : goal.returns
returns c =
    λ test t.
    let l = c.loop-k in let a = c.args in
    sym (operands_all test _ _ (a.i - l.k) (a.a - l.k) (omega arith)) ∙ l.invariant.1 test t
