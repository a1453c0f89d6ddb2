-- `words::before_words` meets its contract: the bytes before i are the same. Assumes nothing.
use mathlib.Core.Path.{◌≡◌, refl, sym, ◌∙◌}
use Prim.Native.Nat.{◌+◌, ◌-◌}
use native.Mathlib.Omega.{arith}
use Rattle.octets.proofs.Sames.{less_alike, more_alike}
use Rattle.octets.proofs.Leads.{all_alike}
use Rattle.octets.proofs.words.before_words.Goals as goal

pub loop-i-init : goal.loop-i-init
loop-i-init c = (omega arith, refl)

pub by_word-requires : goal.by_word-requires
by_word-requires c = (
  omega arith,
  omega arith,
  c.loop-i.invariant.1,
  λ e. c.if-read_u64.true (c.read_u64.ensures ∙ (e ∙ sym c.read_u64-in-loop-i.ensures)),
)

pub loop-i-preserved : goal.loop-i-preserved
loop-i-preserved c =
    let a = c.args in
    let e = sym c.read_u64.ensures ∙ (c.if-read_u64.false ∙ c.read_u64-in-loop-i.ensures) in (
      omega arith,
      more_alike a.s.now a.t.now (λ i. (c.type_inv.s i).fits) (λ i. (c.type_inv.t i).fits) 8 c.loop-i.i (omega arith) (omega arith) e c.loop-i.invariant.1,
    )

pub by_word-requires-then-read_u64-2 : goal.by_word-requires-then-read_u64-2
by_word-requires-then-read_u64-2 c =
    let a = c.args in
    let n = c.min-tail.result - 8 in (
      omega arith,
      omega arith,
      less_alike a.s.now a.t.now n c.loop-i.i (omega arith) c.loop-i.invariant.1,
      λ e. c.if-read_u64-2.true (c.read_u64-2.ensures ∙ (e ∙ sym c.read_u64-3.ensures)),
    )

pub returns : goal.returns
returns c =
    let a = c.args in
    let n = c.min-tail.result in
    let z : n - 8 + 8 ≡ n = omega arith in
    let e = sym c.read_u64-2.ensures ∙ (c.if-read_u64-2.false ∙ c.read_u64-3.ensures) in
    let b = less_alike a.s.now a.t.now (n - 8) c.loop-i.i (omega arith) c.loop-i.invariant.1 in
    let w = more_alike a.s.now a.t.now (λ i. (c.type_inv.s i).fits) (λ i. (c.type_inv.t i).fits) 8 (n - 8) (omega arith) (omega arith) e b in
    all_alike n a.s.now a.t.now c.min-tail.ensures (rw z at w)
