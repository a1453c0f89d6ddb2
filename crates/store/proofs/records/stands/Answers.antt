-- `stands` meets its contract: each test fails for the record that it asks about, or all hold. Assumes nothing.
use mathlib.Core.Path.{ap, ◌∙◌}
use Prim.Native.Nat.{ℕ, ◌-◌}
use native.Mathlib.Omega.{arith}
use lib.ListN.{get_or}
use lib.Dec.{eqb}
use Rattle.store.proofs.Parses.{stands_not, stands_last}
use Rattle.store.proofs.records.stands.Goals as goal

pub returns-then-end-at : goal.returns-then-end-at
returns-then-end-at c =
    let a = c.args in
    stands_not a.starts.now a.store.now a.end a.at (λ l. omega (arith, l.here, c.if-end-at.true))

pub returns-then-size-lt2 : goal.returns-then-size-lt2
returns-then-size-lt2 c =
    let a = c.args in
    stands_not a.starts.now a.store.now a.end a.at (λ l. omega (arith, l.two, c.if-size-lt2.true, c.read_u16-size.ensures))

pub returns-then-end-at-2 : goal.returns-then-end-at-2
returns-then-end-at-2 c =
    let a = c.args in
    stands_not a.starts.now a.store.now a.end a.at (λ l. omega (arith, l.here, l.within, c.if-end-at-2.true, c.read_u16-size.ensures))

pub returns-then-kind-lt256 : goal.returns-then-kind-lt256
returns-then-kind-lt256 c =
    let a = c.args in
    stands_not a.starts.now a.store.now a.end a.at (λ l. omega (arith, l.low, c.if-kind-lt256.true, c.read_u16-kind.ensures))

pub returns-then-kind-ge320 : goal.returns-then-kind-ge320
returns-then-kind-ge320 c =
    let a = c.args in
    stands_not a.starts.now a.store.now a.end a.at (λ l. omega (arith, l.high, c.if-kind-ge320.true, c.read_u16-kind.ensures))

pub returns : goal.returns
returns c =
    let a = c.args in
    let k = c.read_u16-kind.ensures in
    let z = c.read_u16-size.ensures in
    ap (λ (n : ℕ). eqb (get_or a.starts.now (n - 256) 0) 0) k
    ∙ stands_last a.starts.now a.store.now a.end a.at (omega (arith, c.if-end-at.false)) (omega (arith, z, c.if-size-lt2.false)) (omega (arith, z, c.if-end-at-2.false, c.if-end-at.false)) (omega (arith, k, c.if-kind-lt256.false)) (omega (arith, k, c.if-kind-ge320.false))
