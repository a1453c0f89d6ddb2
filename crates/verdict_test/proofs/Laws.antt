-- A session that is fed keeps its state in its buffers. Assumes nothing.
use mathlib.Core.Path.{◌≡◌, sym, subst}
use mathlib.Core.List.{List, []}
use Prim.Native.Nat.{ℕ, ◌+◌, ◌≤◌}
use native.Mathlib.Omega.{arith}
use lib.ListN.{length}
use Rattle.table.specs.Table.{most_bytes}
use Rattle.session.specs.declared.Brought.TheVariants.{UpTo}
use Rattle.session.specs.declared.State.{State}
use Rattle.session.specs.State.{first, Ready, MakesRoom, received_of}
use Rattle.session.specs.History.{begins}
use Rattle.session.proofs.Steps.{room_ready, received_ready}
use Rattle.session.proofs.Theorems.{always_ready}
use Rattle.verdict_test.specs.Feeding.{Feeds}

pub start_ready : (input table : List ℕ) (s : State) → length input ≡ 20000 → length table ≡ most_bytes → s ≡ first → Ready input table s
start_ready input table s h g e = let l : 16384 ≤ length input = omega arith in subst (λ (x : State). Ready input table x) (sym e) (always_ready input table [] [] first (begins l g))

pub fed_ready : {bytes input input₁ input₂ table : List ℕ} {at n : ℕ} {s r t : State} → Ready input table s → MakesRoom input s input₁ r → Feeds bytes at input₁ r.end input₂ n
    → t ≡ received_of r (UpTo (r.end + n)) → Ready input₂ table t
fed_ready {bytes} {input} {input₁} {input₂} {table} {at} {n} {s} {r} {t} y q f e =
    let low : r.end ≤ r.end + n = omega arith in
    subst (λ (x : State). Ready input₂ table x) (sym e)
    (received_ready (UpTo (r.end + n)) (room_ready y q) (record { room = q.room; size = f.size; before = f.before; reach = (low, f.fits) }))
