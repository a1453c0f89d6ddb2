-- How a session's history goes on. Assumes nothing.
use mathlib.Core.Path.{◌≡◌, sym, ap, subst, ◌∙◌}
use mathlib.Core.List.{List, [], ◌++◌, append-nil}
use Prim.Native.Nat.{ℕ, ◌≤◌}
use native.Mathlib.Omega.{arith}
use lib.ListN.{length}
use Rattle.table.specs.Table.{most_bytes}
use Rattle.session.specs.declared.Brought.{Brought}
use Rattle.session.specs.declared.State.{State}
use Rattle.session.specs.declared.Next.TheVariants.{Read}
use Rattle.session.specs.State.{first, crowded, MakesRoom, Reads, arrived, received_of}
use Rattle.session.specs.History.{Session, begins, moves, reads}
use Rattle.session.proofs.Steps.{moved_next}

pub starts : (input table : List ℕ) (s : State) → length input ≡ 65536 → length table ≡ most_bytes → s ≡ first → Session input table s [] []
starts input table s h g e = let l : 16384 ≤ length input = omega arith in subst (λ (x : State). Session input table x [] []) (sym e) (begins l g)

pub reads_on : {input input₁ input₂ table read written : List ℕ} {s r t : State} {b : Brought}
    → Session input table s read written → s.next ≡ Read → MakesRoom input s input₁ r → Reads input₁ r.end input₂ b → t ≡ received_of r b
    → (x : List ℕ) × Session input₂ table t (read ++ x) written
reads_on {input} {input₁} {input₂} {table} {read} {written} {s} {r} {t} {b} h e q g et =
    let n : r.next ≡ Read = ap (λ (x : State). x.next) q.state ∙ moved_next (crowded input s) s ∙ e in
    let x : List ℕ = arrived input₂ r.end b in
    (x, subst (λ (y : State). Session input₂ table y (read ++ x) written) (sym et) (reads (moves h e q) n g))

-- nothing is added
module _ {input table read written : List ℕ} {s : State} (h : Session input table s read written) where
  pub nothing_read : Session input table s (read ++ []) written
  nothing_read = subst (λ (x : List ℕ). Session input table s x written) (sym (append-nil read)) h

  pub nothing_written : Session input table s read (written ++ [])
  nothing_written = subst (λ (x : List ℕ). Session input table s read x) (sym (append-nil written)) h
