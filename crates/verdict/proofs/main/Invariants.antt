-- `verdict::main` meets its contract: what it has come to always has a history. Assumes nothing.
use mathlib.Core.List.{List}
use Prim.Native.Nat.{ℕ}
use Rattle.session.specs.History.{Session}
use Rattle.verdict.proofs.main.Given as goal

abbrev pub invariant-loop : goal.invariant-loop
invariant-loop l = (read : List ℕ) × (written : List ℕ) × Session l.input l.table l.state read written
