use Prim.Native.Nat.{ℕ}
use native.Mathlib.Omega.{arith}
use lib.ListN.{length-replicate}
use Rattle.table.proofs.Passing.{nothing}
use Rattle.table.proofs.kinds_right_in.Goals as goal

pub whole_as_slice-kinds_right : goal.whole_as_slice-kinds_right
whole_as_slice-kinds_right g c = let p = c.requires.3 in omega arith

pub kinds_right-requires : goal.kinds_right-requires
kinds_right-requires g c = let p = c.requires in (p.0, p.1, rw (length-replicate {A = ℕ} g.row.N 0) p.2, nothing g.row.N)
