use Prim.Native.Nat.{◌-◌}
use lib.Seq.{sets}
use Rattle.decimal.specs.Decimal.{decimal_of}
use Rattle.decimal.proofs.Laws.{Left}
use Rattle.decimal.proofs.put_decimal.Given as goal

abbrev pub invariant-loop-i : goal.invariant-loop-i
invariant-loop-i l = Left l.out l.at (l.i - l.at) l.rest (sets l.initial.out l.at (decimal_of l.n))
