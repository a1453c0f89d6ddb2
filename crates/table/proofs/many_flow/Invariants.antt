use mathlib.Core.Path.{◌≡◌}
use mathlib.Core.List.{List}
use mathlib.Core.Option.{Option}
use Prim.Native.Nat.{suc, ◌-◌}
use lib.ListN.{replicate}
use Rattle.opcode.specs.Opcode.{Kind, value}
use Rattle.table.specs.Check.{pop}
use Rattle.table.specs.Number.{number_of}
use Rattle.table.proofs.Numbers.{Popping}
use Rattle.table.proofs.many_flow.Given as goal

abbrev pub invariant-loop : goal.invariant-loop
invariant-loop l = (s : Option (List Kind)) → l.c ≡ number_of s → Popping (l.a - l.counter) l.d (pop (replicate (suc l.a) value) s)
