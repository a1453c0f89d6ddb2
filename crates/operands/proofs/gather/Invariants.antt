use Rattle.operands.specs.Gather.{place_at, size_at}
use Rattle.operands.proofs.Gathers.{Gathering}
use Rattle.operands.proofs.gather.Given as goal

abbrev pub invariant-loop-i : goal.invariant-loop-i
invariant-loop-i l = Gathering (place_at l.starts) l.marks l.initial.places l.places l.n l.i × Gathering (size_at l.text l.marks l.starts) l.marks l.initial.sizes l.sizes l.n l.i
