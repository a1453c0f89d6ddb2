use native.Mathlib.Omega.{arith}
use Rattle.translator.proofs.read.read.Goals as goal

pub read_in-requires : goal.read_in-requires
read_in-requires c = (c.requires, (λ h. omega (arith, c.if-text-le64.true)), omega arith)

pub read_in-requires-then-text-le512 : goal.read_in-requires-then-text-le512
read_in-requires-then-text-le512 c = (c.requires, (λ h. omega (arith, c.if-text-le512.true)), omega arith)

pub read_in-requires-2 : goal.read_in-requires-2
read_in-requires-2 c = (c.requires, (λ h. h), omega arith)
