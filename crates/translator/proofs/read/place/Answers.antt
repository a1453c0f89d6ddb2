use native.Mathlib.Omega.{arith}
use Rattle.translator.proofs.read.place.Goals as goal

pub place_in-requires : goal.place_in-requires
place_in-requires c = ((λ h. omega (arith, c.if-text-le512.true)), omega arith)

pub place_in-requires-2 : goal.place_in-requires-2
place_in-requires-2 c = ((λ h. h), omega arith)
