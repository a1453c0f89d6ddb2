-- The theorem that specs/Theorems.antt states, by computing. Assumes nothing.
use mathlib.Core.Path.{refl}
use Rattle.opcode.specs.Theorems.{Named}

pub named : Named
named = refl
