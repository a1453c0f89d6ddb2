use Prim.Native.Nat.{◌≤◌, ◌-◌}
use mathlib.Core.Path.{◌≡◌}
use mathlib.Core.List.{◌++◌}
use lib.ListN.{length, take}
use Rattle.automaton.specs.Word.{bits_of, cells_in}
use Rattle.automaton.proofs.unpack.Given as goal

abbrev pub invariant-loop-m : goal.invariant-loop-m
invariant-loop-m l = (l.m-index ≤ length l.initial.marks) × (length l.marks ≡ length l.initial.marks) × (take l.m-index l.marks ++ bits_of (length l.initial.marks - l.m-index) l.rest ≡ cells_in (length l.initial.marks) l.w)
