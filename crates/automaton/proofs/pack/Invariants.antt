use Prim.Native.Nat.{◌≤◌, ◌<◌, ◌^◌}
use mathlib.Core.Path.{◌≡◌}
use lib.ListN.{length, take}
use Rattle.automaton.specs.Word.{bits_of}
use Rattle.automaton.proofs.pack.Given as goal

abbrev pub invariant-loop-m : goal.invariant-loop-m
invariant-loop-m l = (l.m-index ≤ length l.marks) × (l.bit ≡ 2 ^ l.m-index) × (l.out < 2 ^ l.m-index) × (bits_of l.m-index l.out ≡ take l.m-index l.marks)
