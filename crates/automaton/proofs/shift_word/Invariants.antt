use Prim.Native.Nat.{◌≤◌, ◌<◌, ◌^◌}
use mathlib.Core.Path.{◌≡◌}
use mathlib.Core.Bool.{Bool}
use mathlib.Core.List.{[]}
use lib.ListN.{length}
use Rattle.automaton.specs.Table.{tokens_of}
use Rattle.automaton.specs.Pass.{started, pass}
use Rattle.automaton.specs.Word.{cells_in}
use Rattle.automaton.proofs.Word.{lev, on}
use Rattle.automaton.proofs.shift_word.Given as goal

abbrev pub invariant-loop-i : goal.invariant-loop-i
invariant-loop-i l = (l.i ≤ length l.kinds) × (l.bit ≡ 2 ^ l.i) × (l.out < 2 ^ l.i) × ((e : Bool) × (on l.text l.kinds l.args l.rest l.out l.c (lev l.k l.cur e l.fin) l.i ≡ pass (tokens_of l.text l.kinds l.args) (cells_in (length l.kinds) l.w) l.c (started l.k) []))
