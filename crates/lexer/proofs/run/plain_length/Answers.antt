use Prim.Native.Nat.{◌-◌}
use mathlib.Core.Bool.{false}
use native.Mathlib.Omega.{arith}
use lib.ListN.{length, take, drop, length-drop}
use lib.Seq.{length-take-le}
use Rattle.lexer.specs.Run.{run_of}
use Rattle.lexer.proofs.Scans.{unescaped_fits, run_fit}
use Rattle.lexer.proofs.run.plain_length.Goals as goal

pub overflow_add-result : goal.overflow_add-result
overflow_add-result c =
    let s = c.args.s.now in
    let q = c.args.quote in
    let n = c.free_length-n.result in
    let d = length-drop n s in
    let x = take (length s - n) (drop n s) in
    let l = length-take-le (length s - n) (drop n s) (omega (arith, d)) in
    omega (arith, c.copy_plain.ensures.value, unescaped_fits false (run_of q x), run_fit q x, l)
