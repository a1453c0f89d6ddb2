use Prim.Native.Nat.{ℕ}
use native.Mathlib.Omega.{arith}
use Rattle.std.proofs.lemmas.List.{length-take-le}
use mathlib.Core.Path.{subst}
use Rattle.translator.specs.Emit.{Reads}
use Rattle.translator.proofs.Answering.{ready}
use Rattle.grammar_test.proofs.sizes_of.Goals as goal

pub slice_bounds-parsed-end : goal.slice_bounds-parsed-end
slice_bounds-parsed-end c =
    let rd = subst (Reads c.args.text.now _ _ _) c.in_ok-reading.was c.read.ensures.reads in
    omega (arith, rd.0, length-take-le c.in_ok-reading.reading.tokens c.read.new.marks rd.0)

pub parsed-requires : goal.parsed-requires
parsed-requires c =
    let rd = subst (Reads c.args.text.now _ _ _) c.in_ok-reading.was c.read.ensures.reads in
    ready (λ i. omega (arith, c.shared_slice_known-1.given i)) rd.1
