use Rattle.std.proofs.lemmas.Result.{err_from_is_err_and}
use Prim.Native.Nat.{ℕ}
use native.Mathlib.Omega.{arith}
use mathlib.Core.Path.{subst}
use lib.ListN.{length, length-replicate}
use Rattle.translator.specs.Emit.{Reads}
use Rattle.translator.proofs.Answering.{front_as, answers_read}
use Rattle.translator.proofs.translate_in.Goals as goal

pub read-requires : goal.read-requires
read-requires g c = λ h. omega (arith, length-replicate {A = ℕ} g.row.TOKENS 0, c.requires.0 h)

pub returns-in_err-reading : goal.returns-in_err-reading
returns-in_err-reading g c =
    let p = err_from_is_err_and c.from_residual.result c.from_residual.ensures.1 in
    rw (p.1, p.2) (answers_read c.args.text.now _ c.args.edition (length c.args.buffer.now) (subst (Reads c.args.text.now _ _ _) c.in_err-reading.was c.read.ensures.reads))

pub invariant_of-operands : goal.invariant_of-operands
invariant_of-operands g c = record { bytes = λ i. omega (arith, c.type_inv.text i) }

pub slice_bounds-tokens-end : goal.slice_bounds-tokens-end
slice_bounds-tokens-end g c =
    let rd = subst (Reads c.args.text.now _ _ _) c.in_ok-reading.was c.read.ensures.reads in
    omega (arith, rd.0)

pub tokens-requires : goal.tokens-requires
tokens-requires g c =
    let rd = subst (Reads c.args.text.now _ _ _) c.in_ok-reading.was c.read.ensures.reads in
    ((λ m x y. omega (arith, length-replicate {A = ℕ} g.row.OPERANDS 0, c.requires.1 m x y, c.read.ensures.marks_len_unchanged.1)), (λ m x y. omega (arith, length-replicate {A = ℕ} g.row.OPERANDS 0, c.requires.1 m x y, c.read.ensures.marks_len_unchanged.2)), (λ m x y. omega (arith, length-replicate {A = ℕ} g.row.CODES 0, c.requires.2 m x y)), rw front_as rd.1)

pub returns : goal.returns
returns g c = c.tokens.ensures
