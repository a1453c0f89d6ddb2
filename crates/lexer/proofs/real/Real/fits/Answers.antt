use mathlib.Core.Path.{◌≡◌, ◌∙◌, ap}
use native.Mathlib.Omega.{arith}
use Prim.Native.Nat.{ℕ, ◌+◌}
use lib.ListN.{length, drop}
use borrow.Author.Tests.{le-leb, lt-leb}
use Rattle.lexer.specs.Real.{exponent_part, exponent_digits, real_digits}
use Rattle.lexer.proofs.Decimals.{from_exponent, fifteen_capped, real_decimal}
use Rattle.lexer.proofs.real.Real.fits.Lts as lts
use Rattle.lexer.proofs.real.Real.fits.Tie as tie
use Rattle.lexer.proofs.real.Real.fits.Reads as reads
use Rattle.lexer.proofs.real.Real.fits.Goals as goal

-- how many digits the exponent has
count : (c : lts.After-exponent_digits tie.the-claims reads.Pre reads.Post)
    → c.exponent_digits-d.result.end ≡ c.sign_end-n.result + length (exponent_digits (exponent_part c.args.self.now.run.now))
count c =
    let run = c.args.self.now.run.now in
    let e = c.rest-part.ensures ∙ ap (λ (k : ℕ). drop k run) c.args.self.now.exponent_is ∙ from_exponent run in
    let n = rw e at c.sign_end-n.ensures.0 in
    let d = rw e at c.exponent_digits-d.ensures.0 in
    omega (arith, n, d)

pub returns-then-n-d : goal.returns-then-n-d
returns-then-n-d c =
    let n = count c.before.before.before in
    rw (lt-leb (length (exponent_digits (exponent_part c.args.self.now.run.now))) 3 (omega (arith, n, c.if-n-d.true)))

pub scale-e-requires : goal.scale-e-requires
scale-e-requires c =
    omega (arith, count c.before.before.before, c.if-n-d.false)

pub returns : goal.returns
returns c =
    let run = c.args.self.now.run.now in
    let p = c.args.self.now in
    let n = count c.before.before.before.before.before.before in
    let h = le-leb (length (exponent_digits (exponent_part run))) 3 (omega (arith, n, c.if-n-d.false)) in
    rw (h, c.scale-e.ensures.0, p.digits_are, fifteen_capped (real_digits run) (real_decimal run))
