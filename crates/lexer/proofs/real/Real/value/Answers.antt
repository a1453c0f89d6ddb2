use mathlib.Core.Path.{◌≡◌, refl, ◌∙◌, sym}
use lib.Ieee.{of_bits, binary64, nan}
use Rattle.lexer.specs.Real.{real_digits}
use Rattle.lexer.proofs.Decimals.{real_decimal, kept_small, fits_parts}
use Rattle.lexer.proofs.real.Real.value.Goals as goal

nan_bits : of_bits binary64 9221120237041090560 ≡ nan
unfolding of_bits
nan_bits = refl

pub returns-then-not-fits : goal.returns-then-not-fits
returns-then-not-fits c =
    let e = sym c.fits.ensures ∙ c.if-not-fits.true in
    rw e nan_bits

pub scale-e-requires : goal.scale-e-requires
scale-e-requires c =
    let run = c.args.self.now.run.now in
    let e = sym c.fits.ensures ∙ c.if-not-fits.false in
    (fits_parts run e).0

pub returns : goal.returns
returns c =
    let run = c.args.self.now.run.now in
    let e = sym c.fits.ensures ∙ c.if-not-fits.false in
    let k = kept_small (real_digits run) (real_decimal run) (fits_parts run e).1 in
    rw (e, c.decimal.ensures, c.is_minus.ensures, c.scale-e.ensures.0, c.scale-e.ensures.1, c.args.self.now.digits_are, k)
