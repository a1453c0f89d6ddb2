use native.Mathlib.Omega.{arith}
use Rattle.translator.proofs.translate_edition.Goals as goal

pub translate_in-requires : goal.translate_in-requires
translate_in-requires c =
    ((λ h. omega (arith, c.if-text-le64.true)), (λ m x y. omega (arith, x, y, c.if-text-le64.true)), (λ m x y. omega (arith, x, y, c.if-text-le64.true)), (omega arith, omega arith, omega arith))

pub translate_in-requires-then-text-le512 : goal.translate_in-requires-then-text-le512
translate_in-requires-then-text-le512 c = ((λ h. omega (arith, c.if-text-le512.true)), (λ m x y. x), (λ m x y. x), (omega arith, omega arith, omega arith))

pub translate_in-requires-2 : goal.translate_in-requires-2
translate_in-requires-2 c = ((λ h. h), (λ m x y. x), (λ m x y. x), (omega arith, omega arith, omega arith))
