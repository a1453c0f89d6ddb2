use mathlib.Core.Path.{◌≡◌, ◌∙◌, sym, ap}
use native.Mathlib.Omega.{arith}
use Prim.Native.Nat.{ℕ, ◌+◌, ◌-◌, ◌<◌}
use lib.ListN.{length, drop}
use Rattle.lexer.specs.Digits.{whole_of}
use Rattle.lexer.specs.Real.{exponent_part, exponent_digits, after_sign, fraction_digits, is_down}
use Rattle.lexer.proofs.Decimals.{from_exponent, fraction_fits, scale_down, scale_below, scale_above, digits_decimal, three_small}
use Rattle.lexer.proofs.real.Real.scale.Lts as lts
use Rattle.lexer.proofs.real.Real.scale.Tie as tie
use Rattle.lexer.proofs.real.Real.scale.Reads as reads
use Rattle.lexer.proofs.real.Real.scale.Goals as goal

-- the part after the fraction, its exponent, which is not capped, and the count of fraction digits
part : (c : lts.After-rest tie.the-claims reads.Pre reads.Post) → c.rest-part.result.now ≡ exponent_part c.args.self.now.run.now
part c =
    let run = c.args.self.now.run.now in
    c.rest-part.ensures ∙ ap (λ (k : ℕ). drop k run) c.args.self.now.exponent_is ∙ from_exponent run

small : (c : lts.After-exponent_digits tie.the-claims reads.Pre reads.Post) → let run = c.args.self.now.run.now in
    (c.exponent_digits-d.result.value ≡ whole_of 10 (exponent_digits (exponent_part run))) × (c.exponent_digits-d.result.value < 1000)
small c =
    let run = c.args.self.now.run.now in
    let t = three_small (exponent_digits (exponent_part run)) (digits_decimal (after_sign (exponent_part run))) c.requires in
    let e = rw (part c.before) at c.exponent_digits-d.ensures.1 in
    (e ∙ t.0, omega (arith, e, t.0, t.1))

count : (c : lts.After-rest-arg tie.the-claims reads.Pre reads.Post) → c.args.self.now.exponent - (c.args.self.now.point + 1) ≡ length (fraction_digits c.args.self.now.run.now)
count c = omega (arith, c.args.self.now.point_is, c.args.self.now.exponent_is)

pub overflow_add-size : goal.overflow_add-size
overflow_add-size c =
    let s = c.before.before.before.before.before.before in
    omega (arith, small c.before.before.before, count s, fraction_fits s.args.self.now.run.now)

pub returns-then-is_down : goal.returns-then-is_down
returns-then-is_down c =
    let run = c.args.self.now.run.now in
    let d = sym (rw (part c.before.before.before.before) at c.is_down.ensures) ∙ c.if-is_down.true in
    scale_down (is_down (exponent_part run)) (whole_of 10 (exponent_digits (exponent_part run))) (length (fraction_digits run)) _ _ (small c.before.before.before).0 (count c.before.before.before.before.before.before) d

pub returns-then-x-n : goal.returns-then-x-n
returns-then-x-n c =
    let run = c.args.self.now.run.now in
    let d = sym (rw (part c.before.before.before.before.before) at c.is_down.ensures) ∙ c.if-is_down.false in
    scale_below (is_down (exponent_part run)) (whole_of 10 (exponent_digits (exponent_part run))) (length (fraction_digits run)) _ _ (small c.before.before.before.before).0 (count c.before.before.before.before.before.before.before) d c.if-x-n.true

pub returns : goal.returns
returns c =
    let run = c.args.self.now.run.now in
    let d = sym (rw (part c.before.before.before.before.before) at c.is_down.ensures) ∙ c.if-is_down.false in
    scale_above (is_down (exponent_part run)) (whole_of 10 (exponent_digits (exponent_part run))) (length (fraction_digits run)) _ _ (small c.before.before.before.before).0 (count c.before.before.before.before.before.before.before) d c.if-x-n.false
