use Rattle.lexer.proofs.Decimals.{from_exponent, no_point, with_point}
use Rattle.lexer.proofs.real.Real.is_real.Goals as goal

pub returns-then-byte_at-ne46 : goal.returns-then-byte_at-ne46
returns-then-byte_at-ne46 c =
    let run = c.args.self.now.run.now in
    let f = rw (c.byte_at.ensures, c.args.self.now.point_is) at c.if-byte_at-ne46.true in
    no_point run f

pub returns : goal.returns
returns c =
    let run = c.args.self.now.run.now in
    let p = c.args.self.now in
    let f = rw (c.byte_at.ensures, p.point_is) at c.if-byte_at-ne46.false in
    rw (c.is_exponent.ensures, c.rest-part.ensures, c.sign_length-n.ensures.0, p.point_is, p.exponent_is, from_exponent run) (with_point run f)
