use native.Mathlib.Omega.{arith}
use lib.ListN.{length}
use Rattle.translator.proofs.Answering.{ks, marked, ready, known, answers_broken}
use Rattle.translator.proofs.tokens.Goals as goal

pub parse-requires : goal.parse-requires
parse-requires c = ready c.args.operands.bytes c.requires.3

pub expression-requires : goal.expression-requires
expression-requires c =
    (c.requires.0, c.requires.1, (λ m x y. omega (arith, c.requires.2 m x y, c.parse.auto.codes)), known c.args.operands.bytes c.requires.3 c.parse.new.codes c.args.codes.now (c.parse.ensures (ks c.args.operands.bytes c.requires.3) (marked c.args.operands.bytes c.requires.3)).0 c.in-Ok.is (c.parse.ensures (ks c.args.operands.bytes c.requires.3) (marked c.args.operands.bytes c.requires.3)).1)

pub returns-in-Ok : goal.returns-in-Ok
returns-in-Ok c = c.expression.ensures

pub returns-in-Err : goal.returns-in-Err
returns-in-Err c =
    answers_broken c.args.operands.bytes c.requires.3 c.args.edition (length c.args.buffer.now) (c.parse.ensures (ks c.args.operands.bytes c.requires.3) (marked c.args.operands.bytes c.requires.3)).0 c.in-Err.is c.place.ensures
