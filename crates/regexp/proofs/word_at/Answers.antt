use Rattle.regexp.proofs.Parts.{word_escaped, word-any, word_plain}
use native.Mathlib.Omega.{arith}
use Rattle.regexp.proofs.word_at.Goals as goal

pub returns-in-92 : goal.returns-in-92
returns-in-92 c = word_escaped c.args.text.now c.args.i c.requires c.in-92.is (omega arith)

pub returns-in-46 : goal.returns-in-46
returns-in-46 c =
    let e = c.in-46.is in word-any c.args.text.now c.args.i c.requires (omega (arith, e)) (omega (arith, e)) e

pub returns-in_default : goal.returns-in_default
returns-in_default c =
    word_plain c.args.text.now c.args.i c.requires (omega arith) (omega arith) (omega arith) (omega arith) (omega arith) (omega arith) (omega arith) (omega arith) (omega arith) (omega arith) (omega arith)
