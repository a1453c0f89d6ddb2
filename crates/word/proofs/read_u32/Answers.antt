use native.Mathlib.Omega.{arith}
use Rattle.word.proofs.Laws.{word_parts}
use Rattle.word.proofs.read_u32.Goals as goal

pub returns : goal.returns
returns c =
    let a = c.args in
    omega (arith, word_parts 2 2 a.at a.s.now, c.read_u16-low.ensures, c.read_u16-high.ensures)
