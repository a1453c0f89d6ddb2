use Prim.Native.Nat.{◌+◌}
use native.Mathlib.Omega.{arith}
use Rattle.word.proofs.Laws.{word_parts, word_one}
use Rattle.word.proofs.read_u16.Goals as goal

pub returns : goal.returns
returns c =
    let a = c.args in
    omega (arith, c.from_le_bytes.ensures, word_parts 1 1 a.at a.s.now, word_one a.at a.s.now, word_one (a.at + 1) a.s.now)
