-- `size_word` meets its contract: past the end there is a 0. Assumes nothing.
use native.Mathlib.Omega.{arith}
use Rattle.mend.proofs.Walks.{single_byte}
use Rattle.mend.proofs.fields.size_word.Goals as goal

pub returns-then-bytes-at-lt2 : goal.returns-then-bytes-at-lt2
returns-then-bytes-at-lt2 c =
    (single_byte c.args.bytes.now c.args.at (omega arith), omega (arith, c.shared_slice_known-then-bytes-at-lt2-1.given c.args.at))
