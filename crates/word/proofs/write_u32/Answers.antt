use mathlib.Core.Path.{◌∙◌}
use Rattle.word.proofs.Laws.{written}
use Rattle.word.proofs.write_u32.Goals as goal

pub returns : goal.returns
returns c =
    let a = c.args in
    written 4 a.at a.v a.d.now _ c.requires (c.copy_from_slice.ensures.after ∙ c.to_le_bytes.ensures)
