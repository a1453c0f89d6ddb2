use mathlib.Core.Path.{sym, ap, ◌∙◌}
use native.Mathlib.Omega.{arith}
use mir.Syntax.{w32}
use mir.ValLaws.{to_z_pos}
use Rattle.std.specs.Prelude.{Some, None}
use Rattle.utf8.proofs.Theorems.{few}
use Rattle.value.specs.Value.{int32}
use Rattle.value.specs.Held.{part_of}
use Rattle.value.proofs.Parts.{below_half, sized}
use Rattle.value.proofs.values.text_size.Goals as goal

pub overflow_cast-result : goal.overflow_cast-result
overflow_cast-result c =
    let h = rw c.in-Some.is at c.count.ensures in
    record { sfits = below_half _ (omega (arith, few _ _ h, c.fetch-s.ensures.1)) }

pub returns-in-Some : goal.returns-in-Some
returns-in-Some c =
    let a = c.args in
    let n = c.in-Some.n in
    let h = rw c.in-Some.is at c.count.ensures in
    ap int32 (to_z_pos w32 n (below_half n (omega (arith, few _ _ h, c.fetch-s.ensures.1))))
    ∙ sym (sized a.p.folded (part_of a.pool.now a.notice.now a.p) (Some n) c.fetch-s.ensures.0 h)

pub returns-in-None : goal.returns-in-None
returns-in-None c =
    let a = c.args in
    sym (sized a.p.folded (part_of a.pool.now a.notice.now a.p) None c.fetch-s.ensures.0 (rw c.in-None.is at c.count.ensures))
