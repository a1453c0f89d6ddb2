use Rattle.std.proofs.Common.{ap, ◌∙◌, rules}
use Rattle.truth.specs.Truth.{of_bool}
use Rattle.number.proofs.Reals.{left, right}
use Rattle.number.proofs.compare.Goals as goal

pub returns-in-Int32-Real : goal.returns-in-Int32-Real
returns-in-Int32-Real g c =
    let w = c.in-Int32-Real in let p = w.is-0 in let q = w.is-1 in
    rw (p, q) (c.from-in-Int32-Real.ensures ∙ ap of_bool (c.holds-in-Int32-Real.ensures ∙ g.met.C.Comparison.alike c.args.c _ _ _ _ (left w.x (record { sfits = search rules }) w.y)))

pub returns-in-Real-Int32 : goal.returns-in-Real-Int32
returns-in-Real-Int32 g c =
    let w = c.in-Real-Int32 in let p = w.is-0 in let q = w.is-1 in
    rw (p, q) (c.from-in-Real-Int32.ensures ∙ ap of_bool (c.holds-in-Real-Int32.ensures ∙ g.met.C.Comparison.alike c.args.c _ _ _ _ (right w.y (record { sfits = search rules }) w.x)))
