use Rattle.pattern.proofs.Items.{takes_run, takes-any, takes-escaped, takes-set, takes-plain}
use native.Mathlib.Omega.{arith}
use mathlib.Core.Path.{◌∙◌}
use Rattle.pattern.proofs.wildcard.item_takes.Goals as goal

pub returns-in-42 : goal.returns-in-42
returns-in-42 c = let a = c.args in takes_run a.mark a.p.now a.i a.c (omega arith) c.in-42.is

pub returns-in-63 : goal.returns-in-63
returns-in-63 c =
    let a = c.args in
    let e = c.in-63.is in
    takes-any a.mark a.p.now a.i a.c (omega arith) (omega (arith, e)) e

pub returns-in-92 : goal.returns-in-92
returns-in-92 c =
    let a = c.args in
    let e = c.in-92.is in
    c.plain_takes.ensures ∙ takes-escaped a.mark a.p.now a.i a.c (omega arith) (omega (arith, e)) (omega (arith, e)) e

pub returns-in-91 : goal.returns-in-91
returns-in-91 c =
    let a = c.args in
    let e = c.in-91.is in
    c.set_takes.ensures ∙ takes-set a.mark a.p.now a.i a.c (omega arith) (omega (arith, e)) (omega (arith, e)) (omega (arith, e)) e

pub returns-in_default : goal.returns-in_default
returns-in_default c = let a = c.args in
    c.plain_takes-in_default.ensures ∙ takes-plain a.mark a.p.now a.i a.c (omega arith) (omega arith) (omega arith) (omega arith) (omega arith)
