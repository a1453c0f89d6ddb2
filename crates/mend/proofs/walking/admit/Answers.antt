-- `admit` meets its contract: a field that stays is put at its name's place. Assumes nothing.
use mathlib.Core.Path.{sym, ◌∙◌}
use native.Mathlib.Omega.{arith}
use Rattle.mend.proofs.Admitted.{not_admitted, put_requires, admitted}
use Rattle.mend.proofs.walking.admit.Goals as goal

pub put_in-requires : goal.put_in-requires
put_in-requires c =
    let a = c.args in
    let p = c.requires in
    put_requires a.bytes.now a.order.now a.n a.at p.4 c.judge-fate.result c.judge-fate.ensures c.in-Some.place (sym c.place.ensures ∙ c.in-Some.is) p.3 (omega (arith, p.0, p.1.1))

pub returns-in_default : goal.returns-in_default
returns-in_default c = not_admitted c.args.bytes.now c.args.order.now c.args.n c.args.at c.requires.4 c.judge-fate.result c.judge-fate.ensures (sym c.place.ensures ∙ c.in_default.is)

pub returns : goal.returns
returns c =
    let a = c.args in
    admitted a.bytes.now a.order.now a.n a.at c.requires.4 c.judge-fate.result c.judge-fate.ensures c.in-Some.place (sym c.place.ensures ∙ c.in-Some.is) c.requires.3 c.put_in.new.order c.put_in.ensures
