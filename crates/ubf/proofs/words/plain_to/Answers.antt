use mathlib.Core.Path.{sym, ◌∙◌}
use native.Mathlib.Omega.{arith}
use Rattle.ubf.proofs.Plains.{plain_none, plain_more}
use Rattle.ubf.proofs.words.plain_to.Goals as goal

pub returns-then-needs_escape : goal.returns-then-needs_escape
returns-then-needs_escape c =
    let a = c.args in
    record { after = omega arith; near = omega arith; plain = plain_none a.s.now a.q a.at; stops = λ h. sym c.needs_escape.ensures ∙ c.if-needs_escape.true }

pub returns : goal.returns
returns c =
    let a = c.args in
    let w = c.plain_words.ensures in
    let b = c.plain_bytes.ensures in
    record { after = omega (arith, w.0, b.after); near = b.near; plain = plain_more a.s.now a.q a.at c.plain_words.result c.plain_bytes.result w.2 b.plain; stops = b.stops }
