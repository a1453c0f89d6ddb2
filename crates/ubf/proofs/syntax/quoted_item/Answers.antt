use native.Mathlib.Omega.{arith}
use mathlib.Core.Path.{refl}
use Rattle.ubf.proofs.Items.{delimiter_not, quoted_unclosed, quoted_past}
use Rattle.ubf.proofs.syntax.quoted_item.Goals as goal

pub quoted_at-end-requires : goal.quoted_at-end-requires
quoted_at-end-requires c =
    let s = c.before.before.before in
    (omega (arith, s.requires.0), delimiter_not s.args.q 92 s.requires.2 refl)

pub returns-then-end-text : goal.returns-then-end-text
returns-then-end-text c =
    let s = c.before.before.before.before.before.before in
    let a = s.args in
    let q = c.quoted_at-end in
    rw c.past.ensures (quoted_unclosed a.text.now a.p s.requires.0 a.q q.result.end q.result.escapes s.requires.1 s.requires.2 q.ensures c.if-end-text.true)

pub returns : goal.returns
returns c =
    let s = c.before.before.before.before.before.before in
    let a = s.args in
    let q = c.quoted_at-end in
    rw c.past-2.ensures (quoted_past a.text.now a.p s.requires.0 a.q q.result.end q.result.escapes s.requires.1 s.requires.2 q.ensures c.if-end-text.false)
