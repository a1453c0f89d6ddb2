use mathlib.Core.Path.{sym, ◌∙◌}
use native.Mathlib.Omega.{arith}
use Rattle.grammar.proofs.Streams.{name_small, string_small}
use Rattle.operands.proofs.Gathers.{no_bytes}
use Rattle.operands.proofs.size.Goals as goal

pub overflow_cast-result : goal.overflow_cast-result
overflow_cast-result c =
    omega (arith, c.name_length.ensures, name_small c.args.text.now c.args.at, c.requires)

pub returns-then-k-eq-NAME : goal.returns-then-k-eq-NAME
returns-then-k-eq-NAME c = c.name_length.ensures ∙ sym (rw c.if-k-eq-NAME.true)

pub overflow_cast-result-then-k-eq-TEXT : goal.overflow_cast-result-then-k-eq-TEXT
overflow_cast-result-then-k-eq-TEXT c =
    omega (arith, c.string_length.ensures, string_small c.args.text.now c.args.at, c.requires)

pub returns-then-k-eq-TEXT : goal.returns-then-k-eq-TEXT
returns-then-k-eq-TEXT c = c.string_length.ensures ∙ sym (rw c.if-k-eq-TEXT.true)

pub returns : goal.returns
returns c =
    let a = c.args in
    sym (no_bytes a.text.now a.k a.at c.if-k-eq-NAME.false c.if-k-eq-TEXT.false)
