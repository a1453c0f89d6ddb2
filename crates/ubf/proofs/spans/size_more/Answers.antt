use mathlib.Core.Path.{sym}
use native.Mathlib.Omega.{arith}
use Rattle.ubf.proofs.Tuples.{size_small}
use Rattle.ubf.proofs.spans.size_more.Goals as goal

pub returns-then-size-name : goal.returns-then-size-name
returns-then-size-name c = sym (rw c.if-size-name.true)

pub overflow_add-result : goal.overflow_add-result
overflow_add-result c = let a = c.args in omega (arith, size_small a.size a.name a.value c.if-size-name.false)

pub overflow_add-result-2 : goal.overflow_add-result-2
overflow_add-result-2 c = let a = c.args in omega (arith, size_small a.size a.name a.value c.if-size-name.false)

pub overflow_add-result-3 : goal.overflow_add-result-3
overflow_add-result-3 c = let a = c.args in omega (arith, size_small a.size a.name a.value c.if-size-name.false)

pub returns : goal.returns
returns c = sym (rw c.if-size-name.false)
