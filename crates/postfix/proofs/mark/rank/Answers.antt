use mathlib.Core.Path.{refl}
use native.Mathlib.Omega.{arith}
use Rattle.grammar.specs.Grammar.{rank}
use Rattle.postfix.proofs.Ranks.{others}
use Rattle.postfix.proofs.mark.rank.Goals as goal

pub returns-in-16 : goal.returns-in-16
unfolding rank
returns-in-16 c = rw c.in-16.is (refl, omega arith)

pub returns-in-17 : goal.returns-in-17
unfolding rank
returns-in-17 c = rw c.in-17.is (refl, omega arith)

pub returns-in-18 : goal.returns-in-18
unfolding rank
returns-in-18 c = rw c.in-18.is (refl, omega arith)

pub returns-in-19 : goal.returns-in-19
unfolding rank
returns-in-19 c = rw c.in-19.is (refl, omega arith)

pub returns-in-20 : goal.returns-in-20
unfolding rank
returns-in-20 c = rw c.in-20.is (refl, omega arith)

pub returns-in-21 : goal.returns-in-21
unfolding rank
returns-in-21 c = rw c.in-21.is (refl, omega arith)

pub returns-in-22 : goal.returns-in-22
unfolding rank
returns-in-22 c = rw c.in-22.is (refl, omega arith)

pub returns-in-23 : goal.returns-in-23
unfolding rank
returns-in-23 c = rw c.in-23.is (refl, omega arith)

pub returns-in-24 : goal.returns-in-24
unfolding rank
returns-in-24 c = rw c.in-24.is (refl, omega arith)

pub returns-in-25 : goal.returns-in-25
unfolding rank
returns-in-25 c = rw c.in-25.is (refl, omega arith)

pub returns-in-26 : goal.returns-in-26
unfolding rank
returns-in-26 c = rw c.in-26.is (refl, omega arith)

pub returns-in-32 : goal.returns-in-32
unfolding rank
returns-in-32 c = rw c.in-32.is (refl, omega arith)

pub returns-in-33 : goal.returns-in-33
unfolding rank
returns-in-33 c = rw c.in-33.is (refl, omega arith)

pub returns-in-34 : goal.returns-in-34
unfolding rank
returns-in-34 c = rw c.in-34.is (refl, omega arith)

pub returns-in-35 : goal.returns-in-35
unfolding rank
returns-in-35 c = rw c.in-35.is (refl, omega arith)

pub returns-in-36 : goal.returns-in-36
unfolding rank
returns-in-36 c = rw c.in-36.is (refl, omega arith)

pub returns-in-37 : goal.returns-in-37
unfolding rank
returns-in-37 c = rw c.in-37.is (refl, omega arith)

pub returns-in-41 : goal.returns-in-41
unfolding rank
returns-in-41 c = rw c.in-41.is (refl, omega arith)

pub returns-in-42 : goal.returns-in-42
unfolding rank
returns-in-42 c = rw c.in-42.is (refl, omega arith)

pub returns-in-43 : goal.returns-in-43
unfolding rank
returns-in-43 c = rw c.in-43.is (refl, omega arith)

pub returns-in_default : goal.returns-in_default
returns-in_default c = others c.args.m c.in_default.in_default-own.rest
