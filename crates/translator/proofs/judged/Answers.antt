use mathlib.Core.Path.{ap}
use mathlib.Core.Bool.{not}
use borrow.Author.Tests.{lt-ltb, le-ltb}
use Rattle.translator.proofs.judged.Goals as goal

pub returns-then-not-j-2 : goal.returns-then-not-j-2
returns-then-not-j-2 c = rw (c.if-not-j.false, ap not c.if-not-patterns.false, ap not c.if-not-j-2.true)

pub returns-then-j-gt512 : goal.returns-then-j-gt512
returns-then-j-gt512 c =
    rw (c.if-not-j.false, ap not c.if-not-patterns.false, ap not c.if-not-j-2.false, lt-ltb _ _ c.if-j-gt512.true)

pub returns-then-j-gt32 : goal.returns-then-j-gt32
returns-then-j-gt32 c =
    rw (c.if-not-j.false, ap not c.if-not-patterns.false, ap not c.if-not-j-2.false, le-ltb _ _ c.if-j-gt512.false, lt-ltb _ _ c.if-j-gt32.true)

pub returns : goal.returns
returns c =
    rw (c.if-not-j.false, ap not c.if-not-patterns.false, ap not c.if-not-j-2.false, le-ltb _ _ c.if-j-gt512.false, le-ltb _ _ c.if-j-gt32.false)
