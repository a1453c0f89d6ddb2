use borrow.Author.Tests.{eq-eqb, ne_eqb}
use Rattle.table.proofs.edition.Goals as goal

pub returns-then-read_u16-eq-SECOND_KIND : goal.returns-then-read_u16-eq-SECOND_KIND
returns-then-read_u16-eq-SECOND_KIND c = rw (← c.read_u16.ensures, eq-eqb _ 4 c.if-read_u16-eq-SECOND_KIND.true)

pub returns-else-read_u16-eq-SECOND_KIND : goal.returns-else-read_u16-eq-SECOND_KIND
returns-else-read_u16-eq-SECOND_KIND c = rw (← c.read_u16.ensures, ne_eqb _ 4 c.if-read_u16-eq-SECOND_KIND.false)
