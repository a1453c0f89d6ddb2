-- `session::received` meets its contract. Assumes nothing.
use mathlib.Core.Path.{sym, ap}
use Rattle.session.specs.declared.Brought.{Brought}
use Rattle.session.specs.State.{received_of}
use Rattle.session.proofs.received.Goals as goal

pub returns-in-UpTo : goal.returns-in-UpTo
returns-in-UpTo c = ap (λ (b : Brought). received_of c.args.s b) (sym c.in-UpTo.is)
