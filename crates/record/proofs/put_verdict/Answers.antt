use mathlib.Core.Path.{sym, ap}
use native.Mathlib.Omega.{arith}
use Rattle.truth.specs.declared.Truth.TheVariants.{False, Bottom, True}
use Rattle.record.specs.Line.{verdict_of}
use Rattle.record.proofs.Laws.{spelled}
use Rattle.record.proofs.put_verdict.Goals as goal

pub returns-in-True : goal.returns-in-True
returns-in-True c =
    spelled (verdict_of True) (verdict_of c.args.t) (sym (ap verdict_of c.in-True.is)) (omega arith) c.put_bytes.ensures

pub returns-in-False : goal.returns-in-False
returns-in-False c =
    spelled (verdict_of False) (verdict_of c.args.t) (sym (ap verdict_of c.in-False.is)) (omega arith) c.put_bytes-in-False.ensures

pub returns-in-Bottom : goal.returns-in-Bottom
returns-in-Bottom c =
    spelled (verdict_of Bottom) (verdict_of c.args.t) (sym (ap verdict_of c.in-Bottom.is)) (omega arith) c.put_bytes-in-Bottom.ensures
