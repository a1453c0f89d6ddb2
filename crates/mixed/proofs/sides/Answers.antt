use mathlib.Core.Path.{sym, subst}
use lib.Dec.{T}
use Rattle.mixed.proofs.Beyond.{masked_holds, shifted_holds, near, far_up, far_down}
use Rattle.mixed.proofs.sides.Goals as goal
use Rattle.mixed.proofs.sides.Goals.{else-z-gtminus9007199254740993-via-then-z-gtminus9007199254740993+else-z-lt9007199254740993, else-z-gtminus9007199254740993-via-else-z-gtminus9007199254740993}

pub returns-then-z-lt9007199254740993 : goal.returns-then-z-lt9007199254740993
returns-then-z-lt9007199254740993 c =
    near c.args.z c.ranges.z c.if-z-gtminus9007199254740993.true c.if-z-lt9007199254740993.true c.args.x

pub int_to_float-result-2 : goal.int_to_float-result-2
int_to_float-result-2 c = masked_holds c.args.z c.ranges.z

pub int_to_float-result-3 : goal.int_to_float-result-3
int_to_float-result-3 c = shifted_holds c.args.z c.ranges.z

pub returns : goal.returns
returns c =
    let held : T _ = subst T (sym c.well_formed.1.0.1) tt in
    elim c.else-z-gtminus9007199254740993.branch [
      | else-z-gtminus9007199254740993-via-then-z-gtminus9007199254740993+else-z-lt9007199254740993 w ↦ far_up c.args.z c.ranges.z w.if-z-lt9007199254740993.false c.args.x held
      | else-z-gtminus9007199254740993-via-else-z-gtminus9007199254740993 w ↦ far_down c.args.z c.ranges.z w.if-z-gtminus9007199254740993.false c.args.x held
    ]
