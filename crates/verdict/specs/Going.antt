-- The program goes on with a session: every history of it is continued by what was read and what was handed to `write`.
use Rattle.std.specs.Prelude.{ℕ, List, ◌++◌, take}
use Rattle.std.specs.declared.ops.ControlFlow.{ControlFlow}
use Rattle.std.specs.declared.ops.ControlFlow.TheVariants.{Continue, Break}
use Rattle.session.specs.declared.State.{State}
use Rattle.session.specs.History.{Session}

-- the state that a step leaves, whether the program goes on or stops
abbrev pub state_of : ControlFlow State State → State
state_of (Continue s) = s
state_of (Break s) = s

-- by a turn, whose lines are handed over
abbrev pub Answered : List ℕ → List ℕ → State → List ℕ → List ℕ → State → Type 0
Answered input table s table' out' r = (read written : List ℕ) → Session input table s read written → Session input table' r read (written ++ take r.written out')

-- by a read
abbrev pub ReadOn : List ℕ → State → List ℕ → State → Type 0
ReadOn input s input' r = (table read written : List ℕ) → Session input table s read written → (x : List ℕ) × Session input' table r (read ++ x) written

-- by either
abbrev pub Goes : List ℕ → List ℕ → State → List ℕ → List ℕ → State → Type 0
Goes input table s input' table' r =
    (read written : List ℕ) → Session input table s read written → (x : List ℕ) × (y : List ℕ) × Session input' table' r (read ++ x) (written ++ y)
