-- What an answer of a read means.
use Rattle.std.specs.Prelude.{ℕ, ◌+◌, ◌⊎◌, ◌≡◌, ℤ, pos, negsuc, Ok, Err}
use Rattle.std.specs.declared.result.Result.{Result}
use Rattle.session.specs.declared.Brought.{Brought}
use Rattle.session.specs.declared.Brought.TheVariants.{UpTo, Again}

-- a read's answer as the system's call gives it: how many bytes it put there, or -1 where it failed
abbrev pub answer_of : {E : Type 0} → Result ℕ E → ℤ
answer_of (Ok n) = pos n
answer_of (Err e) = negsuc 0

-- All bytes that a read behind `end` put there count. One that failed brought none: it is repeated, or nothing more can come.
abbrev pub BroughtBy : ℤ → ℕ → Brought → Type 0
BroughtBy (pos n) end b = b ≡ UpTo (end + n)
BroughtBy (negsuc n) end b = (b ≡ Again) ⊎ (b ≡ UpTo end)
