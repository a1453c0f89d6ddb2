-- What reading a part of a case leaves.
use Rattle.std.specs.Prelude.{ℕ, ◌≤◌, List, ◌≡◌, length, drop, Option, IfSome}

-- a part of n bytes lies at the buffer's start, and the bytes behind it stay
pub record Lies (before after : List ℕ) (n : ℕ) : Type 0 where
  pub within : n ≤ length after
  pub behind : drop n after ≡ drop n before

-- where there is a part, it lies in the buffer
abbrev pub Holds : List ℕ → List ℕ → Option ℕ → Type 0
Holds before after part = IfSome part (Lies before after)
