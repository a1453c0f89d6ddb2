-- What is copied of a case into a session's buffer.
use Rattle.std.specs.Prelude.{ℕ, ◌+◌, ◌≤◌, List, ◌≡◌, length, take}

-- n bytes that the case and the buffer have; those before `end` stay
pub record Feeds (bytes : List ℕ) (at : ℕ) (input : List ℕ) (end : ℕ) (input' : List ℕ) (n : ℕ) : Type 0 where
  pub there : at + n ≤ length bytes
  pub fits : end + n ≤ length input
  pub size : length input' ≡ length input
  pub before : take end input' ≡ take end input
