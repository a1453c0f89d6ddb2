-- Numbers in decimal, and bytes that are put one after the other.
use Rattle.std.specs.Prelude.{ℕ, zero, suc, ◌+◌, ◌/◌, ◌%◌, List, [], ◌∷◌, ◌++◌, ◌≡◌, ltb, length}
use Rattle.std.proofs.lemmas.List.Edits.{sets}
use Rattle.common.specs.Choice.{pick}

-- the last digits of n, at most as many as the first number says, with no leading zero
unfoldable pub digits : ℕ → ℕ → List ℕ
digits zero n = []
digits (suc k) n = pick (ltb n 10) (λ _. (48 + n) ∷ []) (λ _. digits k (n / 10) ++ ((48 + n % 10) ∷ []))

-- n in decimal, in ASCII: it has at most n + 1 digits
abbrev pub decimal_of : ℕ → List ℕ
decimal_of n = digits (suc n) n

-- the bytes stand from `at` on, all other bytes stay, and r is the place after them
pub record Put (before : List ℕ) (at : ℕ) (bytes after : List ℕ) (r : ℕ) : Type 0 where
  pub stored : after ≡ sets before at bytes
  pub next : r ≡ at + length bytes
