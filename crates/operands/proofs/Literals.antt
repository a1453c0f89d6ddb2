-- Refusal 18: the bytes that are judged. Assumes nothing.
use Prim.Native.Nat.{ℕ, ◌+◌, ◌≤◌}
use native.Mathlib.Omega.{arith}
use mathlib.Core.Path.{◌≡◌, ap, ◌∙◌}
use mathlib.Core.List.{List}
use lib.ListN.{length, take, drop}
use lib.Seq.{sets, sets-eq, take-append_seam}
use Rattle.lexer.specs.Token.{string_at}

pub copied_is : (s : List ℕ) (at : ℕ) (was : List ℕ) {now : List ℕ} {n : ℕ} → length (string_at s at) ≤ length was → n ≡ length (string_at s at) → now ≡ sets was 0 (string_at s at) → take n now ≡ string_at s at
copied_is s at was h en e =
    let p = string_at s at in
    rw (e, en) (ap (λ (l : List ℕ). take (length p) l) (sets-eq p was 0 (omega arith)) ∙ take-append_seam p (drop (0 + length p) was))
