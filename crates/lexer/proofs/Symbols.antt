-- The longest match: the first of several kinds that is one, and what starts with a byte, by the bytes after it. Assumes nothing.
use mathlib.Core.Path.{◌≡◌, sym, ◌∙◌}
use Prim.Native.Nat.{ℕ, zero, suc}
use Rattle.lexer.specs.Symbol.{first_of}

pub first_is : (k other k' : ℕ) → k' ≡ k → (k' ≡ 0 → ⊥) → k' ≡ first_of k other
first_is zero other k' e f = absurd (f e)
first_is (suc n) other k' e f = e

pub first_not : (k other k' : ℕ) → k' ≡ k → k' ≡ 0 → other ≡ first_of k other
first_not k other k' e f = let z : k ≡ 0 = sym e ∙ f in rw z
