-- What `nearest_real` is, from first principles: IEEE 754's rounding to nearest, ties to even. The proof is in proofs/Theorems.antt.
use Rattle.std.specs.Prelude.{◌≡◌, ℕ, ◌+◌, ◌-◌, ◌*◌, ◌^◌, ◌<◌, ◌≤◌, Bool, cond, T, ◌⊎◌, ℤ, unsigned_abs, Float}
use Rattle.std.specs.Bool.{beq}
use Rattle.std.specs.Float.{nan, inf, fin, binary64}
use Rattle.std.specs.Float.Ieee.{up, down, fits}
use Rattle.nearest.specs.Nearest.{nearest_real, is_negative}

-- how far ±a and ±b lie apart
abbrev pub apart : Bool → ℕ → Bool → ℕ → ℕ
apart s a t b = cond (beq s t) ((a - b) + (b - a)) (a + b)

-- how far the real ±m * 2 ^ e lies from z, times `down e`: 2 ^ e is the fraction up e / down e
abbrev pub gap : ℤ → Bool → ℕ → ℤ → ℕ
gap z s m e = apart s (m * up e) (is_negative z) (unsigned_abs z * down e)

-- "the nearest f64, ties to even". x is a finite f64; no finite f64 is nearer to z; and where another is as near, the last of x's 53 digits is even.
-- `fits binary64` writes a real with an odd m below 2 ^ 53, or m = 0, so that this digit is even exactly where m is below 2 ^ 52: where a tie can be,
-- x has 53 digits.
abbrev pub NearestEven : ℤ → Float → Type 0
NearestEven z nan = ⊥
NearestEven z (inf s) = ⊥
NearestEven z (fin s m e) =
    T (fits binary64 (fin s m e))
    × ((t : Bool) (n : ℕ) (d : ℤ) → T (fits binary64 (fin t n d))
    → (gap z s m e * down d ≤ gap z t n d * down e)
    × (gap z s m e * down d ≡ gap z t n d * down e → (n * up d * down e ≡ m * up e * down d) ⊎ (m < 2 ^ 52)))

-- So is every integer below 2 ^ 1023 in size rounded, as every int64 and every sum, difference, product and quotient of two is.
abbrev pub IsNearest : Type 0
IsNearest = (z : ℤ) → unsigned_abs z < 2 ^ 1023 → NearestEven z (nearest_real z)
