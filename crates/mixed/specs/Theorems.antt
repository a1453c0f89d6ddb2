-- What the comparison of an integer with a real is, in ℤ. The proofs are in proofs/Theorems.antt, under the same names.
use Rattle.std.specs.Prelude.{◌≡◌, Bool, true, false, ℕ, ◌*◌, ℤ, pos, negsuc, ◌*ℤ◌, eqb}
use Rattle.std.specs.Int.Signed.{lt_z}
use Rattle.std.specs.Float.{nan, inf, fin, binary64}
use Rattle.std.specs.Float.Ieee.{up, down, lt, le, eq, of_bits}
use Rattle.nearest.specs.Nearest.{signed_of}
use Rattle.mixed.specs.Mixed.{exactly}

-- the same integer
abbrev pub equal_z : ℤ → ℤ → Bool
equal_z (pos m) (pos n) = eqb m n
equal_z (pos m) (negsuc n) = false
equal_z (negsuc m) (pos n) = false
equal_z (negsuc m) (negsuc n) = eqb m n

-- "compared by exact value": the real is ±m * 2 ^ e, and 2 ^ e is the fraction up e / down e. Both sides times `down e` are integers.
abbrev pub ByValue : Type 0
ByValue =
    (z : ℤ) (s : Bool) (m : ℕ) (e : ℤ)
    → (lt (exactly z) (fin s m e) ≡ lt_z (z *ℤ pos (down e)) (signed_of s (m * up e)))
    × (lt (fin s m e) (exactly z) ≡ lt_z (signed_of s (m * up e)) (z *ℤ pos (down e)))
    × (eq (exactly z) (fin s m e) ≡ equal_z (z *ℤ pos (down e)) (signed_of s (m * up e)))

-- So two integers are compared as integers.
abbrev pub Integers : Type 0
Integers = (a b : ℤ) → (lt (exactly a) (exactly b) ≡ lt_z a b) × (eq (exactly a) (exactly b) ≡ equal_z a b)

-- "an infinity lying beyond every integer on its side"
abbrev pub Infinities : Type 0
Infinities =
    (z : ℤ)
    → (lt (exactly z) (inf false) ≡ true) × (lt (inf false) (exactly z) ≡ false) × (eq (exactly z) (inf false) ≡ false)
    × (lt (exactly z) (inf true) ≡ false) × (lt (inf true) (exactly z) ≡ true) × (eq (exactly z) (inf true) ≡ false)

-- "NaN stays unequal and unordered"
abbrev pub NanApart : Type 0
NanApart = (z : ℤ) → (lt (exactly z) nan ≡ false) × (lt nan (exactly z) ≡ false) × (le (exactly z) nan ≡ false) × (le nan (exactly z) ≡ false) × (eq (exactly z) nan ≡ false)

-- The greatest int64 is not its nearest f64, which is 2 ^ 63.
abbrev pub Greatest : Type 0
Greatest = eq (exactly (pos 9223372036854775807)) (of_bits binary64 0x43e0_0000_0000_0000) ≡ false
