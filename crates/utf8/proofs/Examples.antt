-- The examples of specs/Examples.antt, by computation.
use mathlib.Core.Path.{refl}
use Rattle.utf8.specs.Examples.{Identical, Korean, Stump, Rows, OneByte, TwoBytes, ThreeBytes, FourBytes}

pub identical : Identical
identical = refl

pub korean : Korean
korean = refl

pub stump : Stump
stump = refl

pub rows : Rows
rows = (refl, refl, refl, refl, refl, refl)

pub one_byte : OneByte
one_byte = (refl, refl)

pub two_bytes : TwoBytes
two_bytes = (refl, refl, refl, refl)

pub three_bytes_lem : ThreeBytes
three_bytes_lem = (refl, refl, refl, refl, refl, refl, refl, refl)

pub four_bytes : FourBytes
four_bytes = (refl, refl, refl, refl, refl)
