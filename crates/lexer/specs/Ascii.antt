-- Texts of ASCII characters in statements, as the bytes that they are.
use Rattle.std.specs.Prelude.{ℕ, List}
use Prim.Native.Char.{code}
use Prim.Native.String.{String, [], ◌∷◌}
use mathlib.Core.List as Bytes

abbrev pub ascii : String → List ℕ
ascii [] = Bytes.[]
ascii (c ∷ s) = Bytes.◌∷◌ (code c) (ascii s)
