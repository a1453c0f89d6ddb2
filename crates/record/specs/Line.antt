-- The lines of standard output. Document 01, "Examples": "It prints `S number place length` or `N number verdict steps place` (verdict `true`, `false` or `bottom` ..), `X kind` for
-- another kind, and `E`". Document 02, request 7: "The `N` line of `verdict` gains it at its end": the number of the first undecided entry.
use Rattle.std.specs.Prelude.{ℕ, List, [], ◌∷◌, ◌++◌}
use Rattle.decimal.specs.Decimal.{decimal_of}
use Rattle.truth.specs.declared.Truth.{Truth}
use Rattle.truth.specs.declared.Truth.TheVariants.{False, Bottom, True}

-- a space and a number
abbrev pub spaced : ℕ → List ℕ
spaced n = 32 ∷ decimal_of n

-- a space and `true`, `false` or `bottom`
abbrev pub verdict_of : Truth → List ℕ
verdict_of True = 32 ∷ 116 ∷ 114 ∷ 117 ∷ 101 ∷ []
verdict_of False = 32 ∷ 102 ∷ 97 ∷ 108 ∷ 115 ∷ 101 ∷ []
verdict_of Bottom = 32 ∷ 98 ∷ 111 ∷ 116 ∷ 116 ∷ 111 ∷ 109 ∷ []

abbrev pub line_end : List ℕ
line_end = 10 ∷ []

-- `S number place length`
abbrev pub text_line : ℕ → ℕ → ℕ → List ℕ
text_line number place len = 83 ∷ (spaced number ++ (spaced place ++ (spaced len ++ line_end)))

-- `N number verdict steps place undecided`
abbrev pub notice_line : ℕ → Truth → ℕ → ℕ → ℕ → List ℕ
notice_line number t steps place undecided = 78 ∷ (spaced number ++ (verdict_of t ++ (spaced steps ++ (spaced place ++ (spaced undecided ++ line_end)))))

-- `X kind`
abbrev pub kind_line : ℕ → List ℕ
kind_line kind = 88 ∷ (spaced kind ++ line_end)

-- `E`
abbrev pub error_line : List ℕ
error_line = 69 ∷ line_end

-- the bytes that every line has room in
abbrev pub line_room : ℕ
line_room = 100
