-- RFC 3629, section 7, and the boundaries. The proofs are in proofs/Examples.antt.
use Rattle.std.specs.Prelude.{◌≡◌, [], ◌∷◌, Some, None}
use Rattle.utf8.specs.Utf8.{encode, encode_all}
use Rattle.utf8.specs.Scan.{count_of}

-- "A<NOT IDENTICAL TO><ALPHA>.", U+0041 U+2262 U+0391 U+002E
abbrev pub Identical : Type 0
Identical = encode_all (0x41 ∷ (0x2262 ∷ (0x391 ∷ (0x2E ∷ [])))) ≡ 0x41 ∷ (0xE2 ∷ (0x89 ∷ (0xA2 ∷ (0xCE ∷ (0x91 ∷ (0x2E ∷ []))))))

-- the Korean word, U+D55C U+AD6D U+C5B4
abbrev pub Korean : Type 0
Korean = encode_all (0xD55C ∷ (0xAD6D ∷ (0xC5B4 ∷ []))) ≡ 0xED ∷ (0x95 ∷ (0x9C ∷ (0xEA ∷ (0xB5 ∷ (0xAD ∷ (0xEC ∷ (0x96 ∷ (0xB4 ∷ []))))))))

-- U+233B4 behind a BOM
abbrev pub Stump : Type 0
Stump = encode_all (0xFEFF ∷ (0x233B4 ∷ [])) ≡ 0xEF ∷ (0xBB ∷ (0xBF ∷ (0xF0 ∷ (0xA3 ∷ (0x8E ∷ (0xB4 ∷ []))))))

-- "Char. number range": the last and the first numbers of the table's rows
abbrev pub Rows : Type 0
Rows =
    (encode 0x7F ≡ 0x7F ∷ [])
    × (encode 0x80 ≡ 0xC2 ∷ (0x80 ∷ []))
    × (encode 0x7FF ≡ 0xDF ∷ (0xBF ∷ []))
    × (encode 0x800 ≡ 0xE0 ∷ (0xA0 ∷ (0x80 ∷ [])))
    × (encode 0xFFFF ≡ 0xEF ∷ (0xBF ∷ (0xBF ∷ [])))
    × (encode 0x10000 ≡ 0xF0 ∷ (0x90 ∷ (0x80 ∷ (0x80 ∷ []))))

-- 7F is a character, 80 alone is a continuation byte
abbrev pub OneByte : Type 0
OneByte = (count_of (0x7F ∷ []) ≡ Some 1) × (count_of (0x80 ∷ []) ≡ None)

-- C1 BF would be 7F: overlong; C2 80 is 80, DF BF is 7FF, and C2 alone is cut
abbrev pub TwoBytes : Type 0
TwoBytes =
    (count_of (0xC1 ∷ (0xBF ∷ [])) ≡ None)
    × (count_of (0xC2 ∷ (0x80 ∷ [])) ≡ Some 1)
    × (count_of (0xDF ∷ (0xBF ∷ [])) ≡ Some 1)
    × (count_of (0xC2 ∷ []) ≡ None)

-- E0 9F BF would be 7FF: overlong; E0 A0 80 is 800, ED 9F BF is D7FF, ED A0 80 and ED BF BF would be the surrogates D800 and DFFF, EE 80 80 is E000, EF BF BF is FFFF, and EF BF is cut
abbrev pub ThreeBytes : Type 0
ThreeBytes =
    (count_of (0xE0 ∷ (0x9F ∷ (0xBF ∷ []))) ≡ None)
    × (count_of (0xE0 ∷ (0xA0 ∷ (0x80 ∷ []))) ≡ Some 1)
    × (count_of (0xED ∷ (0x9F ∷ (0xBF ∷ []))) ≡ Some 1)
    × (count_of (0xED ∷ (0xA0 ∷ (0x80 ∷ []))) ≡ None)
    × (count_of (0xED ∷ (0xBF ∷ (0xBF ∷ []))) ≡ None)
    × (count_of (0xEE ∷ (0x80 ∷ (0x80 ∷ []))) ≡ Some 1)
    × (count_of (0xEF ∷ (0xBF ∷ (0xBF ∷ []))) ≡ Some 1)
    × (count_of (0xEF ∷ (0xBF ∷ [])) ≡ None)

-- F0 8F BF BF would be FFFF: overlong; F0 90 80 80 is 10000, F4 8F BF BF is 10FFFF, F4 90 80 80 would be 110000, and F4 8F BF is cut
abbrev pub FourBytes : Type 0
FourBytes =
    (count_of (0xF0 ∷ (0x8F ∷ (0xBF ∷ (0xBF ∷ [])))) ≡ None)
    × (count_of (0xF0 ∷ (0x90 ∷ (0x80 ∷ (0x80 ∷ [])))) ≡ Some 1)
    × (count_of (0xF4 ∷ (0x8F ∷ (0xBF ∷ (0xBF ∷ [])))) ≡ Some 1)
    × (count_of (0xF4 ∷ (0x90 ∷ (0x80 ∷ (0x80 ∷ [])))) ≡ None)
    × (count_of (0xF4 ∷ (0x8F ∷ (0xBF ∷ []))) ≡ None)
