-- The one fixed form in which a notice is written: "no whitespace, no comments, plain decimal, escapes only where needed, names rising".
use Rattle.std.specs.Prelude.{ℕ, ◌-◌, ◌^◌, Bool, true, false, cond, List, [], ◌∷◌, ◌++◌, eqb, ltb, length}
use Rattle.word.specs.Word.{word_at}
use Rattle.decimal.specs.Decimal.{decimal_of}
use Rattle.notice.specs.Field.{Field}
use Rattle.ubf.specs.Escape.{escapes}
use Rattle.ubf.specs.declared.put.Signed.{Signed}
use Rattle.ubf.specs.Fields.{half, int64}

abbrev pub string_text : List ℕ → List ℕ
string_text bs = 34 ∷ (escapes 34 bs ++ (34 ∷ []))

-- a number of k bytes in two's complement, by sign and size
abbrev pub signed_of : ℕ → ℕ → Signed
signed_of k u = cond (ltb u (half k)) (record { negative = false; size = u }) (record { negative = true; size = 256 ^ k - u })

abbrev pub sign_text : Bool → ℕ → List ℕ
sign_text true n = 45 ∷ decimal_of n
sign_text false n = decimal_of n

abbrev pub signed_text : Signed → List ℕ
signed_text s = sign_text s.negative s.size

abbrev pub tag_text : List ℕ
tag_text = 96 ∷ (int64 ++ (96 ∷ []))

abbrev pub binary_text : List ℕ → List ℕ
binary_text bs = decimal_of (length bs) ++ (126 ∷ (bs ++ (126 ∷ [])))

unfoldable pub value_text : ℕ → List ℕ → List ℕ
value_text kind bs =
    cond (eqb kind 1) (signed_text (signed_of 4 (word_at 4 bs 0)))
    (cond (eqb kind 2) (signed_text (signed_of 8 (word_at 8 bs 0)) ++ tag_text)
    (cond (eqb kind 4) (string_text bs)
    (binary_text bs)))

abbrev pub field_text : Field → List ℕ
field_text f = string_text f.name ++ value_text f.kind f.value

unfoldable pub fields_text : List Field → List ℕ
fields_text [] = []
fields_text (f ∷ fs) = field_text f ++ fields_text fs

abbrev pub text_of : List Field → List ℕ
text_of fs = 123 ∷ (fields_text fs ++ (125 ∷ 36 ∷ []))
