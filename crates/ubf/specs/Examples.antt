-- Cases of the request's vectors, by computation. Made by a script, but for the grammar's.
use Rattle.std.specs.Prelude.{◌≡◌, refl, [], ◌∷◌, false}
use Rattle.std.proofs.Common.{inl, inr}
use Rattle.decimal.specs.Decimal.{digits}
use Rattle.ubf.specs.Item.{fresh, step, run}
use Rattle.ubf.specs.Grammar.{white, comment, gap, whole, delimited, counted, operator, Items, none, piece, tuple, items_text, value_from, ItemsRight, Input}
use Rattle.ubf.specs.Fields.{next, phase_of}
use Rattle.ubf.specs.Escape.{escapes}
use Rattle.ubf.specs.Text.{value_text, fields_text}
use Rattle.ubf.specs.Answer.{has_real, read_number, read_notice, write_number, written_text}
use Rattle.word.specs.Word.{word_at, word_bytes}
use Rattle.notice.specs.Layout.{check_from, starts_from}
use Rattle.notice.specs.Write.{sorted}

r1 : read_number (123 ∷ 13 ∷ 34 ∷ 32 ∷ 34 ∷ 34 ∷ 118 ∷ 34 ∷ 37 ∷ 10 ∷ 37 ∷ 34 ∷ 107 ∷ 34 ∷ 49 ∷ 10 ∷ 126 ∷ 118 ∷ 126 ∷ 34 ∷ 107 ∷ 34 ∷ 34 ∷ 34 ∷ 9 ∷ 125 ∷ 36 ∷ []) 16384 ≡ 14
unfolding fresh step run next phase_of word_bytes
r1 = refl

r2 : read_number (92 ∷ 125 ∷ 39 ∷ 37 ∷ 92 ∷ 49 ∷ 125 ∷ 62 ∷ 50 ∷ 36 ∷ []) 65536 ≡ 22
unfolding fresh step run next phase_of word_bytes
r2 = refl

r3 : read_number (123 ∷ 34 ∷ 120 ∷ 32 ∷ 121 ∷ 34 ∷ 10 ∷ 34 ∷ 238 ∷ 128 ∷ 128 ∷ 34 ∷ 125 ∷ 9 ∷ 36 ∷ []) 16384 ≡ 0
unfolding fresh step run next phase_of word_bytes
r3 = refl

n3 : read_notice (123 ∷ 34 ∷ 120 ∷ 32 ∷ 121 ∷ 34 ∷ 10 ∷ 34 ∷ 238 ∷ 128 ∷ 128 ∷ 34 ∷ 125 ∷ 9 ∷ 36 ∷ []) ≡ 15 ∷ 0 ∷ 0 ∷ 0 ∷ 1 ∷ 0 ∷ 1 ∷ 0 ∷ 9 ∷ 0 ∷ 4 ∷ 0 ∷ 3 ∷ 120 ∷ 32 ∷ 121 ∷ 238 ∷ 128 ∷ 128 ∷ []
unfolding fresh step run next phase_of sorted word_bytes
n3 = refl

r4 : read_number (123 ∷ 36 ∷ 125 ∷ 62 ∷ 32 ∷ 97 ∷ []) 65536 ≡ 22
unfolding fresh step run next phase_of word_bytes
r4 = refl

r5 : read_number (123 ∷ 125 ∷ 36 ∷ []) 65536 ≡ 0
unfolding fresh step run next phase_of word_bytes
r5 = refl

n5 : read_notice (123 ∷ 125 ∷ 36 ∷ []) ≡ 4 ∷ 0 ∷ 0 ∷ 0 ∷ 1 ∷ 0 ∷ 0 ∷ 0 ∷ []
unfolding fresh step run next phase_of sorted word_bytes
n5 = refl

r6 : read_number (123 ∷ 34 ∷ 49 ∷ 46 ∷ 48 ∷ 32 ∷ 67 ∷ 34 ∷ 45 ∷ 54 ∷ 50 ∷ 54 ∷ 53 ∷ 56 ∷ 53 ∷ 54 ∷ 57 ∷ 51 ∷ 54 ∷ 48 ∷ 49 ∷ 49 ∷ 52 ∷ 57 ∷ 53 ∷ 49 ∷ 52 ∷ 57 ∷ 9 ∷ 96 ∷ 105 ∷ 110 ∷ 116 ∷ 54 ∷ 52 ∷ 96 ∷ 37 ∷ 92 ∷ 92 ∷ 37 ∷ 34 ∷ 49 ∷ 46 ∷ 48 ∷ 32 ∷ 67 ∷ 34 ∷ 13 ∷ 34 ∷ 97 ∷ 103 ∷ 97 ∷ 105 ∷ 110 ∷ 34 ∷ 125 ∷ 36 ∷ []) 121 ≡ 14
unfolding fresh step run next phase_of word_bytes
r6 = refl

r7 : read_number (123 ∷ 34 ∷ 112 ∷ 105 ∷ 112 ∷ 101 ∷ 61 ∷ 34 ∷ 34 ∷ 65 ∷ 34 ∷ 34 ∷ 120 ∷ 32 ∷ 121 ∷ 34 ∷ 34 ∷ 86 ∷ 34 ∷ 34 ∷ 49 ∷ 46 ∷ 48 ∷ 32 ∷ 67 ∷ 34 ∷ 54 ∷ 54 ∷ 51 ∷ 57 ∷ 49 ∷ 50 ∷ 56 ∷ 56 ∷ 50 ∷ 34 ∷ 115 ∷ 49 ∷ 34 ∷ 34 ∷ 65 ∷ 34 ∷ 32 ∷ 34 ∷ 98 ∷ 105 ∷ 103 ∷ 34 ∷ 34 ∷ 255 ∷ 34 ∷ 13 ∷ 34 ∷ 97 ∷ 98 ∷ 99 ∷ 34 ∷ 34 ∷ 97 ∷ 34 ∷ 125 ∷ 36 ∷ []) 42 ≡ 15
unfolding fresh step run next phase_of word_bytes
r7 = refl

r8 : read_number (96 ∷ 44 ∷ 97 ∷ 96 ∷ 97 ∷ 97 ∷ 50 ∷ 36 ∷ []) 16384 ≡ 23
unfolding fresh step run next phase_of word_bytes
r8 = refl

r9 : read_number (123 ∷ 49 ∷ 34 ∷ 110 ∷ 50 ∷ 34 ∷ 55 ∷ 96 ∷ 105 ∷ 110 ∷ 116 ∷ 54 ∷ 52 ∷ 96 ∷ 125 ∷ 36 ∷ []) 69 ≡ 23
unfolding fresh step run next phase_of word_bytes
r9 = refl

r10 : read_number (123 ∷ 125 ∷ 36 ∷ []) 1 ≡ 15
unfolding fresh step run next phase_of word_bytes
r10 = refl

r11 : read_number (123 ∷ 10 ∷ 34 ∷ 128 ∷ 34 ∷ 34 ∷ 118 ∷ 34 ∷ 37 ∷ 32 ∷ 36 ∷ 32 ∷ 37 ∷ 34 ∷ 107 ∷ 34 ∷ 13 ∷ 48 ∷ 48 ∷ 48 ∷ 48 ∷ 48 ∷ 48 ∷ 48 ∷ 48 ∷ 48 ∷ 48 ∷ 48 ∷ 48 ∷ 48 ∷ 48 ∷ 48 ∷ 48 ∷ 48 ∷ 48 ∷ 48 ∷ 48 ∷ 48 ∷ 48 ∷ 48 ∷ 48 ∷ 48 ∷ 48 ∷ 48 ∷ 48 ∷ 48 ∷ 48 ∷ 49 ∷ 126 ∷ 118 ∷ 126 ∷ 9 ∷ 34 ∷ 107 ∷ 34 ∷ 32 ∷ 34 ∷ 34 ∷ 125 ∷ 37 ∷ 37 ∷ 36 ∷ []) 65536 ≡ 13
unfolding fresh step run next phase_of word_bytes
r11 = refl

r12 : read_number (123 ∷ 34 ∷ 127 ∷ 34 ∷ 10 ∷ 34 ∷ 118 ∷ 34 ∷ 34 ∷ 107 ∷ 34 ∷ 37 ∷ 37 ∷ 49 ∷ 126 ∷ 118 ∷ 126 ∷ 34 ∷ 108 ∷ 34 ∷ 34 ∷ 34 ∷ 125 ∷ 36 ∷ []) 65536 ≡ 13
unfolding fresh step run next phase_of word_bytes
r12 = refl

w13 : write_number (26 ∷ 0 ∷ 0 ∷ 0 ∷ 1 ∷ 0 ∷ 2 ∷ 0 ∷ 9 ∷ 0 ∷ 1 ∷ 0 ∷ 2 ∷ 79 ∷ 112 ∷ 5 ∷ 0 ∷ 0 ∷ 0 ∷ 9 ∷ 0 ∷ 1 ∷ 0 ∷ 2 ∷ 95 ∷ 117 ∷ 3 ∷ 0 ∷ 0 ∷ 0 ∷ []) 131072 ≡ 0
unfolding word_at check_from starts_from has_real digits escapes value_text fields_text
w13 = refl

t13 : written_text (26 ∷ 0 ∷ 0 ∷ 0 ∷ 1 ∷ 0 ∷ 2 ∷ 0 ∷ 9 ∷ 0 ∷ 1 ∷ 0 ∷ 2 ∷ 79 ∷ 112 ∷ 5 ∷ 0 ∷ 0 ∷ 0 ∷ 9 ∷ 0 ∷ 1 ∷ 0 ∷ 2 ∷ 95 ∷ 117 ∷ 3 ∷ 0 ∷ 0 ∷ 0 ∷ []) ≡ 123 ∷ 34 ∷ 79 ∷ 112 ∷ 34 ∷ 53 ∷ 34 ∷ 95 ∷ 117 ∷ 34 ∷ 51 ∷ 125 ∷ 36 ∷ []
unfolding word_at check_from starts_from digits escapes value_text fields_text
t13 = refl

w14 : write_number (4 ∷ 0 ∷ 0 ∷ 0 ∷ 1 ∷ 0 ∷ 0 ∷ 0 ∷ []) 131072 ≡ 0
unfolding word_at check_from starts_from has_real digits escapes value_text fields_text
w14 = refl

t14 : written_text (4 ∷ 0 ∷ 0 ∷ 0 ∷ 1 ∷ 0 ∷ 0 ∷ 0 ∷ []) ≡ 123 ∷ 125 ∷ 36 ∷ []
unfolding word_at check_from starts_from digits escapes value_text fields_text
t14 = refl

w15 : write_number (22 ∷ 0 ∷ 0 ∷ 0 ∷ 1 ∷ 0 ∷ 65 ∷ 0 ∷ 122 ∷ 122 ∷ 122 ∷ 122 ∷ 122 ∷ 122 ∷ 122 ∷ 122 ∷ 122 ∷ 122 ∷ 122 ∷ 122 ∷ 122 ∷ 122 ∷ 122 ∷ 122 ∷ 122 ∷ 122 ∷ []) 131072 ≡ 11
unfolding word_at check_from starts_from has_real digits escapes value_text fields_text
w15 = refl

w16 : write_number (19 ∷ 0 ∷ 0 ∷ 0 ∷ 1 ∷ 0 ∷ 1 ∷ 0 ∷ 13 ∷ 0 ∷ 3 ∷ 0 ∷ 2 ∷ 114 ∷ 49 ∷ 255 ∷ 255 ∷ 255 ∷ 255 ∷ 255 ∷ 255 ∷ 255 ∷ 127 ∷ []) 131072 ≡ 23
unfolding word_at check_from starts_from has_real digits escapes value_text fields_text
w16 = refl

w17 : write_number (76 ∷ 0 ∷ 0 ∷ 0 ∷ 1 ∷ 0 ∷ 6 ∷ 0 ∷ 9 ∷ 0 ∷ 4 ∷ 0 ∷ 3 ∷ 40 ∷ 44 ∷ 41 ∷ 238 ∷ 128 ∷ 128 ∷ 8 ∷ 0 ∷ 1 ∷ 0 ∷ 1 ∷ 97 ∷ 33 ∷ 0 ∷ 0 ∷ 0 ∷ 14 ∷ 0 ∷ 2 ∷ 0 ∷ 3 ∷ 97 ∷ 45 ∷ 98 ∷ 8 ∷ 0 ∷ 0 ∷ 0 ∷ 0 ∷ 0 ∷ 0 ∷ 0 ∷ 13 ∷ 0 ∷ 3 ∷ 0 ∷ 2 ∷ 110 ∷ 49 ∷ 0 ∷ 0 ∷ 0 ∷ 0 ∷ 0 ∷ 64 ∷ 80 ∷ 64 ∷ 6 ∷ 0 ∷ 5 ∷ 0 ∷ 2 ∷ 111 ∷ 49 ∷ 10 ∷ 10 ∷ 0 ∷ 4 ∷ 0 ∷ 2 ∷ 115 ∷ 49 ∷ 104 ∷ 101 ∷ 108 ∷ 108 ∷ 111 ∷ []) 131072 ≡ 23
unfolding word_at check_from starts_from has_real digits escapes value_text fields_text
w17 = refl

w18 : write_number (208 ∷ 227 ∷ 28 ∷ 114 ∷ 23 ∷ 187 ∷ 56 ∷ 134 ∷ 114 ∷ 138 ∷ 241 ∷ 89 ∷ 13 ∷ 216 ∷ 206 ∷ 129 ∷ 72 ∷ 101 ∷ 167 ∷ 123 ∷ 177 ∷ 131 ∷ 101 ∷ []) 131072 ≡ 11
unfolding word_at check_from starts_from has_real digits escapes value_text fields_text
w18 = refl

w19 : write_number (4 ∷ 0 ∷ 0 ∷ 0 ∷ 1 ∷ 0 ∷ 0 ∷ 0 ∷ []) 2 ≡ 15
unfolding word_at check_from starts_from has_real digits escapes value_text fields_text
w19 = refl

w20 : write_number (27 ∷ 0 ∷ 0 ∷ 0 ∷ 1 ∷ 0 ∷ 2 ∷ 0 ∷ 12 ∷ 0 ∷ 1 ∷ 0 ∷ 5 ∷ 105 ∷ 110 ∷ 116 ∷ 51 ∷ 50 ∷ 249 ∷ 255 ∷ 255 ∷ 255 ∷ 7 ∷ 0 ∷ 4 ∷ 0 ∷ 3 ∷ 120 ∷ 32 ∷ 121 ∷ 97 ∷ []) 2 ≡ 15
unfolding word_at check_from starts_from has_real digits escapes value_text fields_text
w20 = refl

-- how the grammar spells two of these texts
items1 : Items
items1 =
    tuple
    (piece (gap (white 13))
    (piece (delimited 34 (32 ∷ []))
    (piece (delimited 34 (118 ∷ []))
    (piece (gap (comment (10 ∷ [])))
    (piece (delimited 34 (107 ∷ []))
    (piece (counted false (49 ∷ []) (white 10 ∷ []) (118 ∷ []))
    (piece (delimited 34 (107 ∷ []))
    (piece (delimited 34 [])
    (piece (gap (white 9)) none)))))))))
    none

g1 : Input (123 ∷ 13 ∷ 34 ∷ 32 ∷ 34 ∷ 34 ∷ 118 ∷ 34 ∷ 37 ∷ 10 ∷ 37 ∷ 34 ∷ 107 ∷ 34 ∷ 49 ∷ 10 ∷ 126 ∷ 118 ∷ 126 ∷ 34 ∷ 107 ∷ 34 ∷ 34 ∷ 34 ∷ 9 ∷ 125 ∷ 36 ∷ []) items1
unfolding items1 items_text ItemsRight value_from escapes
g1 =
    record {
      right = ((refl, (inl refl, (inl refl, (tt, (inl refl, (((refl, tt), (refl, tt), refl, inl refl), (inl refl, (inl refl, (refl, tt))))))))), tt);
      spelled = refl;
    }

items8 : Items
items8 = piece (delimited 96 (44 ∷ 97 ∷ [])) (piece (operator 97) (piece (operator 97) (piece (whole false (50 ∷ [])) none)))

g8 : Input (96 ∷ 44 ∷ 97 ∷ 96 ∷ 97 ∷ 97 ∷ 50 ∷ 36 ∷ []) items8
unfolding items8 items_text ItemsRight escapes
g8 = record { right = (inr (inr refl), (refl, (refl, (((refl, tt), refl), tt)))); spelled = refl }
