-- The theorems that specs/Theorems.antt states. Assumes nothing.
use Rattle.std.specs.Prelude.{Ok, Err}
use mathlib.Core.Path.{◌≡◌, refl, sym, ap, ap₂, ◌∙◌}
use mathlib.Core.Bool.{Bool, true, false, not, ◌&&◌, ◌||◌}
use mathlib.Core.List.{List, [], ◌∷◌, ◌++◌, map}
use Prim.Native.Nat.{ℕ, suc, ◌+◌, ◌≤◌}
use native.Mathlib.Omega.{arith}
use borrow.Author.Tests.{le-leb, leb-true, eqb-false}
use lib.Dec.{eqb, leb}
use lib.ListN.{length, take, drop}
use lib.Seq.{take-append_seam}
use Rattle.word.specs.Word.{Bytes}
use Rattle.octets.specs.Octets.{same_of, before_of}
use Rattle.octets.proofs.Theorems.{and_parts, before_transitive}
use Rattle.refusal.proofs.Numbers.{refuses}
use Rattle.notice.specs.Layout.{Layout}
use Rattle.notice.specs.Field.{Field, name_right, size_right, field_right, all_right, before_first, rising}
use Rattle.notice.specs.Render.{fields_bytes, render, NoticeFields}
use Rattle.common.proofs.Choice.{true_false, false_true}
use Rattle.notice.specs.Layout.{unless, field_at, check_of, starts_of, fields_of}
use Rattle.notice.specs.Write.{has_name, sorted}
use Rattle.notice.proofs.Orders.{same_symmetric, before_not_same, perm_right}
use Rattle.notice.proofs.Renders.{well_render, well_fields, length_render, render_passes, render_fields}
use Rattle.ubf.specs.Fields.{Phase, outside, names, value, number, whole, wrong, phase_of, Said, no_text, no_tuple, says, said_by, said_in, said, in_syntax}
use Rattle.ubf.specs.Text.{text_of}
use Rattle.ubf.specs.Answer.{Answer, names_right, sizes_right, repeated, notice_size, fits_in, WriteIs, read_by, said_fields, has_real, write_by, write_number, read_answer, read_bytes, answered, leaves}
use Rattle.ubf.specs.Grammar.{items_after}
use Rattle.ubf.specs.Theorems.{WrittenSays, WrittenInput, WriteRead, WriteAccepts, ReadHolds, SortedSame, SyntaxExactly, SaysItems, OutsideSyntax}
use Rattle.ubf.proofs.Trips.{AllGood, text_says}
use Rattle.notice.proofs.Sorted.{sorted_length, sorted_size, sorted_same, sorted_same_fields}
use Rattle.ubf.proofs.Sorted.{sorted_rising}
use Rattle.ubf.proofs.Values.{value_bytes}
use Rattle.ubf.proofs.Writes.{written}
use Rattle.ubf.proofs.Grammar.{input_run, run_input}

or_parts : (a b : Bool) → (a || b) ≡ false → (a ≡ false) × (b ≡ false)
or_parts true b e = false_true (sym e)
or_parts false b e = (refl, e)

-- ---- the fields of a notice can be written

good_all : (s : List ℕ) → Bytes s → (ats : List ℕ) → all_right (map (field_at s) ats) ≡ true → has_real (map (field_at s) ats) ≡ false → AllGood (map (field_at s) ats)
unfolding has_real
good_all s bytes [] a h = tt
good_all s bytes (at ∷ ats) a h =
    let p = and_parts (field_right (field_at s at)) (all_right (map (field_at s) ats)) a in
    let q = or_parts (eqb (field_at s at).kind 3) (has_real (map (field_at s) ats)) h in (
      record {
        size = (and_parts (name_right (field_at s at).name) (size_right (field_at s at).kind (length (field_at s at).value)) p.0).1;
        bytes = value_bytes s at bytes;
        no_real = eqb-false (field_at s at).kind 3 q.0;
      },
      good_all s bytes ats p.1 q.1,
    )

pub written_says : WrittenSays
written_says s bytes well h = text_says (fields_of s) (good_all s bytes (starts_of s) (well_fields s bytes well).right h)

-- ---- what is read of a notice's own fields

names_right_lem : (fs : List Field) → all_right fs ≡ true → names_right fs ≡ true
names_right_lem [] a = refl
names_right_lem (f ∷ fs) a =
    let p = and_parts (field_right f) (all_right fs) a in
    let q = and_parts (name_right f.name) (size_right f.kind (length f.value)) p.0 in
    rw q.0 (names_right_lem fs p.1)

sizes_right_lem : (fs : List Field) → all_right fs ≡ true → sizes_right fs ≡ true
sizes_right_lem [] a = refl
sizes_right_lem (f ∷ fs) a =
    let p = and_parts (field_right f) (all_right fs) a in
    let q = and_parts (name_right f.name) (size_right f.kind (length f.value)) p.0 in
    rw q.1 (sizes_right_lem fs p.1)

before_all : (n m : List ℕ) (fs : List Field) → before_of n m ≡ true → before_first m fs ≡ true → before_first n fs ≡ true
before_all n m [] p q = refl
before_all n m (f ∷ fs) p q = before_transitive n m f.name p q

not_named : (n : List ℕ) (fs : List Field) → before_first n fs ≡ true → rising fs ≡ true → has_name n fs ≡ false
not_named n [] p r = refl
not_named n (f ∷ fs) p r =
    let q = and_parts (before_first f.name fs) (rising fs) r in
    let e : same_of f.name n ≡ false = same_symmetric f.name n ∙ before_not_same n f.name p in
    rw e (not_named n fs (before_all n f.name fs p q.0) q.1)

not_repeated : (fs : List Field) → rising fs ≡ true → repeated fs ≡ false
not_repeated [] r = refl
not_repeated (f ∷ fs) r =
    let q = and_parts (before_first f.name fs) (rising fs) r in
    rw (not_named f.name fs q.0 q.1) (not_repeated fs q.1)

read_zero : (fs : List Field) (room : ℕ) → NoticeFields fs → length (render fs) ≤ room → read_by (says fs) room ≡ 0
read_zero fs room n h =
    let l = length_render fs in
    let a = le-leb (length fs) 64 n.few in
    let b = le-leb (8 + length (fields_bytes fs)) 16384 (omega (arith, n.short)) in
    let c = le-leb (8 + length (fields_bytes fs)) room (omega arith) in
    rw (names_right_lem fs n.right, sizes_right_lem fs n.right, not_repeated fs n.rises, a, b, c)

-- ---- writing, then reading

record Wrote (s : List ℕ) (room : ℕ) : Type 0 where
  well : check_of s ≡ Ok tt
  no_real : has_real (fields_of s) ≡ false
  fits : length (text_of (fields_of s)) ≤ room

some_zero : {A : Type 0} {n : ℕ} → suc n ≡ 0 → A
some_zero e = absurd (omega arith)

wrote : (s : List ℕ) (room : ℕ) → write_number s room ≡ 0 → Wrote s room
wrote s room z = go (check_of s) refl z
  where
    tests : check_of s ≡ Ok tt → (a : Bool) → has_real (fields_of s) ≡ a → (b : Bool) → leb (length (text_of (fields_of s))) room ≡ b → unless (not a) 23 (unless b 15 0) ≡ 0 → Wrote s room
    tests w true p b q e = some_zero e
    tests w false p true q e = record { well = w; no_real = p; fits = leb-true (length (text_of (fields_of s))) room q }
    tests w false p false q e = some_zero e

    go : (l : Layout) → check_of s ≡ l → write_by l (fields_of s) room ≡ 0 → Wrote s room
    go (Ok u) w e = tests w (has_real (fields_of s)) refl (leb (length (text_of (fields_of s))) room) refl e
    go (Err r) w e = refuses r e

-- the text that a write leaves
left : (s buffer : List ℕ) → Wrote s (length buffer) → (w : Answer) (written : List ℕ) → WriteIs s buffer w written → take w.len written ≡ text_of (fields_of s)
left s buffer h w after i =
    let r = written s buffer h.well h.no_real h.fits in
    let text : List ℕ = text_of (fields_of s) in
    ap₂ (λ (n : ℕ) (d : List ℕ). take n d) (ap (λ (a : Answer). a.len) (i.0 ∙ sym r.0)) (i.1 ∙ sym r.1) ∙ take-append_seam text (drop (length text) buffer)

-- that it was written, from the answer
wrote_by : (s buffer : List ℕ) (w : Answer) (written : List ℕ) → WriteIs s buffer w written → w.number ≡ 0 → Wrote s (length buffer)
wrote_by s buffer w written i z = wrote s (length buffer) (sym (ap (λ (a : Answer). a.number) i.0) ∙ z)

left_says : (s buffer : List ℕ) → Bytes s → (w : Answer) (written : List ℕ) → WriteIs s buffer w written → w.number ≡ 0 → said (take w.len written) ≡ says (fields_of s)
left_says s buffer bytes w written i z = let h = wrote_by s buffer w written i z in ap said (left s buffer h w written i) ∙ written_says s bytes h.well h.no_real

-- what is read of a text that says fields which are not refused
read_says : (text buffer : List ℕ) (fs : List Field) → said text ≡ says fs → read_by (says fs) (length buffer) ≡ 0
    → (read_answer text buffer ≡ record { number = 0; place = 0; len = length (render (sorted fs)) }) × (read_bytes text buffer ≡ render (sorted fs) ++ drop (length (render (sorted fs))) buffer)
read_says text buffer fs t n = (
  ap (λ (x : Said). answered (read_by x (length buffer)) 0 (render (sorted (said_fields x)))) t ∙ ap (λ (k : ℕ). answered k 0 (render (sorted fs))) n,
  ap (λ (x : Said). leaves (read_by x (length buffer)) (render (sorted (said_fields x))) buffer) t ∙ ap (λ (k : ℕ). leaves k (render (sorted fs)) buffer) n,
)

pub write_read : WriteRead
write_read s buffer other bytes w written i z h r after j =
    let k = wrote_by s buffer w written i z in
    let fs = fields_of s in
    let f = well_fields s bytes k.well in
    let e : s ≡ render fs = well_render s bytes k.well in
    let n : read_by (says fs) (length other) ≡ 0 = read_zero fs (length other) f (omega (arith, ap length e)) in
    let m : render (sorted fs) ≡ s = ap render (sorted_same fs f.rises) ∙ sym e in
    let q = read_says (take w.len written) other fs (left_says s buffer bytes w written i z) n in (
      j.0 ∙ q.0 ∙ ap (λ (x : List ℕ). record { number = 0; place = 0; len = length x }) m,
      j.1 ∙ q.1 ∙ ap (λ (x : List ℕ). x ++ drop (length x) other) m,
    )

pub write_accepts : WriteAccepts
write_accepts s buffer w written i well no_real fits =
    ap (λ (a : Answer). a.number) i.0 ∙ rw (well, no_real, le-leb (length (text_of (fields_of s))) (length buffer) fits)

-- ---- reading

pub sorted_perm : SortedSame
sorted_perm fs = sorted_same_fields fs

all_right_lem : (fs : List Field) → names_right fs ≡ true → sizes_right fs ≡ true → all_right fs ≡ true
all_right_lem [] n z = refl
all_right_lem (f ∷ fs) n z =
    let p = and_parts (name_right f.name) (names_right fs) n in
    let q = and_parts (size_right f.kind (length f.value)) (sizes_right fs) z in
    rw (p.0, q.0) (all_right_lem fs p.1 q.1)

-- fields that no refusal meets are those of a notice
notice_fields : (fs : List Field) (room : ℕ) → read_by (says fs) room ≡ 0 → NoticeFields (sorted fs)
notice_fields fs room z = tests (names_right fs) refl (sizes_right fs) refl (repeated fs) refl (fits_in fs room) refl z
  where
    sizes : fits_in fs room ≡ true → (length fs ≤ 64) × (notice_size fs ≤ 16384)
    sizes e =
        let p = and_parts (leb (length fs) 64) (leb (notice_size fs) 16384 && leb (notice_size fs) room) e in
        let q = and_parts (leb (notice_size fs) 16384) (leb (notice_size fs) room) p.1 in
        (leb-true (length fs) 64 p.0, leb-true (notice_size fs) 16384 q.0)

    tests : (a : Bool) → names_right fs ≡ a → (b : Bool) → sizes_right fs ≡ b → (c : Bool) → repeated fs ≡ c → (d : Bool) → fits_in fs room ≡ d
        → unless a 13 (unless b 16 (unless (not c) 14 (unless d 15 0))) ≡ 0 → NoticeFields (sorted fs)
    tests false p b q c s d t e = some_zero e
    tests true p false q c s d t e = some_zero e
    tests true p true q true s d t e = some_zero e
    tests true p true q false s false t e = some_zero e
    tests true p true q false s true t e =
        let z = sizes t in
        record {
          few = omega (arith, sorted_length fs, z.0);
          right = perm_right (sorted_perm fs) ∙ all_right_lem fs p q;
          rises = sorted_rising fs s;
          short = omega (arith, length_render (sorted fs), sorted_size fs, z.1);
        }

held : (x : Said) (room : ℕ) → read_by x room ≡ 0 → (fs : List Field) × (x ≡ says fs) × (read_by (says fs) room ≡ 0)
held no_text room e = some_zero e
held no_tuple room e = some_zero e
held (says fs) room e = (fs, refl, e)

pub read_holds : ReadHolds
read_holds text buffer r after i z =
    let h = held (said text) (length buffer) (sym (ap (λ (a : Answer). a.number) i.0) ∙ z) in
    let fs = h.0 in
    let f = notice_fields fs (length buffer) h.2 in
    let q = read_says text buffer fs h.1 h.2 in
    let t : take r.len after ≡ render (sorted fs) =
    ap₂ (λ (n : ℕ) (d : List ℕ). take n d) (ap (λ (a : Answer). a.len) (i.0 ∙ q.0)) (i.1 ∙ q.1) ∙ take-append_seam (render (sorted fs)) (drop (length (render (sorted fs))) buffer) in
    (fs, h.1, ap check_of t ∙ render_passes (sorted fs) f, ap fields_of t ∙ render_fields (sorted fs) f)

-- ---- the machine and the grammar

pub says_items : SaysItems
says_items text its i = ap said_in (input_run text its i)

said_by_syntax : (p : Phase) → in_syntax (said_by p) ≡ true
said_by_syntax outside = refl
said_by_syntax (names fs) = refl
said_by_syntax (value fs name) = refl
said_by_syntax (number fs name negative n) = refl
said_by_syntax (whole fs) = refl
said_by_syntax wrong = refl

pub syntax_exactly : SyntaxExactly
syntax_exactly text = (run_input text, λ g. ap in_syntax (says_items text g.0 g.1) ∙ said_by_syntax (phase_of (items_after g.0 [])))

pub written_input : WrittenInput
written_input s buffer bytes w written i z =
    let e = left_says s buffer bytes w written i z in
    (run_input (take w.len written) (ap in_syntax e), e)

other_number : (fs : List Field) (room : ℕ) → read_by (says fs) room ≡ 22 → ⊥
other_number fs room = tests (names_right fs) (sizes_right fs) (repeated fs) (fits_in fs room)
  where
    tests : (a b c d : Bool) → unless a 13 (unless b 16 (unless (not c) 14 (unless d 15 0))) ≡ 22 → ⊥
    tests false b c d e = omega (arith, e)
    tests true false c d e = omega (arith, e)
    tests true true true d e = omega (arith, e)
    tests true true false false e = omega (arith, e)
    tests true true false true e = omega (arith, e)

outside_only : (x : Said) (room : ℕ) → read_by x room ≡ 22 → in_syntax x ≡ false
outside_only no_text room e = refl
outside_only no_tuple room e = absurd (omega (arith, e))
outside_only (says fs) room e = absurd (other_number fs room e)

outside_number : (x : Said) (room : ℕ) → (in_syntax x ≡ true → ⊥) → read_by x room ≡ 22
outside_number no_text room n = refl
outside_number no_tuple room n = absurd (n refl)
outside_number (says fs) room n = absurd (n refl)

pub outside_syntax : OutsideSyntax
outside_syntax text buffer r after i = (
  λ e g. true_false (sym ((syntax_exactly text).1 g) ∙ outside_only (said text) (length buffer) (sym (ap (λ (a : Answer). a.number) i.0) ∙ e)),
  λ n. ap (λ (a : Answer). a.number) i.0 ∙ outside_number (said text) (length buffer) (λ e. n (run_input text e)),
)
