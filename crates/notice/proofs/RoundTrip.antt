-- The theorems that specs/RoundTrip.antt states. Assumes nothing.
use Rattle.std.specs.Prelude.{Ok}
use Rattle.std.proofs.Common.{◌≡◌, ℕ, zero, suc, ◌+◌, ◌-◌, ◌<◌, ◌≤◌, List, [], ◌∷◌, ◌++◌, map, length, get_or, take, drop, sym, ap, ◌∙◌, ap₂, arith, length-append, drop-cons, get_or-append-add}
use mathlib.Core.List.{Permᴰ}
use lib.ListN.{get_or-append}
use lib.Seq.{drop-length, get_or-append_seam}
use Rattle.word.specs.Word.{Bytes}
use Rattle.notice.specs.Write.{WriteAnswer}
use Rattle.notice.specs.Field.{Field}
use Rattle.notice.specs.Layout.{count_of, check_of, fields_of}
use Rattle.notice.specs.Read.{blank, read_field}
use Rattle.notice.specs.Write.{field, insert_field, written_of, written_bytes, Writes}
use Rattle.notice.specs.RoundTrip.{ReadCall, Copies, NoneRefused, numbers_from, ReadWrittenAgain, answered, Gives, ReadsBack, WrittenReadBack}
use Rattle.notice.proofs.Renders.{rendered_count}
use Rattle.notice.proofs.Keys.{bytes_take}
use Rattle.notice.proofs.Theorems.{count_fields, read_below, number_zero, left_by, write_adds, insert_adds, written_again}

-- a call of `read` below the count
field_answered : {s : List ℕ} {k : ℕ} (r : ReadCall s k) → answered r ≡ read_field s k
field_answered r = λ i. field (r.promise.kind_is i) (r.promise.name_is i) (r.promise.value_is i)

gives : (s : List ℕ) (k : ℕ) → check_of s ≡ Ok tt → k < count_of s → (r : ReadCall s k) → Gives r (get_or (fields_of s) k blank)
gives s k well h r =
    let b = read_below s k well h in
    (r.promise.number_is ∙ b.0, field_answered r ∙ b.1)

-- ---- read and written again

-- each of some numbers is below n
abbrev AllBelow : ℕ → List ℕ → Type 0
AllBelow n [] = Unit {0}
AllBelow n (k ∷ ks) = (k < n) × AllBelow n ks

perm_below : (n : ℕ) {ks js : List ℕ} → Permᴰ ks js → AllBelow n js → AllBelow n ks
perm_below n mathlib.Core.List.Permᴰ.nil h = h
perm_below n (mathlib.Core.List.Permᴰ.cons e d) h = (rw e h.0, perm_below n d h.1)
perm_below n (mathlib.Core.List.Permᴰ.swap e₁ e₂) h = (rw e₁ h.1.0, (rw e₂ h.0, h.1.1))
perm_below n (mathlib.Core.List.Permᴰ.trans d₁ d₂) h = perm_below n d₁ (perm_below n d₂ h)

-- the numbers from k to the count
from_below : (n k m : ℕ) → k + n ≡ m → AllBelow m (numbers_from n k)
from_below zero k m e = tt
from_below (suc n) k m e = (omega arith, from_below n (suc k) m (omega arith))

module _ (s : List ℕ) (bytes : Bytes s) (well : check_of s ≡ Ok tt) where
  -- what is read for them are the fields
  fields_from_lem : (n k : ℕ) → k + n ≡ count_of s → map (read_field s) (numbers_from n k) ≡ drop k (fields_of s)
  fields_from_lem zero k e =
      let c = count_fields s bytes well in
      let l : length (fields_of s) ≡ k = omega arith in
      sym (drop-length (fields_of s)) ∙ ap (λ (i : ℕ). drop i (fields_of s)) l
  fields_from_lem (suc n) k e =
      let c = count_fields s bytes well in
      ap₂ (λ (f : Field) (fs : List Field). f ∷ fs) (read_below s k well (omega arith)).1 (fields_from_lem n (suc k) (omega arith))
      ∙ sym (drop-cons (fields_of s) k blank (omega arith))

  -- the calls do what writing the fields that were read does
  copied : (ks b : List ℕ) (len : ℕ) (d : List ℕ) (m : ℕ) → AllBelow (count_of s) ks → Writes (map (read_field s) ks) b len d m
      → (after : List ℕ) (after_len : ℕ) (c : Copies ks s b len after after_len) → NoneRefused ks s b len after after_len c × (after ≡ d) × (after_len ≡ m)
  unfolding Writes
  copied [] b len d m h w after after_len c = (tt, sym c.0 ∙ w.0, sym c.1 ∙ w.1)
  copied (k ∷ ks) b len d m h w after after_len c =
      let r = c.0 in
      let call = c.1 in
      let f = field_answered r in
      let a : call.answer ≡ written_of b len (read_field s k) = call.promise.0 ∙ ap (written_of b len) f in
      let p : call.after ≡ written_bytes b len (read_field s k) = call.promise.1 ∙ ap (written_bytes b len) f in
      let n : call.answer.len ≡ (written_of b len (read_field s k)).len = ap (λ (x : WriteAnswer). x.len) a in
      let ih = copied ks call.after call.answer.len d m h.1 (rw (p, n) w.1) after after_len c.2 in
      (((gives s k well h.0 r).0, ap (λ (x : WriteAnswer). x.number) a ∙ w.0, ih.0), ih.1, ih.2)

pub read_written_again : ReadWrittenAgain
read_written_again s bytes well ks perm b e room after after_len c =
    let z : 0 + count_of s ≡ count_of s = omega arith in
    let all : map (read_field s) (numbers_from (count_of s) 0) ≡ fields_of s = fields_from_lem s bytes well (count_of s) 0 z in
    let fs : Permᴰ (map (read_field s) ks) (fields_of s) = rw (← all) (mathlib.Core.List.Permᴰ.map (read_field s) perm) in
    copied s bytes well ks b 8 (s ++ drop (length s) b) (length s) (perm_below (count_of s) perm (from_below (count_of s) 0 (count_of s) z)) (written_again s bytes well (map (read_field s) ks) fs b e room) after after_len c

-- ---- written and read back

-- one element more in the middle of a list
module _ (pre post : List Field) (f : Field) where
  earlier : (j : ℕ) → j < length pre → get_or (pre ++ (f ∷ post)) j blank ≡ get_or (pre ++ post) j blank
  earlier j h = get_or-append pre (f ∷ post) blank j h ∙ sym (get_or-append pre post blank j h)

  later : (j : ℕ) → length pre ≤ j → get_or (pre ++ (f ∷ post)) (j + 1) blank ≡ get_or (pre ++ post) j blank
  later j h =
      let n : j ≡ length pre + (j - length pre) = omega arith in
      let m : j + 1 ≡ length pre + suc (j - length pre) = omega arith in
      ap (λ (i : ℕ). get_or (pre ++ (f ∷ post)) i blank) m
      ∙ (get_or-append-add pre (f ∷ post) (suc (j - length pre)) blank ∙ (sym (get_or-append-add pre post (j - length pre) blank) ∙ ap (λ (i : ℕ). get_or (pre ++ post) i blank) (sym n)))

reads_back : (old new : List ℕ) (f : Field) → Bytes old → check_of old ≡ Ok tt → check_of new ≡ Ok tt → count_of new ≡ length (fields_of new) → fields_of new ≡ insert_field f (fields_of old) → ReadsBack old new f
reads_back old new f bytes well well' count e =
    let i = insert_adds f (fields_of old) in
    let pre = i.0 in
    let post = i.1 in
    let o : fields_of old ≡ pre ++ post = i.2 in
    let n : fields_of new ≡ pre ++ (f ∷ post) = e ∙ i.3 in
    let co : count_of old ≡ length pre + length post = count_fields old bytes well ∙ (ap length o ∙ length-append pre post) in
    let cn : count_of new ≡ length pre + suc (length post) = count ∙ (ap length n ∙ length-append pre (f ∷ post)) in
    record {
      well = well';
      one_more = omega arith;
      k = length pre;
      below = omega arith;
      written = λ r.
          let g = gives new (length pre) well' (omega arith) r in
          (g.0, g.1 ∙ (ap (λ (l : List Field). get_or l (length pre) blank) n ∙ get_or-append_seam pre f post blank));
      before = λ j h q r.
          let x = gives old j well (omega arith) q in
          let g = gives new j well' (omega arith) r in
          (g.0, g.1 ∙ (ap (λ (l : List Field). get_or l j blank) n ∙ (earlier pre post f j h ∙ (ap (λ (l : List Field). get_or l j blank) (sym o) ∙ sym x.1))));
      after = λ j h b q r.
          let x = gives old j well b q in
          let g = gives new (j + 1) well' (omega arith) r in
          (g.0, g.1 ∙ (ap (λ (l : List Field). get_or l (j + 1) blank) n ∙ (later pre post f j h ∙ (ap (λ (l : List Field). get_or l j blank) (sym o) ∙ sym x.1))));
    }

pub written_read_back : WrittenReadBack
written_read_back b len name kind value bytes w e =
    let f = field kind name value in
    let z : (written_of b len f).number ≡ 0 = sym (ap (λ (x : WriteAnswer). x.number) w.promise.0) ∙ e in
    let same : take (written_of b len f).len (written_bytes b len f) ≡ take w.answer.len w.after =
    ap₂ (λ (x : WriteAnswer) (d : List ℕ). take x.len d) (sym w.promise.0) (sym w.promise.1) in
    let l = left_by b len f bytes z in
    let a = write_adds b len f bytes z in
    let count : count_of (take w.answer.len w.after) ≡ length (fields_of (take w.answer.len w.after)) =
    ap count_of (sym same ∙ l.1) ∙ (rendered_count _ l.0 ∙ ap length (sym a.1 ∙ ap fields_of same)) in
    reads_back (take len b) (take w.answer.len w.after) f (bytes_take len b bytes) (number_zero b len f z).well (ap check_of (sym same) ∙ a.0) count (ap fields_of (sym same) ∙ a.1)
