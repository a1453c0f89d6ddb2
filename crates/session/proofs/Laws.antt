-- What a record leaves, by its kind, and a stretch of the input record by record. Assumes nothing.
use mathlib.Core.Path.{◌≡◌, refl, sym, ap, ap₂, subst, ◌∙◌}
use mathlib.Core.Bool.{Bool, true, false}
use mathlib.Core.List.{List, [], ◌++◌, append_assoc, append-nil}
use Prim.Native.Nat.{ℕ, suc, ◌+◌, ◌*◌, ◌-◌, ◌≤◌, ◌<◌}
use native.Mathlib.Omega.{arith}
use borrow.Author.Tests.{ne_eqb}
use lib.ListN.{length, take, drop, length-drop}
use lib.Seq.{sets, sets-eq, length-sets, length-take-le, take_all, take-append_seam, drop-drop}
use Rattle.common.specs.Choice.{pick}
use Rattle.common.proofs.Choice.{true_false}
use Rattle.word.specs.Word.{Bytes}
use Rattle.record.specs.declared.Record.{Record}
use Rattle.record.specs.declared.Record.TheVariants.{End, Whole, Cut, Wrong}
use Rattle.record.specs.Record.{record_of, waits_of}
use Rattle.decimal.specs.Decimal.{Put}
use Rattle.record.specs.Line.{text_line, kind_line, error_line, line_room}
use Rattle.decimal.proofs.Laws.{renamed, joined}
use Rattle.translator.specs.Translation.{Translated}
use Rattle.translator.specs.Translation.{Outcome, translation_of, answer_of, Answers as Translates}
use Rattle.translator.proofs.Fits.{fits_room}
use Rattle.interpreter.specs.Running.{running_of}
use Rattle.session.specs.declared.Stop.{Stop}
use Rattle.session.specs.declared.Stop.TheVariants.{Full, Waiting, Ended}
use Rattle.session.specs.declared.Answered.{Answered}
use Rattle.session.specs.Session.{edition, text_of, ran_line, line_of, table_after, Sound, on_record}
use Rattle.session.specs.Serving.{buffer_after, Serving, stopped, prepend, serving_of, Answers, Serves}
use Rattle.session.proofs.Kept.{text_sound}

-- ---- one record

-- the part of a slice from a place to its end
pub to_end : (s : List ℕ) (at : ℕ) → take (length s - at) (drop at s) ≡ drop at s
to_end s at = let l = length-drop at s in take_all (length s - at) (drop at s) (omega arith)

pub from_start : (s : List ℕ) (n : ℕ) → take (n - 0) (drop 0 s) ≡ take n s
from_start s n = let e : n - 0 ≡ n = omega arith in ap (λ (k : ℕ). take k s) e

-- the part of a slice that is n long
pub between : (s : List ℕ) (at n : ℕ) → take (at + n - at) (drop at s) ≡ take n (drop at s)
between s at n = let e : at + n - at ≡ n = omega arith in ap (λ (k : ℕ). take k (drop at s)) e

pub between_length : (s : List ℕ) (at n : ℕ) → at + n ≤ length s → length (take (at + n - at) (drop at s)) ≡ n
between_length s at n h =
    let l = length-drop at s in
    let m : n ≤ length (drop at s) = omega arith in
    ap length (between s at n) ∙ length-take-le n (drop at s) m

-- what is stored at the start stands there
pub stored_front : (xs d : List ℕ) → length xs ≤ length d → take (length xs) (sets d 0 xs) ≡ xs
stored_front xs d h =
    let z : 0 + length xs ≤ length d = omega arith in
    ap (λ (l : List ℕ). take (length xs) l) (sets-eq xs d 0 z) ∙ take-append_seam xs (drop (0 + length xs) d)

pub text_answers : (r t b out b' out' x : List ℕ) (at next : ℕ) (y : Translated) {z : Translated} → Bytes r → x ≡ text_of r → Translates (translation_of edition x (length b)) b b' z → z ≡ y
    → Put out at (text_line y.number y.place y.length) out' next → next ≤ at + line_room → Answers 3 r t b out at b' out' (record { held = y.length; next = next })
text_answers r t b out b' out' x at next y {z} br ex q zy p h =
    let o : Outcome = translation_of edition (text_of r) (length b) in
    let eo : translation_of edition x (length b) ≡ o = ap (λ (l : List ℕ). translation_of edition l (length b)) ex in
    let ey : y ≡ answer_of o = sym zy ∙ q.answer ∙ ap answer_of eo in
    let n : y.length ≡ length o.table = ap (λ (v : Translated). v.length) ey in
    let eb : b' ≡ sets b 0 o.table = q.bytes ∙ ap (λ (v : Outcome). sets b 0 v.table) eo in
    let l : length b' ≡ length b = ap length eb ∙ length-sets b 0 o.table in
    let f : length o.table ≤ length b = fits_room edition (text_of r) (length b) in
    let w : y.length ≤ length b' = omega arith in
    let et : take y.length b' ≡ o.table = ap₂ (λ (k : ℕ) (d : List ℕ). take k d) n eb ∙ stored_front o.table b f in
    record {
      within = w;
      table = et;
      sound = subst Sound (sym et) (text_sound r (length b) br);
      buffer = eb;
      line = renamed (ap (λ (v : Translated). text_line v.number v.place v.length) ey) p;
      short = h;
    }

pub at_kind : (k j : ℕ) (r t b out b' out' : List ℕ) (at : ℕ) (a : Answered) → j ≡ k → Answers k r t b out at b' out' a → Answers j r t b out at b' out' a
at_kind k j r t b out b' out' at a e h = subst (λ (i : ℕ). Answers i r t b out at b' out' a) (sym e) h

pub notice_answers : (r b out out' x : List ℕ) (held at next : ℕ) → held ≤ length b → Sound (take held b) → x ≡ take held b → Put out at (ran_line (running_of x r)) out' next → next ≤ at + line_room
    → Answers 1 r (take held b) b out at b out' (record { held = held; next = next })
notice_answers r b out out' x held at next w d e p h =
    record { within = w; table = refl; sound = d; buffer = refl; line = renamed (ap (λ (l : List ℕ). ran_line (running_of l r)) e) p; short = h }

pub other_answers : (k : ℕ) (r b out out' : List ℕ) (held at next : ℕ) → (k ≡ 3 → ⊥) → (k ≡ 1 → ⊥) → held ≤ length b → Sound (take held b) → Put out at (kind_line k) out' next → next ≤ at + line_room
    → Answers k r (take held b) b out at b out' (record { held = held; next = next })
other_answers k r b out out' held at next h3 h1 w d p h =
    let et : take held b ≡ table_after (length b) (take held b) k r = simp (ne_eqb k 3 h3) in
    let eb : b ≡ buffer_after b k r = simp (ne_eqb k 3 h3) in
    let el : kind_line k ≡ line_of (length b) (take held b) k r = simp (ne_eqb k 3 h3, ne_eqb k 1 h1) in
    record { within = w; table = et; sound = d; buffer = eb; line = renamed el p; short = h }

-- ---- a stretch of the input

module _ (n : ℕ) (last : Bool) (t b s : List ℕ) where
  pub serving_waits : waits_of (record_of s) last ≡ true → serving_of (suc n) last t b s ≡ stopped Waiting [] t b
  unfolding serving_of
  serving_waits e =
      ap (λ (w : Bool). pick w (λ _. stopped Waiting [] t b)
      (λ _. on_record (record_of s) (λ _. stopped Waiting [] t b)
      (λ kind size. prepend (line_of (length b) t kind (take size s)) size
      (serving_of n last (table_after (length b) t kind (take size s)) (buffer_after b kind (take size s)) (drop size s)))
      (λ _. stopped Ended error_line t b))) e

  serving_by : Record → Serving
  serving_by r =
      pick (waits_of r last) (λ _. stopped Waiting [] t b)
      (λ _. on_record r (λ _. stopped Waiting [] t b)
      (λ kind size. prepend (line_of (length b) t kind (take size s)) size
      (serving_of n last (table_after (length b) t kind (take size s)) (buffer_after b kind (take size s)) (drop size s)))
      (λ _. stopped Ended error_line t b))

  serving_found : (r : Record) → record_of s ≡ r → serving_of (suc n) last t b s ≡ serving_by r
  unfolding serving_of serving_by
  serving_found r e = ap serving_by e

  pub serving_whole : (kind size : ℕ) → record_of s ≡ Whole kind size
      → serving_of (suc n) last t b s ≡ prepend (line_of (length b) t kind (take size s)) size (serving_of n last (table_after (length b) t kind (take size s)) (buffer_after b kind (take size s)) (drop size s))
  unfolding serving_by
  serving_whole kind size e = serving_found (Whole kind size) e

  error_by : (r : Record) → waits_of r last ≡ false → ((kind size : ℕ) → r ≡ Whole kind size → ⊥) → serving_by r ≡ stopped Ended error_line t b
  unfolding serving_by
  error_by End w h = true_false (cc)
  error_by (Whole kind size) w h = absurd (h kind size refl)
  error_by Cut w h = rw w
  error_by Wrong w h = refl

  pub serving_error : waits_of (record_of s) last ≡ false → ((kind size : ℕ) → record_of s ≡ Whole kind size → ⊥) → serving_of (suc n) last t b s ≡ stopped Ended error_line t b
  serving_error w h = serving_found (record_of s) refl ∙ error_by (record_of s) w h

abbrev with_both : Serving → List ℕ → ℕ → Serving
with_both σ lines taken = record { lines = lines; table = σ.table; buffer = σ.buffer; taken = taken; stop = σ.stop }

-- nothing before, and one record after another
prepend_none : (σ : Serving) → prepend [] 0 σ ≡ σ
prepend_none σ =
    let e : 0 + σ.taken ≡ σ.taken = omega arith in
    ap (λ (k : ℕ). with_both σ σ.lines k) e

prepend_prepend : (l m : List ℕ) (i j : ℕ) (σ : Serving) → prepend (l ++ m) (i + j) σ ≡ prepend l i (prepend m j σ)
prepend_prepend l m i j σ =
    let e : i + j + σ.taken ≡ i + (j + σ.taken) = omega arith in
    ap₂ (λ (x : List ℕ) (k : ℕ). with_both σ x k) (append_assoc l m σ.lines) e

-- what `serve` keeps: the lines so far stand in the output, and with them the rest of the stretch gives the whole
pub record Along (input : List ℕ) (last : Bool) (b₀ : List ℕ) (held₀ : ℕ) (out₀ : List ℕ) (turns : ℕ) (b out : List ℕ) (at held written left : ℕ) : Type 0 where
  pub lines : List ℕ
  pub placed : at ≤ length input
  pub within : held ≤ length b
  pub sound : Sound (take held b)
  pub room : written + line_room * left ≤ length out
  pub same_buffer : length b ≡ length b₀
  pub same_out : length out ≡ length out₀
  pub stored : Put out₀ 0 lines out written
  pub whole : prepend lines at (serving_of left last (take held b) b (drop at input)) ≡ serving_of turns last (take held₀ b₀) b₀ input

pub along_first : (input : List ℕ) (last : Bool) (b : List ℕ) (held : ℕ) (out : List ℕ) (turns : ℕ) → held ≤ length b → Sound (take held b) → line_room * turns ≤ length out
    → Along input last b held out turns b out 0 held 0 turns
along_first input last b held out turns w d h =
    let p : 0 ≤ length input = omega arith in
    let r : 0 + line_room * turns ≤ length out = omega arith in
    record {
      lines = [];
      placed = p;
      within = w;
      sound = d;
      room = r;
      same_buffer = refl;
      same_out = refl;
      stored = record { stored = refl; next = refl };
      whole = prepend_none (serving_of turns last (take held b) b input);
    }

-- one record on: x is the record's bytes, as the code lends them
pub along_more : {input : List ℕ} {last : Bool} {b₀ : List ℕ} {held₀ : ℕ} {out₀ : List ℕ} {turns : ℕ} {b out : List ℕ} {at held written left : ℕ}
    (b' out' x : List ℕ) (kind size : ℕ) (a : Answered) → Along input last b₀ held₀ out₀ turns b out at held written left → 0 < left → record_of (drop at input) ≡ Whole kind size → at + size ≤ length input
    → x ≡ take size (drop at input) → length b' ≡ length b → length out' ≡ length out → Answers kind x (take held b) b out written b' out' a
    → Along input last b₀ held₀ out₀ turns b' out' (at + size) a.held a.next (left - 1)
along_more {input} {last} {b₀} {held₀} {out₀} {turns} {b} {out} {at} {held} {written} {left} b' out' x kind size a l p e h ex lb lo q =
    let s : List ℕ = drop at input in
    let t : List ℕ = take held b in
    let r : List ℕ = take size s in
    let n : ℕ = left - 1 in
    let line : List ℕ = line_of (length b) t kind r in
    let el : line_of (length b) t kind x ≡ line = ap (λ (y : List ℕ). line_of (length b) t kind y) ex in
    let et : take a.held b' ≡ table_after (length b) t kind r = q.table ∙ ap (λ (y : List ℕ). table_after (length b) t kind y) ex in
    let eb : b' ≡ buffer_after b kind r = q.buffer ∙ ap (λ (y : List ℕ). buffer_after b kind y) ex in
    let ed : drop (at + size) input ≡ drop size s = sym (drop-drop size at input) in
    let en : left ≡ suc n = omega arith in
    let now : serving_of n last (take a.held b') b' (drop (at + size) input) ≡ serving_of n last (table_after (length b) t kind r) (buffer_after b kind r) (drop size s) =
    ap (λ (y : List ℕ). serving_of n last y b' (drop (at + size) input)) et
    ∙ ap₂ (λ (y z : List ℕ). serving_of n last (table_after (length b) t kind r) y z) eb ed in
    let step : prepend line size (serving_of n last (take a.held b') b' (drop (at + size) input)) ≡ serving_of left last t b s =
    ap (λ (σ : Serving). prepend line size σ) now ∙ sym (serving_whole n last t b s kind size e) ∙ ap (λ (k : ℕ). serving_of k last t b s) (sym en) in
    let room' : a.next + line_room * n ≤ length out' = omega (arith, q.short, l.room) in
    record {
      lines = l.lines ++ line;
      placed = h;
      within = q.within;
      sound = q.sound;
      room = room';
      same_buffer = lb ∙ l.same_buffer;
      same_out = lo ∙ l.same_out;
      stored = joined l.lines line l.stored (renamed el q.line);
      whole =
          prepend_prepend l.lines line at size (serving_of n last (take a.held b') b' (drop (at + size) input))
          ∙ ap (λ (σ : Serving). prepend l.lines at σ) step
          ∙ l.whole;
    }

-- the end: the lines m come last
finish : (w : Serving) (input l m t b out out' : List ℕ) (at held written : ℕ) (stop : Stop) → prepend l at (stopped stop m t b) ≡ w → held ≤ length b → Sound (take held b) → at ≤ length input → written ≤ length out'
    → take held b ≡ t → Put out 0 (l ++ m) out' written → Serves w input out b out' (record { taken = at; held = held; written = written; stop = stop })
finish w input l m t b out out' at held written stop e h d i r et p =
    let z : at ≡ at + 0 = omega arith in
    record {
      within = h;
      inside = i;
      short = r;
      table = et ∙ ap (λ (σ : Serving). σ.table) e;
      sound = d;
      buffer = ap (λ (σ : Serving). σ.buffer) e;
      lines = renamed (ap (λ (σ : Serving). σ.lines) e) p;
      taken = z ∙ ap (λ (σ : Serving). σ.taken) e;
      stop = ap (λ (σ : Serving). σ.stop) e;
    }

module _ {input : List ℕ} {last : Bool} {b₀ : List ℕ} {held₀ : ℕ} {out₀ : List ℕ} {turns : ℕ} {b out : List ℕ} {at held written left : ℕ}
    (l : Along input last b₀ held₀ out₀ turns b out at held written left) where
  -- where nothing more is answered for a reason, and no line comes
  stops : (stop : Stop) → serving_of left last (take held b) b (drop at input) ≡ stopped stop [] (take held b) b
      → Serves (serving_of turns last (take held₀ b₀) b₀ input) input out₀ b out (record { taken = at; held = held; written = written; stop = stop })
  stops stop e =
      let r : written ≤ length out = omega (arith, l.room) in
      finish (serving_of turns last (take held₀ b₀) b₀ input) input l.lines [] (take held b) b out₀ out at held written stop
      (ap (λ (σ : Serving). prepend l.lines at σ) (sym e) ∙ l.whole) l.within l.sound l.placed r refl (renamed (sym (append-nil l.lines)) l.stored)

  pub along_full : left ≤ 0 → Serves (serving_of turns last (take held₀ b₀) b₀ input) input out₀ b out (record { taken = at; held = held; written = written; stop = Full })
  unfolding serving_of
  along_full h = let z : left ≡ 0 = omega arith in stops Full (ap (λ (k : ℕ). serving_of k last (take held b) b (drop at input)) z)

  pub along_waits : 0 < left → waits_of (record_of (drop at input)) last ≡ true
      → Serves (serving_of turns last (take held₀ b₀) b₀ input) input out₀ b out (record { taken = at; held = held; written = written; stop = Waiting })
  along_waits p w =
      let en : left ≡ suc (left - 1) = omega arith in
      stops Waiting (ap (λ (k : ℕ). serving_of k last (take held b) b (drop at input)) en ∙ serving_waits (left - 1) last (take held b) b (drop at input) w)

  pub along_error : (out' : List ℕ) (end : ℕ) → 0 < left → waits_of (record_of (drop at input)) last ≡ false → ((kind size : ℕ) → record_of (drop at input) ≡ Whole kind size → ⊥)
      → length out' ≡ length out → end ≤ written + line_room → Put out written error_line out' end
      → Serves (serving_of turns last (take held₀ b₀) b₀ input) input out₀ b out' (record { taken = at; held = held; written = end; stop = Ended })
  along_error out' end p w h lo f q =
      let en : left ≡ suc (left - 1) = omega arith in
      let r : end ≤ length out' = omega (arith, l.room) in
      let e : serving_of left last (take held b) b (drop at input) ≡ stopped Ended error_line (take held b) b =
      ap (λ (k : ℕ). serving_of k last (take held b) b (drop at input)) en ∙ serving_error (left - 1) last (take held b) b (drop at input) w h in
      finish (serving_of turns last (take held₀ b₀) b₀ input) input l.lines error_line (take held b) b out₀ out' at held end Ended
      (ap (λ (σ : Serving). prepend l.lines at σ) (sym e) ∙ l.whole) l.within l.sound l.placed r refl (joined l.lines error_line l.stored q)
