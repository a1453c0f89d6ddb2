-- What a turn, room for more and a read leave of the bytes that are not answered yet. Assumes nothing.
use mathlib.Core.Path.{◌≡◌, refl, sym, ap, ap₂, subst, ◌∙◌}
use mathlib.Core.Bool.{Bool, true, false, not, cond}
use mathlib.Core.List.{List, [], ◌∷◌, ◌++◌, append-nil}
use Prim.Native.Nat.{ℕ, zero, suc, ◌+◌, ◌-◌, ◌≤◌, ◌<◌}
use native.Mathlib.Omega.{arith}
use borrow.Author.Tests.{lt-ltb, le-ltb}
use lib.ListN.{length, take, drop, length-drop}
use lib.Seq.{sets, length-sets, length-take-le, take-nil, take-add, drop-drop}
use Rattle.common.proofs.Choice.{true_false}
use Rattle.record.specs.declared.Record.{Record}
use Rattle.record.specs.declared.Record.TheVariants.{End, Whole, Cut, Wrong}
use Rattle.record.specs.Record.{record_of, waits_of}
use Rattle.record.proofs.Theorems.{cut_short, end_empty}
use Rattle.session.specs.declared.Stop.{Stop}
use Rattle.session.specs.declared.Stop.TheVariants.{Full, Waiting, Ended}
use Rattle.session.specs.declared.Next.{Next}
use Rattle.session.specs.declared.Next.TheVariants.{Read}
use Rattle.session.specs.declared.Brought.{Brought}
use Rattle.session.specs.declared.Brought.TheVariants.{UpTo, Again}
use Rattle.session.specs.declared.Served.{Served}
use Rattle.session.specs.declared.State.{State}
use Rattle.session.specs.Session.{table_after, Sound}
use Rattle.session.specs.Serving.{buffer_after, Serving, serving_of, Serves}
use Rattle.session.specs.State.{pending, Stands, Ready, next_of, serving_now, Turns, crowded, moved, MakesRoom, Reads, arrived, received_of}
use Rattle.session.proofs.Laws.{from_start, stored_front, serving_waits, serving_whole, serving_error}

drop_take : (k n : ℕ) (l : List ℕ) → drop k (take n l) ≡ take (n - k) (drop k l)
drop_take zero n l = let e : n ≡ n - 0 = omega arith in ap (λ (m : ℕ). take m l) e
drop_take (suc k) zero l = let e : 0 ≡ 0 - suc k = omega arith in ap (λ (m : ℕ). take m (drop (suc k) l)) e
drop_take (suc k) (suc n) [] = sym (take-nil (suc n - suc k))
drop_take (suc k) (suc n) (x ∷ l) = let e : n - k ≡ suc n - suc k = omega arith in drop_take k n l ∙ ap (λ (m : ℕ). take m (drop k l)) e

-- ---- where a stretch waits

-- what is left is the start of a record, or nothing
abbrev Rests : Bool → List ℕ → Serving → Type 0
Rests last s σ = σ.stop ≡ Waiting → waits_of (record_of (drop σ.taken s)) last ≡ true

pub waiting_rest : (n : ℕ) (last : Bool) (t b s : List ℕ) → Rests last s (serving_of n last t b s)
unfolding serving_of
waiting_rest zero last t b s = λ h. true_false (cc)
waiting_rest (suc n) last t b s = by (record_of s) refl last refl (λ kind size. waiting_rest n last (table_after (length b) t kind (take size s)) (buffer_after b kind (take size s)) (drop size s))
  where
    waits : waits_of (record_of s) last ≡ true → Rests last s (serving_of (suc n) last t b s)
    waits w = subst (λ (σ : Serving). Rests last s σ) (sym (serving_waits n last t b s w)) (λ h. w)

    ends : waits_of (record_of s) last ≡ false → ((kind size : ℕ) → record_of s ≡ Whole kind size → ⊥) → Rests last s (serving_of (suc n) last t b s)
    ends w f = subst (λ (σ : Serving). Rests last s σ) (sym (serving_error n last t b s w f)) (λ h. true_false (cc))

    by : (r : Record) → record_of s ≡ r → (l : Bool) → last ≡ l
        → ((kind size : ℕ) → Rests last (drop size s) (serving_of n last (table_after (length b) t kind (take size s)) (buffer_after b kind (take size s)) (drop size s)))
        → Rests last s (serving_of (suc n) last t b s)
    by End e l el ih = waits (ap (λ (r : Record). waits_of r last) e)
    by (Whole kind size) e l el ih =
        let σ : Serving = serving_of n last (table_after (length b) t kind (take size s)) (buffer_after b kind (take size s)) (drop size s) in
        subst (λ (τ : Serving). Rests last s τ) (sym (serving_whole n last t b s kind size e))
        (λ h. ap (λ (x : List ℕ). waits_of (record_of x) last) (sym (drop-drop σ.taken size s)) ∙ ih kind size h)
    by Cut e false el ih = waits (ap (λ (r : Record). waits_of r last) e ∙ ap not el)
    by Cut e true el ih = ends (ap (λ (r : Record). waits_of r last) e ∙ ap not el) (λ kind size f. true_false (cc))
    by Wrong e l el ih = ends (ap (λ (r : Record). waits_of r last) e) (λ kind size f. true_false (cc))

waits_short : (s : List ℕ) (last : Bool) → waits_of (record_of s) last ≡ true → length s < 16384
waits_short s last w = by (record_of s) refl
  where
    by : (r : Record) → record_of s ≡ r → length s < 16384
    by End e = let z = end_empty s e in omega arith
    by (Whole kind size) e = let f : waits_of (record_of s) last ≡ false = ap (λ (r : Record). waits_of r last) e in true_false (cc)
    by Cut e = cut_short s e
    by Wrong e = let f : waits_of (record_of s) last ≡ false = ap (λ (r : Record). waits_of r last) e in true_false (cc)

-- at the input's end nothing is left
pub waits_none : (s : List ℕ) → waits_of (record_of s) true ≡ true → length s ≡ 0
waits_none s w = by (record_of s) refl
  where
    by : (r : Record) → record_of s ≡ r → length s ≡ 0
    by End e = end_empty s e
    by (Whole kind size) e = let f : waits_of (record_of s) true ≡ false = ap (λ (r : Record). waits_of r true) e in true_false (cc)
    by Cut e = let f : waits_of (record_of s) true ≡ false = ap (λ (r : Record). waits_of r true) e in true_false (cc)
    by Wrong e = let f : waits_of (record_of s) true ≡ false = ap (λ (r : Record). waits_of r true) e in true_false (cc)

-- more is read where a stretch waits and the input has not ended
pub read_waits : (stop : Stop) (last : Bool) → next_of stop last ≡ Read → (stop ≡ Waiting) × (last ≡ false)
read_waits Full last e = true_false (cc)
read_waits Waiting true e = true_false (cc)
read_waits Waiting false e = (refl, refl)
read_waits Ended last e = true_false (cc)

-- ---- a turn

pub pending_length : (input : List ℕ) (s : State) → s.from ≤ s.end → s.end ≤ length input → length (pending input s) ≡ s.end - s.from
pending_length input s h g =
    let d = length-drop s.from input in
    let m : s.end - s.from ≤ length (drop s.from input) = omega arith in
    length-take-le (s.end - s.from) (drop s.from input) m

-- what is left after so many bytes were taken
pub pending_after : (input : List ℕ) (s : State) (from k : ℕ) → from ≡ s.from + k → take (s.end - from) (drop from input) ≡ drop k (pending input s)
pending_after input s from k e =
    let n : s.end - from ≡ s.end - s.from - k = omega arith in
    ap₂ (λ (i j : ℕ). take i (drop j input)) n e
    ∙ ap (λ (x : List ℕ). take (s.end - s.from - k) x) (sym (drop-drop k s.from input))
    ∙ sym (drop_take k (s.end - s.from) (drop s.from input))

pub turned : {input table out table' out' : List ℕ} {s : State} {a : Served} (next : Next) → Ready input table s → Serves (serving_now input table out s) (pending input s) out table' out' a
    → length table' ≡ length table → next ≡ next_of a.stop s.last
    → Turns input table out s table' out' (record { from = s.from + a.taken; end = s.end; held = a.held; written = a.written; last = s.last; next = next })
turned {input} {table} {out} {table'} {out'} {s} {a} next y q size e =
    let σ : Serving = serving_now input table out s in
    let p : List ℕ = pending input s in
    let lp = pending_length input s y.stands.order y.stands.within in
    let r : State = record { from = s.from + a.taken; end = s.end; held = a.held; written = a.written; last = s.last; next = next } in
    let ef : s.from + a.taken ≡ s.from + σ.taken = ap (λ (k : ℕ). s.from + k) q.taken in
    let en : next ≡ next_of σ.stop s.last = e ∙ ap (λ (x : Stop). next_of x s.last) q.stop in
    let lo : length out' ≡ length out = ap length q.lines.stored ∙ length-sets out 0 σ.lines in
    let ll : a.written ≡ length σ.lines = omega (arith, q.lines.next) in
    let fits : length σ.lines ≤ length out = omega (arith, q.short) in
    let order : s.from + a.taken ≤ s.end = omega (arith, q.inside, y.stands.order) in
    let rest : pending input r ≡ drop σ.taken p = pending_after input s (s.from + a.taken) σ.taken ef in
    record {
      from = ef;
      end = refl;
      last = refl;
      next = en;
      kept = q.table;
      size = size;
      buffer = q.buffer;
      stored = q.lines;
      short = q.short;
      lines = ap₂ (λ (k : ℕ) (d : List ℕ). take k d) ll q.lines.stored ∙ stored_front σ.lines out fits;
      ready =
          record {
            stands =
                record {
                  order = order;
                  within = y.stands.within;
                  large = y.stands.large;
                  short = λ h.
                      let w = waits_short (drop σ.taken p) s.last (waiting_rest _ s.last (take s.held table) table p (read_waits σ.stop s.last (sym en ∙ h)).0) in
                      subst (λ (x : List ℕ). length x < 16384) (sym rest) w;
                };
            held = q.within;
            sound = q.sound;
          };
    }

-- ---- room for more

module _ {input : List ℕ} {s : State} (y : Stands input s) (h : s.next ≡ Read) where
  moved_same : pending (sets input 0 (pending input s)) (moved s) ≡ pending input s
  moved_same =
      let p : List ℕ = pending input s in
      let l = pending_length input s y.order y.within in
      let f : length p ≤ length input = omega (arith, y.within) in
      from_start (sets input 0 p) (s.end - s.from) ∙ ap (λ (k : ℕ). take k (sets input 0 p)) (sym l) ∙ stored_front p input f

  pub room_made : (input' : List ℕ) → length input - s.end < 16384 → input' ≡ sets input 0 (pending input s) → MakesRoom input s input' (moved s)
  room_made input' c e =
      let p : List ℕ = pending input s in
      let l = pending_length input s y.order y.within in
      let n : length input' ≡ length input = ap length e ∙ length-sets input 0 p in
      let t : crowded input s ≡ true = lt-ltb (length input - s.end) 16384 c in
      let same : pending input' (moved s) ≡ p = ap (λ (x : List ℕ). pending x (moved s)) e ∙ moved_same in
      let room : s.end - s.from < length input' = omega (arith, y.short h, y.large) in
      let within : s.end - s.from ≤ length input' = omega arith in
      let large : 16384 ≤ length input' = omega (arith, y.large) in
      record {
        bytes = e ∙ ap (λ (b : Bool). cond b (sets input 0 p) input) (sym t);
        state = ap (λ (b : Bool). cond b (moved s) s) (sym t);
        same = same;
        room = room;
        stands = record { order = omega arith; within = within; large = large; short = λ g. subst (λ (x : List ℕ). length x < 16384) (sym same) (y.short h) };
      }

  pub room_there : 16384 ≤ length input - s.end → MakesRoom input s input s
  room_there c =
      let t : crowded input s ≡ false = le-ltb (length input - s.end) 16384 c in
      let room : s.end < length input = omega arith in
      record {
        bytes = ap (λ (b : Bool). cond b (sets input 0 (pending input s)) input) (sym t);
        state = ap (λ (b : Bool). cond b (moved s) s) (sym t);
        same = refl;
        room = room;
        stands = y;
      }

-- a move changes nothing of the state but the places
pub moved_held : (b : Bool) (s : State) → (cond b (moved s) s).held ≡ s.held
moved_held true s = refl
moved_held false s = refl

pub moved_last : (b : Bool) (s : State) → (cond b (moved s) s).last ≡ s.last
moved_last true s = refl
moved_last false s = refl

pub moved_next : (b : Bool) (s : State) → (cond b (moved s) s).next ≡ s.next
moved_next true s = refl
moved_next false s = refl

pub room_ready : {input table input' : List ℕ} {s r : State} → Ready input table s → MakesRoom input s input' r → Ready input' table r
room_ready {input} {table} {input'} {s} {r} y q =
    let e : r.held ≡ s.held = ap (λ (x : State). x.held) q.state ∙ moved_held (crowded input s) s in
    record {
      stands = q.stands;
      held = subst (λ (n : ℕ). n ≤ length table) (sym e) y.held;
      sound = subst (λ (n : ℕ). Sound (take n table)) (sym e) y.sound;
    }

-- ---- a read

module _ (input input' : List ℕ) (s : State) (y : Stands input s) where
  pub pending_kept : take s.end input' ≡ take s.end input → pending input' s ≡ pending input s
  pending_kept e =
      sym (drop_take s.from s.end input') ∙ ap (λ (x : List ℕ). drop s.from x) e ∙ drop_take s.from s.end input

  pub pending_received : (b : Brought) → Reads input s.end input' b → pending input' (received_of s b) ≡ pending input s ++ arrived input' s.end b
  pending_received (UpTo e) q =
      let n : e - s.from ≡ s.end - s.from + (e - s.end) = omega (arith, q.reach.0, y.order) in
      let m : s.from + (s.end - s.from) ≡ s.end = omega (arith, y.order) in
      ap (λ (k : ℕ). take k (drop s.from input')) n
      ∙ take-add (s.end - s.from) (e - s.end) (drop s.from input')
      ∙ ap (λ (x : List ℕ). pending input' s ++ take (e - s.end) x) (drop-drop (s.end - s.from) s.from input')
      ∙ ap₂ (λ (x : List ℕ) (k : ℕ). x ++ take (e - s.end) (drop k input')) (pending_kept q.before) m
  pending_received Again q = pending_kept q.before ∙ sym (append-nil (pending input s))

pub received_ready : {input table input' : List ℕ} {s : State} (b : Brought) → Ready input table s → Reads input s.end input' b → Ready input' table (received_of s b)
received_ready {input} {table} {input'} {s} (UpTo e) y q =
    let order : s.from ≤ e = omega (arith, q.reach.0, y.stands.order) in
    let within : e ≤ length input' = omega (arith, q.reach.1, q.size) in
    let large : 16384 ≤ length input' = omega (arith, q.size, y.stands.large) in
    record { stands = record { order = order; within = within; large = large; short = λ h. true_false (cc) }; held = y.held; sound = y.sound }
received_ready {input} {table} {input'} {s} Again y q =
    let within : s.end ≤ length input' = omega (arith, q.size, y.stands.within) in
    let large : 16384 ≤ length input' = omega (arith, q.size, y.stands.large) in
    let same : pending input' s ≡ pending input s = pending_kept input input' s y.stands q.before in
    record {
      stands = record { order = y.stands.order; within = within; large = large; short = λ h. subst (λ (x : List ℕ). length x < 16384) (sym same) (y.stands.short h) };
      held = y.held;
      sound = y.sound;
    }
