-- The theorems that specs/Theorems.antt states. Assumes nothing.
use mathlib.Core.Path.{◌≡◌, refl, sym, ap, ap₂, ◌∙◌}
use mathlib.Core.Bool.{Bool, true, false, not}
use mathlib.Core.List.{List, [], ◌++◌, append_assoc, append-nil}
use mathlib.Core.Logic.{inl}
use Prim.Native.Nat.{ℕ, zero, suc, ◌+◌, ◌-◌, ◌≤◌}
use native.Mathlib.Omega.{arith}
use borrow.Author.Tests.{eq-eqb}
use lib.ListN.{length, take, drop, length-append, length-drop}
use lib.Seq.{length-sets, take-append-le, drop-append-le, drop-drop}
use Rattle.common.proofs.Choice.{true_false}
use Rattle.table.specs.Table.{most_bytes, layout_of}
use Rattle.table.specs.Check.{check_of}
use Rattle.record.specs.declared.Record.{Record}
use Rattle.record.specs.declared.Record.TheVariants.{End, Whole, Cut, Wrong}
use Rattle.record.specs.Record.{record_of, waits_of}
use Rattle.record.specs.Line.{error_line}
use Rattle.record.proofs.Theorems.{whole_lies, whole_grows, wrong_grows}
use Rattle.session.specs.declared.Stop.{Stop}
use Rattle.session.specs.declared.Stop.TheVariants.{Full, Waiting, Ended}
use Rattle.session.specs.declared.Next.{Next}
use Rattle.session.specs.declared.Next.TheVariants.{Read}
use Rattle.session.specs.declared.Brought.{Brought}
use Rattle.session.specs.declared.Brought.TheVariants.{UpTo, Again}
use Rattle.session.specs.declared.State.{State}
use Rattle.session.specs.Session.{line_of, table_after, on_record, output_from, output_after, output_of}
use Rattle.session.specs.Serving.{buffer_after, Serving, serving_of}
use Rattle.session.specs.State.{pending, next_of, serving_now, crowded, arrived, received_of}
use Rattle.session.specs.History.{Session, begins, answers, moves, reads, to_come}
use Rattle.session.specs.Theorems.{rest_of, InPieces, AlwaysReady, Printed, WholeOutput, NoTable}
use Rattle.session.proofs.Steps.{waiting_rest, waits_none, read_waits, pending_after, moved_held, moved_last, moved_next, room_ready, pending_received, received_ready}
use Rattle.session.proofs.Laws.{serving_waits, serving_whole, serving_error}

-- ---- the output, record by record

module _ (m room : ℕ) (t s : List ℕ) where
  output_by : Record → List ℕ
  output_by r =
      on_record r (λ _. []) (λ kind size. line_of room t kind (take size s) ++ output_from m room (table_after room t kind (take size s)) (drop size s)) (λ _. error_line)

  output_found : (r : Record) → record_of s ≡ r → output_from (suc m) room t s ≡ output_by r
  unfolding output_from output_by
  output_found r e = ap output_by e

  output_whole : (kind size : ℕ) → record_of s ≡ Whole kind size
      → output_from (suc m) room t s ≡ line_of room t kind (take size s) ++ output_from m room (table_after room t kind (take size s)) (drop size s)
  unfolding output_by
  output_whole kind size e = output_found (Whole kind size) e

  output_cut : record_of s ≡ Cut → output_from (suc m) room t s ≡ error_line
  unfolding output_by
  output_cut e = output_found Cut e

  output_wrong : record_of s ≡ Wrong → output_from (suc m) room t s ≡ error_line
  unfolding output_by
  output_wrong e = output_found Wrong e

  output_end : record_of s ≡ End → output_from (suc m) room t s ≡ []
  unfolding output_by
  output_end e = output_found End e

empty_end : (s : List ℕ) → length s ≡ 0 → record_of s ≡ End
empty_end s h = simp (eq-eqb (length s) 0 h)

output_empty : (m room : ℕ) (t s : List ℕ) → length s ≡ 0 → output_from m room t s ≡ []
unfolding output_from
output_empty zero room t s h = refl
output_empty (suc m) room t s h = output_end m room t s (empty_end s h)

-- any number of records that is enough gives the same output
same_output : (m k room : ℕ) (t s : List ℕ) → length s ≤ m → length s ≤ k → output_from m room t s ≡ output_from k room t s
same_output zero k room t s h g = let z : length s ≡ 0 = omega arith in output_empty zero room t s z ∙ sym (output_empty k room t s z)
same_output (suc m) zero room t s h g = let z : length s ≡ 0 = omega arith in output_empty (suc m) room t s z ∙ sym (output_empty zero room t s z)
same_output (suc m) (suc k) room t s h g =
    by (record_of s) refl (λ kind size e. let w = whole_lies s kind size e in let d = length-drop size s in
    same_output m k room (table_after room t kind (take size s)) (drop size s) (omega (arith, w.0)) (omega (arith, w.0)))
  where
    by : (r : Record) → record_of s ≡ r
        → ((kind size : ℕ) → record_of s ≡ Whole kind size → output_from m room (table_after room t kind (take size s)) (drop size s) ≡ output_from k room (table_after room t kind (take size s)) (drop size s))
        → output_from (suc m) room t s ≡ output_from (suc k) room t s
    by End e ih = output_end m room t s e ∙ sym (output_end k room t s e)
    by (Whole kind size) e ih =
        output_whole m room t s kind size e
        ∙ ap (λ (l : List ℕ). line_of room t kind (take size s) ++ l) (ih kind size e)
        ∙ sym (output_whole k room t s kind size e)
    by Cut e ih = output_cut m room t s e ∙ sym (output_cut k room t s e)
    by Wrong e ih = output_wrong m room t s e ∙ sym (output_wrong k room t s e)

-- ---- in pieces

-- what a stretch and the rest give together
abbrev together : ℕ → ℕ → Serving → List ℕ → List ℕ → List ℕ
together m room σ s t = σ.lines ++ rest_of σ.stop (output_from m room σ.table (drop σ.taken s ++ t))

rest_more : (stop : Stop) (x y : List ℕ) → x ≡ y → rest_of stop x ≡ rest_of stop y
rest_more stop x y e = ap (λ (l : List ℕ). rest_of stop l) e

module _ (n m : ℕ) (last : Bool) (table buffer s t : List ℕ) (hl : last ≡ true → t ≡ []) (hm : length (s ++ t) ≤ suc m) where
  room : ℕ
  room = length buffer

  waits_together : waits_of (record_of s) last ≡ true → together (suc m) (length buffer) (serving_of (suc n) last table buffer s) s t ≡ output_from (suc m) (length buffer) table (s ++ t)
  waits_together w = ap (λ (σ : Serving). together (suc m) (length buffer) σ s t) (serving_waits n last table buffer s w)

  error_together : waits_of (record_of s) last ≡ false → ((kind size : ℕ) → record_of s ≡ Whole kind size → ⊥) → output_from (suc m) (length buffer) table (s ++ t) ≡ error_line
      → together (suc m) (length buffer) (serving_of (suc n) last table buffer s) s t ≡ output_from (suc m) (length buffer) table (s ++ t)
  error_together w h e = ap (λ (σ : Serving). together (suc m) (length buffer) σ s t) (serving_error n last table buffer s w h) ∙ append-nil error_line ∙ sym e

  whole_together : (kind size : ℕ) → record_of s ≡ Whole kind size
      → together m (length (buffer_after buffer kind (take size s)))
      (serving_of n last (table_after (length buffer) table kind (take size s)) (buffer_after buffer kind (take size s)) (drop size s)) (drop size s) t
      ≡ output_from m (length (buffer_after buffer kind (take size s))) (table_after (length buffer) table kind (take size s)) (drop size s ++ t)
      → together (suc m) (length buffer) (serving_of (suc n) last table buffer s) s t ≡ output_from (suc m) (length buffer) table (s ++ t)
  whole_together kind size e ih =
      let r : List ℕ = take size s in
      let b' : List ℕ = buffer_after buffer kind r in
      let t' : List ℕ = table_after (length buffer) table kind r in
      let s' : List ℕ = drop size s in
      let σ : Serving = serving_of n last t' b' s' in
      let line : List ℕ = line_of (length buffer) table kind r in
      let w = whole_lies s kind size e in
      let lb : length b' ≡ length buffer = length-sets buffer 0 (table_after (length buffer) [] kind r) in
      let fits : size ≤ length s = w.2 in
      let et : take size (s ++ t) ≡ r = take-append-le size s t fits in
      let ed : drop size (s ++ t) ≡ s' ++ t = drop-append-le size s t fits in
      let whole : output_from (suc m) (length buffer) table (s ++ t) ≡ line ++ output_from m (length buffer) t' (s' ++ t) =
      output_whole m (length buffer) table (s ++ t) kind size (whole_grows s t kind size e)
      ∙ ap₂ (λ (x y : List ℕ). line_of (length buffer) table kind x ++ output_from m (length buffer) (table_after (length buffer) table kind x) y) et ed in
      let l1 = length-drop size s in
      let l2 = length-append s t in
      let l3 = length-append (drop (size + σ.taken) s) t in
      let l4 = length-drop (size + σ.taken) s in
      let fuel : output_from (suc m) (length buffer) σ.table (drop (size + σ.taken) s ++ t) ≡ output_from m (length buffer) σ.table (drop (size + σ.taken) s ++ t) =
      same_output (suc m) m (length buffer) σ.table (drop (size + σ.taken) s ++ t) (omega (arith, w.0, hm)) (omega (arith, w.0, hm)) in
      let there : drop (size + σ.taken) s ≡ drop σ.taken s' = sym (drop-drop σ.taken size s) in
      let rest : output_from (suc m) (length buffer) σ.table (drop (size + σ.taken) s ++ t) ≡ output_from m (length b') σ.table (drop σ.taken s' ++ t) =
      fuel ∙ ap₂ (λ (x : List ℕ) (k : ℕ). output_from m k σ.table (x ++ t)) there (sym lb) in
      ap (λ (τ : Serving). together (suc m) (length buffer) τ s t) (serving_whole n last table buffer s kind size e)
      ∙ append_assoc line σ.lines (rest_of σ.stop (output_from (suc m) (length buffer) σ.table (drop (size + σ.taken) s ++ t)))
      ∙ ap (λ (x : List ℕ). line ++ (σ.lines ++ x)) (rest_more σ.stop _ _ rest)
      ∙ ap (λ (x : List ℕ). line ++ x) ih
      ∙ ap (λ (k : ℕ). line ++ output_from m k t' (s' ++ t)) lb
      ∙ sym whole

pub in_pieces : InPieces
unfolding serving_of
in_pieces zero m last table buffer s t hl hm = refl
in_pieces (suc n) zero last table buffer s t hl hm =
    let l = length-append s t in
    let z : length s ≡ 0 = omega arith in
    let w : waits_of (record_of s) last ≡ true = ap (λ (r : Record). waits_of r last) (empty_end s z) in
    ap (λ (σ : Serving). together zero (length buffer) σ s t) (serving_waits n last table buffer s w)
in_pieces (suc n) (suc m) last table buffer s t hl hm =
    by (record_of s) refl last refl
    (λ kind size e. let w = whole_lies s kind size e in let l1 = length-append s t in let l2 = length-append (drop size s) t in let l3 = length-drop size s in
    in_pieces n m last (table_after (length buffer) table kind (take size s)) (buffer_after buffer kind (take size s)) (drop size s) t hl (omega (arith, w.0)))
  where
    never : (r : Record) → record_of s ≡ r → ((kind size : ℕ) → r ≡ Whole kind size → ⊥) → (kind size : ℕ) → record_of s ≡ Whole kind size → ⊥
    never r e h kind size f = h kind size (sym e ∙ f)

    by : (r : Record) → record_of s ≡ r → (l : Bool) → last ≡ l
        → ((kind size : ℕ) → record_of s ≡ Whole kind size
        → together m (length (buffer_after buffer kind (take size s)))
        (serving_of n last (table_after (length buffer) table kind (take size s)) (buffer_after buffer kind (take size s)) (drop size s)) (drop size s) t
        ≡ output_from m (length (buffer_after buffer kind (take size s))) (table_after (length buffer) table kind (take size s)) (drop size s ++ t))
        → together (suc m) (length buffer) (serving_of (suc n) last table buffer s) s t ≡ output_from (suc m) (length buffer) table (s ++ t)
    by End e l el ih = waits_together n m last table buffer s t hl hm (ap (λ (r : Record). waits_of r last) e)
    by (Whole kind size) e l el ih = whole_together n m last table buffer s t hl hm kind size e (ih kind size e)
    by Cut e false el ih = waits_together n m last table buffer s t hl hm (ap (λ (r : Record). waits_of r last) e ∙ ap not el)
    by Cut e true el ih =
        error_together n m last table buffer s t hl hm (ap (λ (r : Record). waits_of r last) e ∙ ap not el)
        (never Cut e (λ kind size f. true_false (cc)))
        (ap (λ (x : List ℕ). output_from (suc m) (length buffer) table (s ++ x)) (hl el) ∙ ap (λ (x : List ℕ). output_from (suc m) (length buffer) table x) (append-nil s)
        ∙ output_cut m (length buffer) table s e)
    by Wrong e l el ih =
        error_together n m last table buffer s t hl hm (ap (λ (r : Record). waits_of r last) e)
        (never Wrong e (λ kind size f. true_false (cc)))
        (output_wrong m (length buffer) table (s ++ t) (wrong_grows s t e))

pub no_table : NoTable
unfolding check_of layout_of
no_table size r = refl

-- ---- a session

pub always_ready : AlwaysReady
always_ready input table read written s (begins h e) =
    record {
      stands = record { order = omega arith; within = omega arith; large = h; short = λ z. omega arith };
      held = omega arith;
      sound = inl refl;
    }
always_ready input table read written s (answers h e q) = q.ready
always_ready input table read written s (moves h e q) = room_ready (always_ready _ _ _ _ _ h) q
always_ready input table read written s (reads {b = b} h e q) = received_ready b (always_ready _ _ _ _ _ h) q

-- the table's buffer keeps its length
long_table : (input table read written : List ℕ) (s : State) → Session input table s read written → length table ≡ most_bytes
long_table input table read written s (begins h e) = e
long_table input table read written s (answers h e q) = q.size ∙ long_table _ _ _ _ _ h
long_table input table read written s (moves h e q) = long_table _ _ _ _ _ h
long_table input table read written s (reads h e q) = long_table _ _ _ _ _ h

-- where more is read, the input has not ended
still_open : (input table read written : List ℕ) (s : State) → Session input table s read written → s.next ≡ Read → s.last ≡ false
still_open input table read written s (begins h e) z = refl
still_open input table read written s (answers {table = table₀} {out = out} {s = s₀} h e q) z =
    q.last ∙ (read_waits (serving_now input table₀ out s₀).stop s₀.last (sym q.next ∙ z)).1
still_open input table read written s (moves {input = input₀} {s = s₀} h e q) z =
    ap (λ (x : State). x.last) q.state ∙ moved_last (crowded input₀ s₀) s₀ ∙ still_open _ _ _ _ _ h e
still_open input table read written s (reads {s = s₀} {b = b} h e q) z = by b z (still_open _ _ _ _ _ h e)
  where
    by : (b : Brought) → (received_of s₀ b).next ≡ Read → s₀.last ≡ false → (received_of s₀ b).last ≡ false
    by (UpTo n) w o = true_false (cc)
    by Again w o = o

-- a turn's lines, and then what is printed for the rest
turn_output : (n : ℕ) (last : Bool) (tb table p t : List ℕ) → (last ≡ true → t ≡ []) → length table ≡ most_bytes
    → ((serving_of n last tb table p).lines
    ++ to_come (next_of (serving_of n last tb table p).stop last) (output_after (serving_of n last tb table p).table (drop (serving_of n last tb table p).taken p ++ t)))
    ≡ output_after tb (p ++ t)
turn_output n last tb table p t hl e =
    let σ : Serving = serving_of n last tb table p in
    let x : List ℕ = drop σ.taken p ++ t in
    let m : ℕ = length (p ++ t) in
    let l1 = length-append (drop σ.taken p) t in
    let l2 = length-append p t in
    let l3 = length-drop σ.taken p in
    let fits : length x ≤ m = omega arith in
    let fuel : output_after σ.table x ≡ output_from m (length table) σ.table x =
    same_output (length x) m most_bytes σ.table x (omega arith) fits ∙ ap (λ (k : ℕ). output_from m k σ.table x) (sym e) in
    ap (λ (y : List ℕ). σ.lines ++ y) (by σ.stop refl last refl fuel)
    ∙ in_pieces n m last tb table p t hl (omega arith)
    ∙ ap (λ (k : ℕ). output_from m k tb (p ++ t)) e
  where
    σ₀ : Serving
    σ₀ = serving_of n last tb table p

    x₀ : List ℕ
    x₀ = drop σ₀.taken p ++ t

    by : (stop : Stop) → σ₀.stop ≡ stop → (l : Bool) → last ≡ l → output_after σ₀.table x₀ ≡ output_from (length (p ++ t)) (length table) σ₀.table x₀
        → to_come (next_of stop l) (output_after σ₀.table x₀) ≡ rest_of stop (output_from (length (p ++ t)) (length table) σ₀.table x₀)
    by Full es l el f = f
    by Waiting es false el f = f
    by Waiting es true el f =
        let w : waits_of (record_of (drop σ₀.taken p)) true ≡ true =
        ap (λ (b : Bool). waits_of (record_of (drop σ₀.taken p)) b) (sym el) ∙ waiting_rest n last tb table p es in
        let z = waits_none (drop σ₀.taken p) w in
        let lt : length t ≡ 0 = ap length (hl el) in
        let la = length-append (drop σ₀.taken p) t in
        sym (output_empty (length (p ++ t)) (length table) σ₀.table x₀ (omega arith))
    by Ended es l el f = refl

pub printed : Printed
printed input table read written s (begins h e) t hl = refl
printed input table read written s (answers {table = table₀} {out = out} {out' = out'} {written = written₀} {s = s₀} h e q) t hl =
    let σ : Serving = serving_now input table₀ out s₀ in
    let p : List ℕ = pending input s₀ in
    let rest : pending input s ≡ drop σ.taken p = ap (λ (k : ℕ). take (k - s.from) (drop s.from input)) q.end ∙ pending_after input s₀ s.from σ.taken q.from in
    let before : (written₀ ++ to_come s₀.next (output_after (take s₀.held table₀) (p ++ t))) ≡ output_of (read ++ t) = printed _ _ _ _ _ h t (λ z. hl (q.last ∙ z)) in
    let now : (take s.written out' ++ to_come s.next (output_after (take s.held table) (pending input s ++ t)))
    ≡ (σ.lines ++ to_come (next_of σ.stop s₀.last) (output_after σ.table (drop σ.taken p ++ t))) =
    ap (λ (x : List ℕ). x ++ to_come s.next (output_after (take s.held table) (pending input s ++ t))) q.lines
    ∙ ap (λ (x : Next). σ.lines ++ to_come x (output_after (take s.held table) (pending input s ++ t))) q.next
    ∙ ap₂ (λ (x y : List ℕ). σ.lines ++ to_come (next_of σ.stop s₀.last) (output_after x (y ++ t))) q.kept rest in
    append_assoc written₀ (take s.written out') (to_come s.next (output_after (take s.held table) (pending input s ++ t)))
    ∙ ap (λ (x : List ℕ). written₀ ++ x) (now ∙ turn_output _ s₀.last (take s₀.held table₀) table₀ p t (λ z. hl (q.last ∙ z)) (long_table _ _ _ _ _ h))
    ∙ ap (λ (x : Next). written₀ ++ to_come x (output_after (take s₀.held table₀) (p ++ t))) (sym e)
    ∙ before
printed input table read written s (moves {input = input₀} {s = s₀} h e q) t hl =
    let el : s.last ≡ s₀.last = ap (λ (x : State). x.last) q.state ∙ moved_last (crowded input₀ s₀) s₀ in
    let eh : s.held ≡ s₀.held = ap (λ (x : State). x.held) q.state ∙ moved_held (crowded input₀ s₀) s₀ in
    let en : s.next ≡ s₀.next = ap (λ (x : State). x.next) q.state ∙ moved_next (crowded input₀ s₀) s₀ in
    ap (λ (x : Next). written ++ to_come x (output_after (take s.held table) (pending input s ++ t))) en
    ∙ ap₂ (λ (n : ℕ) (x : List ℕ). written ++ to_come s₀.next (output_after (take n table) (x ++ t))) eh q.same
    ∙ printed _ _ _ _ _ h t (λ z. hl (el ∙ z))
printed input table read written s (reads {input = input₀} {read = read₀} {s = s₀} {b = b} h e q) t hl =
    let x : List ℕ = arrived input s₀.end b in
    let o : s₀.last ≡ false = still_open _ _ _ _ _ h e in
    let before : (written ++ to_come s₀.next (output_after (take s₀.held table) (pending input₀ s₀ ++ (x ++ t)))) ≡ output_of (read₀ ++ (x ++ t)) =
    printed _ _ _ _ _ h (x ++ t) (λ z. true_false (cc)) in
    by b refl
    ∙ ap (λ (y : List ℕ). written ++ output_after (take s₀.held table) (y ++ t)) (pending_received input₀ input s₀ (always_ready _ _ _ _ _ h).stands b q)
    ∙ ap (λ (y : List ℕ). written ++ output_after (take s₀.held table) y) (append_assoc (pending input₀ s₀) x t)
    ∙ ap (λ (y : Next). written ++ to_come y (output_after (take s₀.held table) (pending input₀ s₀ ++ (x ++ t)))) (sym e)
    ∙ before
    ∙ ap output_of (sym (append_assoc read₀ x t))
  where
    by : (c : Brought) → b ≡ c
        → (written ++ to_come (received_of s₀ c).next (output_after (take (received_of s₀ c).held table) (pending input (received_of s₀ c) ++ t)))
        ≡ (written ++ output_after (take s₀.held table) (pending input (received_of s₀ c) ++ t))
    by (UpTo n) f = refl
    by Again f = ap (λ (y : Next). written ++ to_come y (output_after (take s₀.held table) (pending input s₀ ++ t))) e

pub whole_output : WholeOutput
whole_output input table read written s h e t hl =
    sym (append-nil written)
    ∙ ap (λ (x : Next). written ++ to_come x (output_after (take s.held table) (pending input s ++ t))) (sym e)
    ∙ printed input table read written s h t hl
