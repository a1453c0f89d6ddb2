-- One visit of the loop, by the group of the entry's operator: what there is room for, and that the loop's variables after it are the rule's. Assumes nothing.
use Rattle.std.specs.Prelude.{Some, None, Option as Optional}
use mathlib.Core.Path.{◌≡◌, refl, sym, ap, ap₂, ◌∙◌, subst}
use mathlib.Core.Bool.{Bool, true, false, cond, ◌&&◌}
use mathlib.Core.List.{List, ◌∷◌, ◌++◌, map, reverse}
use Prim.Native.Nat.{ℕ, suc, ◌+◌, ◌-◌, ◌*◌, ◌%◌, ◌<◌, ◌≤◌}
use native.Mathlib.Numerals.{add-one}
use native.Mathlib.Omega.{arith}
use borrow.Author.Tests.{ltb-true, ltb-false, leb-true, leb-false, lt-ltb}
use lib.Dec.{ltb, leb}
use lib.ListN.{length, get_or, set, take, drop, length-set, length-map, length-append, length-replicate}
use Rattle.truth.specs.declared.Truth.{Truth}
use Rattle.truth.specs.declared.Truth.TheVariants.{Bottom}
use Rattle.opcode.specs.Opcode.{op_of, Kind, unary_takes, binary_takes, takes_of}
use Rattle.opcode.specs.declared.Edition.{Edition}
use Rattle.opcode.specs.declared.Load.{Load}
use Rattle.opcode.specs.declared.Unary.{Unary}
use Rattle.opcode.specs.declared.Binary.{Binary}
use Rattle.opcode.specs.declared.Many.{Many}
use Rattle.opcode.specs.declared.Skip.{Skip}
use Rattle.opcode.specs.declared.Op.{Op}
use Rattle.notice.specs.Field.{size_right}
use Rattle.notice.specs.Lookup.{lookup_of}
use Rattle.notice.specs.declared.FoundField.{FoundField}
use Rattle.table.specs.Table.{edition_of, count_of, entry_at, pool_of, decode}
use Rattle.table.specs.Check.{part_right, skip_op, check_of}
use Rattle.table.proofs.Tests.{both_true}
use Rattle.table.proofs.Theorems.{checked_layout, checked_skip}
use Rattle.table.proofs.Laid.{laid}
use Rattle.table.proofs.Reading.{length_entries}
use Rattle.value.specs.Value.{bottom, Item, logic, value, truth_in, is_bottom, kind_of, unary_of, binary_of, field_value, found_value, in_pool, load_of, start_of, open_of, more_of, tally_of}
use Rattle.value.specs.Held.{item_of, item_in}
use Rattle.value.specs.declared.Slot.{Slot}
use Rattle.value.proofs.FieldValues.{field_known}
use Rattle.value.proofs.Theorems.{tally, settled}
use Rattle.interpreter.specs.declared.Machine.{Machine}
use Rattle.interpreter.specs.Run.{State, slot_at, skips, stack_by, stride_by, visit, rule, after_from, after}
use Rattle.interpreter.specs.Undecided.{holds_bottom, entry_after, visits, leaves_bottom, no_entry, first_from, undecided_after}
use Rattle.interpreter.specs.Machine.{blank, stack_of, state_of, fresh, limit_of, Visited, Follows}
use Rattle.interpreter.proofs.Stack.{stack_put, stack_length, stack_drop, stack_get, stack_up}
use Rattle.interpreter.proofs.Safe.{Sound, known, operands, never_unknown, rule_more, after_next, after_past, always}
use Rattle.interpreter.proofs.Firsts.{top_known, second_known, put_bottom, with_next, unchanged, first_by, few_entries, first_past}
use Rattle.interpreter.proofs.Theorems.{stack_small}

-- the machine of the loop's variables, after so many visits
abbrev pub machine : List Slot → ℕ → ℕ → ℕ → ℕ → Machine
machine stack next depth steps first = record { next = next; depth = depth; steps = steps; undecided = first; stack = stack }

-- the stack as items, what a slot of it holds, and what the slots from j up hold, the deepest first
abbrev pub items : List ℕ → List ℕ → List Slot → ℕ → List Item
items pool notice stack depth = stack_of (item_of pool notice) stack depth

abbrev pub item_at : List ℕ → List ℕ → List Slot → ℕ → Item
item_at pool notice stack i = item_in pool notice (get_or stack i blank)

abbrev pub items_up : List ℕ → List ℕ → List Slot → ℕ → ℕ → List Item
items_up pool notice stack depth j = reverse (take (depth - j) (items pool notice stack depth))

-- The loop's variables at the head of a turn, with the numbers of the entries whose places they are (Places.antt): their machine follows the rule, and has visited the entries below the next but those that were passed over; n and pool are those of the table, which passes the check.
pub record Going (s pool notice : List ℕ) (n budget : ℕ) (stack : List Slot) (next depth passed end first : ℕ) : Type 0 where
  pub checked : check_of s ≡ true
  pub count : n ≡ count_of s
  pub strings : pool ≡ pool_of s
  pub long : length stack ≡ 32
  pub within : passed ≤ next
  pub spent : next - passed ≤ budget
  pub far : end ≡ limit_of n budget passed
  pub follows : Follows s notice (machine stack next depth (next - passed) first)

-- .. and in the turn: there is a next entry, its operator is o, and a visit is left.
pub record Visiting (s pool notice : List ℕ) (n budget : ℕ) (stack : List Slot) (next depth passed end first : ℕ) (o : Op) : Type 0 where
  pub going : Going s pool notice n budget stack next depth passed end first
  pub more : next < n
  pub spare : next < budget + passed
  pub op : op_of (entry_at s next).op ≡ o

-- a machine holds as many values as the rule after as many visits
pub as_many : (s notice : List ℕ) (k : ℕ) (m : Machine) → state_of (pool_of s) notice m ≡ after (decode s) notice k → m.depth ≡ length (after (decode s) notice k).stack
as_many s notice k m e = sym (stack_length (item_of (pool_of s) notice) m.stack m.depth) ∙ ap (λ (t : State). length t.stack) e

-- a machine whose state and undecided entry are the rule's has room for it
visited : {s notice : List ℕ} {k : ℕ} {m : Machine} → check_of s ≡ true → state_of (pool_of s) notice m ≡ after (decode s) notice k
    → m.undecided ≡ undecided_after (decode s) notice k → Visited s notice k m
visited {s} {notice} {k} {m} c e u = record { state = e; undecided = u; inside = omega (arith, as_many s notice k m e, stack_small s notice c k) }

-- the limit is below both ends, and one of them
least : (n budget passed : ℕ) → passed ≤ n → (limit_of n budget passed ≤ n) × (limit_of n budget passed ≤ budget + passed)
least n budget passed h = go (leb (n - passed) budget) refl
  where
    go : (b : Bool) → leb (n - passed) budget ≡ b → (cond b n (budget + passed) ≤ n) × (cond b n (budget + passed) ≤ budget + passed)
    go true e = (omega arith, omega (arith, leb-true (n - passed) budget e))
    go false e = (omega (arith, leb-false (n - passed) budget e), omega arith)

-- where a run starts
pub begin : {s pool : List ℕ} (notice : List ℕ) (n budget : ℕ) {end : ℕ} → check_of s ≡ true → n ≡ count_of s → pool ≡ pool_of s → end ≡ limit_of n budget 0
    → Going s pool notice n budget fresh.stack 0 0 0 end no_entry
unfolding after_from first_from
begin {s} {pool} notice n budget c e p f =
    record {
      checked = c;
      count = e;
      strings = p;
      long = length-replicate 32 blank;
      within = omega arith;
      spent = omega arith;
      far = f;
      follows = visited c refl refl;
    }

-- what the inner loop's test says
pub below : (j depth : ℕ) (b : Bool) → (ltb j depth && b) ≡ true → j < depth
below j depth b e = ltb-true j depth (both_true (ltb j depth) b e).0

-- What is known of the first operand, at i, with the later ones below j: with those that are left it is what all of them give.
pub record Tallied (pool notice : List ℕ) (stack : List Slot) (depth : ℕ) (o : Many) (i : ℕ) (known : Truth) (j : ℕ) : Type 0 where
  pub past : i < j
  pub within : j ≤ depth
  pub whole : tally_of o (item_at pool notice stack i) known (items_up pool notice stack depth j)
      ≡ tally_of o (item_at pool notice stack i) (start_of o (item_at pool notice stack i)) (items_up pool notice stack depth (i + 1))

module _ {pool notice : List ℕ} {stack : List Slot} {depth i : ℕ} {o : Many} {known : Truth} where
  pub tally_start : known ≡ start_of o (item_at pool notice stack i) → i < depth → Tallied pool notice stack depth o i known (i + 1)
  tally_start e h = record { past = omega arith; within = omega arith; whole = rw e }

  pub tally_more : {j : ℕ} {known' : Truth} → Tallied pool notice stack depth o i known j → j < depth
      → known' ≡ more_of o (item_at pool notice stack i) known (item_at pool notice stack j) → Tallied pool notice stack depth o i known' (j + 1)
  tally_more {j} {known'} t h e =
      record {
        past = omega arith;
        within = omega arith;
        whole = rw e (sym (ap (tally_of o (item_at pool notice stack i) known) (stack_up (item_of pool notice) stack j depth h)) ∙ t.whole);
      }

  -- .. and no more is needed: none is left, or none can change it
  tally_end : {j : ℕ} → Tallied pool notice stack depth o i known j → (ltb j depth && open_of o known) ≡ false
      → tally_of o (item_at pool notice stack i) known (items_up pool notice stack depth j) ≡ known
  tally_end {j} t = go (ltb j depth) refl
    where
      go : (b : Bool) → ltb j depth ≡ b → (b && open_of o known) ≡ false → tally_of o (item_at pool notice stack i) known (items_up pool notice stack depth j) ≡ known
      go true e q = settled o (item_at pool notice stack i) known (items_up pool notice stack depth j) q
      go false e q = let none : depth - j ≡ 0 = omega (arith, ltb-false j depth e) in rw none refl

module _ {s pool notice : List ℕ} {n budget : ℕ} {stack : List Slot} {next depth passed end first : ℕ} where
  module _ (l : Going s pool notice n budget stack next depth passed end first) where
    -- the state over the loop's own pool, and its soundness, which every state of the rule has
    state : state_of pool notice (machine stack next depth (next - passed) first) ≡ after (decode s) notice (next - passed)
    state = ap (λ (p : List ℕ). state_of p notice (machine stack next depth (next - passed) first)) l.strings ∙ l.follows.state

    sound : Sound s (state_of pool notice (machine stack next depth (next - passed) first))
    sound = subst (Sound s) (sym state) (always s notice l.checked (next - passed))

    low : depth ≤ 32
    low = l.follows.inside

    pub few : n ≤ 512
    few = omega (arith, l.count, (laid s (checked_layout s l.checked)).few)

    pub entry_fits : next < n → 22 + 12 * next ≤ length s
    entry_fits more = (known notice l.checked sound (rw l.count at more)).inside

    -- no more entries were passed over than there are
    pub passed_few : passed ≤ n
    passed_few = omega (arith, l.within, l.count, sound.inside)

    -- what the loop's test says
    pub told : next < end → (next < n) × (next < budget + passed)
    told h = let e = least n budget passed passed_few in omega (arith, e, l.far)

    -- the last machine: all visits are made, or no entry is left
    pub ended : end ≤ next → Visited s notice budget (machine stack next depth (next - passed) first)
    ended h = go (leb (n - passed) budget) refl (omega (arith, l.far))
      where
        go : (b : Bool) → leb (n - passed) budget ≡ b → cond b n (budget + passed) ≤ next → Visited s notice budget (machine stack next depth (next - passed) first)
        go false e f =
            let all : next - passed ≡ budget = omega (arith, l.spent) in
            subst (λ (k : ℕ). Visited s notice k (machine stack next depth (next - passed) first)) all l.follows
        go true e f =
            let past : count_of s ≤ (after (decode s) notice (next - passed)).next = omega (arith, l.count, ap (λ (t : State). t.next) state) in
            visited l.checked
            (l.follows.state ∙ sym (after_past s notice (next - passed) budget l.spent past))
            (l.follows.undecided ∙ sym (first_past s notice l.checked (next - passed) budget l.spent past))

  module _ {o : Op} (v : Visiting s pool notice n budget stack next depth passed end first o) where
    here : next < count_of s
    here = rw v.going.count at v.more

    -- the operands are there, of the kinds that the operator takes, and there is room for the result
    kinds : map kind_of (items pool notice stack depth) ≡ takes_of o (entry_at s next).a ++ (known notice v.going.checked (sound v.going) here).rest
    kinds = rw v.op at (operands notice v.going.checked (sound v.going) here)

    room : (length (takes_of o (entry_at s next).a) ≤ depth) × (depth - length (takes_of o (entry_at s next).a) < 32)
    room =
        let k = known notice v.going.checked (sound v.going) here in
        let p : length (map kind_of (items pool notice stack depth)) ≡ length (takes_of o (entry_at s next).a ++ k.rest) = ap length kinds in
        let q = length-append (takes_of o (entry_at s next).a) k.rest in
        let d = length-map (items pool notice stack depth) kind_of ∙ stack_length (item_of pool notice) stack depth in
        omega (arith, p, q, d, k.room)

    -- a slot of the stack by its place in the array
    slot : (j : ℕ) → j < depth → slot_at (items pool notice stack depth) j ≡ item_at pool notice stack (depth - (j + 1))
    slot j h = stack_get (item_of pool notice) stack j depth (logic Bottom) h

    -- the first undecided entry with this visit
    undecided : (st : List Item) (first' : ℕ) (b : Bool) → st ≡ (after (decode s) notice (next - passed + 1)).stack
        → (holds_bottom (items pool notice stack depth) ≡ false → holds_bottom st ≡ b) → first' ≡ with_next first next b
        → first' ≡ undecided_after (decode s) notice (next - passed + 1)
    undecided st first' b e f u =
        let l = v.going in
        let k = next - passed in
        let p = decode s in
        let at : next ≡ entry_after p notice k = ap (λ (t : State). t.next) (state l) in
        let seen : visits p notice k ≡ true = lt-ltb (entry_after p notice k) (length p.entries) (omega (arith, here, at, length_entries s)) in
        let leaves : holds_bottom (after p notice k).stack ≡ false → leaves_bottom p notice k ≡ b =
        λ c. ap (λ (a : Bool). a && holds_bottom (after p notice (suc k)).stack) seen
        ∙ ap (λ (i : ℕ). holds_bottom (after p notice i).stack) (sym (add-one k))
        ∙ ap holds_bottom (sym e)
        ∙ f (ap (λ (t : State). holds_bottom t.stack) (state l) ∙ c) in
        u
        ∙ ap (λ (i : ℕ). with_next i next b) l.follows.undecided
        ∙ ap (λ (i : ℕ). with_next (undecided_after p notice k) i b) at
        ∙ sym (first_by p notice (few_entries s l.checked) k b leaves)
        ∙ ap (undecided_after p notice) (sym (add-one k))

    -- variables that are the rule's next
    again : (stack' : List Slot) (next' depth' passed' end' first' : ℕ) (b : Bool) → next' ≡ next + stride_by o (entry_at s next) (items pool notice stack depth)
        → passed' + 1 + next ≡ next' + passed → end' ≡ limit_of n budget passed'
        → items pool notice stack' depth' ≡ stack_by (edition_of s) pool notice o (entry_at s next) (items pool notice stack depth) → length stack' ≡ 32
        → (holds_bottom (items pool notice stack depth) ≡ false → holds_bottom (items pool notice stack' depth') ≡ b) → first' ≡ with_next first next b
        → Going s pool notice n budget stack' next' depth' passed' end' first'
    again stack' next' depth' passed' end' first' b p more far q long f u =
        let l = v.going in
        let t = state_of pool notice (machine stack next depth (next - passed) first) in
        let m = machine stack' next' depth' (next' - passed') first' in
        let one : next' - passed' ≡ next - passed + 1 = omega (arith, l.within) in
        let e : state_of pool notice m ≡ visit (edition_of s) pool notice (entry_at s next) t = rw (one, v.op, p, q) in
        let r : state_of pool notice m ≡ after (decode s) notice (next - passed + 1) =
        e
        ∙ ap (λ (x : List ℕ). visit (edition_of s) x notice (entry_at s next) t) l.strings
        ∙ sym (rule_more s notice t here)
        ∙ ap (rule (decode s) notice) (state l)
        ∙ sym (after_next (decode s) notice (next - passed)) in
        record {
          checked = l.checked;
          count = l.count;
          strings = l.strings;
          long = long;
          within = omega (arith, l.within);
          spent = omega (arith, v.spare, l.within);
          far = far;
          follows = visited l.checked
              (ap (λ (x : List ℕ). state_of x notice m) (sym l.strings) ∙ r ∙ ap (after (decode s) notice) (sym one))
              (undecided (items pool notice stack' depth') first' b (ap (λ (x : State). x.stack) r) f u ∙ ap (undecided_after (decode s) notice) (sym one));
        }

    -- an operator's result in the place of its j operands
    answered : (j i depth' first' : ℕ) (r : Slot) (b : Bool) → i ≡ depth - j → depth' ≡ i + 1 → i < 32
        → stack_by (edition_of s) pool notice o (entry_at s next) (items pool notice stack depth) ≡ item_in pool notice r ∷ drop j (items pool notice stack depth)
        → stride_by o (entry_at s next) (items pool notice stack depth) ≡ 1
        → (holds_bottom (items pool notice stack depth) ≡ false → is_bottom (item_in pool notice r) ≡ b) → first' ≡ with_next first next b
        → Going s pool notice n budget (set stack i r) (next + 1) depth' passed end first'
    answered j i depth' first' r b e d fits q p known u =
        let f : i < length stack = omega (arith, v.going.long) in
        let put : items pool notice (set stack i r) depth' ≡ item_in pool notice r ∷ drop j (items pool notice stack depth) =
        ap (items pool notice (set stack i r)) d
        ∙ stack_put (item_of pool notice) stack r i f
        ∙ ap (λ (st : List Item). item_in pool notice r ∷ st) (ap (items pool notice stack) e ∙ sym (stack_drop (item_of pool notice) stack j depth)) in
        again (set stack i r) (next + 1) depth' passed end first' b (ap (λ (k : ℕ). next + k) (sym p)) (omega arith) v.going.far (put ∙ sym q) (length-set stack i r ∙ v.going.long)
        (λ c. ap holds_bottom put ∙ put_bottom (item_in pool notice r) j (items pool notice stack depth) c ∙ known c) u

  -- ---- by group

  module _ {k : Load} (v : Visiting s pool notice n budget stack next depth passed end first (Op.Load k)) where
    pub load_fits : depth < 32
    load_fits = omega (arith, room v)

    pub load_law : {a b first' : ℕ} (r : Slot) → a ≡ (entry_at s next).a → b ≡ (entry_at s next).b → item_in pool notice r ≡ load_of pool notice k a b
        → first' ≡ with_next first next (is_bottom (item_in pool notice r))
        → Going s pool notice n budget (set stack depth r) (next + 1) (depth + 1) passed end first'
    load_law {a} {b} {first'} r p q f u =
        answered v 0 depth (depth + 1) first' r (is_bottom (item_in pool notice r)) (omega arith) refl load_fits
        (rw (← p, ← q) (ap (λ (x : Item). x ∷ items pool notice stack depth) (sym f))) refl (λ c. refl) u

    -- one that is known not to be bottom: a number, a string, a field's value
    pub load_known : {a b : ℕ} (r : Slot) → a ≡ (entry_at s next).a → b ≡ (entry_at s next).b → item_in pool notice r ≡ load_of pool notice k a b
        → is_bottom (load_of pool notice k a b) ≡ false
        → Going s pool notice n budget (set stack depth r) (next + 1) (depth + 1) passed end first
    load_known r p q f z = load_law r p q f (unchanged first next (ap is_bottom f ∙ z))

  -- a name lies in the pool, as the check has found
  pub name_fits_lem : Visiting s pool notice n budget stack next depth passed end first (Op.Load Load.Name) → {a b : ℕ} → a ≡ (entry_at s next).a → b ≡ (entry_at s next).b → b % 65536 + a ≤ length pool
  name_fits_lem v p q =
      let e = entry_at s next in
      let right = rw v.op at (known notice v.going.checked (sound v.going) (here v)).right in
      let part = leb-true (e.a + e.b) (length (pool_of s)) (both_true (part_right (pool_of s) e) _ right).0 in
      omega (arith, part, p, q, ap length v.going.strings)

  -- it gives the value of its field, which is not bottom, or bottom where no field has it
  module _ (v : Visiting s pool notice n budget stack next depth passed end first (Op.Load Load.Name)) {a b : ℕ} {found : Optional FoundField} (p : a ≡ (entry_at s next).a) (q : b ≡ (entry_at s next).b) (h : found ≡ lookup_of notice (in_pool pool a b)) where
    named : {f : Optional FoundField} → found ≡ f → load_of pool notice Load.Name a b ≡ value (found_value notice f)
    named e = ap (λ (x : Optional FoundField). value (found_value notice x)) (sym h ∙ e)

    pub name_found : {kind start len : ℕ} (r : Slot) → found ≡ Some (record { kind = kind; start = start; len = len }) → size_right kind len ≡ true
        → item_in pool notice r ≡ value (field_value kind (take len (drop start notice)))
        → Going s pool notice n budget (set stack depth r) (next + 1) (depth + 1) passed end first
    name_found {kind} {start} {len} r e z f = load_known v r p q (f ∙ sym (named e)) (ap is_bottom (named e) ∙ field_known kind len (take len (drop start notice)) z)

    pub name_missing : {first' : ℕ} (r : Slot) → found ≡ None → item_in pool notice r ≡ value bottom
        → first' ≡ with_next first next (is_bottom (item_in pool notice r))
        → Going s pool notice n budget (set stack depth r) (next + 1) (depth + 1) passed end first'
    name_missing r e f u = load_law v r p q (f ∙ sym (named e)) u

  module _ {k : Unary} (v : Visiting s pool notice n budget stack next depth passed end first (Op.Unary k)) where
    pub unary_fits_lem : (1 ≤ depth) × (depth ≤ 32)
    unary_fits_lem = ((room v).0, low v.going)

    unary_put : {first' : ℕ} (r : Slot) (b : Bool) → item_in pool notice r ≡ unary_of k (item_at pool notice stack (depth - 1))
        → (holds_bottom (items pool notice stack depth) ≡ false → is_bottom (item_in pool notice r) ≡ b) → first' ≡ with_next first next b
        → Going s pool notice n budget (set stack (depth - 1) r) (next + 1) depth passed end first'
    unary_put {first'} r b f c u =
        let h = unary_fits_lem in
        answered v 1 (depth - 1) depth first' r b refl (omega arith) (omega arith)
        (rw (slot v 0 h.0) (ap (λ (x : Item). x ∷ drop 1 (items pool notice stack depth)) (sym f))) refl c u

    pub unary_law : {first' : ℕ} (r : Slot) → item_in pool notice r ≡ unary_of k (item_at pool notice stack (depth - 1))
        → first' ≡ with_next first next (is_bottom (item_in pool notice r))
        → Going s pool notice n budget (set stack (depth - 1) r) (next + 1) depth passed end first'
    unary_law r f u = unary_put r (is_bottom (item_in pool notice r)) f (λ c. refl) u

    -- an operator that gives bottom of bottom alone is never the first to leave it
    pub unary_known_lem : (r : Slot) → item_in pool notice r ≡ unary_of k (item_at pool notice stack (depth - 1))
        → ((x : Item) → kind_of x ≡ unary_takes k → is_bottom x ≡ false → is_bottom (unary_of k x) ≡ false)
        → Going s pool notice n budget (set stack (depth - 1) r) (next + 1) depth passed end first
    unary_known_lem r f known' =
        unary_put r false f
        (λ c.
        let t = top_known (items pool notice stack depth) _ _ (kinds v) c in
        ap is_bottom (f ∙ ap (unary_of k) (sym (slot v 0 unary_fits_lem.0))) ∙ known' (slot_at (items pool notice stack depth) 0) t.0 t.1)
        (unchanged first next refl)

  module _ {k : Binary} (v : Visiting s pool notice n budget stack next depth passed end first (Op.Binary k)) where
    pub binary_fits_lem : (2 ≤ depth) × (depth ≤ 32)
    binary_fits_lem = ((room v).0, low v.going)

    binary_put : {first' : ℕ} (r : Slot) (b : Bool) → item_in pool notice r ≡ binary_of (edition_of s) k (item_at pool notice stack (depth - 2)) (item_at pool notice stack (depth - 1))
        → (holds_bottom (items pool notice stack depth) ≡ false → is_bottom (item_in pool notice r) ≡ b) → first' ≡ with_next first next b
        → Going s pool notice n budget (set stack (depth - 2) r) (next + 1) (depth - 1) passed end first'
    binary_put {first'} r b f c u =
        let h = binary_fits_lem in
        answered v 2 (depth - 2) (depth - 1) first' r b refl (omega arith) (omega arith)
        (rw (slot v 0 (omega arith), slot v 1 (omega arith)) (ap (λ (x : Item). x ∷ drop 2 (items pool notice stack depth)) (sym f))) refl c u

    pub binary_law : {first' : ℕ} (r : Slot) → item_in pool notice r ≡ binary_of (edition_of s) k (item_at pool notice stack (depth - 2)) (item_at pool notice stack (depth - 1))
        → first' ≡ with_next first next (is_bottom (item_in pool notice r))
        → Going s pool notice n budget (set stack (depth - 2) r) (next + 1) (depth - 1) passed end first'
    binary_law r f u = binary_put r (is_bottom (item_in pool notice r)) f (λ c. refl) u

    -- the edition that the run holds is the table's
    pub combine_law : {edition : Edition} {first' : ℕ} (r : Slot) → edition ≡ edition_of s
        → item_in pool notice r ≡ binary_of edition k (item_at pool notice stack (depth - 2)) (item_at pool notice stack (depth - 1))
        → first' ≡ with_next first next (is_bottom (item_in pool notice r))
        → Going s pool notice n budget (set stack (depth - 2) r) (next + 1) (depth - 1) passed end first'
    combine_law r d f u = binary_law r (rw d at f) u

    -- an operator that gives bottom of bottom alone is never the first to leave it
    pub binary_known_lem : (r : Slot) → item_in pool notice r ≡ binary_of (edition_of s) k (item_at pool notice stack (depth - 2)) (item_at pool notice stack (depth - 1))
        → ((x y : Item) → kind_of x ≡ binary_takes k → kind_of y ≡ binary_takes k → is_bottom x ≡ false → is_bottom y ≡ false → is_bottom (binary_of (edition_of s) k x y) ≡ false)
        → Going s pool notice n budget (set stack (depth - 2) r) (next + 1) (depth - 1) passed end first
    binary_known_lem r f known' =
        let st = items pool notice stack depth in
        let h = binary_fits_lem in
        binary_put r false f
        (λ c.
        let t = top_known st _ _ (kinds v) c in
        let n = second_known st _ _ _ (kinds v) c in
        ap is_bottom (f ∙ ap₂ (binary_of (edition_of s) k) (sym (slot v 1 h.0)) (sym (slot v 0 (omega arith)))) ∙ known' (slot_at st 1) (slot_at st 0) n.0 t.0 n.1 t.1)
        (unchanged first next refl)

  module _ {k : Many} (v : Visiting s pool notice n budget stack next depth passed end first (Op.Many k)) {a : ℕ} (is : a ≡ (entry_at s next).a) where
    pub many_fits_lem : (a + 1 ≤ depth) × (depth ≤ 32)
    many_fits_lem = (omega (arith, room v, length-replicate (entry_at s next).a Kind.value), low v.going)

    -- what is known with all later operands, or as soon as none of them can change it
    pub many_law : {known : Truth} {j first' : ℕ} {b : Bool} (r : Slot) → Tallied pool notice stack depth k (depth - (a + 1)) known j → b ≡ open_of k known → (ltb j depth && b) ≡ false → item_in pool notice r ≡ logic known
        → first' ≡ with_next first next (is_bottom (item_in pool notice r))
        → Going s pool notice n budget (set stack (depth - (a + 1)) r) (next + 1) (depth - (a + 1) + 1) passed end first'
    many_law {known} {j} {first'} {b} r t o q f u =
        let h = many_fits_lem in
        let st = items pool notice stack depth in
        let x = item_at pool notice stack (depth - (a + 1)) in
        let all : depth - (depth - (a + 1) + 1) ≡ a = omega arith in
        let w : known ≡ tally_of k x (start_of k x) (reverse (take a st)) = sym (tally_end t (rw o at q)) ∙ rw all at t.whole in
        answered v (a + 1) (depth - (a + 1)) (depth - (a + 1) + 1) first' r (is_bottom (item_in pool notice r)) refl refl (omega arith)
        (rw (add-one a, ← is, slot v a (omega arith)) (ap (λ (y : Item). y ∷ drop (suc a) st) (sym (f ∙ ap logic w ∙ tally k x (reverse (take a st)))))) refl (λ c. refl) u

  module _ {k : Skip} (v : Visiting s pool notice n budget stack next depth passed end first (Op.Skip k)) where
    pub skip_fits : (1 ≤ depth) × (depth ≤ 32)
    skip_fits = ((room v).0, low v.going)

    pub skip_room : {a : ℕ} → a ≡ (entry_at s next).a → (next + a + 1 ≤ n) × (passed + a ≤ n) × (n ≤ 512)
    skip_room is = omega (arith, (checked_skip s v.going.checked next (here v) (ap skip_op v.op)).0, few v.going, v.going.count, v.going.within)

    -- a skip that is taken passes over a entries; one that is not goes on by one
    pub skip_taken : {a end' : ℕ} → a ≡ (entry_at s next).a → skips k (truth_in (item_at pool notice stack (depth - 1))) ≡ true → end' ≡ limit_of n budget (passed + a)
        → Going s pool notice n budget stack (next + 1 + a) depth (passed + a) end' first
    skip_taken {a} {end'} is t f =
        again v stack (next + 1 + a) depth (passed + a) end' first false (rw (slot v 0 skip_fits.0, ← is, t) (omega arith)) (omega arith) f refl v.going.long (λ c. c) (unchanged first next refl)

    pub skip_kept : skips k (truth_in (item_at pool notice stack (depth - 1))) ≡ false → Going s pool notice n budget stack (next + 1) depth passed end first
    skip_kept t =
        again v stack (next + 1) depth passed end first false (rw (slot v 0 skip_fits.0, t) refl) (omega arith) v.going.far refl v.going.long (λ c. c) (unchanged first next refl)

  pub no_unknown : Visiting s pool notice n budget stack next depth passed end first Op.Unknown → ⊥
  no_unknown v = never_unknown notice v.going.checked (sound v.going) (here v) v.op
