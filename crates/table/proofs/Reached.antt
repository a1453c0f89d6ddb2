-- Ways and the kinds along the entries: where the check passes, every way finds those kinds; and where every way finds one stack of kinds, the check passes. Assumes nothing.
use mathlib.Core.Path.{◌≡◌, refl, sym, ap, ◌∙◌}
use mathlib.Core.Bool.{Bool, true, false, not, cond, ◌||◌}
use mathlib.Core.List.{List, [], ◌∷◌, ◌++◌}
use mathlib.Core.Option.{Option, none, some, some-injective}
use Prim.Native.Nat.{ℕ, zero, suc, ◌+◌, ◌-◌, ◌≤◌, ◌<◌}
use native.Mathlib.Decide.{dec_lt}
use native.Mathlib.Omega.{arith}
use lib.Dec.{leb, ltb}
use lib.ListN.{length, get_or, length-append}
use borrow.Author.Tests.{ltb-true, lt-ltb, leb-true, le-leb}
use Rattle.common.proofs.Choice.{false_true}
use Rattle.opcode.specs.Opcode.{Kind, logic}
use Rattle.table.specs.Table.{Entry, blank}
use Rattle.table.specs.Check.{pop, push, shape_from, shape_at, is_skip, landing, lands_right, skip_right, skips_right, end_right}
use Rattle.table.specs.Ways.{taken_at, given_at, Reaches, start, falls, skips, EveryWay}
use Rattle.table.proofs.Tests.{both_true, are_true}
use Rattle.table.proofs.Numbers.{shape_eq, eq_shape}
use Rattle.table.proofs.Shapes.{pop_front, pop_back, from_next, from_past, from_stuck}
use Rattle.table.proofs.Passes.{all_land, each_lands}

-- ---- one entry

-- a result that fits in comes on top
pub push_fits : (g : Kind) (ks : List Kind) → length ks < 32 → push g (some ks) ≡ some (g ∷ ks)
push_fits g ks h = rw (lt-ltb (length ks) 32 h)

-- what came out of a push: the stack below it, and that there was room
push_out : (g : Kind) (s : Option (List Kind)) (ls : List Kind) → push g s ≡ some ls → (ks : List Kind) × (s ≡ some ks) × (ls ≡ g ∷ ks) × (length ks < 32)
push_out g none ls e = false_true (cc)
push_out g (some ks) ls e = go (ltb (length ks) 32) refl e
  where
    go : (b : Bool) → ltb (length ks) 32 ≡ b → cond b (some (g ∷ ks)) none ≡ some ls → (ms : List Kind) × (some ks ≡ some ms) × (ls ≡ g ∷ ms) × (length ms < 32)
    go true t q = (ks, refl, sym (some-injective _ _ q), ltb-true (length ks) 32 t)
    go false t q = false_true (cc)

module _ (es : List Entry) where
  next : (i : ℕ) → i < length es → shape_at es (suc i) ≡ push (given_at es i) (pop (taken_at es i) (shape_at es i))
  next i h = from_next es (some []) i h

  -- an entry that has kinds before it and after it: its operands were on top, its result is
  pub record Step (i : ℕ) : Type 0 where
    pub rest : List Kind
    pub before : shape_at es i ≡ some (taken_at es i ++ rest)
    pub after : shape_at es (suc i) ≡ some (given_at es i ∷ rest)
    pub room : length rest < 32

  pub step : (i : ℕ) (ks ls : List Kind) → i < length es → shape_at es i ≡ some ks → shape_at es (suc i) ≡ some ls → Step i
  step i ks ls h e f =
      let p = push_out (given_at es i) (pop (taken_at es i) (some ks)) ls (rw e at (sym (next i h)) ∙ f) in
      let b = pop_back (taken_at es i) ks p.0 p.1 in
      record { rest = p.0; before = e ∙ ap some b; after = f ∙ ap some p.2; room = p.3 }

  -- operands on top and room for the result: the kinds go on
  pub goes_on : (i : ℕ) (rest : List Kind) → i < length es → shape_at es i ≡ some (taken_at es i ++ rest) → length rest < 32 → shape_at es (suc i) ≡ some (given_at es i ∷ rest)
  goes_on i rest h e r = next i h ∙ rw (e, pop_front (taken_at es i) rest) (push_fits (given_at es i) rest r)

  -- no stack of kinds is deeper than 32
  pub depth : (i : ℕ) (ks : List Kind) → shape_at es i ≡ some ks → length ks ≤ 32
  unfolding shape_from
  depth zero ks e = let z : ks ≡ [] = cc in rw z (omega arith)
  depth (suc i) ks e = go (dec_lt i (length es))
    where
      go : Dec (i < length es) → length ks ≤ 32
      go (yes h) =
          let p = push_out (given_at es i) (pop (taken_at es i) (shape_at es i)) ks (sym (next i h) ∙ e) in
          let q = p.3 in
          rw p.2 (omega arith)
      go (no h) = absurd (let z : ◌≡◌ {A = ℕ} 0 1 = cc (from_past es (some []) i (omega arith)) in omega arith)

  -- ---- where the check passes

  module _ (en : end_right es ≡ true) (sk : skips_right es (length es) ≡ true) where
    pub end_shape : shape_at es (length es) ≡ some (logic ∷ [])
    end_shape = shape_eq (shape_at es (length es)) (some (logic ∷ [])) en

    -- there are kinds before each entry and at the end
    pub shape_there : (i : ℕ) → i ≤ length es → (ks : List Kind) × (shape_at es i ≡ some ks)
    shape_there i h = go (shape_at es i) refl
      where
        go : (s : Option (List Kind)) → shape_at es i ≡ s → (ks : List Kind) × (shape_at es i ≡ some ks)
        go none e =
            let d : (length es - i) + i ≡ length es = omega arith in
            let n : shape_at es (length es) ≡ none = rw d at (from_stuck es (some []) i (length es - i) e) in
            absurd (let z : ◌≡◌ {A = ℕ} 0 1 = cc (end_shape) in omega arith)
        go (some ks) e = (ks, e)

    pub each_step : (i : ℕ) → i < length es → Step i
    each_step i h = let a = shape_there i (omega arith) in let b = shape_there (suc i) h in step i a.0 b.0 h a.1 b.1

    pub each_landing : (i : ℕ) → i < length es → is_skip (get_or es i blank) ≡ true → (landing es i ≤ length es) × (shape_at es (landing es i) ≡ shape_at es i)
    each_landing i h t =
        let r : skip_right es i ≡ true = each_lands es (length es) i h sk in
        let l : lands_right es i ≡ true = rw t at r in
        let b = both_true (leb (landing es i) (length es)) _ l in
        (leb-true (landing es i) (length es) b.0, shape_eq (shape_at es (landing es i)) (shape_at es i) b.1)

    -- every way finds the kinds along the entries
    pub finds : {i : ℕ} {ks : List Kind} → Reaches es i ks → (i ≤ length es) × (shape_at es i ≡ some ks)
    unfolding shape_from
    finds start = (omega arith, refl)
    finds (falls {i} ks r h) =
        let e = (finds r).1 in
        let s = each_step i h in
        let q : taken_at es i ++ ks ≡ taken_at es i ++ s.rest = some-injective _ _ (sym e ∙ s.before) in
        let n = length-append (taken_at es i) ks in
        let m = length-append (taken_at es i) s.rest in
        let l = s.room in
        (h, goes_on i ks h e (omega (arith, ap length q)))
    finds (skips {i} ks r h t) =
        let l = each_landing i h t in
        (l.0, l.1 ∙ (finds r).1)

    pub every_way : EveryWay es
    every_way =
        record {
          enough = λ i ks r h. let s = each_step i h in (s.rest, some-injective _ _ (sym (finds r).1 ∙ s.before));
          shallow = λ i ks r. depth i ks (finds r).1;
          lands = λ i h t. (each_landing i h t).0;
          same = λ i ks ls r q. some-injective _ _ (sym (finds r).1 ∙ (finds q).1);
          ends = λ ks r. some-injective _ _ (sym (finds r).1 ∙ end_shape);
        }

  -- ---- where every way finds one stack of kinds

  module _ (w : EveryWay es) where
    -- each entry and the end is reached, with the kinds along the entries
    pub reached : (i : ℕ) → i ≤ length es → (ks : List Kind) × Reaches es i ks × (shape_at es i ≡ some ks)
    unfolding shape_from
    reached zero h = ([], start, refl)
    reached (suc i) h =
        let a = reached i (omega arith) in
        let e = w.enough i a.0 a.1 h in
        let r : Reaches es (suc i) (given_at es i ∷ e.0) = falls e.0 (rw e.1 at a.1) h in
        let d = w.shallow (suc i) (given_at es i ∷ e.0) r in
        (given_at es i ∷ e.0, r, goes_on i e.0 h (a.2 ∙ ap some e.1) (omega arith))

    pub ends_right : end_right es ≡ true
    ends_right =
        let a = reached (length es) (omega arith) in
        eq_shape (shape_at es (length es)) (some (logic ∷ [])) (a.2 ∙ ap some (w.ends a.0 a.1))

    lands_right_lem : (i : ℕ) → i < length es → is_skip (get_or es i blank) ≡ true → lands_right es i ≡ true
    lands_right_lem i h t =
        let l = w.lands i h t in
        let a = reached i (omega arith) in
        let b = reached (landing es i) l in
        let q = w.same (landing es i) b.0 a.0 b.1 (skips a.0 a.1 h t) in
        are_true _ _ (le-leb (landing es i) (length es) l) (eq_shape (shape_at es (landing es i)) (shape_at es i) (b.2 ∙ ap some q ∙ sym a.2))

    pub skips_right_lem : skips_right es (length es) ≡ true
    skips_right_lem = all_land es (length es) (λ i h. go i h (is_skip (get_or es i blank)) refl)
      where
        go : (i : ℕ) → i < length es → (b : Bool) → is_skip (get_or es i blank) ≡ b → (not b || lands_right es i) ≡ true
        go i h true e = lands_right_lem i h e
        go i h false e = refl
