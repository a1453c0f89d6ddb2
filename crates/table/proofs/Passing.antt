-- The pass over the entries, from each entry to the next: what it has shown, what is wanted of the entries ahead, and where it ends. Assumes nothing.
use mathlib.Core.Path.{◌≡◌, refl, sym, ap, ◌∙◌}
use mathlib.Core.Bool.{Bool, true, false, cond, not, ◌&&◌, ◌||◌}
use mathlib.Core.List.{List, [], ◌∷◌}
use mathlib.Core.Option.{Option, none, some}
use Prim.Native.Nat.{ℕ, zero, suc, ◌+◌, ◌≤◌, ◌<◌}
use native.Mathlib.Numerals.{add-one}
use native.Mathlib.Decide.{ℕ_discrete, dec_lt}
use native.Mathlib.Omega.{arith}
use borrow.Author.Count.{below_more}
use borrow.Author.Tests.{leb-true, leb-false, le-leb, eqb-true, eqb-false}
use lib.Dec.{leb, eqb}
use lib.ListN.{length, get_or, set, replicate, length-set}
use lib.Seq.{get_or-set_same, get_or-set_other}
use Rattle.common.proofs.Choice.{false_true}
use Rattle.opcode.specs.Opcode.{op_of, Kind, logic}
use Rattle.table.specs.Table.{Entry, count_of, entry_at, entries_of, pool_of, layout_of}
use Rattle.table.specs.Check.{entry_right, pop, push, after, shape_from, shape_at, is_skip, same_shape, skip_right, patterns_before, check_of}
use Rattle.table.specs.Groups.{group_of, right_by, takes_by, gives_by, skip_by}
use Rattle.table.specs.declared.groups.Group.{Group}
use Rattle.table.specs.Number.{number_of, met_by, Landed}
use Rattle.table.proofs.Tests.{are_true, both_true}
use Rattle.table.proofs.Grouped.{right_grouped, takes_grouped, gives_grouped, skip_grouped}
use Rattle.table.proofs.Numbers.{shapes_same, eq_shape}
use Rattle.table.proofs.Shapes.{from_next}
use Rattle.table.proofs.Reading.{length_entries, entry_of}
use Rattle.table.proofs.Passes.{all_right, all_land, all_patterns}
use Rattle.table.proofs.Theorems.{checked_entry, checked_skip, checked_patterns, checked_ends}
use Rattle.table.proofs.Answer.{refuted, all_parts}

-- ---- what the code finds by the group of an entry's operator, in terms of the entry: y is what the code has read as the entry x

-- an entry by itself, and the patterns before it
abbrev placed : List ℕ → List Entry → ℕ → Entry → Bool
placed names es i x = entry_right names x && patterns_before names es i x

pub right_by_lem : (names : List ℕ) (es : List Entry) (i : ℕ) (g : Group) (y x : Entry) (r : Bool) → y ≡ x → g ≡ group_of (op_of y.op)
    → r ≡ (right_by names g y && patterns_before names es i y) → r ≡ placed names es i x
right_by_lem names es i g y x r q e f =
    f ∙ ap (λ (b : Bool). b && patterns_before names es i y) (ap (λ (h : Group). right_by names h y) e ∙ right_grouped names (op_of y.op) y) ∙ ap (placed names es i) q

pub landed_by : (g : Group) (y x : Entry) (m n i c : ℕ) (w v : List ℕ) (r : Bool) → y ≡ x → m ≡ n → g ≡ group_of (op_of y.op)
    → Landed (skip_by g) m (i + y.a + 1) c w v r → Landed (is_skip x) n (i + x.a + 1) c w v r
landed_by g y x m n i c w v r q z e f =
    let t : skip_by g ≡ is_skip y = ap skip_by e ∙ skip_grouped (op_of y.op) in
    rw (t, q, z) at f

pub flow_by_lem : (g : Group) (y x : Entry) (b c : ℕ) → y ≡ x → g ≡ group_of (op_of y.op)
    → ((t : Option (List Kind)) → b ≡ number_of t → c ≡ number_of (push (gives_by g) (pop (takes_by g y.a) t)))
    → (t : Option (List Kind)) → b ≡ number_of t → c ≡ number_of (after x t)
flow_by_lem g y x b c q e f t h = f t h ∙ rw (e, q, takes_grouped (op_of x.op) x.a, gives_grouped (op_of x.op))

-- ---- what is wanted

-- an array that is set to 0 wants nothing
pub nothing : (n k : ℕ) → ◌≡◌ {A = ℕ} (get_or (replicate n 0) k 0) 0
nothing zero k = refl
nothing (suc n) zero = refl
nothing (suc n) (suc k) = nothing n k

met_not : (w c : ℕ) → met_by w c ≡ false → (w ≡ 0 → ⊥) × (w ≡ c → ⊥)
met_not w c e = go (eqb w 0) (eqb w c) refl refl e
  where
    go : (a b : Bool) → eqb w 0 ≡ a → eqb w c ≡ b → (a || b) ≡ false → (w ≡ 0 → ⊥) × (w ≡ c → ⊥)
    go true b p q f = false_true (sym f)
    go false true p q f = false_true (sym f)
    go false false p q f = (eqb-false w 0 p, eqb-false w c q)

met_is : (w c : ℕ) → met_by w c ≡ true → (w ≡ 0 → ⊥) → w ≡ c
met_is w c e n = go (eqb w 0) refl e
  where
    go : (a : Bool) → eqb w 0 ≡ a → (a || eqb w c) ≡ true → w ≡ c
    go true p f = absurd (n (eqb-true w 0 p))
    go false p f = eqb-true w c f

module _ (s : List ℕ) where
  -- the kinds before the entry k, and where a skip at k lands
  abbrev kinds : ℕ → Option (List Kind)
  kinds k = shape_at (entries_of s) k

  abbrev to : ℕ → ℕ
  to k = k + (entry_at s k).a + 1

  -- a skip at k, which the pass has met before the entry i: it lands in the table, and has found its kinds there or wants them
  pub record Held (w : List ℕ) (i k : ℕ) : Type 0 where
    pub there : number_of (kinds k) ≡ 0 → ⊥
    pub inside : to k ≤ count_of s
    pub past : to k < i → kinds (to k) ≡ kinds k
    pub ahead : i ≤ to k → get_or w (to k) 0 ≡ number_of (kinds k)

  -- what is wanted at j, some skip before the entry i wants
  pub record Asked (w : List ℕ) (i j : ℕ) : Type 0 where
    pub by : ℕ
    pub before : by < i
    pub skip : is_skip (entry_at s by) ≡ true
    pub lands : to by ≡ j
    pub number : get_or w j 0 ≡ number_of (kinds by)

  -- what the pass has shown before it looks at the entry i, where c is the number of the kinds
  pub record Passed (w : List ℕ) (i c : ℕ) : Type 0 where
    pub long : count_of s < length w
    pub within : i ≤ count_of s
    pub here : c ≡ number_of (kinds i)
    pub there : c ≡ 0 → ⊥
    pub right : (k : ℕ) → k < i → placed (pool_of s) (entries_of s) k (entry_at s k) ≡ true
    pub held : (k : ℕ) → k < i → is_skip (entry_at s k) ≡ true → Held w i k
    pub asked : (j : ℕ) → i ≤ j → (get_or w j 0 ≡ 0 → ⊥) → Asked w i j

  pub pass_start : (w : List ℕ) → count_of s < length w → ((k : ℕ) → get_or w k 0 ≡ 0) → Passed w 0 1
  unfolding shape_from
  pass_start w h z =
      record {
        long = h;
        within = omega arith;
        here = refl;
        there = λ e. absurd (omega arith);
        right = λ k l. absurd (omega arith);
        held = λ k l. absurd (omega arith);
        asked = λ j l n. absurd (n (z j));
      }

  -- a skip has wanted other kinds here
  pub pass_unmet : (w : List ℕ) (i c : ℕ) → Passed w i c → met_by (get_or w i 0) c ≡ false → false ≡ check_of s
  pass_unmet w i c p m =
      let n = met_not (get_or w i 0) c m in
      let a = p.asked i (omega arith) n.0 in
      let b = a.before in
      let l = p.within in
      refuted s
      (λ t.
      let q = (checked_skip s t a.by (omega arith) a.skip).1 in
      n.1 (a.number ∙ ap number_of (sym q) ∙ ap (λ (k : ℕ). number_of (kinds k)) a.lands ∙ sym p.here))

  -- ---- the turn at the entry i, in the code's words: c is the number of the kinds before it, which meet what is wanted

  module _ (w : List ℕ) (i c : ℕ) (p : Passed w i c) (h : i < count_of s) where
    right_is : (names : List ℕ) (r b : Bool) → names ≡ pool_of s → r ≡ placed names (entries_of s) i (entry_at s i) → r ≡ b → placed (pool_of s) (entries_of s) i (entry_at s i) ≡ b
    right_is names r b e f g = ap (λ (x : List ℕ). placed x (entries_of s) i (entry_at s i)) (sym e) ∙ sym f ∙ g

    -- those before it are right by themselves
    pub pass_before : (names : List ℕ) → names ≡ pool_of s → (k : ℕ) → k < i → entry_right names (entry_at s k) ≡ true
    pass_before names e k l = rw e (both_true (entry_right (pool_of s) (entry_at s k)) _ (p.right k l)).0

    -- the entry by itself or a pattern before it is wrong
    pub pass_wrong : (names : List ℕ) (r : Bool) → names ≡ pool_of s → r ≡ placed names (entries_of s) i (entry_at s i) → r ≡ false → false ≡ check_of s
    pass_wrong names r e f g =
        refuted s (λ t. false_true (sym (right_is names r false e f g) ∙ are_true _ _ (checked_entry s t i h).right (checked_patterns s t i h)))

    -- its skip lands past the end, or where other kinds are wanted
    pub pass_lost : (v : List ℕ) (r : Bool) → Landed (is_skip (entry_at s i)) (count_of s) (to i) c w v r → r ≡ false → false ≡ check_of s
    pass_lost v r f g = go (is_skip (entry_at s i)) (leb (to i) (count_of s)) refl refl (sym g ∙ f.answer)
      where
        go : (a b : Bool) → is_skip (entry_at s i) ≡ a → leb (to i) (count_of s) ≡ b → false ≡ (not a || (b && met_by (get_or w (to i) 0) c)) → false ≡ check_of s
        go false b k l e = false_true e
        go true false k l e = let n = leb-false (to i) (count_of s) l in refuted s (λ t. let m = (checked_skip s t i h k).0 in omega arith)
        go true true k l e =
            let n = met_not (get_or w (to i) 0) c (sym e) in
            let a = p.asked (to i) (omega arith) n.0 in
            let b = a.before in
            refuted s
            (λ t.
            let q = (checked_skip s t i h k).1 in
            let q' = (checked_skip s t a.by (omega arith) a.skip).1 in
            n.1 (a.number ∙ ap number_of (sym q' ∙ ap kinds a.lands ∙ q) ∙ sym p.here))

    module _ (d : ℕ) (f : (t : Option (List Kind)) → c ≡ number_of t → d ≡ number_of (after (entry_at s i) t)) where
      number_is : d ≡ number_of (kinds (suc i))
      number_is =
          let e : kinds (suc i) ≡ after (entry_at s i) (kinds i) = rw (entry_of s i h) at (from_next (entries_of s) (some []) i (rw (length_entries s) h)) in
          f (kinds i) p.here ∙ ap number_of (sym e)

      -- it does not find its operands, or the stack is full
      pub pass-stuck : d ≡ 0 → false ≡ check_of s
      pass-stuck z =
          refuted s
          (λ t.
          let n : kinds (suc i) ≡ none = shapes_same (kinds (suc i)) none (sym number_is ∙ z) in
          let e = rw add-one at (checked_entry s t i h).next in
          let z : ◌≡◌ {A = ℕ} 0 1 = cc in
          omega arith)

      module _ (m : met_by (get_or w i 0) c ≡ true) (names : List ℕ) (r : Bool) (e : names ≡ pool_of s) (g : r ≡ placed names (entries_of s) i (entry_at s i)) (t : r ≡ true) (n : d ≡ 0 → ⊥) where
        -- what was wanted here was found
        found : (k : ℕ) → k < i → is_skip (entry_at s k) ≡ true → to k < i + 1 → kinds (to k) ≡ kinds k
        found k l b u = go (dec_lt (to k) i)
          where
            hd : Held w i k
            hd = p.held k l b

            go : Dec (to k < i) → kinds (to k) ≡ kinds k
            go (yes x) = hd.past x
            go (no x) =
                let q : to k ≡ i = omega arith in
                let a : get_or w i 0 ≡ number_of (kinds k) = rw q at (hd.ahead (omega arith)) in
                let b = met_is (get_or w i 0) c m (λ z. hd.there (sym a ∙ z)) in
                rw q (shapes_same (kinds i) (kinds k) (sym p.here ∙ sym b ∙ a))

        -- an entry that is no skip wants nothing
        pass-other : is_skip (entry_at s i) ≡ false → Passed w (i + 1) d
        pass-other b =
            record {
              long = p.long;
              within = omega arith;
              here = rw (add-one i) number_is;
              there = n;
              right = below_more _ _ p.right (right_is names r true e g t);
              held = λ k l x. held k l x (dec_lt k i);
              asked = λ j l x. let a = p.asked j (omega arith) x in let y = a.before in record { by = a.by; before = omega arith; skip = a.skip; lands = a.lands; number = a.number };
            }
          where
            held : (k : ℕ) → k < i + 1 → is_skip (entry_at s k) ≡ true → Dec (k < i) → Held w (i + 1) k
            held k l x (yes y) = let a = p.held k y x in record { there = a.there; inside = a.inside; past = found k y x; ahead = λ u. a.ahead (omega arith) }
            held k l x (no y) = let q : k ≡ i = omega arith in false_true (sym b ∙ rw q at x)

        -- a skip wants its kinds where it lands
        pass-skip : is_skip (entry_at s i) ≡ true → to i ≤ count_of s → met_by (get_or w (to i) 0) c ≡ true → Passed (set w (to i) c) (i + 1) d
        pass-skip b u y =
            record {
              long = simp length-set p.long;
              within = omega arith;
              here = rw (add-one i) number_is;
              there = n;
              right = below_more _ _ p.right (right_is names r true e g t);
              held = λ k l x. held k l x (dec_lt k i);
              asked = λ j l x. asked j l x (ℕ_discrete j (to i));
            }
          where
            same : get_or (set w (to i) c) (to i) 0 ≡ c
            same = let l = p.long in get_or-set_same w (to i) c 0 (omega arith)

            ahead : (k : ℕ) → k < i → is_skip (entry_at s k) ≡ true → i + 1 ≤ to k → Dec (to k ≡ to i) → get_or (set w (to i) c) (to k) 0 ≡ number_of (kinds k)
            ahead k l x v (yes q) =
                let a = p.held k l x in
                let z : get_or w (to i) 0 ≡ number_of (kinds k) = rw q at (a.ahead (omega arith)) in
                rw q (same ∙ sym (met_is (get_or w (to i) 0) c y (λ o. a.there (sym z ∙ o))) ∙ z)
            ahead k l x v (no q) = get_or-set_other w (to i) (to k) c 0 q ∙ (p.held k l x).ahead (omega arith)

            held : (k : ℕ) → k < i + 1 → is_skip (entry_at s k) ≡ true → Dec (k < i) → Held (set w (to i) c) (i + 1) k
            held k l x (yes z) = let a = p.held k z x in record { there = a.there; inside = a.inside; past = found k z x; ahead = λ v. ahead k z x v (ℕ_discrete (to k) (to i)) }
            held k l x (no z) =
                let q : k ≡ i = omega arith in
                rw q (record { there = λ o. p.there (p.here ∙ o); inside = u; past = λ v. absurd (omega arith); ahead = λ v. same ∙ p.here })

            asked : (j : ℕ) → i + 1 ≤ j → (get_or (set w (to i) c) j 0 ≡ 0 → ⊥) → Dec (j ≡ to i) → Asked (set w (to i) c) (i + 1) j
            asked j l x (yes q) = record { by = i; before = omega arith; skip = b; lands = sym q; number = rw q (same ∙ p.here) }
            asked j l x (no q) =
                let o = get_or-set_other w (to i) j c 0 q in
                let a = p.asked j (omega arith) (λ z. x (o ∙ z)) in
                let y = a.before in
                record { by = a.by; before = omega arith; skip = a.skip; lands = a.lands; number = o ∙ a.number }

        pub pass-more : (v : List ℕ) (q : Bool) → Landed (is_skip (entry_at s i)) (count_of s) (to i) c w v q → q ≡ true → Passed v (i + 1) d
        pass-more v q l o = go (is_skip (entry_at s i)) refl (sym l.answer ∙ o) (l.wants o)
          where
            go : (b : Bool) → is_skip (entry_at s i) ≡ b → (not b || (leb (to i) (count_of s) && met_by (get_or w (to i) 0) c)) ≡ true → v ≡ cond b (set w (to i) c) w → Passed v (i + 1) d
            go true x y z = let k = both_true (leb (to i) (count_of s)) _ y in rw z (pass-skip x (leb-true (to i) (count_of s) k.0) k.1)
            go false x y z = rw z (pass-other x)

  -- ---- the end

  module _ (w : List ℕ) (c : ℕ) (p : Passed w (count_of s) c) (l : layout_of s ≡ true) where
    -- each skip has found its kinds
    lands : met_by (get_or w (count_of s) 0) c ≡ true → (k : ℕ) → k < count_of s → skip_right (entries_of s) k ≡ true
    lands m k h = rw (entry_of s k h, length_entries s) (go (is_skip (entry_at s k)) refl)
      where
        finds : Held w (count_of s) k → Dec (to k < count_of s) → kinds (to k) ≡ kinds k
        finds a (yes x) = a.past x
        finds a (no x) =
            let i = a.inside in
            let q : to k ≡ count_of s = omega arith in
            let z : get_or w (count_of s) 0 ≡ number_of (kinds k) = rw q at (a.ahead (omega arith)) in
            let b = met_is (get_or w (count_of s) 0) c m (λ o. a.there (sym z ∙ o)) in
            rw q (shapes_same (kinds (count_of s)) (kinds k) (sym p.here ∙ sym b ∙ z))

        go : (b : Bool) → is_skip (entry_at s k) ≡ b → (not b || (leb (to k) (count_of s) && same_shape (kinds (to k)) (kinds k))) ≡ true
        go true x = let a = p.held k h x in are_true _ _ (le-leb (to k) (count_of s) a.inside) (eq_shape (kinds (to k)) (kinds k) (finds a (dec_lt (to k) (count_of s))))
        go false x = refl

    right_at_lem : (k : ℕ) → k < count_of s → (entry_right (pool_of s) (entry_at s k) ≡ true) × (patterns_before (pool_of s) (entries_of s) k (entry_at s k) ≡ true)
    right_at_lem k h = both_true _ _ (p.right k h)

    pub pass_end : (eqb c 2 && met_by (get_or w (count_of s) 0) c) ≡ check_of s
    pass_end = go (eqb c 2) (met_by (get_or w (count_of s) 0) c) refl refl
      where
        go : (a b : Bool) → eqb c 2 ≡ a → met_by (get_or w (count_of s) 0) c ≡ b → (a && b) ≡ check_of s
        go false b e f = refuted s (λ t. eqb-false c 2 e (p.here ∙ ap number_of (checked_ends s t).1))
        go true false e f = pass_unmet w (count_of s) c p f
        go true true e f =
            let z : kinds (length (entries_of s)) ≡ some (logic ∷ []) = rw (length_entries s) (shapes_same (kinds (count_of s)) (some (logic ∷ [])) (sym p.here ∙ eqb-true c 2 e)) in
            sym (all_parts s l (all_right (pool_of s) (entries_of s) (λ k h. let m : k < count_of s = rw (length_entries s) at h in rw (entry_of s k m) (right_at_lem k m).0))
            (eq_shape (kinds (length (entries_of s))) (some (logic ∷ [])) z)
            (all_land (entries_of s) (length (entries_of s)) (λ k h. lands f k (rw (length_entries s) at h)))
            (all_patterns (pool_of s) (entries_of s) (length (entries_of s)) (λ k h. let m : k < count_of s = rw (length_entries s) at h in rw (entry_of s k m) (right_at_lem k m).1)))
