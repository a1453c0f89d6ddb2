-- The loop over the operators of a level, and the loop over the arguments of a call. Assumes nothing.
use Prim.Native.Nat.{ℕ, ◌+◌, ◌-◌, ◌*◌, ◌≤◌, ◌<◌}
use native.Mathlib.Omega.{arith}
use native.Mathlib.Decide.{ℕ_discrete, dec_lt}
use mathlib.Core.Path.{◌≡◌, refl, sym, ap, ◌∙◌, subst}
use mathlib.Core.Bool.{Bool, true, false, cond, ◌||◌}
use mathlib.Core.List.{List}
use lib.Dec.{leb, ltb}
use lib.ListN.{length, get_or}
use lib.Seq.{length-sets}
use borrow.Author.Tests.{ne_eqb, ltb-true, leb-true}
use Rattle.common.proofs.Choice.{false_true}
use Rattle.lexer.specs.Kind.{opening, closing, comma, ending}
use Rattle.lexer.specs.Token.{Token}
use Rattle.grammar.specs.Tree.{Tree, leaf, binary, Trees, none, ◌then◌}
use Rattle.grammar.specs.Grammar.{rank, is_prefix}
use Rattle.grammar.specs.Parse.{Result, ok, bad, and_then, token_at, kind_at, level_of, prefix_of, operand_of, arguments_of}
use Rattle.grammar.specs.Function.{function_of}
use Rattle.grammar.specs.Size.{skips, entries_of}
use Rattle.grammar.specs.Marks.{calling, is_operand}
use Rattle.grammar.specs.Code.{codes_in}
use Rattle.grammar.proofs.Sound.{at_kind, at_rank_lem}
use Rattle.grammar.proofs.Streams.{rank_high}
use Rattle.grammar.proofs.Laws.{operator_entries}
use Rattle.grammar.proofs.Climb.{Spine, spine_start, spine_bad, stops_below, stops_above, spine-broken, spine-on}
use Rattle.grammar.proofs.Laws.{prefix_plain, operand_group, operand_call, operand_call_none, args_comma, args_close, args_other, args_bad}
use Rattle.postfix.specs.Marked.{Marked}
use Rattle.postfix.specs.Packed.{packed, next_in, end_in, broken, known_of, none_known, mark_after, mark_before, right_start, binary_part, binary_codes, group_part, leaf_part, leaf_codes, more_part, call_part, call_codes}
use Rattle.postfix.specs.Answer.{Answered, Run}
use Rattle.postfix.proofs.Marks.{is_called, is_plain, kind_of_lem, mark_of, same_rank, same_prefix}
use Rattle.postfix.proofs.Bounds.{Spans, Bounded, Holding, spans_binary, none_held, one_held, bounded_level, bounded_prefix}
use Rattle.postfix.proofs.Codes.{skip_entries_lem}
use Rattle.postfix.proofs.Reading.{view_tree, Parts, parts, broken_is, whole_is}
use Rattle.postfix.proofs.Prefixes.{prefix_within}
use Rattle.postfix.proofs.Steps.{both, small, kept, leaf_operand, leaf_answered, right_starts, binary_answered, group_answered, Args, no_args, args_parts, args_more, before_is, call_closed, call_other, before_broken, call_broken}

-- ---- a level

-- what is read so far: a tree, and the loops of the levels that are left; or the level's own answer
abbrev pub Going : List Token → ℕ → ℕ → Result → Type 0
Going ks at l (ok t n) = Spine ks at l n t × Spans ks at t n
Going ks at l (bad p) = (level_of ks at l ≡ bad p) × (p ≤ length ks)

pub record Climbing (ks : List Token) (at l i : ℕ) (was now : List ℕ) (a : ℕ) : Type 0 where
  pub result : Result
  pub answered : Answered result i was now a
  pub going : Going ks at l result

going_start : (ks : List Token) (at l : ℕ) → l ≤ 11 → (x : Result) → prefix_of ks at ≡ x → Bounded ks at x → Going ks at l x
going_start ks at l le (ok t n) e b = (spine_start l le e, b)
going_start ks at l le (bad p) e b = (spine_bad ks at l le e, b)

pub climb_start : (ks : List Token) (at l i : ℕ) {was now : List ℕ} {a : ℕ} → l ≤ 11 → at ≤ length ks → Answered (prefix_of ks at) i was now a → Climbing ks at l i was now a
climb_start ks at l i le h q = record { result = prefix_of ks at; answered = q; going = going_start ks at l le (prefix_of ks at) refl (bounded_prefix ks at h) }

-- how much is left to read
over : ℕ → Result → ℕ
over len (ok t n) = len + 1 - n
over len (bad p) = 0

abbrev pub ahead : ℕ → ℕ → ℕ
ahead len a = cond (broken a) 0 (len + 1 - next_in a)

module _ {ms : List ℕ} {ks : List Token} (m : Marked ms ks) (few : length ks ≤ 4096) (at l i : ℕ) (room : i ≤ 2 * at) where
  -- the parts of the number of a tree
  tree_parts : {t : Tree} {n : ℕ} {was now : List ℕ} {a : ℕ} → Spans ks at t n → Answered (ok t n) i was now a → Parts a n (i + entries_of t) (known_of t)
  tree_parts s h = parts h.is (omega (arith, s.le)) (omega (arith, s.le, s.lt, s.entries))

  mark_after_lem : {t : Tree} {n : ℕ} {was now : List ℕ} {a : ℕ} → Spans ks at t n → Answered (ok t n) i was now a → mark_after ms a ≡ get_or ms n ending
  mark_after_lem {t} {n} s h = let p = tree_parts s h in rw (whole_is p (view_tree t).whole) (ap (λ (z : ℕ). get_or ms z ending) p.next_is)

  bad_after : {p : ℕ} {was now : List ℕ} {a : ℕ} → p ≤ length ks → Answered (bad p) i was now a → mark_after ms a ≡ ending
  bad_after {p} b h = rw (broken_is h.is (omega (arith, b)))

  ahead_is : (x : Result) {was now : List ℕ} {a : ℕ} → Going ks at l x → Answered x i was now a → (len : ℕ) → ahead len a ≡ over len x
  unfolding over
  ahead_is (ok t n) g h len = let p = tree_parts g.1 h in rw (whole_is p (view_tree t).whole) (ap (λ (z : ℕ). len + 1 - z) p.next_is)
  ahead_is (bad p) g h len = rw (broken_is h.is (omega (arith, g.1)))

  module _ {was now : List ℕ} {a : ℕ} (c : Climbing ks at l i was now a) (k r : ℕ) (ek : k ≡ mark_after ms a) (er : r ≡ rank k) where
    pub climb_below : r < l → Answered (level_of ks at l) i was now a
    climb_below lt = go c.result c.going c.answered
      where
        go : (x : Result) → Going ks at l x → Answered x i was now a → Answered (level_of ks at l) i was now a
        go (ok t n) g h = rw (stops_below g.0 r (er ∙ ap rank (ek ∙ mark_after_lem g.1 h) ∙ same_rank m n) lt) h
        go (bad p) g h = rw g.0 h

    pub climb_above : 11 ≤ r → Answered (level_of ks at l) i was now a
    climb_above le = go c.result c.going c.answered
      where
        go : (x : Result) → Going ks at l x → Answered x i was now a → Answered (level_of ks at l) i was now a
        go (ok t n) g h = rw (stops_above g.0 r (er ∙ ap rank (ek ∙ mark_after_lem g.1 h) ∙ same_rank m n) le) h
        go (bad p) g h = rw g.0 h

    -- an operator of this level or a tighter one stands next
    pub record Turn : Type 0 where
      pub tree : Tree
      pub next : ℕ
      pub answered : Answered (ok tree next) i was now a
      pub spine : Spine ks at l next tree
      pub spans : Spans ks at tree next
      pub next_is : next_in a ≡ next
      pub rank_is : r ≡ rank (kind_at ks next)
      pub kind_is : k ≡ kind_at ks next
      pub within : next < length ks

    low_rank : rank k < 11 → k < 44
    low_rank lt = go (dec_lt k 44)
      where
        go : Dec (k < 44) → k < 44
        go (yes h) = h
        go (no h) = absurd (omega (arith, (rank_high k (omega arith)).0, lt))

    pub turn : r < 11 → Turn
    turn lt = go c.result c.going c.answered
      where
        go : (x : Result) → Going ks at l x → Answered x i was now a → Turn
        go (ok t n) g h =
            let em = ek ∙ mark_after_lem g.1 h in
            let q = er ∙ ap rank em ∙ same_rank m n in
            let low = low_rank (omega (arith, er)) in
            record {
              tree = t;
              next = n;
              answered = h;
              spine = g.0;
              spans = g.1;
              next_is = (tree_parts g.1 h).next_is;
              rank_is = q;
              kind_is = em ∙ sym (is_plain m n (omega (arith, em, low))).0;
              within = at_rank_lem ks n r (sym q) lt;
            }
        go (bad p) g h = absurd (ended (er ∙ ap rank (ek ∙ bad_after g.1 h)))
          where
            ended : r ≡ rank ending → ⊥
            ended q = omega (arith, q, (rank_high ending (omega arith)).0)

    module _ (t : Turn) (ge : l ≤ r) (lt : r < 11) where
      start_is : right_start k a ≡ i + entries_of t.tree + cond (skips k) 1 0
      start_is = right_starts k t.tree t.next i (small ks at i (ok t.tree t.next) few room t.spans) t.answered

      pub turn-room : right_start k a ≤ 2 * (t.next + 1)
      turn-room = let o = operator_entries (skips k) in omega (arith, start_is, skip_entries_lem k, o.1, t.spans.entries, t.spans.lt)

      module _ {n s : ℕ} {late after : List ℕ} {b d : ℕ} (en : n ≡ next_in a) (es : s ≡ right_start k a) (given : Answered (level_of ks (n + 1) (r + 1)) s now late b) (ed : d ≡ binary_part k a b) (ea : after ≡ binary_codes k a b late) where
        g : Answered (level_of ks (t.next + 1) (r + 1)) s now late b
        g = subst (λ (z : ℕ). Answered (level_of ks (z + 1) (r + 1)) s now late b) (en ∙ t.next_is) given

        right-going : (y : Result) → level_of ks (t.next + 1) (r + 1) ≡ y → Bounded ks (t.next + 1) y → Going ks at l (and_then y (λ u j. ok (binary k t.tree u) j))
        right-going (ok u j) e bound = (rw t.kind_is (spine-on t.spine r t.rank_is ge lt e), spans_binary ks at t.next j k t.tree u t.spans bound)
        right-going (bad p) e bound = (spine-broken t.spine r t.rank_is ge lt e, bound)

        right-answered : (y : Result) → Bounded ks (t.next + 1) y → Answered y s now late b → Answered (and_then y (λ u j. ok (binary k t.tree u) j)) i was after d
        right-answered y bound h =
            binary_answered k t.tree t.next i (small ks at i (ok t.tree t.next) few room t.spans) t.answered y es
            (small ks (t.next + 1) s y few (omega (arith, es, turn-room)) bound) h ed ea

        bounded : Bounded ks (t.next + 1) (level_of ks (t.next + 1) (r + 1))
        bounded = bounded_level ks (t.next + 1) (r + 1) (omega (arith, t.within)) (omega arith)

        pub turn_on : Climbing ks at l i was after d
        turn_on =
            let y = level_of ks (t.next + 1) (r + 1) in
            record { result = and_then y (λ u j. ok (binary k t.tree u) j); answered = right-answered y bounded g; going = right-going y refl bounded }

        -- and less is left
        pub turn-less : (len : ℕ) → len ≡ length ks → ahead len d < ahead len a
        unfolding over
        turn-less len el = go (level_of ks (t.next + 1) (r + 1)) refl bounded g
          where
            old : ahead len a ≡ len + 1 - t.next
            old = ahead_is (ok t.tree t.next) (t.spine, t.spans) t.answered len

            go : (y : Result) → level_of ks (t.next + 1) (r + 1) ≡ y → Bounded ks (t.next + 1) y → Answered y s now late b → ahead len d < ahead len a
            go (ok u j) e bound h =
                let q = ahead_is (ok (binary k t.tree u) j) (right-going (ok u j) e bound) (right-answered (ok u j) bound h) len in
                rw (q, old) (omega (arith, el, bound.lt, bound.le, t.within))
            go (bad p) e bound h =
                let q = ahead_is (bad p) (right-going (bad p) e bound) (right-answered (bad p) bound h) len in
                rw (q, old) (omega (arith, el, t.within))

-- ---- the arguments of a call whose name is the token `at`

pub record Arguing (ks : List Token) (at i : ℕ) (was now : List ℕ) (a : ℕ) : Type 0 where
  pub trees : Trees
  pub next : ℕ
  pub on : operand_of ks at ≡ arguments_of ks next (token_at ks at) trees
  pub args : Args trees next i was now a
  pub held : Holding ks at trees next

module _ {ms : List ℕ} {ks : List Token} (m : Marked ms ks) (few : length ks ≤ 4096) (at i : ℕ) (room : i ≤ 2 * at) (high : calling ≤ get_or ms at ending) where
  opens : at + 1 < length ks
  opens = at_kind ks (at + 1) opening (is_called m at high).opens (omega arith)

  pub arguing_start : {was : List ℕ} {a : ℕ} → (get_or ms (at + 2) ending ≡ closing → ⊥) → a ≡ packed (at + 2) i none_known → Arguing ks at i was was a
  arguing_start {was} {a} ne e =
      let c = is_called m at high in
      record {
        trees = none;
        next = at + 2;
        on = operand_call ks at c.name c.opens (λ q. ne (mark_of m (at + 2) closing (λ z. omega arith) q));
        args = no_args (at + 2) i was (omega (arith, opens)) (omega (arith, opens)) e;
        held = none_held ks at (omega (arith, opens));
      }

  -- a call with no arguments
  pub call_none : {f r a : ℕ} {was now : List ℕ} → get_or ms (at + 2) ending ≡ closing → a ≡ packed (at + 3) i none_known → f ≡ function_of (token_at ks at) → r ≡ call_part ms f a → now ≡ call_codes ms f a was
      → Answered (operand_of ks at) i was now r
  call_none {f} {r} {a} {was} {now} e ea ef er en =
      let c = is_called m at high in
      let g = no_args (at + 3) i was (omega (arith, opens)) (omega (arith, opens)) ea in
      rw (operand_call_none ks at c.name c.opens (kind_of_lem m (at + 2) closing (omega arith) e)) (call_closed g ms (at + 2) (omega arith) (token_at ks at) ef e er en)

  module _ {was now : List ℕ} {a : ℕ} (g : Arguing ks at i was now a) where
    pub next_argument : next_in a ≡ g.next
    next_argument = (args_parts g.args).next_is

    pub argument_room : end_in a ≤ 2 * g.next
    argument_room = omega (arith, (args_parts g.args).end_is, g.held.entries, g.held.lt)

    module _ {n s : ℕ} {late : List ℕ} {b d : ℕ} (en : n ≡ next_in a) (es : s ≡ end_in a) (given : Answered (level_of ks n 0) s now late b) (ed : d ≡ more_part a b) where
      h : Answered (level_of ks g.next 0) s now late b
      h = subst (λ (z : ℕ). Answered (level_of ks z 0) s now late b) (en ∙ next_argument) given

      bounded-argument : Bounded ks g.next (level_of ks g.next 0)
      bounded-argument = bounded_level ks g.next 0 g.held.le (omega arith)

      more : (t : Tree) (j : ℕ) → Spans ks g.next t j → Answered (ok t j) s now late b → Args (◌then◌ g.trees t) (j + 1) i was late d
      more t j sp q =
          args_more g.args t j es (omega (arith, sp.le)) (omega (arith, es, argument_room, sp.le, sp.lt, sp.entries)) (omega (arith, g.held.count, g.held.le)) q ed

      -- what follows is a `,`
      pub arguing-on : mark_before ms d ≡ comma → Arguing ks at i was late d × (g.next < next_in d)
      arguing-on e = go (level_of ks g.next 0) refl bounded-argument h
        where
          go : (x : Result) → level_of ks g.next 0 ≡ x → Bounded ks g.next x → Answered x s now late b → Arguing ks at i was late d × (g.next < next_in d)
          go (ok t j) q sp z =
              let v = more t j sp z in
              let k = kind_of_lem m j comma (omega arith) (sym (before_is v ms j refl) ∙ e) in
              let w = at_kind ks j comma k (omega arith) in (
                record {
                  trees = ◌then◌ g.trees t;
                  next = j + 1;
                  on = g.on ∙ args_comma ks g.next (token_at ks at) g.trees t j q k;
                  args = v;
                  held = one_held ks at g.next j g.trees t w g.held sp;
                },
                omega (arith, (args_parts v).next_is, sp.lt),
              )
          go (bad p) q sp z = absurd (omega (arith, before_broken ms p (omega (arith, sp)) a b d z.is ed, e))

      -- what follows is none
      pub arguing-call : {f r : ℕ} {after : List ℕ} → (mark_before ms d ≡ comma → ⊥) → f ≡ function_of (token_at ks at) → r ≡ call_part ms f d → after ≡ call_codes ms f d late → Answered (operand_of ks at) i was after r
      arguing-call {f} {r} {after} ne ef er ea = go (level_of ks g.next 0) refl bounded-argument h
        where
          go : (x : Result) → level_of ks g.next 0 ≡ x → Bounded ks g.next x → Answered x s now late b → Answered (operand_of ks at) i was after r
          go (bad p) q sp z =
              rw (g.on, args_bad ks g.next (token_at ks at) g.trees p q)
              (call_broken ms p (omega (arith, sp)) a b d z.is ed f i was late (kept (bad p) z ∙ ap length g.args.leaves ∙ length-sets was i (codes_in g.trees)) er ea)
          go (ok t j) q sp z = ends (ℕ_discrete (get_or ms j ending) closing)
            where
              v : Args (◌then◌ g.trees t) (j + 1) i was late d
              v = more t j sp z

              ends : Dec (get_or ms j ending ≡ closing) → Answered (operand_of ks at) i was after r
              ends (yes e) =
                  rw (g.on, args_close ks g.next (token_at ks at) g.trees t j q (kind_of_lem m j closing (omega arith) e))
                  (call_closed v ms j refl (token_at ks at) ef e er ea)
              ends (no e) =
                  rw (g.on, args_other ks g.next (token_at ks at) g.trees t j q (λ k. ne (before_is v ms j refl ∙ mark_of m j comma (λ y. omega arith) k)) (λ k. e (mark_of m j closing (λ y. omega arith) k)))
                  (call_other v ms j refl f e er ea)

-- ---- the other members of the cycle

module _ {ms : List ℕ} {ks : List Token} (m : Marked ms ks) (few : length ks ≤ 4096) (at i : ℕ) (room : i ≤ 2 * at) where
  pub group_operand : {was now : List ℕ} {a r : ℕ} → get_or ms at ending ≡ opening → Answered (level_of ks (at + 1) 0) i was now a → r ≡ group_part ms a → Answered (operand_of ks at) i was now r
  group_operand e h er =
      let k = kind_of_lem m at opening (omega arith) e in
      let w = at_kind ks at opening k (omega arith) in
      let s = small ks (at + 1) i (level_of ks (at + 1) 0) few (omega arith) (bounded_level ks (at + 1) 0 (omega arith) (omega arith)) in
      rw (operand_group ks at k) (group_answered m (level_of ks (at + 1) 0) i s h er)

-- a literal or a name that stands first
module _ {ms : List ℕ} {ks : List Token} (m : Marked ms ks) (at : ℕ) {k : ℕ} (ek : k ≡ get_or ms at ending) (o : is_operand k ≡ true) where
  few_kinds : (1 ≤ k) × (k ≤ 5)
  few_kinds = both 1 k 5 o

  no_prefix : is_prefix (kind_at ks at) ≡ false
  no_prefix = sym (same_prefix m at) ∙ ap is_prefix (sym ek) ∙ rw (ne_eqb k 40 (λ q. omega (arith, few_kinds.1)), ne_eqb k 8 (λ q. omega (arith, few_kinds.1)))

  module _ {i r : ℕ} {was now : List ℕ} (er : r ≡ leaf_part k at i) (ec : now ≡ leaf_codes k i was) where
    pub leaf_first : Answered (prefix_of ks at) i was now r
    leaf_first = rw (prefix_plain ks at no_prefix) (leaf_answered m at k ek (omega (arith, few_kinds.1)) i was now r (λ q. omega (arith, few_kinds.1)) er ec)

    -- and nothing of the level follows it
    pub leaf_alone : (l : ℕ) → length ks ≤ 4096 → i ≤ 2 * at → at ≤ length ks → l ≤ 11 → (ltb (rank (get_or ms (at + 1) ending)) l || leb 11 (rank (get_or ms (at + 1) ending))) ≡ true
        → Answered (level_of ks at l) i was now r
    leaf_alone l few room within le e = go (ltb (rank next) l) (leb 11 (rank next)) refl refl e
      where
        next : ℕ
        next = get_or ms (at + 1) ending

        whole : prefix_of ks at ≡ ok (leaf (token_at ks at)) (at + 1)
        whole = prefix_plain ks at no_prefix ∙ leaf_operand m at k ek (omega (arith, few_kinds.1)) o

        after : next ≡ mark_after ms r
        after = sym (mark_after_lem m few at l i room (subst (Bounded ks at) whole (bounded_prefix ks at within)) (subst (λ (x : Result). Answered x i was now r) whole leaf_first))

        start : Climbing ks at l i was now r
        start = climb_start ks at l i le within leaf_first

        go : (a b : Bool) → ltb (rank next) l ≡ a → leb 11 (rank next) ≡ b → (a || b) ≡ true → Answered (level_of ks at l) i was now r
        go true b f g q = climb_below m few at l i room start next (rank next) after refl (ltb-true (rank next) l f)
        go false true f g q = climb_above m few at l i room start next (rank next) after refl (leb-true 11 (rank next) g)
        go false false f g q = false_true q

pub run_within : {ms : List ℕ} {at first : ℕ} → Run ms at first → at ≤ length ms → first ≤ length ms
run_within {ms} {at} {first} r h = go (dec_lt at first)
  where
    go : Dec (at < first) → first ≤ length ms
    go (yes lt) = omega (arith, prefix_within ms (first - 1) (r.each (first - 1) (omega arith) (omega arith)))
    go (no ge) = omega (arith, r.upto)

-- what follows a run of prefix operators is no prefix operator
pub past_run : {ms : List ℕ} {ks : List Token} {at first : ℕ} → Marked ms ks → Run ms at first → {i r : ℕ} {was now : List ℕ} → Answered (operand_of ks first) i was now r → Answered (prefix_of ks first) i was now r
past_run {ms} {ks} {at} {first} m run h = rw (prefix_plain ks first (sym (same_prefix m first) ∙ run.past)) h
