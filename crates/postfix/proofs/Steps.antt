-- What each part of an expression answers, from what its own parts answer. Assumes nothing.
use Prim.Native.Nat.{ℕ, ◌+◌, ◌-◌, ◌*◌, ◌<◌, ◌≤◌, max}
use native.Mathlib.Omega.{arith}
use native.Mathlib.Decide.{ℕ_discrete}
use mathlib.Core.Path.{◌≡◌, refl, sym, ap, ap₂, ◌∙◌}
use mathlib.Core.Bool.{Bool, true, false, cond, ◌&&◌}
use mathlib.Core.List.{List, [], ◌∷◌}
use lib.Dec.{leb}
use lib.ListN.{length, get_or}
use lib.Seq.{sets, length-sets}
use borrow.Author.Tests.{eq-eqb, ne_eqb, le-leb, leb-true}
use Rattle.common.specs.Choice.{pick}
use Rattle.common.proofs.Choice.{false_true}
use Rattle.lexer.specs.Kind.{naming, opening, closing, ending}
use Rattle.lexer.specs.Token.{Token, kind_of}
use Rattle.grammar.specs.Tree.{Tree, leaf, group, unary, binary, call, Trees, none, ◌then◌}
use Rattle.grammar.specs.Grammar.{is_literal}
use Rattle.grammar.specs.Parse.{Result, ok, bad, and_then, token_at, kind_at, is, operand_of}
use Rattle.grammar.specs.Function.{function_of}
use Rattle.grammar.specs.Size.{count_of, skips, entries_of, entries_in, depth_of, depth_in}
use Rattle.grammar.specs.Judge.{form_of, first_of, later_texts, forms_right, is_logic, kinds_right}
use Rattle.grammar.specs.Marks.{calling, is_operand}
use Rattle.grammar.specs.Code.{code, skip_codes, call_code, codes_of, codes_in}
use Rattle.grammar.proofs.Laws.{operand_literal, operand_name, operand_other}
use Rattle.postfix.specs.Marked.{Marked}
use Rattle.postfix.specs.Packed.{packed, next_in, end_in, known_in, counted_to, count_bits, broken, broken_at, known_of, args_known, args_part, unary_known, binary_known, group_known, leaf_known, none_known, more_known, call_known, mark_before, unary_part, unary_codes, right_start, binary_part, binary_codes, group_part, leaf_part, leaf_codes, more_part, call_part, call_codes}
use Rattle.postfix.specs.Answer.{Answered}
use Rattle.postfix.proofs.Forms.{form_back}
use Rattle.postfix.proofs.Marks.{is_plain, kind_of_lem, mark_of}
use Rattle.postfix.proofs.Bounds.{Bounded}
use Rattle.postfix.proofs.Codes.{skip_length, skip_entries_lem, skip_counted, length_codes, length_codes_in, sets_after, sets_between}
use Rattle.postfix.proofs.Reading.{view_tree, view_args, Parts, parts, broken_is, whole_is}

packed_eq : {n m e d f g : ℕ} → n ≡ m → e ≡ d → f ≡ g → packed n e f ≡ packed m d g
packed_eq p q r = rw (p, q, r)

pub and-true : {x y : Bool} → (x && y) ≡ true → (x ≡ true) × (y ≡ true)
and-true {x} {y} = go x
  where
    go : (b : Bool) → (b && y) ≡ true → (b ≡ true) × (y ≡ true)
    go true q = (refl, q)
    go false q = false_true q

pub both : (a k b : ℕ) → (leb a k && leb k b) ≡ true → (a ≤ k) × (k ≤ b)
both a k b e = let p = and-true e in (leb-true a k p.0, leb-true k b p.1)

-- what is no operand is no literal
no_literal : (k : ℕ) → is_operand k ≡ false → is_literal k ≡ false
no_literal k o = go (is_literal k) refl
  where
    go : (b : Bool) → is_literal k ≡ b → is_literal k ≡ false
    go false e = e
    go true e = let b = both 1 k 4 e in false_true (sym o ∙ rw (le-leb 1 k b.0, le-leb k 5 (omega (arith, b.1))))

-- ---- results whose numbers fit

abbrev pub Small : Result → ℕ → Type 0
Small (ok t n) i = (n < 65536) × (i + entries_of t < 65536)
Small (bad p) i = p < 65536

pub small : (ks : List Token) (at i : ℕ) (x : Result) → length ks ≤ 4096 → i ≤ 2 * at → Bounded ks at x → Small x i
small ks at i (ok t n) few room b = (omega (arith, b.le), omega (arith, b.le, b.lt, b.entries))
small ks at i (bad p) few room b = omega (arith, b)

pub kept : (x : Result) {i r : ℕ} {was now : List ℕ} → Answered x i was now r → length now ≡ length was
kept (ok t n) {i} {r} {was} {now} h = ap length h.leaves ∙ length-sets was i (codes_of t)
kept (bad p) h = h.leaves

-- ---- what is known

known_unary : (k : ℕ) (t : Tree) → unary_known k (known_of t) ≡ known_of (unary k t)
unfolding is_logic forms_right kinds_right depth_of
known_unary k t = let v = view_tree t in rw (v.logic_is, v.forms_is, v.kinds_is, v.depth_is)

-- slots counted up to 63, of two sides and of one argument more
depth_two : (a b : ℕ) → max (counted_to a) (counted_to (counted_to b + 1)) ≡ counted_to (max a (b + 1))
depth_two a b = omega arith

depth_more : (a n b : ℕ) → max (counted_to a) (counted_to (n + counted_to b)) ≡ counted_to (max a (n + b))
depth_more a n b = omega arith

known_binary : (k : ℕ) (t u : Tree) → binary_known k (known_of t) (known_of u) ≡ known_of (binary k t u)
unfolding is_logic forms_right kinds_right depth_of
known_binary k t u =
    let v = view_tree t in
    let w = view_tree u in
    rw (v.logic_is, v.forms_is, v.kinds_is, w.logic_is, w.forms_is, w.kinds_is, v.depth_is, w.depth_is, depth_two (depth_of t) (depth_of u))

known_group : (t : Tree) → group_known (known_of t) ≡ known_of (group t)
unfolding is_logic forms_right kinds_right depth_of
known_group t = let v = view_tree t in rw (v.logic_is, v.forms_is, v.kinds_is, v.depth_is)

known_leaf : (x : Token) → leaf_known (kind_of x) ≡ known_of (leaf x)
unfolding is_logic forms_right kinds_right depth_of
known_leaf x = refl

known_more : (ts : Trees) (t : Tree) → count_of ts < 65536 → more_known (args_known ts) (known_of t) ≡ args_known (◌then◌ ts t)
unfolding forms_right kinds_right count_of first_of later_texts depth_of
known_more none t h =
    let v = view_tree t in
    rw (v.logic_is, v.forms_is, v.kinds_is, v.form_is, v.depth_is, ← (depth_more 1 0 (depth_of t)))
known_more (◌then◌ ts u) t h =
    let v = view_tree t in
    let a = view_args (◌then◌ ts u) h in
    rw (v.logic_is, v.forms_is, v.kinds_is, v.form_is, a.logic_is, a.forms_is, a.kinds_is, a.form_is, a.count_is, form_back (form_of t), v.depth_is, a.depth_is, depth_more (depth_in (◌then◌ ts u)) (count_of ts + 1) (depth_of t), ne_eqb (count_of ts + 1) 0 (λ e. omega arith))

known_call : (x : Token) (ts : Trees) → count_of ts < 65536 → call_known (function_of x) (args_known ts) ≡ known_of (call x ts)
unfolding is_logic forms_right kinds_right depth_of
known_call x ts h =
    let a = view_args ts h in
    rw (a.logic_is, a.forms_is, a.kinds_is, a.form_is, a.count_is, a.depth_is, form_back (first_of ts))

-- ---- a prefix operator

pub unary_answered : (k : ℕ) (x : Result) (i : ℕ) {was mid now : List ℕ} {a r : ℕ} → Small x i → Answered x i was mid a → r ≡ unary_part k a → now ≡ unary_codes k a mid
    → Answered (and_then x (λ t n. ok (unary k t) n)) i was now r
unfolding entries_of codes_of
unary_answered k (ok t n) i {was} {mid} {now} {a} {r} s h er ec =
    let p = parts h.is s.0 s.1 in
    let w = whole_is p (view_tree t).whole in
    record {
      is = er ∙ rw w (packed_eq p.next_is (omega (arith, p.end_is)) (ap (unary_known k) p.known_is ∙ known_unary k t));
      leaves = ec ∙ rw w (ap₂ (λ (l : List ℕ) (m : ℕ). sets l m (code k 0 ∷ [])) h.leaves p.end_is ∙ sets_after was i (i + entries_of t) (codes_of t) (code k 0 ∷ []) (omega (arith, length_codes t)));
    }
unary_answered k (bad q) i {was} {mid} {now} {a} {r} s h er ec =
    let w = broken_is h.is s in
    record { is = er ∙ rw w h.is; leaves = ap length ec ∙ rw w h.leaves }

-- ---- a binary operator, after the left side

module _ (k : ℕ) (t : Tree) (n i : ℕ) {was mid : List ℕ} {a : ℕ} (st : Small (ok t n) i) (h : Answered (ok t n) i was mid a) where
  left_parts : Parts a n (i + entries_of t) (known_of t)
  left_parts = parts h.is st.0 st.1

  pub right_starts : right_start k a ≡ i + entries_of t + cond (skips k) 1 0
  right_starts = ap (λ (e : ℕ). e + cond (skips k) 1 0) left_parts.end_is

  pub binary_answered : (y : Result) {s : ℕ} {late now : List ℕ} {b r : ℕ} → s ≡ right_start k a → Small y s → Answered y s mid late b → r ≡ binary_part k a b → now ≡ binary_codes k a b late
      → Answered (and_then y (λ u m. ok (binary k t u) m)) i was now r
  unfolding entries_of codes_of
  binary_answered (ok u m) {s} {late} {now} {b} {r} es sy g er ec =
      let p = left_parts in
      let q = parts g.is sy.0 sy.1 in
      let w = whole_is q (view_tree u).whole in
      let rs = es ∙ right_starts in
      let end : end_in b ≡ end_in a + cond (skips k) 1 0 + entries_of u = omega (arith, q.end_is, p.end_is, rs) in
      let skip : skip_codes k (end_in b - (end_in a + 1)) ≡ skip_codes k (entries_of u) = ap (λ (z : ℕ). skip_codes k (z - (end_in a + 1))) end ∙ skip_counted k (end_in a) (entries_of u) in
      record {
        is = er ∙ rw w (packed_eq q.next_is (omega (arith, q.end_is, rs, skip_entries_lem k)) (ap₂ (binary_known k) p.known_is q.known_is ∙ known_binary k t u));
        leaves =
            ec ∙ rw w (ap₂ (λ (l ss : List ℕ). sets (sets l (end_in a) ss) (end_in b) (code k 0 ∷ [])) (g.leaves ∙ ap (λ (l : List ℕ). sets l s (codes_of u)) h.leaves) skip
            ∙ sets_between was i (end_in a) s (end_in b) (codes_of t) (skip_codes k (entries_of u)) (codes_of u) (code k 0 ∷ [])
            (omega (arith, p.end_is, length_codes t)) (omega (arith, p.end_is, rs, skip_length k (entries_of u))) (omega (arith, q.end_is, length_codes u)));
      }
  binary_answered (bad p) {s} {late} {now} {b} {r} es sy g er ec =
      let w = broken_is g.is sy in
      record { is = er ∙ rw w g.is; leaves = ap length ec ∙ rw w (g.leaves ∙ kept (ok t n) h) }

-- ---- an expression in parentheses

group_closed : (ms : List ℕ) (t : Tree) (n i : ℕ) {was now : List ℕ} {a r : ℕ} → Small (ok t n) i → Answered (ok t n) i was now a → get_or ms n ending ≡ closing → r ≡ group_part ms a
    → Answered (ok (group t) (n + 1)) i was now r
unfolding entries_of codes_of
group_closed ms t n i {was} {now} {a} {r} s h e er =
    let p = parts h.is s.0 s.1 in
    let w = whole_is p (view_tree t).whole in
    let c = eq-eqb (get_or ms (next_in a) ending) closing (ap (λ (z : ℕ). get_or ms z ending) p.next_is ∙ e) in
    record {
      is = er ∙ rw (w, c) (packed_eq (ap (λ (z : ℕ). z + 1) p.next_is) p.end_is (ap group_known p.known_is ∙ known_group t));
      leaves = h.leaves;
    }

group_open : (ms : List ℕ) (t : Tree) (n i : ℕ) {was now : List ℕ} {a r : ℕ} → Small (ok t n) i → Answered (ok t n) i was now a → (get_or ms n ending ≡ closing → ⊥) → r ≡ group_part ms a
    → Answered (bad n) i was now r
group_open ms t n i {was} {now} {a} {r} s h e er =
    let p = parts h.is s.0 s.1 in
    let w = whole_is p (view_tree t).whole in
    let c = ne_eqb (get_or ms (next_in a) ending) closing (λ q. e (sym (ap (λ (z : ℕ). get_or ms z ending) p.next_is) ∙ q)) in
    record { is = er ∙ rw (w, c) (ap broken_at p.next_is); leaves = kept (ok t n) h }

module _ {ms : List ℕ} {ks : List Token} (m : Marked ms ks) where
  pub group_answered : (x : Result) (i : ℕ) {was now : List ℕ} {a r : ℕ} → Small x i → Answered x i was now a → r ≡ group_part ms a
      → Answered (and_then x (λ t j. pick (is ks j closing) (λ _. ok (group t) (j + 1)) (λ _. bad j))) i was now r
  group_answered (bad q) i s h er = record { is = er ∙ rw (broken_is h.is s) h.is; leaves = h.leaves }
  group_answered (ok t n) i {was} {now} {a} {r} s h er = go (ℕ_discrete (get_or ms n ending) closing)
    where
      go : Dec (get_or ms n ending ≡ closing) → Answered (pick (is ks n closing) (λ _. ok (group t) (n + 1)) (λ _. bad n)) i was now r
      go (yes e) = rw (eq-eqb (kind_at ks n) closing (kind_of_lem m n closing (omega arith) e)) (group_closed ms t n i s h e er)
      go (no e) = rw (ne_eqb (kind_at ks n) closing (λ q. e (mark_of m n closing (λ z. omega arith) q))) (group_open ms t n i s h e er)

-- ---- a literal or a name

leaf_whole : (x : Token) (at i k : ℕ) {was now : List ℕ} {r : ℕ} → kind_of x ≡ k → is_operand k ≡ true → r ≡ leaf_part k at i → now ≡ leaf_codes k i was → Answered (ok (leaf x) (at + 1)) i was now r
unfolding entries_of codes_of
leaf_whole x at i k {was} {now} {r} ek o er ec =
    record {
      is = er ∙ rw o (ap (packed (at + 1) (i + 1)) (ap leaf_known (sym ek) ∙ known_leaf x));
      leaves = ec ∙ rw o (ap (λ (z : ℕ). sets was i (code z 0 ∷ [])) (sym ek));
    }

leaf_none : (at i k : ℕ) {was now : List ℕ} {r : ℕ} → is_operand k ≡ false → r ≡ leaf_part k at i → now ≡ leaf_codes k i was → Answered (bad at) i was now r
leaf_none at i k o er ec = record { is = er ∙ rw o; leaves = ap length ec ∙ rw o }

module _ {ms : List ℕ} {ks : List Token} (m : Marked ms ks) (at k : ℕ) (ek : k ≡ get_or ms at ending) (low : k < calling) where
  kind : kind_at ks at ≡ k
  kind = (is_plain m at (omega arith)).0 ∙ sym ek

  pub leaf_operand : is_operand k ≡ true → operand_of ks at ≡ ok (leaf (token_at ks at)) (at + 1)
  leaf_operand o = go (ℕ_discrete k naming)
    where
      literal : (k ≡ naming → ⊥) → is_literal (kind_at ks at) ≡ true
      literal ne = let b = both 1 k 5 o in rw (kind, le-leb 1 k b.0, le-leb k 4 (omega (arith, b.1)))

      go : Dec (k ≡ naming) → operand_of ks at ≡ ok (leaf (token_at ks at)) (at + 1)
      go (yes e) = operand_name ks at (kind ∙ e) ((is_plain m at (omega arith)).1 (kind ∙ e))
      go (no e) = operand_literal ks at (literal e)

  module _ (i : ℕ) (was now : List ℕ) (r : ℕ) (shut : k ≡ opening → ⊥) (er : r ≡ leaf_part k at i) (ec : now ≡ leaf_codes k i was) where
    pub leaf_answered : Answered (operand_of ks at) i was now r
    leaf_answered = go (is_operand k) refl (ℕ_discrete k naming)
      where
        other : is_operand k ≡ false → is_literal (kind_at ks at) ≡ false
        other o = ap is_literal kind ∙ no_literal k o

        go : (b : Bool) → is_operand k ≡ b → Dec (k ≡ naming) → Answered (operand_of ks at) i was now r
        go true o e = rw (leaf_operand o) (leaf_whole (token_at ks at) at i k kind o er ec)
        go false o (yes e) = false_true (sym o ∙ rw e)
        go false o (no e) = rw (operand_other ks at (other o) (λ q. e (sym kind ∙ q)) (λ q. shut (sym kind ∙ q))) (leaf_none at i k o er ec)

-- ---- arguments and calls

-- arguments of a call so far, whose next token is n
pub record Args (ts : Trees) (n i : ℕ) (was now : List ℕ) (a : ℕ) : Type 0 where
  pub is : a ≡ args_part ts n i
  pub leaves : now ≡ sets was i (codes_in ts)
  pub next : n < 65536
  pub end : i + entries_in ts < 65536
  pub count : count_of ts < 65536

pub no_args : (n i : ℕ) (was : List ℕ) {a : ℕ} → n < 65536 → i < 65536 → a ≡ packed n i none_known → Args none n i was was a
unfolding entries_of codes_of count_of first_of later_texts forms_right kinds_right depth_of
no_args n i was hn hi e =
    let z : i ≡ i + 0 = omega arith in
    record { is = e ∙ ap (λ (y : ℕ). packed n y none_known) z; leaves = refl; next = hn; end = omega arith; count = omega arith }

module _ {ts : Trees} {n i : ℕ} {was now : List ℕ} {a : ℕ} (g : Args ts n i was now a) where
  pub args_parts : Parts a n (i + entries_in ts) (args_known ts)
  args_parts = parts g.is g.next g.end

  args_whole : broken a ≡ false
  args_whole = whole_is args_parts (view_args ts g.count).whole

  -- one argument more
  pub args_more : (t : Tree) (j : ℕ) {s : ℕ} {late : List ℕ} {b c : ℕ} → s ≡ end_in a → j + 1 < 65536 → s + entries_of t < 65536 → count_of ts + 1 < 65536 → Answered (ok t j) s now late b → c ≡ more_part a b
      → Args (◌then◌ ts t) (j + 1) i was late c
  unfolding entries_of codes_of count_of
  args_more t j {s} {late} {b} {c} es hj he hc h ec =
      let p = args_parts in
      let q = parts h.is (omega arith) he in
      let w = whole_is q (view_tree t).whole in
      record {
        is = ec ∙ rw w (packed_eq (ap (λ (z : ℕ). z + 1) q.next_is) (omega (arith, q.end_is, es, p.end_is)) (ap₂ more_known p.known_is q.known_is ∙ known_more ts t g.count));
        leaves =
            h.leaves ∙ ap (λ (l : List ℕ). sets l s (codes_of t)) g.leaves
            ∙ sets_after was i s (codes_in ts) (codes_of t) (omega (arith, es, p.end_is, length_codes_in ts));
        next = hj;
        end = omega (arith, es, p.end_is);
        count = hc;
      }

  module _ (ms : List ℕ) (j : ℕ) (en : n ≡ j + 1) where
    pub before_is : mark_before ms a ≡ get_or ms j ending
    before_is = let z : next_in a - 1 ≡ j = omega (arith, args_parts.next_is) in rw args_whole (ap (λ (q : ℕ). get_or ms q ending) z)

    -- the call, if a `)` follows
    pub call_closed : (x : Token) {f r : ℕ} {late : List ℕ} → f ≡ function_of x → get_or ms j ending ≡ closing → r ≡ call_part ms f a → late ≡ call_codes ms f a now → Answered (ok (call x ts) n) i was late r
    unfolding entries_of codes_of
    call_closed x {f} {r} {late} ef e er ec =
        let p = args_parts in
        let c = eq-eqb (mark_before ms a) closing (before_is ∙ e) in
        let count : count_bits (known_in a) ≡ count_of ts = ap count_bits p.known_is ∙ (view_args ts g.count).count_is in
        record {
          is = er ∙ rw (c, args_whole) (packed_eq p.next_is (omega (arith, p.end_is)) (ap₂ call_known ef p.known_is ∙ known_call x ts g.count));
          leaves =
              ec ∙ rw c (ap₂ (λ (l : List ℕ) (z : ℕ). sets l z (call_code f (count_bits (known_in a)) ∷ [])) g.leaves p.end_is
              ∙ ap₂ (λ (z y : ℕ). sets (sets was i (codes_in ts)) (i + entries_in ts) (call_code z y ∷ [])) ef count
              ∙ sets_after was i (i + entries_in ts) (codes_in ts) (call_code (function_of x) (count_of ts) ∷ []) (omega (arith, length_codes_in ts)));
        }

    pub call_other : (f : ℕ) {r : ℕ} {late : List ℕ} → (get_or ms j ending ≡ closing → ⊥) → r ≡ call_part ms f a → late ≡ call_codes ms f a now → Answered (bad j) i was late r
    call_other f {r} {late} e er ec =
        let p = args_parts in
        let c = ne_eqb (mark_before ms a) closing (λ q. e (sym before_is ∙ q)) in
        let z : next_in a - 1 ≡ j = omega (arith, p.next_is) in
        record {
          is = er ∙ rw (c, args_whole) (ap broken_at z);
          leaves = ap length ec ∙ rw c (ap length g.leaves ∙ length-sets was i (codes_in ts));
        }

-- an argument that cannot go on
module _ (ms : List ℕ) (p : ℕ) (small-p : p < 65536) (a b c : ℕ) (eb : b ≡ broken_at p) (ec : c ≡ more_part a b) where
  more_broken : c ≡ broken_at p
  more_broken = ec ∙ rw (broken_is eb small-p) eb

  pub before_broken : mark_before ms c ≡ ending
  before_broken = rw (broken_is more_broken small-p)

  pub call_broken : (f i : ℕ) (was mid : List ℕ) {r : ℕ} {late : List ℕ} → length mid ≡ length was → r ≡ call_part ms f c → late ≡ call_codes ms f c mid → Answered (bad p) i was late r
  call_broken f i was mid {r} {late} h er el =
      let w = ne_eqb (mark_before ms c) closing (λ q. let z : ending ≡ closing = sym before_broken ∙ q in omega arith) in
      record { is = er ∙ rw (broken_is more_broken small-p) more_broken; leaves = ap length el ∙ rw w h }
