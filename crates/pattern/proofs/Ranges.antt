-- Sets read from an index: a member, a range, the whole set. Assumes nothing.
use mathlib.Core.Path.{◌≡◌, refl, sym, ap, ◌∙◌, subst}
use mathlib.Core.Bool.{Bool, true, false, not, ◌&&◌, ◌||◌, or-false, or_assoc, and-false}
use mathlib.Core.List.{List, [], ◌∷◌}
use Prim.Native.Nat.{ℕ, suc, ◌+◌, ◌≤◌, ◌<◌}
use native.Mathlib.Decide.{dec_lt}
use native.Mathlib.Omega.{arith}
use lib.Dec.{eqb, leb}
use lib.ListN.{length, get_or, drop, drop_of_length-le}
use borrow.Author.Tests.{lt-leb, le-leb}
use Rattle.common.specs.Choice.{pick}
use Rattle.common.proofs.Choice.{true_false}
use Rattle.octets.specs.Octets.{fold, folded}
use Rattle.pattern.specs.Sets.{Member, member, span, byte_of, is_dash, member_by, members, spans, spans_of, in_spans, is_closed, rises, is_empty, width_of}
use Rattle.pattern.specs.Wildcard.{is_set}
use Rattle.pattern.specs.Steps.{begins, escaped_at, member_at, joined_at, range_from, piece_at, test_at}
use Rattle.pattern.specs.declared.sets.Piece.{Piece}
use Rattle.pattern.specs.declared.sets.Piece.TheVariants.{Range, Close, End}
use Rattle.std.specs.Prelude.{Some, None}
use Rattle.pattern.proofs.Texts.{close_sign, back_sign, dash_sign, here, past, sign_same, is_sign, no_sign, inside, sign_here}

-- ---- the answers of `escaped_at` and `member_at`
module _ (m : Bool) (p : List ℕ) (i : ℕ) where
  pub escaped_here : i < length p → Range (fold m (get_or p i 0)) (fold m (get_or p i 0)) (i + 1) ≡ escaped_at i (drop i (folded m p))
  escaped_here h = rw (here m p i h)

  pub escaped_past : length p ≤ i → End ≡ escaped_at i (drop i (folded m p))
  escaped_past h = rw (past m p i h)

  pub member_past : length p ≤ i → End ≡ member_at i (drop i (folded m p))
  member_past h = rw (past m p i h)

  module _ (h : i < length p) where
    pub member_close : get_or p i 0 ≡ 93 → Close ≡ member_at i (drop i (folded m p))
    member_close e = rw (here m p i h, is_sign m p i 93 close_sign e)

    module _ (n : get_or p i 0 ≡ 93 → ⊥) where
      pub member-escaped : get_or p i 0 ≡ 92 → escaped_at (i + 1) (drop (i + 1) (folded m p)) ≡ member_at i (drop i (folded m p))
      member-escaped e = rw (here m p i h, no_sign m p i 93 close_sign n, is_sign m p i 92 back_sign e)

      pub member-plain : (get_or p i 0 ≡ 92 → ⊥) → Range (fold m (get_or p i 0)) (fold m (get_or p i 0)) (i + 1) ≡ member_at i (drop i (folded m p))
      member-plain e = rw (here m p i h, no_sign m p i 93 close_sign n, no_sign m p i 92 back_sign e)

-- ---- the answer of `piece_at`
module _ (m : Bool) (p : List ℕ) (i low b next : ℕ) (e : Range low b next ≡ member_at i (drop i (folded m p))) where
  pub piece_joined : begins 45 (drop next p) ≡ true
      → joined_at low next (member_at (next + 1) (drop (next + 1) (folded m p))) ≡ piece_at i (folded m p)
  piece_joined d = rw (← e, sign_same m p next 45 dash_sign, d)

  pub piece_alone : begins 45 (drop next p) ≡ false → Range low low next ≡ piece_at i (folded m p)
  piece_alone d = rw (← e, sign_same m p next 45 dash_sign, d)

pub piece_close : (m : Bool) (p : List ℕ) (i : ℕ) → Close ≡ member_at i (drop i (folded m p)) → Close ≡ piece_at i (folded m p)
piece_close m p i e = rw (← e)

pub piece_end : (m : Bool) (p : List ℕ) (i : ℕ) → End ≡ member_at i (drop i (folded m p)) → End ≡ piece_at i (folded m p)
piece_end m p i e = rw (← e)

-- ---- a member that is read

-- what stands at an index and what is read from it: the rest of the set from the index behind
abbrev Onward : List ℕ → ℕ → ℕ → Type 0
Onward t i j =
    (is_closed (drop i t) ≡ is_closed (drop j t)) × (i + width_of (drop i t) ≡ j + width_of (drop j t)) × (i < j) × (j ≤ length t)

abbrev MemberRead : List ℕ → ℕ → Piece → Type 0
MemberRead t i (Range a b j) = (e : Bool) × (members false (drop i t) ≡ member e a ∷ members false (drop j t)) × Onward t i j
MemberRead t i Close = (members false (drop i t) ≡ []) × (is_closed (drop i t) ≡ true) × (width_of (drop i t) ≡ 1)
MemberRead t i End = (members false (drop i t) ≡ []) × (is_closed (drop i t) ≡ false)

abbrev tail : List ℕ → List ℕ
tail [] = []
tail (b ∷ r) = r

-- an index at which a text has a byte
cut : (t : List ℕ) (i b : ℕ) (r : List ℕ) → drop i t ≡ b ∷ r → (i < length t) × (drop (i + 1) t ≡ r)
cut t i b r e = go (dec_lt i (length t))
  where
    go : Dec (i < length t) → (i < length t) × (drop (i + 1) t ≡ r)
    go (yes h) = (h, ap tail (sym (inside t i h) ∙ e))
    go (no h) = let z : ◌≡◌ {A = List ℕ} [] (b ∷ r) = sym (drop_of_length-le t {i = i} (omega arith)) ∙ e in absurd (cons-nil z)
      where
        cons-nil : ◌≡◌ {A = List ℕ} [] (b ∷ r) → ⊥
        cons-nil z = let q : ◌≡◌ {A = ℕ} 0 (suc (length r)) = ap length z in omega arith

-- one byte that neither closes nor escapes, and a byte behind a backslash
member_plain_read : (t : List ℕ) (i b : ℕ) (r : List ℕ) → drop i t ≡ b ∷ r → eqb b 93 ≡ false → eqb b 92 ≡ false → MemberRead t i (Range b b (i + 1))
member_plain_read t i b r d e f =
    let k = cut t i b r d in
    (false, rw (d, e, f, k.1), (rw (d, e, f, k.1), rw (d, e, f, k.1) (omega arith), omega arith, omega (arith, k.0)))

member_escaped_read : (t : List ℕ) (i b : ℕ) (r : List ℕ) → drop i t ≡ b ∷ r → eqb b 93 ≡ false → eqb b 92 ≡ true → MemberRead t i (escaped_at (i + 1) r)
member_escaped_read t i b [] d e f = (rw (d, e, f), rw (d, e, f))
member_escaped_read t i b (a ∷ r) d e f =
    let k = cut t i b (a ∷ r) d in
    let l = cut t (i + 1) a r k.1 in
    (true, rw (d, e, f, l.1), (rw (d, e, f, l.1), rw (d, e, f, l.1) (omega arith), omega arith, omega (arith, l.0)))

member_some_read : (t : List ℕ) (i b : ℕ) (r : List ℕ) → drop i t ≡ b ∷ r → MemberRead t i (member_at i (b ∷ r))
member_some_read t i b r d = go (eqb b 93) (eqb b 92) refl refl
  where
    go : (x y : Bool) → eqb b 93 ≡ x → eqb b 92 ≡ y → MemberRead t i (pick x (λ _. Close) (λ _. pick y (λ _. escaped_at (i + 1) r) (λ _. Range b b (i + 1))))
    go true y e f = (rw (d, e), rw (d, e), rw (d, e))
    go false true e f = member_escaped_read t i b r d e f
    go false false e f = member_plain_read t i b r d e f

member_read : (t : List ℕ) (i : ℕ) → MemberRead t i (member_at i (drop i t))
member_read t i = go (drop i t) refl
  where
    go : (s : List ℕ) → drop i t ≡ s → MemberRead t i (member_at i s)
    go [] d = (rw d, rw d)
    go (b ∷ r) d = member_some_read t i b r d

-- ---- a range that is read

-- an unescaped `-` first
abbrev dashed : List Member → Bool
dashed [] = false
dashed (m ∷ ms) = is_dash m

alone : (m : Member) (ms : List Member) → dashed ms ≡ false → spans (m ∷ ms) ≡ span (byte_of m) (byte_of m) ∷ spans ms
alone m [] e = refl
alone m (d ∷ []) e = refl
alone m (d ∷ b ∷ r) e = rw e

escaped_undashed : (r : List ℕ) → dashed (members true r) ≡ false
escaped_undashed [] = refl
escaped_undashed (a ∷ r) = refl

undashed : (s : List ℕ) → begins 45 s ≡ false → dashed (members false s) ≡ false
undashed [] e = refl
undashed (b ∷ r) e = go (eqb b 93) (eqb b 92)
  where
    go : (x y : Bool) → dashed (member_by x y b (λ escaped. members escaped r)) ≡ false
    go true y = refl
    go false true = escaped_undashed r
    go false false = e

abbrev pub PieceRead : List ℕ → ℕ → Piece → Type 0
PieceRead t i (Range a b j) = (spans_of (drop i t) ≡ span a b ∷ spans_of (drop j t)) × Onward t i j
PieceRead t i Close = (spans_of (drop i t) ≡ []) × (is_closed (drop i t) ≡ true) × (width_of (drop i t) ≡ 1)
PieceRead t i End = is_closed (drop i t) ≡ false

module _ (t : List ℕ) (i a j : ℕ) (e : Bool) (m : members false (drop i t) ≡ member e a ∷ members false (drop j t)) (on : Onward t i j) where
  lone_read : dashed (members false (drop j t)) ≡ false → PieceRead t i (Range a a j)
  lone_read d = (ap spans m ∙ alone (member e a) (members false (drop j t)) d, on)

  joined_read : (x : Piece) → drop j t ≡ 45 ∷ drop (j + 1) t → MemberRead t (j + 1) x → PieceRead t i (joined_at a j x)
  joined_read (Range h b k) d (f, n, o) = (
    ap spans m ∙ rw (d, n),
    (on.0 ∙ rw (d) o.0, on.1 ∙ rw (d) (omega (arith, o.1)), omega (arith, on.2, o.2), o.3),
  )
  joined_read Close d n = (ap spans m ∙ rw (d, n.0), on)
  joined_read End d n = (ap spans m ∙ rw (d, n.0), on)

  range_read : (x : Bool) → begins 45 (drop j t) ≡ x → PieceRead t i (pick x (λ _. joined_at a j (member_at (j + 1) (drop (j + 1) t))) (λ _. Range a a j))
  range_read true d = joined_read (member_at (j + 1) (drop (j + 1) t)) (sign_here t j 45 d) (member_read t (j + 1))
  range_read false d = lone_read (undashed (drop j t) d)

pub piece_read : (t : List ℕ) (i : ℕ) → PieceRead t i (piece_at i t)
piece_read t i = go (member_at i (drop i t)) (member_read t i)
  where
    go : (x : Piece) → MemberRead t i x → PieceRead t i (range_from x t)
    go (Range a b j) (e, m, on) = range_read t i a j e m on (begins 45 (drop j t)) refl
    go Close (m, c, w) = (ap spans m, c, w)
    go End (m, c) = c

-- ---- a set that is read

bad : (i : ℕ) (s : List ℕ) (c : ℕ) → is_set s ≡ false → None ≡ test_at i s c
bad i s c e = rw e

-- the set from `at`, read as far as i: what is left of it, and whether the byte was found
abbrev pub SetRead : List ℕ → ℕ → ℕ → Bool → ℕ → Type 0
SetRead t at c hit i =
    (is_closed (drop i t) ≡ is_closed (drop at t)) × (rises (spans_of (drop i t)) ≡ rises (spans_of (drop at t))) × (hit || in_spans (spans_of (drop i t)) c ≡ in_spans (spans_of (drop at t)) c) × (i + width_of (drop i t) ≡ at + width_of (drop at t)) × (at ≤ i) × (at < i → is_empty (spans_of (drop at t)) ≡ false)

pub read_start : (t : List ℕ) (at c : ℕ) → SetRead t at c false at
read_start t at c = (refl, refl, refl, refl, omega arith, λ h. absurd (omega arith))

module _ (t : List ℕ) (at c : ℕ) (hit : Bool) (i : ℕ) (s : SetRead t at c hit i) where
  module _ (low high next : ℕ) (e : Range low high next ≡ piece_at i t) where
    range : PieceRead t i (Range low high next)
    range = subst (PieceRead t i) (sym e) (piece_read t i)

    pub read_next : (i < next) × (next ≤ length t)
    read_next = (range.1.2, range.1.3)

    some_left : is_empty (spans_of (drop i t)) ≡ false
    some_left = rw range.0

    -- the first range makes the set not empty
    some : Dec (at < i) → is_empty (spans_of (drop at t)) ≡ false
    some (yes h) = s.5 h
    some (no h) = let z : i ≡ at = omega (arith, s.4) in (rw z at some_left)

    pub read_more : low ≤ high → SetRead t at c (hit || (leb low c && leb c high)) next
    read_more h = (
      sym range.1.0 ∙ s.0,
      (rw (range.0, le-leb low high h) at s.1),
      or_assoc hit (leb low c && leb c high) (in_spans (spans_of (drop next t)) c) ∙ (rw range.0 at s.2),
      sym range.1.1 ∙ s.3,
      omega (arith, s.4, range.1.2),
      λ _. some (dec_lt at i),
    )

    pub read_falls : high < low → None ≡ test_at at (drop at t) c
    read_falls h =
        let f : rises (spans_of (drop at t)) ≡ false = sym (rw (range.0, lt-leb low high h) at s.1) in
        bad at (drop at t) c (rw (f, and-false (not (is_empty (spans_of (drop at t))))) (and-false (is_closed (drop at t))))

  module _ (e : Close ≡ piece_at i t) where
    closed : PieceRead t i Close
    closed = subst (PieceRead t i) (sym e) (piece_read t i)

    pub read_empty : i ≡ at → None ≡ test_at at (drop at t) c
    read_empty q =
        let f : spans_of (drop at t) ≡ [] = (rw q at closed.0) in
        bad at (drop at t) c (rw f (and-false (is_closed (drop at t))))

    pub read_close : (i ≡ at → ⊥) → Some (record { hit = hit; end = i + 1 }) ≡ test_at at (drop at t) c
    read_close q =
        let o : is_closed (drop at t) ≡ true = sym s.0 ∙ closed.1 in
        let r : rises (spans_of (drop at t)) ≡ true = sym (rw closed.0 at s.1) in
        let m : is_empty (spans_of (drop at t)) ≡ false = s.5 (omega (arith, s.4, q)) in
        let h : in_spans (spans_of (drop at t)) c ≡ hit = sym (rw (closed.0, or-false hit) at s.2) in
        let w : at + width_of (drop at t) ≡ i + 1 = sym (rw closed.2 at s.3) in
        rw (o, r, m, h, w)

    pub close_inside : i < length t
    close_inside = go (dec_lt i (length t))
      where
        go : Dec (i < length t) → i < length t
        go (yes h) = h
        go (no h) = true_false (sym (rw (drop_of_length-le t {i = i} (omega arith)) at closed.1))

  unclosed : is_closed (drop i t) ≡ false → None ≡ test_at at (drop at t) c
  unclosed f = let o : is_closed (drop at t) ≡ false = sym s.0 ∙ f in bad at (drop at t) c (rw o)

  pub read_end : End ≡ piece_at i t → None ≡ test_at at (drop at t) c
  read_end e = unclosed (subst (PieceRead t i) (sym e) (piece_read t i))

  pub read_past : length t ≤ i → None ≡ test_at at (drop at t) c
  read_past h = unclosed (rw (drop_of_length-le t h))
