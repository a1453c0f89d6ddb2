-- The machine of specs/Item.antt reads just what the grammar of specs/Grammar.antt spells. Assumes nothing.
use mathlib.Core.Path.{◌≡◌, refl, sym, ap, subst, ◌∙◌}
use mathlib.Core.Bool.{Bool, true, false, cond, not, ◌&&◌}
use mathlib.Core.List.{List, [], ◌∷◌, ◌++◌, append_assoc}
use mathlib.Core.Logic.{◌⊎◌, inl, inr}
use Prim.Native.Nat.{ℕ, zero, suc, ◌+◌, ◌*◌}
use native.Mathlib.Omega.{arith}
use borrow.Author.Tests.{eqb-true}
use lib.Dec.{eqb}
use lib.ListN.{length}
use Rattle.common.specs.Each.{Each}
use Rattle.common.proofs.Choice.{true_false, false_true}
use Rattle.ubf.specs.Byte.{is, is_space, is_digit, digit_of, is_quote}
use Rattle.ubf.specs.Escape.{needs_escape, escapes}
use Rattle.ubf.specs.Item.{Item, integer, quoted, binary, mark, between, within, escaped, minus, digits, counted, ended, broken, State, state, start, closed, counting, shut, dollar, fresh, step, run}
use Rattle.ubf.specs.Fields.{said_in, in_syntax}
use Rattle.ubf.specs.Grammar.{Gap, white, comment, Piece, gap, whole, delimited, counted as sized, operator, Items, none, piece, tuple, quoted_text, gap_text, gaps_text, integer_text, piece_text, items_text, value_from, value_of, Digits, starts_digit, GapRight, is_operator, PieceRight, ItemsRight, Input, piece_items, items_after}
use Rattle.ubf.proofs.Machine.{run_append, run_one, run_none, quoted_body, quoted_close, space_step, digit_more, digit_first, digit_signed, minus_first, digits_step, counted_run, binary_close, open_step, shut_step, dollar_step}

-- a test's two ways
either : (P : State → Type 0) (x : Bool) (s t : State) → (x ≡ true → P s) → (x ≡ false → P t) → P (cond x s t)
either P true s t f g = f refl
either P false s t f g = g refl

-- ---- what the grammar spells, the machine reads

run_step : (s t : State) (b : ℕ) (rest : List ℕ) → step s b ≡ t → run s (b ∷ rest) ≡ run t rest
run_step s t b rest e = run_one s b rest ∙ ap (λ (u : State). run u rest) e

run_over : (s t : State) (xs rest : List ℕ) → run s xs ≡ t → run s (xs ++ rest) ≡ run t rest
run_over s t xs rest e = run_append s xs rest ∙ ap (λ (u : State). run u rest) e

-- bytes before which an integer ends
abbrev Ends : List ℕ → Type 0
Ends [] = ⊥
Ends (b ∷ bs) = is_digit b ≡ false

ends_append : (xs : List ℕ) (b : ℕ) (bs : List ℕ) → starts_digit xs ≡ false → is_digit b ≡ false → Ends (xs ++ (b ∷ bs))
ends_append [] b bs h e = e
ends_append (x ∷ xs) b bs h e = h

space_ends : (b : ℕ) → is_space b ≡ true → is_digit b ≡ false
space_ends b h = go (eqb b 32) refl (eqb b 10) refl (eqb b 13) refl
  where
    at : (n : ℕ) → is_digit n ≡ false → eqb b n ≡ true → is_digit b ≡ false
    at n e f = ap is_digit (eqb-true b n f) ∙ e

    go : (x : Bool) → eqb b 32 ≡ x → (y : Bool) → eqb b 10 ≡ y → (z : Bool) → eqb b 13 ≡ z → is_digit b ≡ false
    go true e y f z g = at 32 refl e
    go false e true f z g = at 10 refl f
    go false e false f true g = at 13 refl g
    go false e false f false g = let k : eqb b 9 ≡ true = rw (e, f, g) at h in at 9 refl k

gaps_end : (gs : List Gap) (rest : List ℕ) → Each GapRight gs → Ends (gaps_text gs ++ (126 ∷ rest))
gaps_end [] rest r = refl
gaps_end (white b ∷ gs) rest r = space_ends b r.0
gaps_end (comment bs ∷ gs) rest r = refl

module _ (its : List Item) (d : ℕ) where
  quoted_run : (q : ℕ) (bs : List ℕ) → step (state between its d) q ≡ state (within q []) its d → (q ≡ 92 → ⊥) → run (state between its d) (quoted_text q bs) ≡ state between (closed q bs its) d
  quoted_run q bs e h =
      run_step (state between its d) (state (within q []) its d) q (escapes q bs ++ (q ∷ [])) e
      ∙ run_over (state (within q []) its d) (state (within q bs) its d) (escapes q bs) (q ∷ []) (quoted_body q bs [] its d h)
      ∙ run_step (state (within q bs) its d) (state between (closed q bs its) d) q [] (quoted_close q bs its d)
      ∙ run_none (state between (closed q bs its) d)

  delimited_run : (q : ℕ) (bs : List ℕ) → (q ≡ 34) ⊎ ((q ≡ 39) ⊎ (q ≡ 96)) → run (state between its d) (quoted_text q bs) ≡ state between (quoted q bs ∷ its) d
  unfolding step fresh
  delimited_run q bs (inl e) = rw e (quoted_run 34 bs refl (λ g. omega arith))
  delimited_run q bs (inr (inl e)) = rw e (quoted_run 39 bs refl (λ g. omega arith))
  delimited_run q bs (inr (inr e)) = rw e (quoted_run 96 bs refl (λ g. omega arith))

  gap_run : (g : Gap) → GapRight g → run (state between its d) (gap_text g) ≡ state between its d
  unfolding step fresh
  gap_run (white b) h = run_step (state between its d) (state between its d) b [] (space_step b its d h) ∙ run_none (state between its d)
  gap_run (comment bs) h = quoted_run 37 bs refl (λ e. omega arith)

  gaps_run : (gs : List Gap) → Each GapRight gs → run (state between its d) (gaps_text gs) ≡ state between its d
  gaps_run [] h = run_none (state between its d)
  gaps_run (g ∷ gs) h = run_over (state between its d) (state between its d) (gap_text g) (gaps_text gs) (gap_run g h.0) ∙ gaps_run gs h.1

module _ (its : List Item) (d : ℕ) where
  digits_run : (negative : Bool) (n : ℕ) (ds : List ℕ) → Each (λ b. is_digit b ≡ true) ds → run (state (digits negative n) its d) ds ≡ state (digits negative (value_from n ds)) its d
  unfolding value_from
  digits_run negative n [] h = run_none (state (digits negative n) its d)
  digits_run negative n (b ∷ bs) h =
      run_step (state (digits negative n) its d) (state (digits negative (n * 10 + digit_of b)) its d) b bs (digit_more its d negative n b h.0)
      ∙ digits_run negative (n * 10 + digit_of b) bs h.1

  -- from a state that takes a first digit as one after 0
  first_run : (s : State) (negative : Bool) → ((b : ℕ) → is_digit b ≡ true → step s b ≡ step (state (digits negative 0) its d) b) → (ds : List ℕ) → Digits ds → run s ds ≡ state (digits negative (value_of ds)) its d
  first_run s negative f [] h = absurd h
  first_run s negative f (b ∷ bs) h =
      run_step s (step (state (digits negative 0) its d) b) b bs (f b h.0)
      ∙ sym (run_one (state (digits negative 0) its d) b bs)
      ∙ digits_run negative 0 (b ∷ bs) h

  integer_run : (negative : Bool) (ds : List ℕ) → Digits ds → run (state between its d) (integer_text negative ds) ≡ state (digits negative (value_of ds)) its d
  integer_run true ds h = run_step (state between its d) (state minus its d) 45 ds (minus_first its d) ∙ first_run (state minus its d) true (digit_signed its d) ds h
  integer_run false ds h = first_run (state between its d) false (digit_first its d) ds h

  digits_end : (negative : Bool) (n : ℕ) (rest : List ℕ) → Ends rest → run (state (digits negative n) its d) rest ≡ run (state between (integer negative n ∷ its) d) rest
  digits_end negative n [] h = absurd h
  digits_end negative n (b ∷ bs) h =
      run_step (state (digits negative n) its d) (step (state between (integer negative n ∷ its) d) b) b bs (digits_step its d negative n b h)
      ∙ sym (run_one (state between (integer negative n ∷ its) d) b bs)

  count_step : (negative : Bool) (n : ℕ) → (negative ≡ false) ⊎ (n ≡ 0) → step (state between (integer negative n ∷ its) d) 126 ≡ state (counted n []) its d
  unfolding step fresh
  count_step negative n (inl e) = rw e
  count_step true n (inr e) = rw e
  count_step false n (inr e) = refl

  bytes_run : (bs : List ℕ) → run (state (counted (length bs) []) its d) (bs ++ (126 ∷ [])) ≡ state between (binary bs ∷ its) d
  bytes_run bs =
      run_over (state (counted (length bs) []) its d) (state (counted 0 bs) its d) bs (126 ∷ []) (counted_run bs [] its d)
      ∙ run_step (state (counted 0 bs) its d) (state between (binary bs ∷ its) d) 126 [] (binary_close bs its d)
      ∙ run_none (state between (binary bs ∷ its) d)

  binary_run : (negative : Bool) (ds : List ℕ) (gs : List Gap) (bs : List ℕ)
      → Digits ds → Each GapRight gs → value_of ds ≡ length bs → (negative ≡ false) ⊎ (length bs ≡ 0) → run (state between its d) (piece_text (sized negative ds gs bs)) ≡ state between (binary bs ∷ its) d
  binary_run negative ds gs bs h r e p =
      let n : ℕ = value_of ds in
      let more : List Item = integer negative n ∷ its in
      let rest : List ℕ = bs ++ (126 ∷ []) in
      let f : (negative ≡ false) ⊎ (n ≡ 0) = elim p [ inl x ↦ inl x | inr x ↦ inr (e ∙ x) ] in
      run_over (state between its d) (state (digits negative n) its d) (integer_text negative ds) (gaps_text gs ++ (126 ∷ rest)) (integer_run negative ds h)
      ∙ digits_end negative n (gaps_text gs ++ (126 ∷ rest)) (gaps_end gs rest r)
      ∙ run_over (state between more d) (state between more d) (gaps_text gs) (126 ∷ rest) (gaps_run more d gs r)
      ∙ run_step (state between more d) (state (counted n []) its d) 126 rest (count_step negative n f)
      ∙ ap (λ (k : ℕ). run (state (counted k []) its d) rest) e
      ∙ bytes_run bs

  operator_step : (b : ℕ) → is_operator b ≡ true → step (state between its d) b ≡ state between (mark b ∷ its) d
  unfolding step fresh
  operator_step b h =
      either P (is_space b) _ _ (λ e. other (rw e))
      (λ e1. either P (is_quote b) _ _ (λ e. other (rw (e1, e)))
      (λ e2. either P (is_digit b) _ _ (λ e. other (rw (e1, e2, e)))
      (λ e3. either P (is "-" b) _ _ (λ e. other (rw (e1, e2, e3, e)))
      (λ e4. either P (is "~" b) _ _ (λ e. other (rw (e1, e2, e3, e4, e)))
      (λ e5. either P (is "{" b) _ _ (λ e. other (rw (e1, e2, e3, e4, e5, e)))
      (λ e6. either P (is "}" b) _ _ (λ e. other (rw (e1, e2, e3, e4, e5, e6, e)))
      (λ e7. either P (is "$" b) _ _ (λ e. other (rw (e1, e2, e3, e4, e5, e6, e7, e)))
      (λ e8. either P (is "," b) _ _ (λ e. other (rw (e1, e2, e3, e4, e5, e6, e7, e8, e)))
      (λ e9. refl)))))))))
    where
      P : State → Type 0
      P s = s ≡ state between (mark b ∷ its) d

      other : {s : State} → is_operator b ≡ false → P s
      other e = true_false (sym h ∙ e)

piece_run : (p : Piece) (its : List Item) (d : ℕ) (xs : List ℕ) (c : ℕ) (rest : List ℕ) → PieceRight p xs → is_digit c ≡ false
    → run (state between its d) (piece_text p ++ (xs ++ (c ∷ rest))) ≡ run (state between (piece_items p its) d) (xs ++ (c ∷ rest))
piece_run (gap g) its d xs c rest h e = run_over (state between its d) (state between its d) (gap_text g) (xs ++ (c ∷ rest)) (gap_run its d g h)
piece_run (whole negative ds) its d xs c rest h e =
    run_over (state between its d) (state (digits negative (value_of ds)) its d) (integer_text negative ds) (xs ++ (c ∷ rest)) (integer_run its d negative ds h.0)
    ∙ digits_end its d negative (value_of ds) (xs ++ (c ∷ rest)) (ends_append xs c rest h.1 e)
piece_run (delimited q bs) its d xs c rest h e = run_over (state between its d) (state between (quoted q bs ∷ its) d) (quoted_text q bs) (xs ++ (c ∷ rest)) (delimited_run its d q bs h)
piece_run (sized negative ds gs bs) its d xs c rest h e =
    run_over (state between its d) (state between (binary bs ∷ its) d) (piece_text (sized negative ds gs bs)) (xs ++ (c ∷ rest)) (binary_run its d negative ds gs bs h.0 h.1 h.2 h.3)
piece_run (operator b) its d xs c rest h e = run_step (state between its d) (state between (mark b ∷ its) d) b (xs ++ (c ∷ rest)) (operator_step its d b h)

-- before a byte that is no digit, as `}` and `$` are
items_run : (its : Items) → ItemsRight its → (before : List Item) (d c : ℕ) (rest : List ℕ) → is_digit c ≡ false
    → run (state between before d) (items_text its ++ (c ∷ rest)) ≡ run (state between (items_after its before) d) (c ∷ rest)
unfolding ItemsRight items_text items_after
items_run none r before d c rest e = refl
items_run (piece p its) r before d c rest e =
    ap (run (state between before d)) (append_assoc (piece_text p) (items_text its) (c ∷ rest))
    ∙ piece_run p before d (items_text its) c rest r.0 e
    ∙ items_run its r.1 (piece_items p before) d c rest e
items_run (tuple a its) r before d c rest e =
    let opened : List Item = mark 123 ∷ before in
    let inner : List Item = items_after a opened in
    let tail : List ℕ = items_text its ++ (c ∷ rest) in
    run_step (state between before d) (state between opened (suc d)) 123 ((items_text a ++ (125 ∷ items_text its)) ++ (c ∷ rest)) (open_step before d)
    ∙ ap (run (state between opened (suc d))) (append_assoc (items_text a) (125 ∷ items_text its) (c ∷ rest))
    ∙ items_run a r.0 opened (suc d) 125 tail refl
    ∙ run_step (state between inner (suc d)) (state between (mark 125 ∷ inner) d) 125 tail (shut_step inner (suc d))
    ∙ items_run its r.1 (mark 125 ∷ inner) d c rest e

pub input_run : (text : List ℕ) (its : Items) → Input text its → run start text ≡ state ended (items_after its []) 0
input_run text its i =
    let after : List Item = items_after its [] in
    ap (run start) (sym i.spelled)
    ∙ items_run its i.right [] 0 36 [] refl
    ∙ run_step (state between after 0) (state ended after 0) 36 [] (dollar_step after 0)
    ∙ run_none (state ended after 0)

-- ---- what the machine reads, the grammar spells

-- The bytes that are left are items and then an end.
record Left (End : List ℕ → Type 0) (xs : List ℕ) : Type 0 where
  items : Items
  rest : List ℕ
  right : ItemsRight items
  ends : End rest
  spelled : items_text items ++ rest ≡ xs

-- the end where as many tuples are open: `$`, or `}` and what is left after it
abbrev Closing : ℕ → List ℕ → Type 0
Closing zero xs = 36 ∷ [] ≡ xs
Closing (suc d) xs = (ys : List ℕ) × Left (Closing d) ys × (125 ∷ ys ≡ xs)

-- .. after a count: the rest of its binary, and items
record LeftBinary (End : List ℕ → Type 0) (negative : Bool) (n : ℕ) (xs : List ℕ) : Type 0 where
  gaps : List Gap
  bytes : List ℕ
  rest : List ℕ
  right : Each GapRight gaps
  counts : n ≡ length bytes
  positive : (negative ≡ false) ⊎ (length bytes ≡ 0)
  left : Left End rest
  spelled : gaps_text gaps ++ (126 ∷ (bytes ++ (126 ∷ rest))) ≡ xs

-- .. between items, the last of which may be a count
abbrev LeftBetween : (List ℕ → Type 0) → List Item → List ℕ → Type 0
LeftBetween End [] xs = Left End xs
LeftBetween End (integer negative n ∷ its) xs = Left End xs ⊎ LeftBinary End negative n xs
LeftBetween End (quoted q bs ∷ its) xs = Left End xs
LeftBetween End (binary bs ∷ its) xs = Left End xs
LeftBetween End (mark b ∷ its) xs = Left End xs

-- .. within a quoted item
record LeftWithin (End : List ℕ → Type 0) (q : ℕ) (its : List Item) (xs : List ℕ) : Type 0 where
  bytes : List ℕ
  rest : List ℕ
  left : LeftBetween End (closed q [] its) rest
  spelled : escapes q bytes ++ (q ∷ rest) ≡ xs

-- .. there, after a backslash
record LeftEscaped (End : List ℕ → Type 0) (q : ℕ) (its : List Item) (xs : List ℕ) : Type 0 where
  byte : ℕ
  rest : List ℕ
  needs : needs_escape q byte ≡ true
  left : LeftWithin End q its rest
  spelled : byte ∷ rest ≡ xs

-- .. within an integer
record LeftDigits (End : List ℕ → Type 0) (negative : Bool) (n : ℕ) (its : List Item) (xs : List ℕ) : Type 0 where
  more : List ℕ
  rest : List ℕ
  all : Each (λ b. is_digit b ≡ true) more
  stops : starts_digit rest ≡ false
  left : LeftBetween End (integer negative (value_from n more) ∷ its) rest
  spelled : more ++ rest ≡ xs

-- .. after `-`
record LeftMinus (End : List ℕ → Type 0) (its : List Item) (xs : List ℕ) : Type 0 where
  byte : ℕ
  rest : List ℕ
  digit : is_digit byte ≡ true
  left : LeftDigits End true (digit_of byte) its rest
  spelled : byte ∷ rest ≡ xs

-- .. within a binary, of which n bytes are to come
record LeftCounted (End : List ℕ → Type 0) (n : ℕ) (xs : List ℕ) : Type 0 where
  bytes : List ℕ
  rest : List ℕ
  counts : n ≡ length bytes
  left : Left End rest
  spelled : bytes ++ (126 ∷ rest) ≡ xs

-- .. in any state
abbrev LeftIn : State → List ℕ → Type 0
LeftIn (state between its d) xs = LeftBetween (Closing d) its xs
LeftIn (state (within q bs) its d) xs = LeftWithin (Closing d) q its xs
LeftIn (state (escaped q bs) its d) xs = LeftEscaped (Closing d) q its xs
LeftIn (state minus its d) xs = LeftMinus (Closing d) its xs
LeftIn (state (digits negative n) its d) xs = LeftDigits (Closing d) negative n its xs
LeftIn (state (counted n bs) its d) xs = LeftCounted (Closing d) n xs
LeftIn (state ended its d) xs = [] ≡ xs
LeftIn (state broken its d) xs = ⊥

left_at : (End : List ℕ → Type 0) (xs ys : List ℕ) → xs ≡ ys → Left End xs → Left End ys
left_at End xs ys e l = record { items = l.items; rest = l.rest; right = l.right; ends = l.ends; spelled = l.spelled ∙ e }

left_end : (End : List ℕ → Type 0) (xs : List ℕ) → End xs → Left End xs
unfolding ItemsRight items_text
left_end End xs e = record { items = none; rest = xs; right = tt; ends = e; spelled = refl }

module _ (End : List ℕ → Type 0) (xs : List ℕ) where
  left_piece : (p : Piece) (l : Left End xs) → PieceRight p (items_text l.items) → Left End (piece_text p ++ xs)
  unfolding ItemsRight items_text
  left_piece p l r =
      record {
        items = piece p l.items;
        rest = l.rest;
        right = (r, l.right);
        ends = l.ends;
        spelled = append_assoc (piece_text p) (items_text l.items) l.rest ∙ ap (λ (t : List ℕ). piece_text p ++ t) l.spelled;
      }

  between_left : (its : List Item) → Left End xs → LeftBetween End its xs
  between_left [] l = l
  between_left (integer negative n ∷ its) l = inl l
  between_left (quoted q bs ∷ its) l = l
  between_left (binary bs ∷ its) l = l
  between_left (mark b ∷ its) l = l

  binary_gap : (negative : Bool) (n : ℕ) (g : Gap) → GapRight g → LeftBinary End negative n xs → LeftBinary End negative n (gap_text g ++ xs)
  binary_gap negative n g r l =
      record {
        gaps = g ∷ l.gaps;
        bytes = l.bytes;
        rest = l.rest;
        right = (r, l.right);
        counts = l.counts;
        positive = l.positive;
        left = l.left;
        spelled = append_assoc (gap_text g) (gaps_text l.gaps) (126 ∷ (l.bytes ++ (126 ∷ l.rest))) ∙ ap (λ (t : List ℕ). gap_text g ++ t) l.spelled;
      }

  between_gap : (its : List Item) (g : Gap) → GapRight g → LeftBetween End its xs → LeftBetween End its (gap_text g ++ xs)
  between_gap [] g r l = left_piece (gap g) l r
  between_gap (integer negative n ∷ its) g r (inl l) = inl (left_piece (gap g) l r)
  between_gap (integer negative n ∷ its) g r (inr l) = inr (binary_gap negative n g r l)
  between_gap (quoted q bs ∷ its) g r l = left_piece (gap g) l r
  between_gap (binary bs ∷ its) g r l = left_piece (gap g) l r
  between_gap (mark b ∷ its) g r l = left_piece (gap g) l r

-- ---- a byte in front: whitespace and quoted items

quote_kind : (q : ℕ) → is_quote q ≡ true → eqb q 37 ≡ false → (q ≡ 34) ⊎ ((q ≡ 39) ⊎ (q ≡ 96))
quote_kind q h e = go (eqb q 34) refl (eqb q 39) refl (eqb q 96) refl
  where
    go : (x : Bool) → eqb q 34 ≡ x → (y : Bool) → eqb q 39 ≡ y → (z : Bool) → eqb q 96 ≡ z → (q ≡ 34) ⊎ ((q ≡ 39) ⊎ (q ≡ 96))
    go true f y g z k = inl (eqb-true q 34 f)
    go false f true g z k = inr (inl (eqb-true q 39 g))
    go false f false g true k = inr (inr (eqb-true q 96 k))
    go false f false g false k = let n : false ≡ true = rw (f, g, k, e) at h in false_true n

quote_first : (End : List ℕ → Type 0) (q : ℕ) (its : List Item) (xs : List ℕ) → is_quote q ≡ true → LeftWithin End q its xs → LeftBetween End its (q ∷ xs)
quote_first End q its xs h l = subst (LeftBetween End its) e (go (eqb q 37) refl l.left)
  where
    e : quoted_text q l.bytes ++ l.rest ≡ q ∷ xs
    e = ap (λ (t : List ℕ). q ∷ t) (append_assoc (escapes q l.bytes) (q ∷ []) l.rest ∙ l.spelled)

    go : (x : Bool) → eqb q 37 ≡ x → LeftBetween End (cond x its (quoted q [] ∷ its)) l.rest → LeftBetween End its (quoted_text q l.bytes ++ l.rest)
    go true f m = rw (eqb-true q 37 f) (between_gap End l.rest its (comment l.bytes) tt m)
    go false f m = between_left End (quoted_text q l.bytes ++ l.rest) its (left_piece End l.rest (delimited q l.bytes) m (quote_kind q h f))

escapes_plain : (q b : ℕ) (bs rest : List ℕ) → needs_escape q b ≡ false → escapes q (b ∷ bs) ++ rest ≡ b ∷ (escapes q bs ++ rest)
unfolding escapes
escapes_plain q b bs rest e = rw e

escapes_escaped : (q b : ℕ) (bs rest : List ℕ) → needs_escape q b ≡ true → escapes q (b ∷ bs) ++ rest ≡ 92 ∷ b ∷ (escapes q bs ++ rest)
unfolding escapes
escapes_escaped q b bs rest e = rw e

module _ (End : List ℕ → Type 0) (q : ℕ) (its : List Item) (xs : List ℕ) where
  within_plain : (b : ℕ) → needs_escape q b ≡ false → LeftWithin End q its xs → LeftWithin End q its (b ∷ xs)
  within_plain b e l = record { bytes = b ∷ l.bytes; rest = l.rest; left = l.left; spelled = escapes_plain q b l.bytes (q ∷ l.rest) e ∙ ap (λ (t : List ℕ). b ∷ t) l.spelled }

  within_backslash : LeftEscaped End q its xs → LeftWithin End q its (92 ∷ xs)
  within_backslash l =
      let m = l.left in
      let e : escapes q m.bytes ++ (q ∷ m.rest) ≡ l.rest = m.spelled in
      record { bytes = l.byte ∷ m.bytes; rest = m.rest; left = m.left; spelled = escapes_escaped q l.byte m.bytes (q ∷ m.rest) l.needs ∙ ap (λ (t : List ℕ). 92 ∷ l.byte ∷ t) e ∙ ap (λ (t : List ℕ). 92 ∷ t) l.spelled }

  within_last : (bs : List ℕ) → LeftBetween End (closed q bs its) xs → LeftWithin End q its (q ∷ xs)
  unfolding escapes
  within_last bs l = record { bytes = []; rest = xs; left = go (eqb q 37) l; spelled = refl }
    where
      go : (x : Bool) → LeftBetween End (cond x its (quoted q bs ∷ its)) xs → LeftBetween End (cond x its (quoted q [] ∷ its)) xs
      go true m = m
      go false m = m

-- ---- a byte in front: integers and binaries

starts_front : (xs ys : List ℕ) → starts_digit (xs ++ ys) ≡ false → starts_digit xs ≡ false
starts_front [] ys h = refl
starts_front (x ∷ xs) ys h = h

value_first : (b : ℕ) (bs : List ℕ) → value_from (digit_of b) bs ≡ value_of (b ∷ bs)
unfolding value_from
value_first b bs =
    let e : digit_of b ≡ 0 * 10 + digit_of b = omega arith in
    ap (λ (n : ℕ). value_from n bs) e

integer_append : (negative : Bool) (ds rest : List ℕ) → integer_text negative ds ++ rest ≡ integer_text negative (ds ++ rest)
integer_append true ds rest = refl
integer_append false ds rest = refl

counted_append : (negative : Bool) (ds : List ℕ) (gs : List Gap) (bs rest : List ℕ)
    → piece_text (sized negative ds gs bs) ++ rest ≡ integer_text negative ds ++ (gaps_text gs ++ (126 ∷ (bs ++ (126 ∷ rest))))
counted_append negative ds gs bs rest =
    append_assoc (integer_text negative ds) (gaps_text gs ++ (126 ∷ (bs ++ (126 ∷ [])))) rest
    ∙ ap (λ (t : List ℕ). integer_text negative ds ++ t) (append_assoc (gaps_text gs) (126 ∷ (bs ++ (126 ∷ []))) rest)
    ∙ ap (λ (t : List ℕ). integer_text negative ds ++ (gaps_text gs ++ (126 ∷ t))) (append_assoc bs (126 ∷ []) rest)

module _ (End : List ℕ → Type 0) (its : List Item) where
  left_integer : (negative : Bool) (ds rest : List ℕ) → Digits ds → starts_digit rest ≡ false → LeftBetween End (integer negative (value_of ds) ∷ its) rest → Left End (integer_text negative ds ++ rest)
  left_integer negative ds rest h stops (inl l) = left_piece End rest (whole negative ds) l (h, starts_front (items_text l.items) l.rest (ap starts_digit l.spelled ∙ stops))
  left_integer negative ds rest h stops (inr l) =
      let p : Piece = sized negative ds l.gaps l.bytes in
      let e : piece_text p ++ l.rest ≡ integer_text negative ds ++ rest = counted_append negative ds l.gaps l.bytes l.rest ∙ ap (λ (t : List ℕ). integer_text negative ds ++ t) l.spelled in
      left_at End (piece_text p ++ l.rest) (integer_text negative ds ++ rest) e (left_piece End l.rest p l.left (h, l.right, l.counts, l.positive))

  left_digits : (negative : Bool) (b : ℕ) (xs : List ℕ) → is_digit b ≡ true → LeftDigits End negative (digit_of b) its xs → Left End (integer_text negative (b ∷ xs))
  left_digits negative b xs h l =
      let ds : List ℕ = b ∷ l.more in
      let e : integer_text negative ds ++ l.rest ≡ integer_text negative (b ∷ xs) = integer_append negative ds l.rest ∙ ap (λ (t : List ℕ). integer_text negative (b ∷ t)) l.spelled in
      let m = subst (λ (n : ℕ). LeftBetween End (integer negative n ∷ its) l.rest) (value_first b l.more) l.left in
      left_at End (integer_text negative ds ++ l.rest) (integer_text negative (b ∷ xs)) e (left_integer negative ds l.rest (h, l.all) l.stops m)

  left_minus : (xs : List ℕ) → LeftMinus End its xs → Left End (45 ∷ xs)
  left_minus xs l = left_at End (45 ∷ l.byte ∷ l.rest) (45 ∷ xs) (ap (λ (t : List ℕ). 45 ∷ t) l.spelled) (left_digits true l.byte l.rest l.digit l.left)

  digits_more : (negative : Bool) (n b : ℕ) (xs : List ℕ) → is_digit b ≡ true → LeftDigits End negative (n * 10 + digit_of b) its xs → LeftDigits End negative n its (b ∷ xs)
  unfolding value_from
  digits_more negative n b xs h l = record { more = b ∷ l.more; rest = l.rest; all = (h, l.all); stops = l.stops; left = l.left; spelled = ap (λ (t : List ℕ). b ∷ t) l.spelled }

count_first : (its : List Item) (d : ℕ) (xs : List ℕ) → LeftIn (counting its d) xs → LeftBetween (Closing d) its (126 ∷ xs)
count_first [] d xs l = absurd l
count_first (integer negative n ∷ its) d xs l = inr (go negative (eqb n 0) refl l)
  where
    count : (m : Bool) → (m ≡ false) ⊎ (n ≡ 0) → LeftCounted (Closing d) n xs → LeftBinary (Closing d) m n (126 ∷ xs)
    count m p g =
        let p' : (m ≡ false) ⊎ (length g.bytes ≡ 0) = elim p [ inl x ↦ inl x | inr x ↦ inr (sym g.counts ∙ x) ] in
        record { gaps = []; bytes = g.bytes; rest = g.rest; right = tt; counts = g.counts; positive = p'; left = g.left; spelled = ap (λ (t : List ℕ). 126 ∷ t) g.spelled }

    go : (m : Bool) (z : Bool) → eqb n 0 ≡ z → LeftIn (cond (m && not z) (state broken its d) (state (counted n []) its d)) xs → LeftBinary (Closing d) m n (126 ∷ xs)
    go false z e g = count false (inl refl) g
    go true true e g = count true (inr (eqb-true n 0 e)) g
    go true false e g = absurd g
count_first (quoted q bs ∷ its) d xs l = absurd l
count_first (binary bs ∷ its) d xs l = absurd l
count_first (mark b ∷ its) d xs l = absurd l

-- ---- a byte in front: braces and `$`

open_first : (d : ℕ) (xs : List ℕ) → Left (Closing (suc d)) xs → Left (Closing d) (123 ∷ xs)
unfolding ItemsRight items_text
open_first d xs l =
    let m = l.ends.1 in
    let e : (items_text l.items ++ (125 ∷ items_text m.items)) ++ m.rest ≡ xs =
    append_assoc (items_text l.items) (125 ∷ items_text m.items) m.rest
    ∙ ap (λ (t : List ℕ). items_text l.items ++ (125 ∷ t)) m.spelled
    ∙ ap (λ (t : List ℕ). items_text l.items ++ t) l.ends.2
    ∙ l.spelled in
    record { items = tuple l.items m.items; rest = m.rest; right = (l.right, m.right); ends = m.ends; spelled = ap (λ (t : List ℕ). 123 ∷ t) e }

shut_first : (its : List Item) (d : ℕ) (xs : List ℕ) → LeftIn (shut its d) xs → LeftBetween (Closing d) its (125 ∷ xs)
shut_first its zero xs l = absurd l
shut_first its (suc d) xs l = between_left (Closing (suc d)) (125 ∷ xs) its (left_end (Closing (suc d)) (125 ∷ xs) (xs, l, refl))

dollar_first : (its : List Item) (d : ℕ) (xs : List ℕ) → LeftIn (dollar its d) xs → LeftBetween (Closing d) its (36 ∷ xs)
dollar_first its zero xs l = between_left (Closing zero) (36 ∷ xs) its (left_end (Closing zero) (36 ∷ xs) (ap (λ (t : List ℕ). 36 ∷ t) l))
dollar_first its (suc d) xs l = absurd l

-- ---- a byte in front, by the state before it

fresh_left : (its : List Item) (d b : ℕ) (xs : List ℕ) → LeftIn (fresh its d b) xs → LeftBetween (Closing d) its (b ∷ xs)
unfolding fresh
fresh_left its d b xs =
    either P (is_space b) _ _ (λ e l. between_gap (Closing d) xs its (white b) e l)
    (λ e1. either P (is_quote b) _ _ (λ e l. quote_first (Closing d) b its xs e l)
    (λ e2. either P (is_digit b) _ _ (λ e l. item (left_digits (Closing d) its false b xs e l))
    (λ e3. either P (is "-" b) _ _ (λ e l. item (rw (eqb-true b 45 e) (left_minus (Closing d) its xs l)))
    (λ e4. either P (is "~" b) _ _ (λ e l. rw (eqb-true b 126 e) (count_first its d xs l))
    (λ e5. either P (is "{" b) _ _ (λ e l. item (rw (eqb-true b 123 e) (open_first d xs l)))
    (λ e6. either P (is "}" b) _ _ (λ e l. rw (eqb-true b 125 e) (shut_first its d xs l))
    (λ e7. either P (is "$" b) _ _ (λ e l. rw (eqb-true b 36 e) (dollar_first its d xs l))
    (λ e8. either P (is "," b) _ _ (λ e l. absurd l)
    (λ e9 l. item (left_piece (Closing d) xs (operator b) l (rw (e1, e2, e3, e4, e5, e6, e7, e8, e9))))))))))))
  where
    P : State → Type 0
    P s = LeftIn s xs → LeftBetween (Closing d) its (b ∷ xs)

    item : Left (Closing d) (b ∷ xs) → LeftBetween (Closing d) its (b ∷ xs)
    item l = between_left (Closing d) (b ∷ xs) its l

within_left : (q : ℕ) (bs : List ℕ) (its : List Item) (d b : ℕ) (xs : List ℕ) → LeftIn (step (state (within q bs) its d) b) xs → LeftWithin (Closing d) q its (b ∷ xs)
unfolding step
within_left q bs its d b xs =
    either P (eqb b q) _ _ (λ e l. rw (eqb-true b q e) (within_last (Closing d) q its xs bs l))
    (λ e1. either P (is "\\" b) _ _ (λ e l. rw (eqb-true b 92 e) (within_backslash (Closing d) q its xs l))
    (λ e2 l. within_plain (Closing d) q its xs b (rw (e1, e2)) l))
  where
    P : State → Type 0
    P s = LeftIn s xs → LeftWithin (Closing d) q its (b ∷ xs)

escaped_left : (q : ℕ) (bs : List ℕ) (its : List Item) (d b : ℕ) (xs : List ℕ) → LeftIn (step (state (escaped q bs) its d) b) xs → LeftEscaped (Closing d) q its (b ∷ xs)
unfolding step
escaped_left q bs its d b xs =
    either P (eqb b q) _ _ (λ e l. byte_left (rw e) l)
    (λ e1. either P (is "\\" b) _ _ (λ e l. byte_left (rw (e1, e)) l)
    (λ e2 l. absurd l))
  where
    P : State → Type 0
    P s = LeftIn s xs → LeftEscaped (Closing d) q its (b ∷ xs)

    byte_left : needs_escape q b ≡ true → LeftWithin (Closing d) q its xs → LeftEscaped (Closing d) q its (b ∷ xs)
    byte_left e l = record { byte = b; rest = xs; needs = e; left = l; spelled = refl }

minus_left : (its : List Item) (d b : ℕ) (xs : List ℕ) → LeftIn (step (state minus its d) b) xs → LeftMinus (Closing d) its (b ∷ xs)
unfolding step
minus_left its d b xs =
    either (λ s. LeftIn s xs → LeftMinus (Closing d) its (b ∷ xs)) (is_digit b) _ _ (λ e l. record { byte = b; rest = xs; digit = e; left = l; spelled = refl })
    (λ e l. absurd l)

digits_left : (negative : Bool) (n : ℕ) (its : List Item) (d b : ℕ) (xs : List ℕ) → LeftIn (step (state (digits negative n) its d) b) xs → LeftDigits (Closing d) negative n its (b ∷ xs)
unfolding step value_from
digits_left negative n its d b xs =
    either (λ s. LeftIn s xs → LeftDigits (Closing d) negative n its (b ∷ xs)) (is_digit b) _ _ (λ e l. digits_more (Closing d) its negative n b xs e l)
    (λ e l. record { more = []; rest = b ∷ xs; all = tt; stops = e; left = fresh_left (integer negative n ∷ its) d b xs l; spelled = refl })

counted_left : (n : ℕ) (bs : List ℕ) (its : List Item) (d b : ℕ) (xs : List ℕ) → LeftIn (step (state (counted n bs) its d) b) xs → LeftCounted (Closing d) n (b ∷ xs)
unfolding step
counted_left zero bs its d b xs l =
    either (λ s. LeftIn s xs → LeftCounted (Closing d) zero (b ∷ xs)) (is "~" b) _ _ (λ e m. rw (eqb-true b 126 e) (record { bytes = []; rest = xs; counts = refl; left = m; spelled = refl }))
    (λ e m. absurd m) l
counted_left (suc n) bs its d b xs l = record { bytes = b ∷ l.bytes; rest = l.rest; counts = ap suc l.counts; left = l.left; spelled = ap (λ (t : List ℕ). b ∷ t) l.spelled }

step_left : (s : State) (b : ℕ) (xs : List ℕ) → LeftIn (step s b) xs → LeftIn s (b ∷ xs)
unfolding step
step_left (state between its d) b xs l = fresh_left its d b xs l
step_left (state (within q bs) its d) b xs l = within_left q bs its d b xs l
step_left (state (escaped q bs) its d) b xs l = escaped_left q bs its d b xs l
step_left (state minus its d) b xs l = minus_left its d b xs l
step_left (state (digits negative n) its d) b xs l = digits_left negative n its d b xs l
step_left (state (counted n bs) its d) b xs l = counted_left n bs its d b xs l
step_left (state ended its d) b xs l = absurd l
step_left (state broken its d) b xs l = absurd l

none_left : (s : State) → in_syntax (said_in s) ≡ true → LeftIn s []
none_left (state between its d) h = false_true h
none_left (state (within q bs) its d) h = false_true h
none_left (state (escaped q bs) its d) h = false_true h
none_left (state minus its d) h = false_true h
none_left (state (digits negative n) its d) h = false_true h
none_left (state (counted n bs) its d) h = false_true h
none_left (state ended its d) h = refl
none_left (state broken its d) h = false_true h

run_left : (s : State) (xs : List ℕ) → in_syntax (said_in (run s xs)) ≡ true → LeftIn s xs
unfolding run
run_left s [] h = none_left s h
run_left s (b ∷ xs) h = step_left s b xs (run_left (step s b) xs h)

pub run_input : (text : List ℕ) → in_syntax (said_in (run start text)) ≡ true → (its : Items) × Input text its
run_input text h =
    let l = run_left start text h in
    (l.items, record { right = l.right; spelled = ap (λ (t : List ℕ). items_text l.items ++ t) l.ends ∙ l.spelled })
