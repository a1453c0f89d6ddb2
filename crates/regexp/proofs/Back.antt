-- What is read through, the grammar derives. Assumes nothing.
use mathlib.Core.Path.{◌≡◌, refl, sym, ap, ◌∙◌}
use mathlib.Core.List.{List, [], ◌∷◌, ◌++◌, append_assoc, append-nil}
use Prim.Native.Nat.{ℕ, zero, suc}
use Rattle.regexp.specs.Language.{Mark, Tree, one, group, repeat}
use Rattle.regexp.specs.Grammar.{byte_of, Piece, single, grouped, marked, Branch, last, then, Alternatives, only, either, Body, nothing, something}
use Rattle.regexp.specs.Words.{Word, item, repeats, opening, bars, closing, stops, none, word_of}
use Rattle.regexp.specs.Scan.{Frame, frame, spot, Now, goes, stuck, sequence, choice, next, advance, Steps, here, there, start, tree_of, has}
use Rattle.regexp.proofs.Told.{Told, told}

-- the text of the pieces so far, of the branches so far, and of all that is open
abbrev Pieces : List Tree → ℕ → List ℕ → Type 0
Pieces [] k s = s ≡ []
Pieces (t ∷ ps) k s = (a : List ℕ) × (b : List ℕ) × Pieces ps k a × Piece k b t × (a ++ b ≡ s)

abbrev Bars : List Tree → ℕ → List ℕ → Type 0
Bars [] k s = s ≡ []
Bars (t ∷ bs) k s = (a : List ℕ) × (b : List ℕ) × Bars bs k a × Branch k b t × (a ++ (b ++ (124 ∷ [])) ≡ s)

abbrev Opened : List Frame → ℕ → List Tree → List Tree → List ℕ → Type 0
Opened [] k bs ps s = (k ≡ 8) × (bs ≡ []) × Pieces ps k s
Opened (frame cs qs ∷ out) k bs ps s =
    (a : List ℕ) × (b : List ℕ) × (c : List ℕ) × Opened out (suc k) cs qs a × Bars bs k b × Pieces ps k c × (a ++ (40 ∷ (b ++ c)) ≡ s)

abbrev Explains : List ℕ → Now → Type 0
Explains w (goes z (spot k bs ps out)) = (s : List ℕ) × Opened out k bs ps s × (s ++ z ≡ w)
Explains w stuck = Unit {0}

pieces_branch : (ps : List Tree) (k : ℕ) (s : List ℕ) {r : List ℕ} {u : Tree} → Pieces ps k s → Branch k r u → Branch k (s ++ r) (sequence u ps)
pieces_branch [] k s {r} h b = rw h b
pieces_branch (t ∷ ps) k s {r} h b =
    let e : h.0 ++ (h.1 ++ r) ≡ s ++ r = sym (append_assoc h.0 h.1 r) ∙ ap (λ (l : List ℕ). l ++ r) h.4 in
    (rw e at (pieces_branch ps k h.0 h.2 (then h.3 b refl)))

whole_branch : (t : Tree) (ps : List Tree) (k : ℕ) (s : List ℕ) → Pieces (t ∷ ps) k s → Branch k s (sequence t ps)
whole_branch t ps k s h = (rw h.4 at (pieces_branch ps k h.0 h.2 (last h.3)))

bars_choice : (bs : List Tree) (k : ℕ) (s : List ℕ) {r : List ℕ} {u : Tree} → Bars bs k s → Alternatives k r u → Alternatives k (s ++ r) (choice u bs)
bars_choice [] k s {r} h b = rw h b
bars_choice (t ∷ bs) k s {r} h b =
    let e : h.0 ++ (h.1 ++ (124 ∷ r)) ≡ s ++ r =
    ap (λ (l : List ℕ). h.0 ++ l) (sym (append_assoc h.1 (124 ∷ []) r)) ∙ sym (append_assoc h.0 (h.1 ++ (124 ∷ [])) r) ∙ ap (λ (l : List ℕ). l ++ r) h.4 in
    (rw e at (bars_choice bs k h.0 h.2 (either h.3 b refl)))

-- one piece more
add : (out : List Frame) (k : ℕ) (bs ps : List Tree) (s b : List ℕ) (t : Tree) → Opened out k bs ps s → Piece k b t → Opened out k bs (t ∷ ps) (s ++ b)
add [] k bs ps s b t h p = (h.0, h.1, (s, b, h.2, p, refl))
add (frame cs qs ∷ out) k bs ps s b t h p = (
  h.0,
  h.1,
  h.2 ++ b,
  h.3,
  h.4,
  (h.2, b, h.5, p, refl),
  ap (λ (l : List ℕ). h.0 ++ (40 ∷ l)) (sym (append_assoc h.1 h.2 b)) ∙ sym (append_assoc h.0 (40 ∷ (h.1 ++ h.2)) b) ∙ ap (λ (l : List ℕ). l ++ b) h.6,
)

-- a repeat mark more
mark_pieces : (m : Mark) (t : Tree) (ps : List Tree) (k : ℕ) (s : List ℕ) → Pieces (t ∷ ps) k s → Pieces (repeat m t ∷ ps) k (s ++ (byte_of m ∷ []))
mark_pieces m t ps k s h =
    (h.0, h.1 ++ (byte_of m ∷ []), h.2, marked m h.3 refl, sym (append_assoc h.0 h.1 (byte_of m ∷ [])) ∙ ap (λ (l : List ℕ). l ++ (byte_of m ∷ [])) h.4)

-- one byte more, inside the innermost group
later : (a b c s : List ℕ) (x : ℕ) → a ++ (40 ∷ (b ++ c)) ≡ s → a ++ (40 ∷ (b ++ (c ++ (x ∷ [])))) ≡ s ++ (x ∷ [])
later a b c s x e = ap (λ (l : List ℕ). a ++ (40 ∷ l)) (sym (append_assoc b c (x ∷ []))) ∙ sym (append_assoc a (40 ∷ (b ++ c)) (x ∷ [])) ∙ ap (λ (l : List ℕ). l ++ (x ∷ [])) e

mark_opened : (out : List Frame) (k : ℕ) (bs : List Tree) (m : Mark) (t : Tree) (ps : List Tree) (s : List ℕ) → Opened out k bs (t ∷ ps) s → Opened out k bs (repeat m t ∷ ps) (s ++ (byte_of m ∷ []))
mark_opened [] k bs m t ps s h = (h.0, h.1, mark_pieces m t ps k s h.2)
mark_opened (frame cs qs ∷ out) k bs m t ps s h =
    (h.0, h.1, h.2 ++ (byte_of m ∷ []), h.3, h.4, mark_pieces m t ps k h.2 h.5, later h.0 h.1 h.2 s (byte_of m) h.6)

behind : (s : List ℕ) (x : ℕ) (r z w : List ℕ) → x ∷ r ≡ z → s ++ z ≡ w → (s ++ (x ∷ [])) ++ r ≡ w
behind s x r z w e f = append_assoc s (x ∷ []) r ∙ ap (λ (l : List ℕ). s ++ l) e ∙ f

module _ (w z s : List ℕ) (q : s ++ z ≡ w) where
  explain : (v : Word) → Told z v → (k : ℕ) (bs ps : List Tree) (out : List Frame) → Opened out k bs ps s → Explains w (next v (spot k bs ps out))
  explain (item a r) h k bs ps out o = (s ++ h.0, add out k bs ps s h.0 (one a) o (single h.1), append_assoc s h.0 r ∙ ap (λ (l : List ℕ). s ++ l) h.2 ∙ q)
  explain (repeats m r) h k bs [] out o = tt
  explain (repeats m r) h k bs (t ∷ ps) out o = (s ++ (byte_of m ∷ []), mark_opened out k bs m t ps s o, behind s (byte_of m) r z w h q)
  explain (opening r) h zero bs ps out o = tt
  explain (opening r) h (suc k) bs ps out o = (s ++ (40 ∷ []), (s, [], [], o, refl, refl, refl), behind s 40 r z w h q)
  explain (bars r) h k bs ps [] o = tt
  explain (bars r) h k bs [] (f ∷ out) o = tt
  explain (bars r) h k bs (t ∷ ps) (frame cs qs ∷ out) o = (
    s ++ (124 ∷ []),
    (
      o.0,
      o.1 ++ (o.2 ++ (124 ∷ [])),
      [],
      o.3,
      (o.1, o.2, o.4, whole_branch t ps k o.2 o.5, refl),
      refl,
      ap (λ (l : List ℕ). o.0 ++ (40 ∷ l)) (append-nil (o.1 ++ (o.2 ++ (124 ∷ [])))) ∙ later o.0 o.1 o.2 s 124 o.6,
    ),
    behind s 124 r z w h q,
  )
  explain (closing r) h k bs ps [] o = tt
  explain (closing r) h k bs [] (f ∷ out) o = tt
  explain (closing r) h k bs (t ∷ ps) (frame cs qs ∷ out) o =
      let a = bars_choice bs k o.1 o.4 (only (whole_branch t ps k o.2 o.5)) in
      let p : Piece (suc k) (40 ∷ ((o.1 ++ o.2) ++ (41 ∷ []))) (group (choice (sequence t ps) bs)) = grouped a refl in
      let y = add out (suc k) cs qs o.0 (40 ∷ ((o.1 ++ o.2) ++ (41 ∷ []))) (group (choice (sequence t ps) bs)) o.3 p in
      let e : o.0 ++ (40 ∷ ((o.1 ++ o.2) ++ (41 ∷ []))) ≡ s ++ (41 ∷ []) = sym (append_assoc o.0 (40 ∷ (o.1 ++ o.2)) (41 ∷ [])) ∙ ap (λ (l : List ℕ). l ++ (41 ∷ [])) o.6 in
      (s ++ (41 ∷ []), rw e at y, behind s 41 r z w h q)
  explain stops h k bs ps out o = tt
  explain none h k bs ps out o = tt

explain_on : (w : List ℕ) (x : Now) → Explains w x → Explains w (advance x)
explain_on w (goes z (spot k bs ps out)) h = explain w z h.0 h.2 (word_of z) (told z) k bs ps out h.1
explain_on w stuck h = tt

explain_all : (w : List ℕ) {x y : Now} → Steps x y → Explains w x → Explains w y
explain_all w (here e) h = rw e at h
explain_all w (there {x = x} e p) h = explain_all w p (rw e at (explain_on w x h))

body_of : (k : ℕ) (ps : List Tree) (s : List ℕ) → k ≡ 8 → Pieces ps k s → Body s (has ps) (tree_of ps)
body_of k [] s e h = rw h nothing
body_of k (t ∷ ps) s e h = something (rw e at (whole_branch t ps k s h))

pub read_body : {w r : List ℕ} {k : ℕ} {bs ps : List Tree} → Steps (goes w start) (goes r (spot k bs ps [])) → (s : List ℕ) × Body s (has ps) (tree_of ps) × (s ++ r ≡ w)
read_body {w} {r} {k} {bs} {ps} p =
    let h = explain_all w p ([], (refl, refl, refl), refl) in
    (h.0, body_of k ps h.0 h.1.0 h.1.2, h.2)

-- outside all groups no branch is kept
pub base : {w z : List ℕ} {k : ℕ} {bs ps : List Tree} → Steps (goes w start) (goes z (spot k bs ps [])) → bs ≡ []
base {w} p = let h = explain_all w p ([], (refl, refl, refl), refl) in h.1.1
