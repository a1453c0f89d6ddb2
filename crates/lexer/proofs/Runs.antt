-- Steps and ends of the loops over runs: what the rest gives from a place on is what the whole gives. Assumes nothing.
use mathlib.Core.Path.{◌≡◌, refl, sym, ap, ◌∙◌}
use mathlib.Core.Bool.{Bool, true, false, not, ◌&&◌, and-false, and_assoc}
use mathlib.Core.List.{List, [], ◌∷◌, ◌++◌, append-nil}
use Prim.Native.Nat.{ℕ, zero, suc, ◌+◌, ◌-◌, ◌≤◌, ◌<◌}
use native.Mathlib.Nat.{add-zero}
use native.Mathlib.Numerals.{add-one}
use native.Mathlib.Omega.{arith}
use lib.Dec.{eqb}
use lib.ListN.{length, get_or, take, drop, set, drop_of_length-le, length-drop, length-append}
use lib.Seq.{length-take-le, take-suc, drop-cons, append_snoc, drop-drop, get_or-drop, sets, set-set, set_comm, take-append_seam}
use borrow.Author.Tests.{ne_eqb, eqb-true, eqb-false}
use Rattle.octets.specs.Octets.{folded, same_of, begins_of}
use Rattle.octets.proofs.Theorems.{and_parts, not_folded}
use Rattle.lexer.specs.Byte.{is, is_common}
use Rattle.lexer.specs.Run.{takes, ends, run_from, unescaped, Free, has_escape, legal_byte, legal_name, Passes, GoesOn, all_common, is_empty}
use Rattle.lexer.proofs.Bytes.{common_ends_none, common_takes_none, common_plain}

pub ends_quote : (q b : ℕ) → (q ≡ 0 → ⊥) → eqb b q ≡ ends q b
ends_quote zero b f = absurd (f refl)
ends_quote (suc q) b f = refl

-- a run
module _ (s : List ℕ) (i : ℕ) where
  module _ (h : i < length s) where
    pub run_stop : (q : ℕ) (t : Bool) → (not t && ends q (get_or s i 0)) ≡ true → length (run_from q t (drop i s)) ≡ 0
    run_stop q t e = rw (drop-cons s i 0 h, e)

    pub run_more : (q : ℕ) (t : Bool) → (not t && ends q (get_or s i 0)) ≡ false
        → suc (length (run_from q (takes t (get_or s i 0)) (drop (i + 1) s))) ≡ length (run_from q t (drop i s))
    run_more q t e = rw (add-one, drop-cons s i 0 h, e)

    -- the run without escapes
    pub plain_stop : (q : ℕ) (t : Bool) → (not t && ends q (get_or s i 0)) ≡ true → unescaped t (run_from q t (drop i s)) ≡ []
    plain_stop q t e = rw (drop-cons s i 0 h, e)

    module _ (q : ℕ) (t : Bool) (e : (not t && ends q (get_or s i 0)) ≡ false) where
      pub dropped : takes t (get_or s i 0) ≡ true → unescaped true (run_from q true (drop (i + 1) s)) ≡ unescaped t (run_from q t (drop i s))
      dropped f = rw (add-one, drop-cons s i 0 h, e, f)

      pub kept : takes t (get_or s i 0) ≡ false → get_or s i 0 ∷ unescaped false (run_from q false (drop (i + 1) s)) ≡ unescaped t (run_from q t (drop i s))
      kept f = rw (add-one, drop-cons s i 0 h, e, f)

      pub copied : (p part : List ℕ) (n : ℕ) → takes t (get_or s i 0) ≡ false → p ≡ set part n (get_or s i 0)
          → sets p (n + 1) (unescaped false (run_from q false (drop (i + 1) s))) ≡ sets part n (unescaped t (run_from q t (drop i s)))
      copied p part n f g = rw (← kept f, g, add-one n)

      -- the bytes of a name
      pub legal-so-far : (l u : Bool) → takes t (get_or s i 0) ≡ u
          → (l && legal_byte t (get_or s i 0)) && legal_name u (run_from q u (drop (i + 1) s)) ≡ l && legal_name t (run_from q t (drop i s))
      legal-so-far l u f = and_assoc l (legal_byte t (get_or s i 0)) (legal_name u (run_from q u (drop (i + 1) s))) ∙ rw (add-one, drop-cons s i 0 h, e, f)

    -- a byte that ends nothing and takes nothing
    pub free_more : (q : ℕ) → ends q (get_or s i 0) ≡ false → (get_or s i 0 ≡ 92 → ⊥) → Free q s i → Free q s (i + 1)
    free_more q e f g = let k = kept q false e (ne_eqb (get_or s i 0) 92 f) in (omega arith, omega (arith, ap length k, g.1))

    pub passes_on : (q : ℕ) → ends q (get_or s i 0) ≡ false → eqb (get_or s i 0) 92 ≡ false → Passes q s i → Passes q s (i + 1)
    passes_on q e f p =
        let b = get_or s i 0 in
        let more = unescaped false (run_from q false (drop (i + 1) s)) in
        let m = rw f at (run_more q false e) in
        let z : take (i + 1) s ≡ take i s ++ (b ∷ []) = rw (add-one i) (take-suc s i 0 h) in (
          omega arith,
          omega (arith, m, p.1),
          ap (λ (l : List ℕ). l ++ more) z ∙ append_snoc (take i s) b more ∙ ap (λ (l : List ℕ). take i s ++ l) (kept q false e f) ∙ p.2,
        )

    -- a common byte of a name
    pub goes_on : is_common (get_or s i 0) ≡ true → GoesOn s i → GoesOn s (i + 1)
    goes_on e g =
        let b = get_or s i 0 in
        let d : (not false && ends 0 b) ≡ false = common_ends_none b e in
        let t : takes false b ≡ false = common_takes_none b e in
        let l = rw (common_plain b e) at (legal-so-far 0 false d true false t) in
        (passes_on 0 d t g.0, l ∙ g.1)

    pub legal_stop : (q : ℕ) (t : Bool) → (not t && ends q (get_or s i 0)) ≡ true → legal_name t (run_from q t (drop i s)) ≡ not t
    legal_stop q t e = rw (drop-cons s i 0 h, e)

  module _ (h : length s ≤ i) where
    pub run_end : (q : ℕ) (t : Bool) → length (run_from q t (drop i s)) ≡ 0
    run_end q t = rw (drop_of_length-le s h)

    pub plain_end : (q : ℕ) (t : Bool) → unescaped t (run_from q t (drop i s)) ≡ []
    plain_end q t = rw (drop_of_length-le s h)

    pub legal_end : (q : ℕ) (t : Bool) → legal_name t (run_from q t (drop i s)) ≡ not t
    legal_end q t = rw (drop_of_length-le s h)

-- A text from a place on: the byte there, what stands after more bytes, and a byte there.
pub byte_here : (s : List ℕ) (at : ℕ) → get_or (drop at s) 0 0 ≡ get_or s at 0
byte_here s at = get_or-drop at s 0 0 ∙ ap (λ (k : ℕ). get_or s k 0) (add-zero at)

module _ (s : List ℕ) (at i : ℕ) (h : at ≤ i) where
  between : at + (i - at) ≡ i
  between = omega arith

  pub rest_later : drop (i - at) (drop at s) ≡ drop i s
  rest_later = drop-drop (i - at) at s ∙ ap (λ (k : ℕ). drop k s) between

  pub byte_later : get_or (drop at s) (i - at) 0 ≡ get_or s i 0
  byte_later = get_or-drop at s (i - at) 0 ∙ ap (λ (k : ℕ). get_or s k 0) between

  pub goes_on_at : i < length s → is_common (get_or s i 0) ≡ true → GoesOn (drop at s) (i - at) → GoesOn (drop at s) (i + 1 - at)
  goes_on_at l e g =
      let z : i - at + 1 ≡ i + 1 - at = omega arith in
      let b : i - at < length (drop at s) = simp length-drop (omega arith) in
      rw (← z) (goes_on (drop at s) (i - at) b (ap is_common byte_later ∙ e) g)

  pub passes_on_at : (q : ℕ) → i < length s → ends q (get_or s i 0) ≡ false → eqb (get_or s i 0) 92 ≡ false → Passes q (drop at s) (i - at) → Passes q (drop at s) (i + 1 - at)
  passes_on_at q l e f p =
      let z : i - at + 1 ≡ i + 1 - at = omega arith in
      let b : i - at < length (drop at s) = simp length-drop (omega arith) in
      rw (← z) (passes_on (drop at s) (i - at) b q (ap (ends q) byte_later ∙ e) (ap (λ (b : ℕ). eqb b 92) byte_later ∙ f) p)

pub passes_first : (q : ℕ) (s : List ℕ) → Passes q s 0
passes_first q s = (omega arith, omega arith, refl)

-- how many bytes there are without escapes
pub passes_length : (q : ℕ) (s : List ℕ) (n : ℕ) → Passes q s n → n + length (unescaped false (run_from q false (drop n s))) ≡ length (unescaped false (run_from q false s))
passes_length q s n p =
    omega (arith, ap length p.2, length-append (take n s) (unescaped false (run_from q false (drop n s))), length-take-le n s p.0)

-- where nothing of a run is left
pub none_left : (l : List ℕ) → length l ≡ 0 → l ≡ []
none_left [] e = refl
none_left (b ∷ l) e = absurd (omega arith)

pub empty : (l : List ℕ) → is_empty l ≡ true → length l ≡ 0
empty l e = eqb-true (length l) 0 e

pub passes_all : (q : ℕ) (s : List ℕ) (n : ℕ) → Passes q s n → length (run_from q false (drop n s)) ≡ 0
    → (n ≡ length (run_from q false s)) × (take n s ≡ unescaped false (run_from q false s)) × (n ≡ length (unescaped false (run_from q false s)))
passes_all q s n p e =
    let z = none_left (run_from q false (drop n s)) e in
    let h = rw z at p.2 in
    let u = rw z at (passes_length q s n p) in
    (omega (arith, e, p.1), sym (append-nil (take n s)) ∙ h, omega (arith, u))

pub ended_name : (s : List ℕ) (n : ℕ) → GoesOn s n → is_empty (run_from 0 false (drop n s)) ≡ true
    → (n ≡ length (run_from 0 false s)) × (n ≡ length (unescaped false (run_from 0 false s))) × (legal_name false (run_from 0 false s) ≡ true)
ended_name s n g e =
    let l = empty (run_from 0 false (drop n s)) e in
    let w = passes_all 0 s n g.0 l in
    let z = none_left (run_from 0 false (drop n s)) l in
    let h = rw z at g.1 in
    (w.0, w.2, sym h)

-- what stands first
abbrev pub First : List ℕ → List ℕ → Type 0
First p s = p ++ drop (length p) s ≡ s

pub first_take : (p s : List ℕ) → First p s → take (length p) s ≡ p
first_take p s e = ap (take (length p)) (sym e) ∙ take-append_seam p (drop (length p) s)

-- the part that a range names
pub first_part : (p s : List ℕ) (n : ℕ) → First p s → n ≡ length p → take (n - 0) s ≡ p
first_part p s n f e = let z : n - 0 ≡ length p = omega arith in rw z (first_take p s f)

pub first_fits : (p s : List ℕ) → First p s → length p ≤ length s
first_fits p s e = omega (arith, ap length e, length-append p (drop (length p) s))

pub run_first : (q : ℕ) (t : Bool) (s : List ℕ) → First (run_from q t s) s
run_first q t [] = refl
run_first q t (b ∷ s) = go (run_first q (takes t b) s) (not t && ends q b) refl
  where
    go : First (run_from q (takes t b) s) s → (e : Bool) → (not t && ends q b) ≡ e → First (run_from q t (b ∷ s)) (b ∷ s)
    go ih true e = rw e
    go ih false e = rw e (ap (λ (l : List ℕ). b ∷ l) ih)

-- a word whose first byte is not the one that stands first
first_other : (s word : List ℕ) → 0 < length word → (get_or s 0 0 ≡ get_or word 0 0 → ⊥)
    → false ≡ (not (has_escape (run_from 0 false s)) && same_of (unescaped false (run_from 0 false s)) word)
first_other s [] h n = absurd (omega arith)
first_other [] (w ∷ ws) h n = refl
first_other (b ∷ s) (w ∷ ws) h n = go (ends 0 b) (is "\\" b) refl refl
  where
    go : (d e : Bool) → ends 0 b ≡ d → is "\\" b ≡ e → false ≡ (not (has_escape (run_from 0 false (b ∷ s))) && same_of (unescaped false (run_from 0 false (b ∷ s))) (w ∷ ws))
    go true e f g = rw f
    go false true f g = rw (f, g)
    go false false f g = rw (f, g, ne_eqb b w n) (sym (and-false (not (has_escape (run_from 0 false s)))))

-- a word of bytes that most names have: it is the name where its bytes stand and nothing of a name after them
word_there : (s word : List ℕ) → all_common word ≡ true
    → (is_empty (run_from 0 false (drop (length word) s)) && begins_of s word) ≡ (not (has_escape (run_from 0 false s)) && same_of (unescaped false (run_from 0 false s)) word)
word_there s [] e = rw (begins_none s) (left (run_from 0 false s))
  where
    begins_none : (s : List ℕ) → begins_of s [] ≡ true
    begins_none [] = refl
    begins_none (b ∷ s) = refl

    left : (r : List ℕ) → (is_empty r && true) ≡ (not (has_escape r) && same_of (unescaped false r) [])
    left [] = refl
    left (b ∷ r) = rw (ne_eqb (length (b ∷ r)) 0 (λ z. omega arith)) (go (is "\\" b) refl)
      where
        go : (x : Bool) → is "\\" b ≡ x → false ≡ (not (has_escape (b ∷ r)) && same_of (unescaped false (b ∷ r)) [])
        go true f = rw f
        go false f = rw f (sym (and-false (not (has_escape r))))
word_there [] (w ∷ ws) e = refl
word_there (b ∷ s) (w ∷ ws) e = let p = and_parts (is_common w) (all_common ws) e in go (word_there s ws p.1) p.0 (eqb b w) refl
  where
    go : (is_empty (run_from 0 false (drop (length ws) s)) && begins_of s ws) ≡ (not (has_escape (run_from 0 false s)) && same_of (unescaped false (run_from 0 false s)) ws)
        → is_common w ≡ true → (x : Bool) → eqb b w ≡ x
        → (is_empty (run_from 0 false (drop (length ws) s)) && begins_of (b ∷ s) (w ∷ ws))
        ≡ (not (has_escape (run_from 0 false (b ∷ s))) && same_of (unescaped false (run_from 0 false (b ∷ s))) (w ∷ ws))
    go ih c true f =
        let z : is_common b ≡ true = ap is_common (eqb-true b w f) ∙ c in
        rw (common_ends_none b z, common_takes_none b z, f) ih
    go ih c false f = (rw f (and-false (is_empty (run_from 0 false (drop (length ws) s))))) ∙ first_other (b ∷ s) (w ∷ ws) (omega arith) (eqb-false b w f)

module _ (s word : List ℕ) (e : all_common word ≡ true) where
  pub word_begins : is_empty (run_from 0 false (drop (length word) s)) ≡ true
      → begins_of (folded false s) (folded false word) ≡ (not (has_escape (run_from 0 false s)) && same_of (unescaped false (run_from 0 false s)) word)
  word_begins f = rw (not_folded s, not_folded word) (rw f at (word_there s word e))

  pub word_goes_on : is_empty (run_from 0 false (drop (length word) s)) ≡ false
      → false ≡ (not (has_escape (run_from 0 false s)) && same_of (unescaped false (run_from 0 false s)) word)
  word_goes_on f = rw f at (word_there s word e)

-- ---- what stands first, stored in a part

sets_snoc : (p : List ℕ) (i : ℕ) (xs : List ℕ) (b : ℕ) → sets p i (xs ++ (b ∷ [])) ≡ set (sets p i xs) (i + length xs) b
sets_snoc p i [] b = let z : i ≡ i + 0 = omega arith in ap (λ (k : ℕ). set p k b) z
sets_snoc p i (x ∷ xs) b = let z : suc i + length xs ≡ i + suc (length xs) = omega arith in sets_snoc (set p i x) (suc i) xs b ∙ ap (λ (k : ℕ). set (sets (set p i x) (suc i) xs) k b) z

pub stored_on : (p s : List ℕ) (i : ℕ) → i < length s → set (sets p 0 (take i s)) i (get_or s i 0) ≡ sets p 0 (take (i + 1) s)
stored_on p s i h =
    let z : 0 + length (take i s) ≡ i = omega (arith, length-take-le i s (omega arith)) in
    ap (λ (k : ℕ). set (sets p 0 (take i s)) k (get_or s i 0)) (sym z)
    ∙ sym (sets_snoc p 0 (take i s) (get_or s i 0))
    ∙ ap (sets p 0) (sym (take-suc s i 0 h) ∙ ap (λ (k : ℕ). take k s) (sym (add-one i)))

-- a store before others, and others that start as those before them
sets_under : (p : List ℕ) (i j x : ℕ) (xs : List ℕ) → i < j → set (sets p j xs) i x ≡ sets (set p i x) j xs
sets_under p i j x [] h = refl
sets_under p i j x (y ∷ xs) h =
    sets_under (set p j y) i (suc j) x xs (omega arith) ∙ ap (λ (l : List ℕ). sets l (suc j) xs) (set_comm p j i y x (λ z. omega arith))

pub stored_again : (p : List ℕ) (i : ℕ) (xs ys : List ℕ) → sets (sets p i xs) i (xs ++ ys) ≡ sets p i (xs ++ ys)
stored_again p i [] ys = refl
stored_again p i (x ∷ xs) ys =
    let q = set p i x in
    let z : set (sets q (suc i) xs) i x ≡ sets q (suc i) xs = sets_under q i (suc i) x xs (omega arith) ∙ ap (λ (l : List ℕ). sets l (suc i) xs) (set-set p i x x) in
    ap (λ (l : List ℕ). sets l (suc i) (xs ++ ys)) z ∙ stored_again q (suc i) xs ys
