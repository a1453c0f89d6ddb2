-- The steps of the search by borders, and what it finds. Assumes nothing.
use mathlib.Core.Path.{◌≡◌, refl, sym, ap, ◌∙◌}
use mathlib.Core.Bool.{Bool, true, false}
use mathlib.Core.List.{List, [], ◌∷◌, ◌++◌}
use Prim.Native.Nat.{ℕ, suc, ◌+◌, ◌-◌, ◌≤◌, ◌<◌}
use native.Mathlib.Decide.{dec_lt}
use native.Mathlib.Omega.{arith}
use mir.Syntax.{w16, w64}
use mir.Val.{Fits}
use lib.ListN.{length, get_or, take, drop, set, length-append, length-drop, length-map, take-append-drop, get_or-append, get_or-map}
use lib.Seq.{get_or-append-add, get_or-drop, get_or-set_same, get_or-set_other}
use borrow.Author.Tests.{eq-eqb}
use Rattle.octets.specs.Octets.{fold, folded, begins_of, contains_of}
use Rattle.octets.specs.Borders.{Agrees, Longest, Border, Borders}
use Rattle.octets.proofs.Theorems.{begins, contains}

-- before the first byte
pub begun : (t p : List ℕ) (e i : ℕ) → Longest i t p e i 0
begun t p e i =
    record { fits = omega arith; here = λ x j q l h. absurd (omega arith); none = λ h a b g. absurd (omega arith) }

module _ (from : ℕ) (t p : List ℕ) (i : ℕ) where
  pub later : (k : ℕ) → Longest from t p (i + 1) (i + 1) k → Longest from t p (i + 1 + 1) (i + 1) k
  later k s =
      record { fits = s.fits; here = s.here; none = λ h a b g. s.none h a b (λ x j q l r. g x j q l (omega arith)) }

  -- the next byte goes on
  pub matched : (k : ℕ) → Longest from t p (i + 1) i k → get_or t i 0 ≡ get_or p k 0 → Longest from t p (i + 1) (i + 1) (k + 1)
  matched k s eq =
      record {
        fits = omega (arith, s.fits);
        here = λ x j q l h. go x j q l h (dec_lt x i);
        none = λ h a b g. s.none h a (omega (arith, s.fits)) g;
      }
    where
      go : (x j : ℕ) → x ≡ i + 1 - (k + 1) + j → j < length p → x < i + 1 → Dec (x < i) → get_or t x 0 ≡ get_or p j 0
      go x j q l h (yes d) = s.here x j (omega arith) l d
      go x j q l h (no d) =
          let a : x ≡ i = omega arith in
          let b : j ≡ k = omega (arith, s.fits) in
          rw (a, b) eq

  module _ (k : ℕ) (s : Longest from t p (i + 1) i k) (l : k < length p) (ne : get_or t i 0 ≡ get_or p k 0 → ⊥) where
    -- no byte is matched, and the next is another
    pub missed : k ≡ 0 → Longest from t p (i + 1) (i + 1) k
    missed z =
        record {
          fits = omega (arith, s.fits);
          here = λ x j q m h. absurd (omega arith);
          none = λ h a b g. go h a b g (dec_lt h i);
        }
      where
        go : (h : ℕ) → from ≤ h → h < i + 1 - k → Agrees t p h (i + 1) → Dec (h < i) → ⊥
        go h a b g (yes d) = s.none h a (omega arith) g
        go h a b g (no d) = ne (g i k (omega arith) l (omega arith))

    -- the next byte is another: the matched ones fall to their border, and no place is passed over where p could stand
    pub fallen : (b : ℕ) → Border p k b → Longest from t p (i + 1) i b
    fallen b r =
        record {
          fits = omega (arith, s.fits, r.fits);
          here = λ x j q m h. s.here x (k - b + j) (omega (arith, s.fits, r.fits)) (omega (arith, s.fits, r.fits)) h
              ∙ r.here (k - b + j) j refl m (omega (arith, s.fits, r.fits));
          none = λ h a u g. go h a u g (dec_lt h (i - k)) (dec_lt (i - k) h);
        }
      where
        go : (h : ℕ) → from ≤ h → h < i - b → Agrees t p h (i + 1) → Dec (h < i - k) → Dec (i - k < h) → ⊥
        go h a u g (yes d) e = s.none h a d g
        go h a u g (no d) (yes e) =
            r.none (h - (i - k)) (omega arith) (omega (arith, s.fits, r.fits))
            (λ x j q m v.
            sym (s.here (i - k + x) x refl (omega (arith, s.fits)) (omega (arith, s.fits)))
            ∙ g (i - k + x) j (omega (arith, s.fits)) m (omega (arith, s.fits)))
        go h a u g (no d) (no e) = ne (g i k (omega (arith, s.fits)) l (omega arith))

-- the list of borders: a number of it, a border of it, and one border more
pub widens : {x : ℕ} → Fits w16 x → Fits w64 x
widens h = omega arith

pub border_at : (p bs : List ℕ) (n k : ℕ) → Borders p bs n → 0 < k → k ≤ n → Border p k (get_or bs (k - 1) 0)
border_at p bs n k f z l =
    let e : k - 1 + 1 ≡ k = omega arith in
    (rw e at (f (k - 1) (omega arith)))

pub border_more : (p bs : List ℕ) (n b : ℕ) → Borders p bs n → n < length bs → Border p (n + 1) b → Borders p (set bs n b) (n + 1)
border_more p bs n b f l r i h = go (dec_lt i n)
  where
    go : Dec (i < n) → Border p (i + 1) (get_or (set bs n b) i 0)
    go (yes d) = rw (get_or-set_other bs n i b 0 (λ q. omega arith)) (f i d)
    go (no d) =
        let q : i ≡ n = omega arith in
        rw (q, get_or-set_same bs n b 0 l) r

-- what the search finds
begins_by : (s p : List ℕ) → length p ≤ length s → ((j : ℕ) → j < length p → get_or s j 0 ≡ get_or p j 0) → begins_of s p ≡ true
begins_by [] [] l f = refl
begins_by (x ∷ xs) [] l f = refl
begins_by [] (y ∷ ys) l f = absurd (omega arith)
begins_by (x ∷ xs) (y ∷ ys) l f =
    rw (eq-eqb x y (f 0 (omega arith))) (begins_by xs ys (omega arith) (λ j h. f (suc j) (omega arith)))

pub whole : (t p : List ℕ) (e i k : ℕ) → Longest 0 t p e i k → k ≡ length p → i ≤ length t → true ≡ contains_of t p
whole t p e i k s q l =
    let b : begins_of (drop (i - k) t) p ≡ true =
    begins_by (drop (i - k) t) p (simp length-drop (omega (arith, s.fits)))
    (λ j h. get_or-drop (i - k) t j 0 ∙ s.here (i - k + j) j refl h (omega (arith, s.fits))) in
    let r = (begins (drop (i - k) t) p).0 b in
    sym ((contains t p).1 (take (i - k) t, r.0, sym (take-append-drop (i - k) t) ∙ ap (λ (l : List ℕ). take (i - k) t ++ l) r.1))

pub nowhere : (t p : List ℕ) (e i k : ℕ) → Longest 0 t p e i k → k < length p → length t ≤ i → false ≡ contains_of t p
nowhere t p e i k s l n = go (contains_of t p) refl
  where
    never : (a b : List ℕ) → t ≡ a ++ (p ++ b) → ⊥
    never a b q =
        let m : length t ≡ length a + (length p + length b) = ap length q ∙ simp length-append in
        s.none (length a) (omega arith) (omega (arith, s.fits))
        (λ x j y h v.
        ap (λ (l : List ℕ). get_or l x 0) q ∙ ap (λ (z : ℕ). get_or (a ++ (p ++ b)) z 0) y
        ∙ get_or-append-add a (p ++ b) j 0 ∙ get_or-append p b 0 j h)

    go : (b : Bool) → contains_of t p ≡ b → false ≡ b
    go false q = refl
    go true q = let r = (contains t p).0 q in absurd (never r.0 r.1 r.2)

-- the steps with each byte under its mark
fold_zero : (m : Bool) → fold m 0 ≡ 0
fold_zero true = refl
fold_zero false = refl

folded_at : (m : Bool) (s : List ℕ) (i : ℕ) → get_or (folded m s) i 0 ≡ fold m (get_or s i 0)
folded_at m s i = (rw (fold_zero m) at (get_or-map (fold m) s i 0))

module _ (from : ℕ) (m n : Bool) (s p : List ℕ) (i k : ℕ) (now : Longest from (folded m s) (folded n p) (i + 1) i k) where
  pub goes_on : fold m (get_or s i 0) ≡ fold n (get_or p k 0) → Longest from (folded m s) (folded n p) (i + 1) (i + 1) (k + 1)
  goes_on q = matched from (folded m s) (folded n p) i k now (folded_at m s i ∙ q ∙ sym (folded_at n p k))

  module _ (l : k < length p) (ne : fold m (get_or s i 0) ≡ fold n (get_or p k 0) → ⊥) where
    pub begins_anew : k ≡ 0 → Longest from (folded m s) (folded n p) (i + 1) (i + 1) k
    begins_anew =
        missed from (folded m s) (folded n p) i k now (rw (length-map p (fold n)) l)
        (λ q. ne (sym (folded_at m s i) ∙ q ∙ folded_at n p k))

    pub falls : (b : ℕ) → Border (folded n p) k b → Longest from (folded m s) (folded n p) (i + 1) i b
    falls =
        fallen from (folded m s) (folded n p) i k now (rw (length-map p (fold n)) l)
        (λ q. ne (sym (folded_at m s i) ∙ q ∙ folded_at n p k))
