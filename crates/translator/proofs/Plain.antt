-- Operands that the text spells as the table has them: names and strings without an escape, and integers of a few decimal digits. Assumes nothing.
use Prim.Native.Nat.{ℕ, zero, suc, ◌+◌, ◌-◌, ◌*◌, ◌^◌, ◌≤◌, ◌<◌}
use native.Mathlib.Decide.{dec_lt, ℕ_discrete}
use native.Mathlib.Numerals.{add-one}
use native.Mathlib.Omega.{arith}
use mathlib.Core.Path.{◌≡◌, refl, sym, ap, ap₂, ◌∙◌}
use mathlib.Core.Bool.{Bool, true, false, not, ◌&&◌, ◌||◌}
use mathlib.Core.List.{List, [], ◌∷◌}
use lib.Dec.{eqb, leb, ltb}
use lib.ListN.{length, get_or, take, drop, drop_of_length-le}
use lib.Seq.{drop-cons, drop-drop, get_or-drop}
use borrow.Author.Tests.{eqb-true, eqb-false, eq-eqb, ne_eqb, ltb-true, ltb-false, lt-ltb, leb-false, le-leb, lt-leb}
use mir.Syntax.{w64}
use mir.Val.{of_z}
use Rattle.common.proofs.Choice.{false_true}
use Rattle.number.specs.Integer.{signed_of}
use Rattle.lexer.specs.Byte.{within, is_delimiter, is_digit_in, digit_of}
use Rattle.lexer.specs.Run.{takes, ends, run_from, unescaped}
use Rattle.lexer.specs.Digits.{digits_of, whole_from, whole_of}
use Rattle.lexer.specs.Integer.{integer_of, held}
use Rattle.lexer.specs.Token.{name_at, string_at, integer_at}
use Rattle.lexer.specs.Answer.{Stand}
use Rattle.lexer.proofs.Bytes.{tens, decimal, digit_common, common_ends_none, common_takes_none}
use Rattle.lexer.proofs.Runs.{run_first, first_take}

-- ---- names and strings

-- what stands inside a run and could end it is taken by a backslash
taken_inside : (q : ℕ) (t : Bool) (s : List ℕ) (i : ℕ) → i < length (run_from q t s) → ends q (get_or s i 0) ≡ true → (i ≡ 0 → t ≡ true) × ((j : ℕ) → i ≡ suc j → get_or s j 0 ≡ 92)
taken_inside q t [] i h e = absurd (omega arith)
taken_inside q t (b ∷ s) i h e = go (λ j. taken_inside q (takes t b) s j) (not t && ends q b) refl i h e
  where
    here : (x y : Bool) → (not x && y) ≡ false → y ≡ true → x ≡ true
    here true y f g = refl
    here false y f g = false_true (sym f ∙ g)

    was_taken : (x y : Bool) → (not x && y) ≡ true → y ≡ true
    was_taken true y f = false_true f
    was_taken false y f = f

    go : ((m : ℕ) → m < length (run_from q (takes t b) s) → ends q (get_or s m 0) ≡ true → (m ≡ 0 → takes t b ≡ true) × ((j : ℕ) → m ≡ suc j → get_or s j 0 ≡ 92))
        → (x : Bool) → (not t && ends q b) ≡ x → (i : ℕ) → i < length (run_from q t (b ∷ s)) → ends q (get_or (b ∷ s) i 0) ≡ true → (i ≡ 0 → t ≡ true) × ((j : ℕ) → i ≡ suc j → get_or (b ∷ s) j 0 ≡ 92)
    go ih true f i h e = let g = rw f at h in absurd (omega (arith, g))
    go ih false f zero h e = ((λ z. here t (ends q b) f e), (λ j z. absurd (omega arith)))
    go ih false f (suc i) h e =
        let g = rw f at h in
        let w = ih i (omega (arith, g)) e in
        ((λ z. absurd (omega arith)), before w)
      where
        before : (i ≡ 0 → takes t b ≡ true) × ((j : ℕ) → i ≡ suc j → get_or s j 0 ≡ 92) → (j : ℕ) → suc i ≡ suc j → get_or (b ∷ s) j 0 ≡ 92
        before w zero z = eqb-true b 92 (was_taken t (eqb b 92) (w.0 (omega arith)))
        before w (suc j) z = w.1 j (omega arith)

-- without its escapes a run is not longer, and where it is as long it has none
unescaped_short : (t : Bool) (r : List ℕ) → length (unescaped t r) ≤ length r
unescaped_short t [] = omega arith
unescaped_short t (b ∷ r) = go (takes t b) refl (unescaped_short true r) (unescaped_short false r)
  where
    go : (x : Bool) → takes t b ≡ x → length (unescaped true r) ≤ length r → length (unescaped false r) ≤ length r → length (unescaped t (b ∷ r)) ≤ suc (length r)
    go true f g h = rw f (omega arith)
    go false f g h = rw f (omega arith)

unescaped_same : (t : Bool) (r : List ℕ) → length (unescaped t r) ≡ length r → unescaped t r ≡ r
unescaped_same t [] e = refl
unescaped_same t (b ∷ r) e = go (unescaped_same false r) (takes t b) refl e
  where
    go : (length (unescaped false r) ≡ length r → unescaped false r ≡ r) → (x : Bool) → takes t b ≡ x → length (unescaped t (b ∷ r)) ≡ suc (length r) → unescaped t (b ∷ r) ≡ b ∷ r
    go ih true f g = let h = rw f at g in absurd (omega (arith, h, unescaped_short true r))
    go ih false f g = let h = rw f at g in rw f (ap (λ (l : List ℕ). b ∷ l) (ih (omega (arith, h))))

-- n bytes, after which one stands that ends them, and the last is no backslash
plain_run : (q : ℕ) (s : List ℕ) (n : ℕ) → ends q (get_or s n 0) ≡ true → (0 < n → get_or s (n - 1) 0 ≡ 92 → ⊥) → n ≡ length (unescaped false (run_from q false s)) → take n s ≡ unescaped false (run_from q false s)
plain_run q s n e last en = go (dec_lt n (length (run_from q false s)))
  where
    run : List ℕ
    run = run_from q false s

    go : Dec (n < length run) → take n s ≡ unescaped false run
    go (yes h) =
        let w = taken_inside q false s n h e in
        absurd (inside n refl w)
      where
        inside : (m : ℕ) → n ≡ m → (n ≡ 0 → false ≡ true) × ((j : ℕ) → n ≡ suc j → get_or s j 0 ≡ 92) → ⊥
        inside zero z w = false_true (w.0 z)
        inside (suc j) z w = let k : n - 1 ≡ j = omega arith in last (omega arith) (ap (λ (i : ℕ). get_or s i 0) k ∙ w.1 j z)
    go (no h) =
        let m : n ≡ length run = omega (arith, unescaped_short false run, en) in
        ap (λ (k : ℕ). take k s) m ∙ first_take run s (run_first q false s) ∙ sym (unescaped_same false run (omega (arith, en)))

both_told : (a b : Bool) → (a && b) ≡ true → (a ≡ true) × (b ≡ true)
both_told true b e = (refl, e)
both_told false b e = false_true e

other : (a b : ℕ) → not (eqb a b) ≡ true → a ≡ b → ⊥
other a b e z = let f : not (eqb a b) ≡ false = rw z (go b) in false_true (sym f ∙ e)
  where
    go : (n : ℕ) → not (eqb n n) ≡ false
    go n = rw (eq-eqb n n refl)

-- the test that there are bytes, and one after them, as the code makes it
pub more_after : (n end long : ℕ) → (eqb n 0 || leb long end) ≡ false → (0 < n) × (end < long)
more_after n end long e = go (eqb n 0) (leb long end) refl refl e
  where
    go : (a b : Bool) → eqb n 0 ≡ a → leb long end ≡ b → (a || b) ≡ false → (0 < n) × (end < long)
    go true b p q z = false_true (sym z)
    go false true p q z = false_true (sym z)
    go false false p q z = (some (ℕ_discrete n 0), leb-false long end q)
      where
        some : Dec (n ≡ 0) → 0 < n
        some (yes y) = absurd (eqb-false n 0 p y)
        some (no y) = omega arith

module _ (s : List ℕ) (place n : ℕ) where
  -- the test of a name, as the code makes it
  pub name_stands : {x : Bool} → (0 < n) × (place + n < length s) → (x ≡ true → is_delimiter (get_or s (place + n) 0) ≡ true) → (not (eqb (get_or s (place + n - 1) 0) 92) && x) ≡ true → n ≡ length (name_at s place)
      → Stand s place n (name_at s place)
  name_stands {x} h d e en =
      let p = both_told (not (eqb (get_or s (place + n - 1) 0) 92)) x e in
      let z : place + (n - 1) ≡ place + n - 1 = omega (arith, h.0) in
      let l : get_or (drop place s) (n - 1) 0 ≡ get_or s (place + n - 1) 0 = get_or-drop place s (n - 1) 0 ∙ ap (λ (i : ℕ). get_or s i 0) z in
      (omega (arith, h.1), plain_run 0 (drop place s) n (ap is_delimiter (get_or-drop place s n 0) ∙ d p.1) (λ pos k. other (get_or s (place + n - 1) 0) 92 p.0 (sym l ∙ k)) en)

  -- and of a string
  pub string_stands : {q : ℕ} → q ≡ get_or s place 0 → place + n + 1 < length s → ((not (eqb q 0) && not (eqb (get_or s (place + n) 0) 92)) && eqb (get_or s (place + n + 1) 0) q) ≡ true → n ≡ length (string_at s place)
      → Stand s (place + 1) n (string_at s place)
  string_stands {q} eq h e en =
      let r = both_told (not (eqb q 0) && not (eqb (get_or s (place + n) 0) 92)) (eqb (get_or s (place + n + 1) 0) q) e in
      let p = both_told (not (eqb q 0)) (not (eqb (get_or s (place + n) 0) 92)) r.0 in
      let first : get_or (drop place s) 0 0 ≡ q = let z : place + 0 ≡ place = omega arith in get_or-drop place s 0 0 ∙ ap (λ (i : ℕ). get_or s i 0) z ∙ sym eq in
      let rest : drop 1 (drop place s) ≡ drop (place + 1) s = drop-drop 1 place s in
      let text : string_at s place ≡ unescaped false (run_from q false (drop (place + 1) s)) = ap₂ (λ (a : ℕ) (l : List ℕ). unescaped false (run_from a false l)) first rest in
      let ending : ends q (get_or (drop (place + 1) s) n 0) ≡ true =
      let z : place + 1 + n ≡ place + n + 1 = omega arith in
      quoted q (other q 0 p.0) (get_or (drop (place + 1) s) n 0) (get_or-drop (place + 1) s n 0 ∙ ap (λ (i : ℕ). get_or s i 0) z ∙ eqb-true (get_or s (place + n + 1) 0) q r.1) in
      let last : 0 < n → get_or (drop (place + 1) s) (n - 1) 0 ≡ 92 → ⊥ =
      λ pos k. let z : place + 1 + (n - 1) ≡ place + n = omega arith in other (get_or s (place + n) 0) 92 p.1 (sym (get_or-drop (place + 1) s (n - 1) 0 ∙ ap (λ (i : ℕ). get_or s i 0) z) ∙ k) in
      (omega arith, plain_run q (drop (place + 1) s) n ending last (en ∙ ap length text) ∙ sym text)
    where
      quoted : (a : ℕ) → (a ≡ 0 → ⊥) → (b : ℕ) → b ≡ a → ends a b ≡ true
      quoted zero f b z = absurd (f refl)
      quoted (suc a) f b z = eq-eqb b (suc a) z

-- ---- integers

-- the digits that stand first in a run are those of the text
digits_of_run : (s : List ℕ) → digits_of 10 (run_from 0 false s) ≡ digits_of 10 s
digits_of_run [] = refl
digits_of_run (b ∷ s) = go (digits_of_run s) (is_digit_in 10 b) refl (is_delimiter b) refl
  where
    go : digits_of 10 (run_from 0 false s) ≡ digits_of 10 s → (x : Bool) → is_digit_in 10 b ≡ x → (y : Bool) → is_delimiter b ≡ y → digits_of 10 (run_from 0 false (b ∷ s)) ≡ digits_of 10 (b ∷ s)
    go ih true f y g =
        let c = digit_common b f in
        rw (common_ends_none b c, common_takes_none b c, f) (ap (λ (l : List ℕ). b ∷ l) ih)
    go ih false f true g = rw (g, f)
    go ih false f false g = rw (g, f)

-- one that starts with 1 to 9 is decimal and has no sign
decimal_value : (b : ℕ) (s : List ℕ) → 49 ≤ b → b ≤ 57 → held (integer_of (run_from 0 false (b ∷ s))) ≡ held (signed_of false (whole_of 10 (digits_of 10 (b ∷ s))))
decimal_value b s lo hi =
    let f : is_digit_in 10 b ≡ true = sym (decimal b) ∙ rw (le-leb 48 b (omega arith), le-leb b 57 hi) in
    let c = digit_common b f in
    let n45 = ne_eqb b 45 (λ z. omega arith) in
    let n48 = ne_eqb b 48 (λ z. omega arith) in
    let d = digits_of_run s in
    rw (common_ends_none b c, common_takes_none b c, n45, n48, f) (ap (λ (l : List ℕ). held (signed_of false (whole_of 10 (b ∷ l)))) d)

-- the digits read so far: none, or some of which the first is not `0`
pub record Few (s : List ℕ) (place v i : ℕ) : Type 0 where
  pub small : v < 1000000000000000000
  pub none : v ≡ 0 → i ≡ place
  pub some : 0 < v → (place < length s) × (49 ≤ get_or s place 0) × (get_or s place 0 ≤ 57)
  pub same : whole_from 10 v (digits_of 10 (drop i s)) ≡ whole_of 10 (digits_of 10 (drop place s))

pub few_start : (s : List ℕ) (place : ℕ) → Few s place 0 place
few_start s place = record { small = omega arith; none = λ z. refl; some = λ h. absurd (omega arith); same = refl }

module _ {s : List ℕ} {place v i : ℕ} (g : Few s place v i) where
  told : digits_of 10 (drop i s) ≡ [] → 0 < v → v ≡ of_z w64 (integer_at s place)
  told e h =
      let w = g.some h in
      let b = get_or s place 0 in
      let whole : whole_of 10 (digits_of 10 (drop place s)) ≡ v = sym g.same ∙ ap (whole_from 10 v) e in
      let here = drop-cons s place 0 w.0 in
      let value : integer_at s place ≡ held (signed_of false v) =
      ap (λ (l : List ℕ). held (integer_of (run_from 0 false l))) here ∙ decimal_value b (drop (suc place) s) w.1 w.2 ∙ ap (λ (l : List ℕ). held (signed_of false (whole_of 10 (digits_of 10 l)))) (sym here) ∙ ap (λ (m : ℕ). held (signed_of false m)) whole in
      let fits : ltb v (2 ^ 63) ≡ true = lt-ltb v (2 ^ 63) (omega (arith, g.small)) in
      sym (ap (of_z w64) value ∙ rw fits)

  pub few_end : length s ≤ i → 0 < v → v ≡ of_z w64 (integer_at s place)
  few_end h = told (rw (drop_of_length-le s h))

  module _ (h : i < length s) where
    abbrev byte : ℕ
    byte = get_or s i 0

    -- a byte that is no digit
    pub few_stop : (ltb byte 48 || ltb 57 byte) ≡ true → 0 < v → v ≡ of_z w64 (integer_at s place)
    few_stop e = told (rw (drop-cons s i 0 h, sym (decimal byte) ∙ outside (ltb byte 48) (ltb 57 byte) refl refl e))
      where
        outside : (a b : Bool) → ltb byte 48 ≡ a → ltb 57 byte ≡ b → (a || b) ≡ true → within 48 57 byte ≡ false
        outside true b p q z = rw (lt-leb 48 byte (ltb-true byte 48 p))
        outside false true p q z = let k = lt-leb byte 57 (ltb-true 57 byte q) in rw k (no (leb 48 byte))
          where
            no : (x : Bool) → (x && false) ≡ false
            no true = refl
            no false = refl
        outside false false p q z = false_true z

    module _ (e : (ltb byte 48 || ltb 57 byte) ≡ false) (f : (leb 100000000000000000 v || (eqb v 0 && eqb byte 48)) ≡ false) where
      neither : (a b : Bool) → (a || b) ≡ false → (a ≡ false) × (b ≡ false)
      neither true b z = false_true (sym z)
      neither false b z = (refl, z)

      pub digit-range : (48 ≤ byte) × (byte ≤ 57)
      digit-range = let p = neither (ltb byte 48) (ltb 57 byte) e in (ltb-false byte 48 p.0, ltb-false 57 byte p.1)

      pub low : v < 100000000000000000
      low = leb-false 100000000000000000 v (neither (leb 100000000000000000 v) (eqb v 0 && eqb byte 48) f).0

      not_zero : v ≡ 0 → byte ≡ 48 → ⊥
      not_zero y z = false_true (sym (neither (leb 100000000000000000 v) (eqb v 0 && eqb byte 48) f).1 ∙ rw (y, z))

      pub few-more : {w : ℕ} → w ≡ 10 * v + (byte - 48) → Few s place w (i + 1)
      few-more {w} q =
          let r = digit-range in
          let inside : within 48 57 byte ≡ true = rw (le-leb 48 byte r.0, le-leb byte 57 r.1) in
          let digit : digit_of byte ≡ byte - 48 = sym (tens byte inside).0 in
          let more : digits_of 10 (drop i s) ≡ byte ∷ digits_of 10 (drop (i + 1) s) = rw (add-one, drop-cons s i 0 h, sym (decimal byte) ∙ inside) in
          let step : v * 10 + digit_of byte ≡ w = omega (arith, digit) in
          record {
            small = omega (arith, low);
            none = λ z. absurd (from (ℕ_discrete v 0) z);
            some = λ z. first (ℕ_discrete v 0);
            same = ap (λ (m : ℕ). whole_from 10 m (digits_of 10 (drop (i + 1) s))) (sym step) ∙ sym (ap (whole_from 10 v) more) ∙ g.same;
          }
        where
          from : Dec (v ≡ 0) → w ≡ 0 → ⊥
          from (yes y) z = not_zero y (omega (arith, digit-range.0))
          from (no y) z = omega arith

          first : Dec (v ≡ 0) → (place < length s) × (49 ≤ get_or s place 0) × (get_or s place 0 ≤ 57)
          first (yes y) =
              let here = g.none y in
              let z : byte ≡ 48 → ⊥ = not_zero y in
              rw (← here) (h, above (ℕ_discrete byte 48), digit-range.1)
            where
              above : Dec (byte ≡ 48) → 49 ≤ byte
              above (yes k) = absurd (not_zero y k)
              above (no k) = omega (arith, digit-range.0)
          first (no y) = g.some (omega arith)
