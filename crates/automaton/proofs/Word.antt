-- Turns of the pass over a word. Assumes nothing.
use mathlib.Core.Path.{◌≡◌, refl, sym, ap, ◌∙◌}
use mathlib.Core.Bool.{Bool, true, false, not, ◌&&◌, ◌||◌, and-false, or-false}
use mathlib.Core.List.{List, [], ◌∷◌, ◌++◌, map, append-nil}
use Prim.Native.Nat.{ℕ, zero, suc, ◌+◌, ◌-◌, ◌*◌, ◌/◌, ◌%◌, ◌^◌, ◌≤◌, ◌<◌}
use native.Mathlib.Nat.{pow-zero, pow-suc}
use native.Mathlib.Numerals.{add-one}
use native.Mathlib.Omega.{arith}
use lib.ListN.{length, get_or, drop, replicate, length-drop, drop_of_length-le}
use lib.Pow.{pow_mono}
use lib.Seq.{drop-cons}
use lib.Dec.{eqb, leb, ltb}
use mir.Val.{bool_byte}
use borrow.Author.Tests.{ltb-true, leb-true, le-leb, eqb-true, not-true, ne_eqb}
use Rattle.common.proofs.Choice.{true_false}
use Rattle.octets.proofs.Theorems.{and_parts}
use Rattle.automaton.specs.Pass.{Token, one, started, Left, left, onto, pass}
use Rattle.automaton.specs.Table.{repeats, absent, sort, hits, token_of, tokens_of}
use Rattle.automaton.specs.Decide.{walk_on, decide}
use Rattle.automaton.specs.Word.{bits_of, bit_if, cells_in, ended_in, plain, optional, small, Leads}
use Rattle.automaton.specs.declared.Level.{Level}
use Rattle.automaton.proofs.Pass.{and_assoc, and_t, onto_onto, onto_nil}
use Rattle.automaton.proofs.Value.{onward, ran}

-- ---- bits

-- one bit more
pub bits_more : (i x : ℕ) (b : Bool) → x < 2 ^ i → bits_of (suc i) (x + bit_if b (2 ^ i)) ≡ bits_of i x ++ (b ∷ [])
bits_more zero x b h = go b
  where
    z : x ≡ 0
    z = let p = pow-zero 2 in omega arith

    go : (b : Bool) → eqb ((x + bit_if b (2 ^ 0)) % 2) 1 ∷ [] ≡ b ∷ []
    go true = rw z
    go false = rw z
bits_more (suc i) x b h = let p = pow-suc 2 i in go b (bits_more i (x / 2) b (omega (arith, p, h)))
  where
    p : 2 ^ suc i ≡ 2 ^ i * 2
    p = pow-suc 2 i

    go : (b : Bool) → bits_of (suc i) (x / 2 + bit_if b (2 ^ i)) ≡ bits_of i (x / 2) ++ (b ∷ []) → bits_of (suc (suc i)) (x + bit_if b (2 ^ suc i)) ≡ bits_of (suc i) x ++ (b ∷ [])
    go true ih =
        let e : (x + 2 ^ suc i) % 2 ≡ x % 2 = omega (arith, p) in
        let f : (x + 2 ^ suc i) / 2 ≡ x / 2 + 2 ^ i = omega (arith, p) in
        rw (e, f) (ap (λ (l : List Bool). eqb (x % 2) 1 ∷ l) ih)
    go false ih =
        let e : x + 0 ≡ x = omega arith in
        let f : x / 2 + 0 ≡ x / 2 = omega arith in
        rw e (ap (λ (l : List Bool). eqb (x % 2) 1 ∷ l) (rw f at ih))

bits_zero : (k : ℕ) → bits_of k 0 ≡ replicate k false
bits_zero zero = refl
bits_zero (suc k) = ap (λ (l : List Bool). false ∷ l) (bits_zero k)

-- a number of i bits has no others
bits_short : (i n x : ℕ) → i ≤ n → x < 2 ^ i → bits_of n x ≡ bits_of i x ++ replicate (n - i) false
bits_short zero n x l h =
    let p = pow-zero 2 in
    let z : x ≡ 0 = omega arith in
    let e : n - 0 ≡ n = omega arith in
    rw (z, e) (bits_zero n)
bits_short (suc i) zero x l h = absurd (omega arith)
bits_short (suc i) (suc n) x l h =
    let p = pow-suc 2 i in
    let e : suc n - suc i ≡ n - i = omega arith in
    rw e (ap (λ (r : List Bool). eqb (x % 2) 1 ∷ r) (bits_short i n (x / 2) (omega arith) (omega (arith, p, h))))

-- the word that a pass leaves
pub doubled : (x : ℕ) (b : Bool) → ((x * 2 + bit_if b 1) / 2 ≡ x) × (ended_in (x * 2 + bit_if b 1) ≡ b)
doubled x true = (omega arith, let e : (x * 2 + 1) % 2 ≡ 1 = omega arith in rw e)
doubled x false = (omega arith, let e : (x * 2 + 0) % 2 ≡ 0 = omega arith in rw e)

-- there is room for it
pub room : (i x : ℕ) → i ≤ 62 → x < 2 ^ i → x < 4611686018427387904
room i x h l = let p : 2 ^ i ≤ 2 ^ 62 = pow_mono h in omega (arith, p, l)

pub grown : (i out bit b : ℕ) → i + 1 ≤ 62 → bit ≡ 2 ^ i → out < 2 ^ i → b ≤ bit → (out + b < 4611686018427387904) × (bit * 2 ≤ 4611686018427387904) × (bit * 2 ≡ 2 ^ (i + 1)) × (out + b < 2 ^ (i + 1))
grown i out bit b h e o l =
    let p : 2 ^ (i + 1) ≡ 2 ^ i * 2 = rw (add-one i) (pow-suc 2 i) in
    let m : 2 ^ (i + 1) ≤ 2 ^ 62 = pow_mono h in
    (omega (arith, p, m, e, o, l), omega (arith, p, m, e), omega (arith, p, e), omega (arith, p, e, o, l))

-- a bit is added where the flag is set
pub added : (b : Bool) (x out bit : ℕ) → b ≡ true → x ≡ out + bit → x ≡ out + bit_if b bit
added b x out bit e h = rw e h

pub none_added : (b : Bool) (x out bit : ℕ) → b ≡ false → x ≡ out → x ≡ out + bit_if b bit
none_added b x out bit e h = rw e (omega (arith, h))

pub bit_least : (b : Bool) (bit : ℕ) → bit_if b bit ≤ bit
bit_least true bit = omega arith
bit_least false bit = omega arith

pub bit_small : (b : Bool) → bool_byte b ≤ 1
bit_small true = omega arith
bit_small false = omega arith

pub bit_byte : (b : Bool) → bool_byte b ≡ bit_if b 1
bit_byte true = refl
bit_byte false = refl

-- ---- tables without groups

pub small_parts : (ks : List ℕ) → small ks ≡ true → (length ks ≤ 62) × (plain ks ≡ true)
small_parts ks h = let p = and_parts (leb (length ks) 62) (plain ks) h in (leb-true (length ks) 62 p.0, p.1)

pub small_of : (ks : List ℕ) (r : Bool) → length ks ≤ 62 → r ≡ plain ks → r ≡ true → small ks ≡ true
small_of ks r h e t = rw (le-leb (length ks) 62 h) (sym e ∙ t)

pub plain_at : (ks : List ℕ) (i : ℕ) → plain ks ≡ true → i < length ks → sort (get_or ks i 0) < 3
plain_at [] i h l = absurd (omega arith)
plain_at (k ∷ ks) zero h l = ltb-true (sort k) 3 (and_parts (ltb (sort k) 3) (plain ks) h).0
plain_at (k ∷ ks) (suc i) h l = plain_at ks i (and_parts (ltb (sort k) 3) (plain ks) h).1 (omega arith)

pub plain_drop : (ks : List ℕ) (i : ℕ) → plain ks ≡ true → plain (drop i ks) ≡ true
plain_drop ks zero h = h
plain_drop [] (suc i) h = refl
plain_drop (k ∷ ks) (suc i) h = plain_drop ks i (and_parts (ltb (sort k) 3) (plain ks) h).1

plain_token : (text : List ℕ) (k a : ℕ) → sort k < 3 → token_of text k a ≡ one (hits text k a) (repeats k) (absent k)
plain_token text k a h = rw (ne_eqb (sort k) 3 (λ e. omega arith), ne_eqb (sort k) 4 (λ e. omega arith), ne_eqb (sort k) 5 (λ e. omega arith))

-- a level outside of groups
abbrev pub lev : Bool → Bool → Bool → Bool → Level
lev k cur emp fin = record { into = k; out = false; none = false; done = false; cur = cur; emp = emp; fin = fin }

-- where no way enters and nothing is marked
pub quiet : (text : List ℕ) (c : ℕ) (ks xs : List ℕ) → plain ks ≡ true → length xs ≡ length ks → (k e f : Bool)
    → pass (tokens_of text ks xs) (replicate (length ks) false) c (lev k false e f) [] ≡ left (replicate (length ks) false) (lev k false (e && optional ks) (f && optional ks))
quiet text c [] xs h l k e f = rw (and_t e, and_t f)
quiet text c (q ∷ ks) [] h l k e f = absurd (omega arith)
quiet text c (q ∷ ks) (a ∷ xs) h l k e f =
    let p = and_parts (ltb (sort q) 3) (plain ks) h in
    let ih = quiet text c ks xs p.1 (omega arith) k (e && absent q) (f && absent q) in
    rw (plain_token text q a (ltb-true (sort q) 3 p.0), and-false (repeats q), and-false (hits text q a c), or-false (f && absent q), ih, and_assoc e (absent q) (optional ks), and_assoc f (absent q) (optional ks))

pub neither : (a b : Bool) → (a || b) ≡ false → (a ≡ false) × (b ≡ false)
neither true b h = true_false h
neither false b h = (refl, h)

-- ---- the loop

-- what is left to pass at place i, behind what was passed
abbrev pub on : List ℕ → List ℕ → List ℕ → ℕ → ℕ → ℕ → Level → ℕ → Left
on text ks xs rest out c l i = onto (bits_of i out) (pass (tokens_of text (drop i ks) (drop i xs)) (bits_of (length ks - i) rest) c l [])

module _ (text ks xs : List ℕ) (c : ℕ) where
  pub on_start : (rest : ℕ) (k : Bool) → on text ks xs rest 0 c (lev k k true false) 0 ≡ pass (tokens_of text ks xs) (bits_of (length ks) rest) c (started k) []
  on_start rest k = let e : length ks - 0 ≡ length ks = omega arith in rw (e, onto_nil)

  pub on_turn : plain ks ≡ true → length xs ≡ length ks → (rest out i : ℕ) (k cur e fin : Bool) → i < length ks → out < 2 ^ i
      → (a b : ℕ) (r o hit : Bool) → a ≡ get_or xs i 0 → r ≡ repeats (get_or ks i 0) → o ≡ absent (get_or ks i 0)
      → hit ≡ (hits text (get_or ks i 0) a c && (cur || (r && eqb (rest % 2) 1))) → b ≡ bit_if hit (2 ^ i)
      → on text ks xs (rest / 2) (out + b) c (lev k ((cur && o) || eqb (rest % 2) 1) (e && o) ((fin && o) || hit)) (i + 1) ≡ on text ks xs rest out c (lev k cur e fin) i
  on_turn p lx rest out i k cur e fin h ho a b r o hit ea er eo eh eb =
      let hx : i < length xs = omega arith in
      let en : length ks - i ≡ suc (length ks - suc i) = omega arith in
      rw (add-one i, drop-cons ks i 0 h, drop-cons xs i 0 hx, en, plain_token text (get_or ks i 0) (get_or xs i 0) (plain_at ks i p h), eb, bits_more i out hit ho, onto_onto, eh, er, eo, ea)

  -- no way is open, and no mark is left
  pub on_quiet : plain ks ≡ true → length xs ≡ length ks → (out i : ℕ) (k e : Bool) → i ≤ length ks → out < 2 ^ i
      → on text ks xs 0 out c (lev k false e false) i ≡ left (bits_of (length ks) out) (lev k false (e && optional (drop i ks)) false)
  on_quiet p lx out i k e h ho =
      let ex : length (drop i xs) ≡ length (drop i ks) = length-drop i xs ∙ ap (λ (n : ℕ). n - i) lx ∙ sym (length-drop i ks) in
      let q = rw (length-drop i ks) at (quiet text c (drop i ks) (drop i xs) (plain_drop ks i p) ex k e false) in
      rw (bits_zero, q, bits_short i (length ks) out h ho)

  pub on_end : (rest out i : ℕ) (l : Level) → i ≡ length ks → on text ks xs rest out c l i ≡ left (bits_of (length ks) out) l
  on_end rest out i l e = rw (drop_of_length-le ks (let h : length ks ≤ i = omega arith in h), e, append-nil)

  -- the word that is left
  pub leads_quiet : small ks ≡ true → length xs ≡ length ks → (w rest out i : ℕ) (k cur e fin : Bool) → i ≤ length ks → out < 2 ^ i
      → on text ks xs rest out c (lev k cur e fin) i ≡ pass (tokens_of text ks xs) (cells_in (length ks) w) c (started k) []
      → (not (cur || fin) && eqb rest 0) ≡ true → Leads (tokens_of text ks xs) (length ks) k c w (out * 2)
  leads_quiet p lx w rest out i k cur e fin h ho inv t =
      let q = and_parts (not (cur || fin)) (eqb rest 0) t in
      let ez = eqb-true rest 0 q.1 in
      let nf = neither cur fin (not-true (cur || fin) q.0) in
      let d : out * 2 / 2 ≡ out = omega arith in
      let m : out * 2 % 2 ≡ 0 = omega arith in (
        lev k false (e && optional (drop i ks)) false,
        rw d (sym (rw (ez, nf.0, nf.1) at inv) ∙ on_quiet (small_parts ks p).1 lx out i k e h ho),
        rw m,
      )

  pub leads_end : (w rest out i b : ℕ) (k cur e fin : Bool) → i ≤ length ks → length ks ≤ i
      → on text ks xs rest out c (lev k cur e fin) i ≡ pass (tokens_of text ks xs) (cells_in (length ks) w) c (started k) []
      → b ≡ bit_if fin 1 → Leads (tokens_of text ks xs) (length ks) k c w (out * 2 + b)
  leads_end w rest out i b k cur e fin h g inv eb =
      let d = doubled out fin in
      (lev k cur e fin, rw (eb, d.0) (sym inv ∙ on_end rest out i (lev k cur e fin) (omega arith)), rw (eb, d.1))

-- ---- the value

module _ (ts : List Token) (sf ef e : Bool) (f : ℕ → ℕ) (v : List ℕ) (n w : ℕ) (k : Bool) (i : ℕ) where
  pub word_on : i < length v → (ef && (ended_in w || (k && e))) ≡ false → (b : ℕ) → b ≡ f (get_or v i 0) → (x : ℕ) → Leads ts n k b w x
      → walk_on ts sf ef e (cells_in n x) (ended_in x) sf (map f (drop (i + 1) v)) ≡ walk_on ts sf ef e (cells_in n w) (ended_in w) k (map f (drop i v))
  word_on h q b eb x d =
      ap (λ (t : Bool). walk_on ts sf ef e (cells_in n x) t sf (map f (drop (i + 1) v))) (sym d.2)
      ∙ onward ts sf ef e f v (cells_in n w) (ended_in w) k i h q b eb (cells_in n x) d.0 d.1

-- nothing is marked at first
pub word_first : (text ks xs : List ℕ) → small ks ≡ true → length xs ≡ length ks → (sf ef e r : Bool) (x : List ℕ) → e ≡ optional ks
    → r ≡ walk_on (tokens_of text ks xs) sf ef e (cells_in (length ks) 0) (ended_in 0) true x → r ≡ decide (tokens_of text ks xs) (length ks) sf ef x
word_first text ks xs p lx sf ef e r x ee h =
    let q = quiet text 0 ks xs (small_parts ks p).1 lx false true false in
    ran (tokens_of text ks xs) (replicate (length ks) false) (replicate (length ks) false) (lev false false (optional ks) false) sf ef r x q (rw (ee, bits_zero) at h)
