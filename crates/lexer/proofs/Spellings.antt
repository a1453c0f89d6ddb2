-- The longest match: which spellings are a prefix of a text, and what its first three bytes give. Assumes nothing.
use mathlib.Core.Path.{◌≡◌, refl, sym, ap, ◌∙◌}
use mathlib.Core.Logic.{◌⊎◌, inl, inr}
use mathlib.Core.Bool.{Bool, true, false, not, cond, ◌&&◌, ◌||◌}
use mathlib.Core.List.{List, [], ◌∷◌, ◌++◌, IsPrefix}
use Prim.Native.Nat.{ℕ, zero, suc, ◌≤◌, ◌<◌}
use native.Mathlib.Decide.{dec_le}
use native.Mathlib.Omega.{arith}
use lib.Dec.{eqb, ltb}
use lib.ListN.{length, get_or}
use borrow.Author.Tests.{eqb-true, eqb-false, ltb-true, ne_eqb, eq-eqb}
use Rattle.common.specs.Each.{Each}
use Rattle.common.proofs.Choice.{false_true}
use Rattle.common.proofs.Each.{each_map}
use Rattle.octets.specs.Octets.{same_of}
use Rattle.octets.proofs.Theorems.{and_parts, or_parts, same}
use Rattle.lexer.specs.Symbol.{three_bytes, with_equal, doubled, two_bytes, one_byte, first_of}
use Rattle.lexer.specs.Token.{symbol, good, bad, judged, scan_symbol}
use Rattle.lexer.specs.Theorems.{Some, Spelling, spellings}
use Rattle.lexer.proofs.Symbols.{first_is, first_not}
use Rattle.lexer.proofs.Scans.{two_none, three_none}

-- what holds of each element, and of some
pub some_map : {A : Type 0} {P Q : A → Type 0} (xs : List A) → ((x : A) → P x → Q x) → Some P xs → Some Q xs
some_map [] f e = e
some_map (x ∷ xs) f (inl e) = inl (f x e)
some_map (x ∷ xs) f (inr e) = inr (some_map xs f e)

pub each_some : {A R : Type 0} {P Q : A → Type 0} (xs : List A) → ((x : A) → P x → Q x → R) → Each P xs → Some Q xs → R
each_some [] f e s = absurd s
each_some (x ∷ xs) f e (inl s) = f x e.0 s
each_some (x ∷ xs) f e (inr s) = each_some xs f e.1 s

abbrev every : {A : Type 0} → (A → Bool) → List A → Bool
every f [] = true
every f (x ∷ xs) = f x && every f xs

every_each : {A : Type 0} (f : A → Bool) (xs : List A) → every f xs ≡ true → Each (λ x. f x ≡ true) xs
every_each f [] e = tt
every_each f (x ∷ xs) e = let p = and_parts (f x) (every f xs) e in (p.0, every_each f xs p.1)

-- the kind of just these bytes, 0 for none; each spelling has its own
abbrev exactly : List ℕ → ℕ
exactly [] = 0
exactly (a ∷ []) = one_byte a
exactly (a ∷ b ∷ []) = two_bytes a b
exactly (a ∷ b ∷ c ∷ []) = three_bytes a b c
exactly (a ∷ b ∷ c ∷ d ∷ s) = 0

abbrev pub Right : Spelling → Type 0
Right x = (exactly x.bytes ≡ x.kind) × (7 < x.kind) × (x.kind < 44)

abbrev is_right : Spelling → Bool
is_right x = eqb (exactly x.bytes) x.kind && (ltb 7 x.kind && ltb x.kind 44)

is_right_lem : (x : Spelling) → is_right x ≡ true → Right x
is_right_lem x e =
    let p = and_parts (eqb (exactly x.bytes) x.kind) (ltb 7 x.kind && ltb x.kind 44) e in
    let q = and_parts (ltb 7 x.kind) (ltb x.kind 44) p.1 in
    (eqb-true (exactly x.bytes) x.kind p.0, ltb-true 7 x.kind q.0, ltb-true x.kind 44 q.1)

all_right : every is_right spellings ≡ true
unfolding spellings
all_right = refl

pub right : Each Right spellings
right = each_map spellings is_right_lem (every_each is_right spellings all_right)

-- a kind number that is 0, or that of a spelling of these bytes
abbrev Named : List ℕ → ℕ → Type 0
Named p k = (k ≡ 0) ⊎ Some (λ x. (x.kind ≡ k) × (x.bytes ≡ p)) spellings

abbrev is_in : List Spelling → List ℕ → ℕ → Bool
is_in [] p k = false
is_in (x ∷ xs) p k = (eqb x.kind k && same_of x.bytes p) || is_in xs p k

in_some : (xs : List Spelling) (p : List ℕ) (k : ℕ) → is_in xs p k ≡ true → Some (λ x. (x.kind ≡ k) × (x.bytes ≡ p)) xs
in_some [] p k e = false_true e
in_some (x ∷ xs) p k e = go (or_parts (eqb x.kind k && same_of x.bytes p) (is_in xs p k) e) (in_some xs p k)
  where
    go : ((eqb x.kind k && same_of x.bytes p) ≡ true) ⊎ (is_in xs p k ≡ true)
        → (is_in xs p k ≡ true → Some (λ x. (x.kind ≡ k) × (x.bytes ≡ p)) xs)
        → Some (λ x. (x.kind ≡ k) × (x.bytes ≡ p)) (x ∷ xs)
    go (inl h) more =
        let q = and_parts (eqb x.kind k) (same_of x.bytes p) h in
        inl (eqb-true x.kind k q.0, (same x.bytes p).0 q.1)
    go (inr h) more = inr (more h)

-- A chain of tests on one byte, each with the kind that it gives: what it gives is the kind of a spelling, if each of its kinds is.
abbrev chain : List (ℕ × ℕ) → ℕ → ℕ
chain [] a = 0
chain (p ∷ ps) a = cond (eqb a p.0) p.1 (chain ps a)

chain_named : (f : ℕ → List ℕ) (ps : List (ℕ × ℕ)) → every (λ p. is_in spellings (f p.0) p.1) ps ≡ true → (a : ℕ) → Named (f a) (chain ps a)
chain_named f [] e a = inl refl
chain_named f (p ∷ ps) e a =
    let q = and_parts (is_in spellings (f p.0) p.1) (every (λ p. is_in spellings (f p.0) p.1) ps) e in
    go q.0 (chain_named f ps q.1 a) (eqb a p.0) refl
  where
    go : is_in spellings (f p.0) p.1 ≡ true → Named (f a) (chain ps a) → (b : Bool) → eqb a p.0 ≡ b → Named (f a) (cond b p.1 (chain ps a))
    go i h true e = let z = eqb-true a p.0 e in rw z (inr (in_some spellings (f p.0) p.1 i))
    go i h false e = h

one_named : (a : ℕ) → Named (a ∷ []) (one_byte a)
unfolding spellings
one_named =
    chain_named (λ a. a ∷ [])
    ((126, 8) ∷ (40, 9) ∷ (41, 10) ∷ (44, 11) ∷ (38, 19) ∷ (94, 20) ∷ (124, 21) ∷ (42, 22) ∷ (47, 23) ∷ (37, 24) ∷ (43, 25) ∷ (45, 26) ∷ (60, 34) ∷ (62, 36) ∷ (33, 40) ∷ [])
    refl

equal_named : (a : ℕ) → Named (a ∷ 61 ∷ []) (with_equal a)
unfolding spellings
equal_named = chain_named (λ a. a ∷ 61 ∷ []) ((61, 32) ∷ (33, 33) ∷ (60, 35) ∷ (62, 37) ∷ []) refl

doubled_named : (a : ℕ) → Named (a ∷ a ∷ []) (doubled a)
unfolding spellings
doubled_named = chain_named (λ a. a ∷ a ∷ []) ((60, 16) ∷ (62, 17) ∷ (38, 41) ∷ (94, 42) ∷ (124, 43) ∷ []) refl

two_named : (a b : ℕ) → Named (a ∷ b ∷ []) (two_bytes a b)
two_named a b = go (eqb b 61) refl (eqb a b) refl
  where
    go : (x : Bool) → eqb b 61 ≡ x → (y : Bool) → eqb a b ≡ y → Named (a ∷ b ∷ []) (cond x (with_equal a) (cond y (doubled a) 0))
    go true e y f = let z = eqb-true b 61 e in rw z (equal_named a)
    go false e true f = let z = eqb-true a b f in rw (← z) (doubled_named a)
    go false e false f = inl refl

three_in : is_in spellings (62 ∷ 62 ∷ 62 ∷ []) 18 ≡ true
unfolding spellings
three_in = refl

three_named : (a b c : ℕ) → Named (a ∷ b ∷ c ∷ []) (three_bytes a b c)
three_named a b c = go (eqb a 62 && eqb b 62 && eqb c 62) refl
  where
    go : (x : Bool) → (eqb a 62 && eqb b 62 && eqb c 62) ≡ x → Named (a ∷ b ∷ c ∷ []) (cond x 18 0)
    go true e =
        let p = and_parts (eqb a 62 && eqb b 62) (eqb c 62) e in
        let q = and_parts (eqb a 62) (eqb b 62) p.0 in
        rw (eqb-true a 62 q.0, eqb-true b 62 q.1, eqb-true c 62 p.1) (inr (in_some spellings (62 ∷ 62 ∷ 62 ∷ []) 18 three_in))
    go false e = inl refl

-- the kind that the first n bytes of a text give, 0 for none
abbrev pub kind_by : List ℕ → ℕ → ℕ
kind_by s zero = 0
kind_by s (suc zero) = one_byte (get_or s 0 0)
kind_by s (suc (suc zero)) = two_bytes (get_or s 0 0) (get_or s 1 0)
kind_by s (suc (suc (suc zero))) = three_bytes (get_or s 0 0) (get_or s 1 0) (get_or s 2 0)
kind_by s (suc (suc (suc (suc n)))) = 0

by_prefix : (p : List ℕ) (k : ℕ) (s : List ℕ) → exactly p ≡ k → IsPrefix p s → kind_by s (length p) ≡ k
by_prefix [] k s e h = e
by_prefix (a ∷ []) k s e h = rw (← h.1) e
by_prefix (a ∷ b ∷ []) k s e h = rw (← h.1) e
by_prefix (a ∷ b ∷ c ∷ []) k s e h = rw (← h.1) e
by_prefix (a ∷ b ∷ c ∷ d ∷ p) k s e h = e

-- A spelling that is a prefix gives its kind by its length.
pub prefix_kind : (s : List ℕ) (x : Spelling) → Right x → IsPrefix x.bytes s → (kind_by s (length x.bytes) ≡ x.kind) × (kind_by s (length x.bytes) ≡ 0 → ⊥)
prefix_kind s x r h = let e = by_prefix x.bytes x.kind s r.0 h in (e, λ z. omega (arith, r.1, e))

-- A kind that so many bytes give is that of a spelling of so many, which is a prefix.
abbrev pub Spells : List ℕ → ℕ → ℕ → Spelling → Type 0
Spells s k n x = (x.kind ≡ k) × (length x.bytes ≡ n) × IsPrefix x.bytes s

named_of : (p more : List ℕ) (k : ℕ) → Named p k → (k ≡ 0 → ⊥) → Some (Spells (p ++ more) k (length p)) spellings
named_of p more k (inl z) f = absurd (f z)
named_of p more k (inr e) f = some_map {Q = Spells (p ++ more) k (length p)} spellings (λ x q. (q.0, ap length q.1, (more, ap (λ (r : List ℕ). r ++ more) q.1))) e

pub kind_prefix : (s : List ℕ) (n : ℕ) → (kind_by s n ≡ 0 → ⊥) → Some (Spells s (kind_by s n) n) spellings
kind_prefix s zero f = absurd (f refl)
kind_prefix [] (suc zero) f = absurd (f refl)
kind_prefix (a ∷ s) (suc zero) f = named_of (a ∷ []) s (one_byte a) (one_named a) f
kind_prefix [] (suc (suc zero)) f = absurd (f refl)
kind_prefix (a ∷ []) (suc (suc zero)) f = absurd (f (two_none a))
kind_prefix (a ∷ b ∷ s) (suc (suc zero)) f = named_of (a ∷ b ∷ []) s (two_bytes a b) (two_named a b) f
kind_prefix [] (suc (suc (suc zero))) f = absurd (f refl)
kind_prefix (a ∷ []) (suc (suc (suc zero))) f = absurd (f (three_none a 0))
kind_prefix (a ∷ b ∷ []) (suc (suc (suc zero))) f = absurd (f (three_none a b))
kind_prefix (a ∷ b ∷ c ∷ s) (suc (suc (suc zero))) f = named_of (a ∷ b ∷ c ∷ []) s (three_bytes a b c) (three_named a b c) f
kind_prefix s (suc (suc (suc (suc n)))) f = absurd (f refl)

-- n is the most bytes that give a kind
abbrev pub Most : List ℕ → ℕ → Type 0
Most s n = (kind_by s n ≡ 0 → ⊥) × ((m : ℕ) → n < m → kind_by s m ≡ 0)

pub most_once : (s : List ℕ) (m n : ℕ) → Most s m → Most s n → m ≡ n
most_once s m n p q = go (dec_le m n) (dec_le n m)
  where
    go : Dec (m ≤ n) → Dec (n ≤ m) → m ≡ n
    go (yes h) (yes i) = omega arith
    go (yes h) (no i) = absurd (q.0 (p.1 n (omega arith)))
    go (no h) j = absurd (p.0 (q.1 m (omega arith)))

above : (s : List ℕ) (n : ℕ) → (n < 1 → kind_by s 1 ≡ 0) → (n < 2 → kind_by s 2 ≡ 0) → (n < 3 → kind_by s 3 ≡ 0) → (m : ℕ) → n < m → kind_by s m ≡ 0
above s n p q r zero h = refl
above s n p q r (suc zero) h = p h
above s n p q r (suc (suc zero)) h = q h
above s n p q r (suc (suc (suc zero))) h = r h
above s n p q r (suc (suc (suc (suc m)))) h = refl

above_none : (s : List ℕ) → kind_by s 1 ≡ 0 → kind_by s 2 ≡ 0 → kind_by s 3 ≡ 0 → (m : ℕ) → kind_by s m ≡ 0
above_none s p q r zero = refl
above_none s p q r (suc m) = above s 0 (λ h. p) (λ h. q) (λ h. r) (suc m) (omega arith)

-- What stands first is no symbol and no bytes give a kind; or it is the symbol of the most bytes that give one.
abbrev pub Best : List ℕ → Type 0
Best s =
    ((scan_symbol s ≡ bad 1) × ((m : ℕ) → kind_by s m ≡ 0))
    ⊎ ((n : ℕ) × Most s n × (scan_symbol s ≡ good (symbol (kind_by s n)) n))

is_good : (kind long k n : ℕ) → k ≡ kind → long ≡ n → (k ≡ 0 → ⊥) → judged (not (eqb kind 0)) true (symbol kind) long ≡ good (symbol k) n
is_good kind long k n e l f = rw (← e, l, ne_eqb k 0 f)

is_bad : (kind long : ℕ) → kind ≡ 0 → judged (not (eqb kind 0)) true (symbol kind) long ≡ bad 1
is_bad kind long e = rw (eq-eqb kind 0 e)

pub best : (s : List ℕ) → Best s
best s = go (eqb three 0) refl (eqb two 0) refl (eqb one 0) refl
  where
    one : ℕ
    one = kind_by s 1

    two : ℕ
    two = kind_by s 2

    three : ℕ
    three = kind_by s 3

    kind : ℕ
    kind = first_of three (first_of two one)

    long : ℕ
    long = cond (eqb three 0) (cond (eqb two 0) 1 2) 3

    first_two : three ≡ 0 → first_of two one ≡ kind
    first_two e = first_not three (first_of two one) three refl e

    go : (x : Bool) → eqb three 0 ≡ x → (y : Bool) → eqb two 0 ≡ y → (z : Bool) → eqb one 0 ≡ z → Best s
    go false e y f z g =
        let n = eqb-false three 0 e in
        let l : long ≡ 3 = rw e in
        inr (
          3,
          (n, above s 3 (λ h. absurd (omega arith)) (λ h. absurd (omega arith)) (λ h. absurd (omega arith))),
          is_good kind long three 3 (first_is three (first_of two one) three refl n) l n,
        )
    go true e false f z g =
        let o = eqb-true three 0 e in
        let n = eqb-false two 0 f in
        let l : long ≡ 2 = rw (e, f) in
        inr (
          2,
          (n, above s 2 (λ h. absurd (omega arith)) (λ h. absurd (omega arith)) (λ h. o)),
          is_good kind long two 2 (first_is two one two refl n ∙ first_two o) l n,
        )
    go true e true f false g =
        let o = eqb-true three 0 e in
        let w = eqb-true two 0 f in
        let n = eqb-false one 0 g in
        let l : long ≡ 1 = rw (e, f) in
        inr (
          1,
          (n, above s 1 (λ h. absurd (omega arith)) (λ h. w) (λ h. o)),
          is_good kind long one 1 (first_not two one two refl w ∙ first_two o) l n,
        )
    go true e true f true g =
        let o = eqb-true three 0 e in
        let w = eqb-true two 0 f in
        let n = eqb-true one 0 g in
        let k : kind ≡ 0 = sym (first_two o) ∙ sym (first_not two one two refl w) ∙ n in
        inl (is_bad kind long k, above_none s n w o)
