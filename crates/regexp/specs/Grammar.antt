-- Which texts are patterns, with their branches. A text is ill-formed exactly if nothing here derives it; by which causes says specs/Causes.antt. Document 02, request 13.
use Rattle.std.specs.Prelude.{ℕ, suc, ◌≡◌, Bool, true, false, not, ◌||◌, List, [], ◌∷◌, ◌++◌, eqb, length}
use Rattle.pattern.specs.Sets.{spans_of, width_of}
use Rattle.pattern.specs.Wildcard.{is_set}
use Rattle.pattern.specs.Steps.{begins}
use Rattle.regexp.specs.Language.{Atom, plain, any, set, Mark, star, plus, optional, Tree, one, group, repeat, seq, alt, nil, Anchored, anchored, Holds}

-- "plain bytes", "Braces are plain": all but `\ [ ( ) | * + ? . ^ $`
abbrev pub is_plain : ℕ → Bool
is_plain b =
    not (eqb b 92 || (eqb b 91 || (eqb b 40 || (eqb b 41 || (eqb b 124 || (eqb b 42 || (eqb b 43 || (eqb b 63 || (eqb b 46 || (eqb b 94 || eqb b 36))))))))))

-- The text of what takes one byte. That of a set is what follows its `[`, or `[^`, up to its `]`, with that; request 1 says which texts are sets.
pub data AtomText : List ℕ → Atom → Type 0 where
  plain_text : (b : ℕ) {z : List ℕ} → is_plain b ≡ true → b ∷ [] ≡ z → AtomText z (plain b)
  any_text : {z : List ℕ} → 46 ∷ [] ≡ z → AtomText z any
  -- "A backslash makes the next byte plain"
  escaped_text : (b : ℕ) {z : List ℕ} → 92 ∷ (b ∷ []) ≡ z → AtomText z (plain b)
  set_text : (s : List ℕ) {z : List ℕ} → is_set s ≡ true → width_of s ≡ length s → begins 94 s ≡ false → 91 ∷ s ≡ z → AtomText z (set false (spans_of s))
  complement_text : (s : List ℕ) {z : List ℕ} → is_set s ≡ true → width_of s ≡ length s → 91 ∷ (94 ∷ s) ≡ z → AtomText z (set true (spans_of s))

abbrev pub byte_of : Mark → ℕ
byte_of star = 42
byte_of plus = 43
byte_of optional = 63

-- "groups to depth 8": the number says how many groups may open inside each other.
mutual
  -- what takes one byte, or a group, each with its repeat marks
  pub data Piece : ℕ → List ℕ → Tree → Type 0 where
    single : {k : ℕ} {z : List ℕ} {a : Atom} → AtomText z a → Piece k z (one a)
    grouped : {k : ℕ} {s z : List ℕ} {t : Tree} → Alternatives k s t → 40 ∷ (s ++ (41 ∷ [])) ≡ z → Piece (suc k) z (group t)
    marked : {k : ℕ} {s z : List ℕ} {t : Tree} (m : Mark) → Piece k s t → s ++ (byte_of m ∷ []) ≡ z → Piece k z (repeat m t)

  -- one piece or more: "an empty branch or group" is ill-formed
  pub data Branch : ℕ → List ℕ → Tree → Type 0 where
    last : {k : ℕ} {s : List ℕ} {t : Tree} → Piece k s t → Branch k s t
    then : {k : ℕ} {s r z : List ℕ} {t u : Tree} → Piece k s t → Branch k r u → s ++ r ≡ z → Branch k z (seq t u)

  pub data Alternatives : ℕ → List ℕ → Tree → Type 0 where
    only : {k : ℕ} {s : List ℕ} {t : Tree} → Branch k s t → Alternatives k s t
    either : {k : ℕ} {s r z : List ℕ} {t u : Tree} → Branch k s t → Alternatives k r u → s ++ (124 ∷ r) ≡ z → Alternatives k z (alt t u)

-- what stands between the anchors of a branch, and whether there is something
pub data Body : List ℕ → Bool → Tree → Type 0 where
  nothing : Body [] false nil
  something : {s : List ℕ} {t : Tree} → Branch 8 s t → Body s true t

-- an anchor, which stands only where it may: then the branch is bound there, else free
pub data Edge (x : ℕ) (may : Bool) : List ℕ → Bool → Type 0 where
  free : Edge x may [] true
  bound : may ≡ true → Edge x may (x ∷ []) false

-- "`^` only first and `$` only last in the whole pattern, where they anchor their own branch; a branch of anchors alone is not empty". The first argument: whether the whole pattern begins here.
pub data Pattern : Bool → List ℕ → List Anchored → Type 0 where
  final : {first sf ef has : Bool} {a s e z : List ℕ} {t : Tree} → Edge 94 first a sf → Body s has t → Edge 36 true e ef → (has || (not sf || not ef)) ≡ true
      → a ++ (s ++ e) ≡ z → Pattern first z (anchored sf ef t ∷ [])
  further : {first sf has : Bool} {a s r z : List ℕ} {t : Tree} {bs : List Anchored} → Edge 94 first a sf → Body s has t → (has || not sf) ≡ true → Pattern false r bs
      → a ++ (s ++ (124 ∷ r)) ≡ z → Pattern first z (anchored sf true t ∷ bs)

-- a pattern and its branches
abbrev pub Derives : List ℕ → List Anchored → Type 0
Derives p bs = Pattern true p bs

abbrev pub WellFormed : List ℕ → Type 0
WellFormed p = (bs : List Anchored) × Derives p bs

-- A value fits a pattern.
abbrev pub Accepts : List ℕ → List ℕ → Type 0
Accepts p x = (bs : List Anchored) × Derives p bs × Holds bs x
