-- Why a text is no pattern, cause by cause: "Ill-formed are request 1's cases, an empty branch or group, a repeat mark first or after `^`, `(` or `|`, unmatched parentheses, `^` or `$` elsewhere, and depth over 8." Document 02, request 13. No parser stands here.
use Rattle.std.specs.Prelude.{ℕ, suc, ◌-◌, ◌≤◌, ◌<◌, ◌≡◌, ◌⊎◌, true, false, List, [], ◌∷◌, ◌++◌}
use Rattle.pattern.specs.Sets.{spans_of, is_closed, is_empty, rises}
use Rattle.regexp.specs.Language.{Atom, Mark}
use Rattle.regexp.specs.Grammar.{AtomText, byte_of}

-- ---- "request 1's cases", "with `^` for `!`"

-- What follows the mark of a complement, if there is one.
abbrev pub Behind : List ℕ → List ℕ → Type 0
Behind r s = (r ≡ 94 ∷ s) ⊎ ((r ≡ s) × ((t : List ℕ) → s ≡ 94 ∷ t → ⊥))

-- "An unclosed or empty set .., a range that falls and a backslash at the end": a text that begins with one of the four.
pub data Fault : List ℕ → Type 0 where
  backslash_last : Fault (92 ∷ [])
  unclosed_set : (r s : List ℕ) → Behind r s → is_closed s ≡ false → Fault (91 ∷ r)
  empty_set : (r s : List ℕ) → Behind r s → is_empty (spans_of s) ≡ true → Fault (91 ∷ r)
  falling_range : (r s : List ℕ) → Behind r s → rises (spans_of s) ≡ false → Fault (91 ∷ r)

-- ---- the symbols of a text

-- What takes one byte (a plain byte, one behind a backslash, `.`, a set), a repeat mark, `(`, `)`, `|`, `^`, `$`.
pub data Symbol : Type 0 where
  atom : Atom → Symbol
  mark : Mark → Symbol
  opening : Symbol
  closing : Symbol
  bar : Symbol
  hat : Symbol
  dollar : Symbol

pub data SymbolText : List ℕ → Symbol → Type 0 where
  atom_text : {s : List ℕ} {a : Atom} → AtomText s a → SymbolText s (atom a)
  mark_text : (m : Mark) → SymbolText (byte_of m ∷ []) (mark m)
  opening_text : SymbolText (40 ∷ []) opening
  closing_text : SymbolText (41 ∷ []) closing
  bar_text : SymbolText (124 ∷ []) bar
  hat_text : SymbolText (94 ∷ []) hat
  dollar_text : SymbolText (36 ∷ []) dollar

-- the symbols of a whole text
pub data Symbols : List ℕ → List Symbol → Type 0 where
  end : Symbols [] []
  next : {s r z : List ℕ} {x : Symbol} {xs : List Symbol} → SymbolText s x → Symbols r xs → s ++ r ≡ z → Symbols z (x ∷ xs)

-- A place among symbols: those before it, the nearest first, and those behind it.
pub data Place (xs : List Symbol) : List Symbol → List Symbol → Type 0 where
  front : Place xs [] xs
  after : {us vs : List Symbol} (x : Symbol) → Place xs us (x ∷ vs) → Place xs (x ∷ us) vs

-- ---- the other causes, each at a place

-- A branch begins first, and after `(` or `|`.
pub data Begins : List Symbol → Type 0 where
  first : Begins []
  after_opening : (us : List Symbol) → Begins (opening ∷ us)
  after_bar : (us : List Symbol) → Begins (bar ∷ us)

-- It ends last, and before `)` or `|`.
pub data Ends : List Symbol → Type 0 where
  last : Ends []
  before_closing : (vs : List Symbol) → Ends (closing ∷ vs)
  before_bar : (vs : List Symbol) → Ends (bar ∷ vs)

-- how many groups are open behind the symbols us, the nearest first; a `)` where none is open leaves none
abbrev pub depth : List Symbol → ℕ
depth [] = 0
depth (opening ∷ us) = suc (depth us)
depth (closing ∷ us) = depth us - 1
depth (atom a ∷ us) = depth us
depth (mark m ∷ us) = depth us
depth (bar ∷ us) = depth us
depth (hat ∷ us) = depth us
depth (dollar ∷ us) = depth us

-- A cause at a place: by the symbols before it, the nearest first, and those behind it.
pub data Cause : List Symbol → List Symbol → Type 0 where
  -- "an empty branch or group": a branch begins and ends at the place
  empty_branch : (us vs : List Symbol) → Begins us → Ends vs → Cause us vs
  -- "a repeat mark first or after `^`, `(` or `|`"
  mark_first : (m : Mark) (vs : List Symbol) → Cause [] (mark m ∷ vs)
  mark_after_hat : (m : Mark) (us vs : List Symbol) → Cause (hat ∷ us) (mark m ∷ vs)
  mark_after_opening : (m : Mark) (us vs : List Symbol) → Cause (opening ∷ us) (mark m ∷ vs)
  mark_after_bar : (m : Mark) (us vs : List Symbol) → Cause (bar ∷ us) (mark m ∷ vs)
  -- "unmatched parentheses": a `)` where no group is open, a group that is open at the end
  unopened : (us vs : List Symbol) → depth us ≡ 0 → Cause us (closing ∷ vs)
  unclosed : (us : List Symbol) → 0 < depth us → Cause us []
  -- "`^` or `$` elsewhere" than "`^` only first and `$` only last"
  hat_elsewhere : (x : Symbol) (us vs : List Symbol) → Cause (x ∷ us) (hat ∷ vs)
  dollar_elsewhere : (us : List Symbol) (y : Symbol) (vs : List Symbol) → Cause us (dollar ∷ (y ∷ vs))
  -- "depth over 8"
  too_deep : (us vs : List Symbol) → 8 ≤ depth us → Cause us (opening ∷ vs)

-- ---- a text that has a cause
pub data IllFormed (p : List ℕ) : Type 0 where
  -- behind some symbols one of request 1's cases begins
  faulty : (q r : List ℕ) (xs : List Symbol) → q ++ r ≡ p → Symbols q xs → Fault r → IllFormed p
  -- at a place among the symbols stands one of the other causes
  misplaced : (xs us vs : List Symbol) → Symbols p xs → Place xs us vs → Cause us vs → IllFormed p
