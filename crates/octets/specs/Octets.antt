-- Byte strings: folding, and how two of them compare. Document 01, "Meaning" and "Notice".
use Rattle.std.specs.Prelude.{ℕ, zero, suc, ◌+◌, ◌*◌, Bool, true, false, cond, ◌&&◌, ◌||◌, List, [], ◌∷◌, map, eqb, leb, ltb}

-- "`fold-case` turns A..Z to a..z and keeps other bytes"
abbrev pub lower : ℕ → ℕ
lower b = cond (leb 65 b && leb b 90) (b + 32) b

-- a byte under a folding mark
abbrev pub fold : Bool → ℕ → ℕ
fold true b = lower b
fold false b = b

-- a string under a folding mark
abbrev pub folded : Bool → List ℕ → List ℕ
folded mark s = map (fold mark) s

-- "string with string by bytes"
abbrev pub same_of : List ℕ → List ℕ → Bool
same_of [] [] = true
same_of [] (y ∷ ys) = false
same_of (x ∷ xs) [] = false
same_of (x ∷ xs) (y ∷ ys) = eqb x y && same_of xs ys

-- "by bytes, a prefix before the longer"
abbrev pub before_of : List ℕ → List ℕ → Bool
before_of [] [] = false
before_of [] (y ∷ ys) = true
before_of (x ∷ xs) [] = false
before_of (x ∷ xs) (y ∷ ys) = ltb x y || (eqb x y && before_of xs ys)

-- whether s begins with p
abbrev pub begins_of : List ℕ → List ℕ → Bool
begins_of [] [] = true
begins_of (x ∷ xs) [] = true
begins_of [] (y ∷ ys) = false
begins_of (x ∷ xs) (y ∷ ys) = eqb x y && begins_of xs ys

-- whether s contains p: p begins s, or s without its first byte contains it
abbrev pub contains_of : List ℕ → List ℕ → Bool
contains_of [] p = begins_of [] p
contains_of (x ∷ xs) p = begins_of (x ∷ xs) p || contains_of xs p

-- whether s ends with p: they are the same, or s without its first byte ends with it
abbrev pub ends_of : List ℕ → List ℕ → Bool
ends_of [] p = same_of [] p
ends_of (x ∷ xs) p = same_of (x ∷ xs) p || ends_of xs p

-- the number of v and the k bytes after it, greatest first; a byte past the end counts as 0
unfoldable pub lead : ℕ → ℕ → List ℕ → ℕ
lead zero v s = v
lead (suc k) v [] = lead k (v * 256) []
lead (suc k) v (b ∷ s) = lead k (v * 256 + b) s
