-- The laws. The proofs are in proofs/Theorems.antt, under the same names.
use Rattle.std.specs.Prelude.{ℕ, ◌≤◌, ◌≡◌, ◌↔◌, Bool, List, length, Option, Some}
use Rattle.octets.specs.Octets.{folded}
use Rattle.utf8.specs.Utf8.{Decodes, HasCharacters, Counts}
use Rattle.utf8.specs.Scan.{count_of}

-- A string is the encoding of one list of characters at most.
abbrev pub Unique : Type 0
Unique = (s cs ds : List ℕ) → Decodes s cs → Decodes s ds → cs ≡ ds

-- There is one right answer at most.
abbrev pub OneAnswer : Type 0
OneAnswer = (s : List ℕ) (q r : Option ℕ) → Counts s q → Counts s r → q ≡ r

-- A right answer is `Some n` exactly if the string is well-formed, of n characters.
abbrev pub BothWays : Type 0
BothWays = (s : List ℕ) (r : Option ℕ) → Counts s r → (n : ℕ) → (r ≡ Some n) ↔ HasCharacters s n

-- No string has more characters than bytes.
abbrev pub Few : Type 0
Few = (s : List ℕ) (n : ℕ) → HasCharacters s n → n ≤ length s

-- The count by the first bytes is right.
abbrev pub Right : Type 0
Right = (s : List ℕ) → Counts s (count_of s)

-- What is right of a string is right of the folded one, ill-formed too.
abbrev pub FoldedSame : Type 0
FoldedSame = (mark : Bool) (s : List ℕ) (r : Option ℕ) → Counts s r → Counts (folded mark s) r

-- A right answer is the count of the string under any mark.
abbrev pub CountedIs : Type 0
CountedIs = (mark : Bool) (s : List ℕ) (r : Option ℕ) → Counts s r → r ≡ count_of (folded mark s)
