-- Small tables: the cells as bits of a word, the first one lowest, above a bit that says whether a way has ended.
use Rattle.std.specs.Prelude.{ℕ, zero, suc, ◌/◌, ◌%◌, ◌≤◌, ◌≡◌, Bool, true, false, cond, ◌&&◌, List, [], ◌∷◌, length, get_or, eqb, leb, ltb}
use Rattle.std.specs.List.{list_all}
use Rattle.automaton.specs.Pass.{Token, started, left, pass}
use Rattle.automaton.specs.Table.{sort, absent}
use Rattle.automaton.specs.declared.Level.{Level}
use Rattle.automaton.specs.declared.Reach.{Reach}

-- the n lowest bits
abbrev pub bits_of : ℕ → ℕ → List Bool
bits_of zero x = []
bits_of (suc n) x = eqb (x % 2) 1 ∷ bits_of n (x / 2)

abbrev pub bit_if : Bool → ℕ → ℕ
bit_if true b = b
bit_if false b = 0

abbrev pub cells_in : ℕ → ℕ → List Bool
cells_in n w = bits_of n (w / 2)

abbrev pub ended_in : ℕ → Bool
ended_in w = eqb (w % 2) 1

-- a token that takes one byte
abbrev pub single : ℕ → Bool
single k = ltb (sort k) 3

-- without groups
abbrev pub plain : List ℕ → Bool
plain ks = list_all single ks

-- every token may be absent
abbrev pub optional : List ℕ → Bool
optional ks = list_all absent ks

-- The tables that are read so: a word has room for their cells.
abbrev pub small : List ℕ → Bool
small ks = leb (length ks) 62 && plain ks

-- One byte leads from the word w to the word x; k says that a way enters.
abbrev pub Leads : List Token → ℕ → Bool → ℕ → ℕ → ℕ → Type 0
Leads ts n k c w x = (l : Level) × (pass ts (cells_in n w) c (started k) [] ≡ left (cells_in n x) l) × (l.fin ≡ ended_in x)

-- how many bytes come before the first b
abbrev pub ahead : ℕ → List ℕ → ℕ
ahead b [] = 0
ahead b (c ∷ x) = cond (eqb c b) 0 (suc (ahead b x))

-- no mark from an index on
abbrev pub Low : List Bool → ℕ → Type 0
Low ms top = (j : ℕ) → top ≤ j → get_or ms j false ≡ false

-- One byte leads from cells to others; k says that a way enters.
abbrev pub Reaches : List Token → List Bool → Bool → ℕ → List Bool → Reach → Type 0
Reaches ts ms k c ns r = ((l : Level) × (pass ts ms c (started k) [] ≡ left ns l) × (l.fin ≡ r.fin)) × Low ns r.top
