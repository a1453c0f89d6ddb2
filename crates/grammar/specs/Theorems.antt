-- The theorems on the grammar. The proofs are in proofs/Theorems.antt, under the same names.
use Rattle.std.specs.Prelude.{ℕ, ◌≤◌, ◌≡◌, ◌↔◌, List, length, take}
use Rattle.lexer.specs.Token.{Token}
use Rattle.grammar.specs.Tree.{Tree}
use Rattle.grammar.specs.Grammar.{Level}
use Rattle.grammar.specs.Parse.{ok, bad, parse_all}
use Rattle.grammar.specs.Place.{Completes, Breaks}

-- The parser accepts exactly the token lists that the grammar derives, with that tree.
abbrev pub Parses : Type 0
Parses = (ks : List Token) (t : Tree) → (parse_all ks ≡ ok t (length ks)) ↔ Level 0 ks t

-- Two derivations of the same tokens have the same tree.
abbrev pub Unique : Type 0
Unique = (ks : List Token) (t u : Tree) → Level 0 ks t → Level 0 ks u → t ≡ u

-- The parser names the token p exactly if p is the first after which the grammar allows no completion, or the length.
abbrev pub NamesPlace : Type 0
NamesPlace = (ks : List Token) (p : ℕ) → (parse_all ks ≡ bad p) ↔ Breaks ks p

-- Where the tokens just end, every prefix has a completion, the whole among them, and the whole is not derived.
abbrev pub JustEnds : Type 0
JustEnds =
    (ks : List Token) → parse_all ks ≡ bad (length ks)
    → ((n : ℕ) → n ≤ length ks → Completes (take n ks)) × Completes ks × ((t : Tree) → Level 0 ks t → ⊥)
