-- The check in the papers' own words. "Every way" is static: each skip counts as taken and as not taken.
use Rattle.std.specs.Prelude.{ℕ, suc, ◌+◌, ◌≤◌, ◌<◌, ◌≡◌, Bool, true, List, [], ◌∷◌, ◌++◌, length, get_or}
use Rattle.std.proofs.Math.Option.{some}
use Rattle.opcode.specs.Opcode.{op_of, Kind, logic, takes_of, gives_of}
use Rattle.table.specs.Table.{Entry, blank}
use Rattle.table.specs.Check.{is_skip, landing, part_of, pattern_test}

-- the operands of the entry i, the topmost first, and what it puts in their place
abbrev pub taken_at : List Entry → ℕ → List Kind
taken_at es i = takes_of (op_of (get_or es i blank).op) (get_or es i blank).a

abbrev pub given_at : List Entry → ℕ → Kind
given_at es i = gives_of (op_of (get_or es i blank).op)

-- a way reaches the entry i with this stack of kinds, the topmost first
pub data Reaches (es : List Entry) : ℕ → List Kind → Type 0 where
  -- "The run starts at entry 0 with an empty stack."
  start : Reaches es 0 []
  -- "The other ops replace their operands .. by their result"; a skip that is not taken keeps its operand
  falls : {i : ℕ} (ks : List Kind) → Reaches es i (taken_at es i ++ ks) → i < length es → Reaches es (suc i) (given_at es i ∷ ks)
  -- a skip that is taken
  skips : {i : ℕ} (ks : List Kind) → Reaches es i ks → i < length es → is_skip (get_or es i blank) ≡ true → Reaches es (landing es i) ks

-- "each entry has enough operands of the right kind; depth is at most 32; a skip lands at or before N; every way of reaching an entry, or the end, finds the same depth and
-- kinds, and the end has one logic slot"
pub record EveryWay (es : List Entry) : Type 0 where
  pub enough : (i : ℕ) (ks : List Kind) → Reaches es i ks → i < length es → (rest : List Kind) × (ks ≡ taken_at es i ++ rest)
  pub shallow : (i : ℕ) (ks : List Kind) → Reaches es i ks → length ks ≤ 32
  pub lands : (i : ℕ) → i < length es → is_skip (get_or es i blank) ≡ true → landing es i ≤ length es
  pub same : (i : ℕ) (ks ls : List Kind) → Reaches es i ks → Reaches es i ls → ks ≡ ls
  pub ends : (ks : List Kind) → Reaches es (length es) ks → ks ≡ logic ∷ []

-- the operands of the entry i behind its first one are its a entries directly before it: "op 4", and each one a pattern by the test
pub record Patterns (pool : List ℕ) (es : List Entry) (i : ℕ) (test : List ℕ → Bool) : Type 0 where
  pub enough : (get_or es i blank).a ≤ i
  pub string : (k : ℕ) → k < i → i ≤ k + (get_or es i blank).a → (get_or es k blank).op ≡ 4
  pub formed : (k : ℕ) → k < i → i ≤ k + (get_or es i blank).a → test (part_of pool (get_or es k blank)) ≡ true

-- "the table check gives 12 for it [an ill-formed pattern] and for a pattern operand that is no op 4 entry directly before"
abbrev pub EveryPattern : List ℕ → List Entry → Type 0
EveryPattern pool es = (i : ℕ) → i < length es → (test : List ℕ → Bool) → pattern_test (op_of (get_or es i blank).op) ≡ some test → Patterns pool es i test
