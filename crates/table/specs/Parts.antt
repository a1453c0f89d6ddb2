-- What an entry of a table is, for those who ask which field was lacking. Document 02, request 7: "Support staff see `bottom` and can't tell which field was lacking."
use Rattle.std.specs.Prelude.{ℕ, ◌+◌, ◌*◌, Bool, cond, ◌||◌, List, eqb, ltb, Result, Ok, Err}
use Rattle.common.specs.Choice.{pick}
use Rattle.table.specs.Table.{count_of, entry_at}
use Rattle.table.specs.Check.{check_of}
use Rattle.table.specs.declared.EntryParts.{EntryParts}
use Rattle.refusal.specs.Refusal.{number_of}
use Rattle.refusal.specs.declared.Refusal.{Refusal}

-- what is answered of an entry: a refusal's number, 0 if there is none; its op, a and b; and where its bytes lie in the table
pub record EntryAnswer : Type 0 where
  pub number : ℕ
  pub op : ℕ
  pub a : ℕ
  pub b : ℕ
  pub start : ℕ
  pub end : ℕ

-- whether an op has bytes in the pool: "4 string, 5 name (a length, b pool offset ..)"
abbrev pub pooled : ℕ → Bool
pooled op = eqb op 4 || eqb op 5

-- where its bytes start in the table
abbrev pub pool_start : List ℕ → ℕ → ℕ
pool_start s k = 10 + 12 * count_of s + (entry_at s k).b

-- the entry k: op, a and b, and the bytes of a string or a name as a part of the table; 0 and 0 for the others
abbrev pub parts_at : List ℕ → ℕ → EntryAnswer
parts_at s k = record {
  number = 0;
  op = (entry_at s k).op;
  a = (entry_at s k).a;
  b = (entry_at s k).b;
  start = cond (pooled (entry_at s k).op) (pool_start s k) 0;
  end = cond (pooled (entry_at s k).op) (pool_start s k + (entry_at s k).a) 0;
}

-- a refusal answers its number and 0
abbrev pub no_parts : ℕ → EntryAnswer
no_parts number = record { number = number; op = 0; a = 0; b = 0; start = 0; end = 0 }

-- 12 if the table fails its check, then 17 if it has no entry k
abbrev pub parts_of : List ℕ → ℕ → EntryAnswer
parts_of s k = pick (check_of s) (λ _. pick (ltb k (count_of s)) (λ _. parts_at s k) (λ _. no_parts 17)) (λ _. no_parts 12)

-- the code's answer as that one
abbrev pub answered : Result EntryParts Refusal → EntryAnswer
answered (Ok p) = record { number = 0; op = p.op; a = p.a; b = p.b; start = p.start; end = p.end }
answered (Err r) = no_parts (number_of r)
