use mathlib.Core.Bool.{true}
use mathlib.Core.List.{List}
use mathlib.Core.Path.{◌≡◌, ap}
use Prim.Native.Nat.{ℕ, ◌+◌, ◌*◌, ◌≤◌, ◌<◌}
use borrow.Author.Rules.{rules}
use Rattle.table.specs.Table.{Entry, most_bytes, count_of, entry_at}
use Rattle.table.specs.Check.{check_of}
use Rattle.table.specs.Parts.{pooled}
use Rattle.table.proofs.Laid.{laid}
use Rattle.table.proofs.Theorems.{checked_layout, checked_entry}
use Rattle.table.proofs.Parts.{parts_small}
use Rattle.table.proofs.parts_at.Goals as goal

-- a string's or a name's bytes end early
small : (s : List ℕ) (k n : ℕ) (e : Entry) → check_of s ≡ true → k < count_of s → e ≡ entry_at s k → n ≡ count_of s → pooled e.op ≡ true → 10 + 12 * n + e.b + e.a ≤ most_bytes
small s k n e p h q m o =
    parts_small s k _ _ _ (ap (λ (x : Entry). x.op) q) (ap (λ (x : Entry). x.a) q) (ap (λ (x : Entry). x.b) q) n m o (checked_layout s p) (checked_entry s p k h).right

pub entry_at-e-requires : goal.entry_at-e-requires
entry_at-e-requires c = let a = c.args in let p = c.requires in (checked_entry a.table.now p.0 a.k p.1).inside

pub count-requires : goal.count-requires
count-requires c = let t = c.args.table.now in (laid t (checked_layout t c.requires.0)).head

pub overflow_add-start-then-e : goal.overflow_add-start-then-e
overflow_add-start-then-e c =
    let p = c.requires in
    let h = small c.args.table.now c.args.k _ _ p.0 p.1 c.entry_at-e.ensures c.count.ensures.0 c.if-e.true in
    search rules

pub overflow_add-end : goal.overflow_add-end
overflow_add-end c =
    let p = c.requires in
    let h = small c.args.table.now c.args.k _ _ p.0 p.1 c.entry_at-e.ensures c.count.ensures.0 c.if-e.true in
    search rules
