-- The loop's variables as places in the table, around the laws of a visit, which are over the entries' numbers. Assumes nothing.
use mathlib.Core.Path.{◌≡◌, refl, sym, ap, ◌∙◌}
use mathlib.Core.Bool.{Bool, true, false, cond, ◌&&◌}
use mathlib.Core.List.{List}
use Prim.Native.Nat.{ℕ, ◌+◌, ◌-◌, ◌*◌, ◌/◌, ◌<◌, ◌≤◌}
use native.Mathlib.Omega.{arith}
use borrow.Author.Tests.{eqb-true, ne_eqb, le-ltb}
use lib.Dec.{eqb, ltb}
use lib.ListN.{length}
use Rattle.table.specs.Table.{count_of, pool_of}
use Rattle.table.specs.Check.{check_of}
use Rattle.value.specs.declared.Slot.{Slot}
use Rattle.interpreter.specs.Undecided.{no_entry}
use Rattle.interpreter.specs.Machine.{fresh, limit_of, Visited}
use Rattle.interpreter.proofs.Firsts.{with_next}
use Rattle.interpreter.proofs.Visits.{machine, Going, begin, few, entry_fits, told, ended}

-- where an entry ends; 0 for none
abbrev pub end_of : ℕ → ℕ
end_of f = cond (eqb f no_entry) 0 (22 + 12 * f)

-- its number again
number_of : (f : ℕ) → cond (ltb (end_of f) 22) 65535 ((end_of f - 22) / 12) ≡ f
number_of f = go (eqb f no_entry) refl
  where
    go : (b : Bool) → eqb f no_entry ≡ b → cond (ltb (cond b 0 (22 + 12 * f)) 22) 65535 ((cond b 0 (22 + 12 * f) - 22) / 12) ≡ f
    go true e = sym (eqb-true f no_entry e)
    go false e = rw (le-ltb (22 + 12 * f) 22 (omega arith)) (omega arith)

-- with one more entry
end_next : (f k : ℕ) (b : Bool) → k < 512 → cond (eqb (end_of f) 0 && b) (22 + 12 * k) (end_of f) ≡ end_of (with_next f k b)
end_next f k b h = go (eqb f no_entry) b refl
  where
    go : (a b : Bool) → eqb f no_entry ≡ a → cond (eqb (cond a 0 (22 + 12 * f)) 0 && b) (22 + 12 * k) (cond a 0 (22 + 12 * f)) ≡ end_of (cond (a && b) k f)
    go true true e = rw (ne_eqb k no_entry (λ q. omega arith)) refl
    go true false e = rw e refl
    go false b e = rw (ne_eqb (22 + 12 * f) 0 (λ q. omega arith), e) refl

-- The loop's variables: the entries of `Going` by their places, the next one and the limit by where they start and the first undecided one by where it ends.
pub record Placed (s pool notice : List ℕ) (n budget : ℕ) (stack : List Slot) (next depth passed end first : ℕ) : Type 0 where
  pub entry : ℕ
  pub undecided : ℕ
  pub starts : next ≡ 10 + 12 * entry
  pub last : end ≡ 10 + 12 * limit_of n budget passed
  pub ends : first ≡ end_of undecided
  pub going : Going s pool notice n budget stack entry depth passed (limit_of n budget passed) undecided

pub placed : {s pool : List ℕ} (notice : List ℕ) (n budget : ℕ) {end : ℕ} → check_of s ≡ true → n ≡ count_of s → pool ≡ pool_of s → end ≡ 10 + 12 * limit_of n budget 0
    → Placed s pool notice n budget fresh.stack 10 0 0 end 0
placed notice n budget c m p e = record { entry = 0; undecided = no_entry; starts = refl; last = e; ends = refl; going = begin notice n budget c m p refl }

module _ {s pool notice : List ℕ} {n budget : ℕ} {stack : List Slot} {next depth passed end first : ℕ} (p : Placed s pool notice n budget stack next depth passed end first) where
  -- where the next entry ends
  pub behind : next + 12 ≡ 22 + 12 * p.entry
  behind = omega (arith, p.starts)

  module _ (h : next < end) where
    -- what the loop's test says, and that the entry lies in the table
    pub more_at : (p.entry < n) × (p.entry < budget + passed)
    more_at = told p.going (omega (arith, p.starts, p.last))

    pub early_at : (next + 12 ≤ 10 + 12 * n) × (n ≤ 512)
    early_at = (omega (arith, p.starts, more_at), few p.going)

    pub inside_at : next + 12 ≤ length s
    inside_at = omega (arith, p.starts, entry_fits p.going more_at.0)

    -- a visit that notes its entry, if it left bottom and is the first
    pub noting : {stack' : List Slot} {depth' first' : ℕ} (b : Bool) → first' ≡ cond (eqb first 0 && b) (next + 12) first
        → Going s pool notice n budget stack' (p.entry + 1) depth' passed (limit_of n budget passed) (with_next p.undecided p.entry b)
        → Placed s pool notice n budget stack' (next + 12) depth' passed end first'
    noting {stack'} {depth'} {first'} b e g =
        record {
          entry = p.entry + 1;
          undecided = with_next p.undecided p.entry b;
          starts = omega (arith, p.starts);
          last = p.last;
          ends = e
              ∙ ap (λ (i : ℕ). cond (eqb first 0 && b) i first) behind
              ∙ ap (λ (f : ℕ). cond (eqb f 0 && b) (22 + 12 * p.entry) f) p.ends
              ∙ end_next p.undecided p.entry b (omega (arith, more_at, early_at));
          going = g;
        }

  -- one that does not, and one that goes a entries further
  pub onward : {stack' : List Slot} {depth' : ℕ} → Going s pool notice n budget stack' (p.entry + 1) depth' passed (limit_of n budget passed) p.undecided
      → Placed s pool notice n budget stack' (next + 12) depth' passed end first
  onward g = record { entry = p.entry + 1; undecided = p.undecided; starts = omega (arith, p.starts); last = p.last; ends = p.ends; going = g }

  pub skipping : {end' : ℕ} (a : ℕ) → end' ≡ 10 + 12 * limit_of n budget (passed + a)
      → Going s pool notice n budget stack (p.entry + 1 + a) depth (passed + a) (limit_of n budget (passed + a)) p.undecided
      → Placed s pool notice n budget stack (next + 12 + 12 * a) depth (passed + a) end' first
  skipping a e g = record { entry = p.entry + 1 + a; undecided = p.undecided; starts = omega (arith, p.starts); last = e; ends = p.ends; going = g }

  -- after the loop: the machine's next entry and the first undecided one are numbers again
  entry_is : (next - 10) / 12 ≡ p.entry
  entry_is = omega (arith, p.starts)

  pub counted : (10 ≤ next) × (passed ≤ (next - 10) / 12)
  counted = omega (arith, p.starts, p.going.within)

  pub answer : {u : ℕ} → end ≤ next → u ≡ cond (ltb first 22) 65535 ((first - 22) / 12)
      → Visited s notice budget (machine stack ((next - 10) / 12) depth ((next - 10) / 12 - passed) u)
  answer {u} h e =
      let f : u ≡ p.undecided = e ∙ ap (λ (i : ℕ). cond (ltb i 22) 65535 ((i - 22) / 12)) p.ends ∙ number_of p.undecided in
      rw (entry_is, f) (ended p.going (omega (arith, p.starts, p.last)))
