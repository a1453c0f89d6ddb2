-- The most slots that a sound tree's entries hold at once. Assumes nothing.
use Prim.Native.Nat.{ℕ, ◌+◌, ◌≤◌, max}
use native.Mathlib.Omega.{arith}
use mathlib.Core.Path.{◌≡◌, refl, sym, ap, ◌∙◌}
use mathlib.Core.Bool.{Bool, true, false, cond}
use mathlib.Core.List.{List, [], ◌∷◌, ◌++◌, append_assoc, append-nil}
use lib.Dec.{eqb}
use lib.ListN.{length, replicate, length-replicate}
use Rattle.opcode.specs.Opcode.{Kind, value}
use Rattle.table.specs.declared.Entry.{Entry}
use Rattle.grammar.specs.Tree.{Tree, Trees}
use Rattle.grammar.specs.Function.{function_of}
use Rattle.grammar.specs.Size.{count_of, entries_of, pool_of, pool_in, depth_of, depth_in}
use Rattle.translator.specs.Compile.{entry, skip_entries, call_entry, code_of, code_in}
use Rattle.translator.specs.Depth.{slots_after, most_slots}
use Rattle.translator.proofs.Entries.{Does, skip_false, skip_true, leaf_does}
use Rattle.translator.proofs.Sound.{Sound, SoundIn, a_leaf, a_group, a_unary, a_binary, a_call, no_more, one_more, depth_some}

does_slots : {e : Entry} {ts : List Kind} {g : Kind} → Does e ts g → (h : ℕ) → slots_after e (length ts + h) ≡ h + 1
does_slots {e} {ts} d h = rw d.takes (omega arith)

-- one entry, whose operands are there
does_most : {e : Entry} {ts : List Kind} {g : Kind} → Does e ts g → (es : List Entry) (n h : ℕ) → length ts + h ≡ n → most_slots (e ∷ es) n ≡ max n (most_slots es (h + 1))
unfolding most_slots
does_most {e} {ts} d es n h q = rw (← q, does_slots d h)

most_here : (es : List Entry) (h : ℕ) → h ≤ most_slots es h
unfolding most_slots
most_here [] h = omega arith
most_here (e ∷ es) h = omega arith

skip_most : (k n : ℕ) (es : List Entry) (h : ℕ) → most_slots (skip_entries k n ++ es) (h + 1) ≡ most_slots es (h + 1)
skip_most k n es h = go (eqb k 41) (eqb k 43)
  where
    go : (a b : Bool) → most_slots (cond a (entry 44 (n + 1) 0 ∷ []) (cond b (entry 45 (n + 1) 0 ∷ []) []) ++ es) (h + 1) ≡ most_slots es (h + 1)
    go true b = let m = most_here es (h + 1) in does_most (skip_false n).does es (h + 1) h (omega arith) ∙ omega arith
    go false true = let m = most_here es (h + 1) in does_most (skip_true n).does es (h + 1) h (omega arith) ∙ omega arith
    go false false = refl

-- of arguments: the most that they hold, which is 0 for none
record Most (ts : Trees) (m : ℕ) (es : List Entry) (h : ℕ) : Type 0 where
  args : ℕ
  is : m ≡ max (h + args) (most_slots es (h + count_of ts))
  all : depth_in ts ≡ max 1 args
  count : count_of ts ≤ args

mutual
  unfolding code_of depth_of count_of

  most : {t : Tree} → Sound t → (at : ℕ) (es : List Entry) (h : ℕ) → most_slots (code_of at t ++ es) h ≡ max (h + depth_of t) (most_slots es (h + 1))
  most (a_leaf {x} k r) at es h =
      let m = most_here es (h + 1) in
      does_most (leaf_does at x k r) es h h (omega arith) ∙ omega arith
  most (a_group d) at es h = most d at es h
  most (a_unary {k} {t} a d e) at es h =
      let m = most_here es (h + 1) in
      let p = depth_some t in
      let s = does_most a.does es (h + 1) h (omega arith) in
      rw append_assoc (most d at (entry k 0 0 ∷ es) h ∙ omega (arith, s))
  most (a_binary {k} {t} {u} a d e f g) at es h =
      let m = most_here es (h + 1) in
      let p = depth_some t in
      let q = depth_some u in
      let s = does_most a.does es (h + 1 + 1) h (omega arith) in
      let v = most f (at + pool_of t) (entry k 0 0 ∷ es) (h + 1) in
      let w = skip_most k (entries_of u) (code_of (at + pool_of t) u ++ (entry k 0 0 ∷ es)) h in
      simp append_assoc (most d at (skip_entries k (entries_of u) ++ (code_of (at + pool_of t) u ++ (entry k 0 0 ∷ es))) h ∙ omega (arith, s, v, w))
  most (a_call {x} {ts} a d) at es h =
      let m = most_here es (h + 1) in
      let l : length (replicate (count_of ts) value) ≡ count_of ts = length-replicate (count_of ts) value in
      let s = does_most a.does es (h + count_of ts) h (omega arith) in
      let r = most_in d at (call_entry (function_of x) (count_of ts) ∷ es) h in
      rw append_assoc (r.is ∙ omega (arith, s, r.all, r.count))

  most_in : {ts : Trees} → SoundIn ts → (at : ℕ) (es : List Entry) (h : ℕ) → Most ts (most_slots (code_in at ts ++ es) h) es h
  most_in no_more at es h =
      let m = most_here es h in
      let z : h + 0 ≡ h = omega arith in
      record { args = 0; is = rw z (omega arith); all = omega arith; count = omega arith }
  most_in (one_more {ts} {t} d e f) at es h =
      let r = most_in d at (code_of (at + pool_in ts) t ++ es) h in
      let v = most e (at + pool_in ts) es (h + count_of ts) in
      let z : h + count_of ts + 1 ≡ h + (count_of ts + 1) = omega arith in
      let q = depth_some t in
      record {
        args = max r.args (count_of ts + depth_of t);
        is = rw append_assoc (r.is ∙ omega (arith, v, ap (most_slots es) z));
        all = omega (arith, r.all);
        count = omega (arith, r.count);
      }

pub most_slots_lem : (t : Tree) → Sound t → (at : ℕ) → most_slots (code_of at t) 0 ≡ depth_of t
unfolding most_slots
most_slots_lem t d at =
    let p = depth_some t in
    ap (λ (es : List Entry). most_slots es 0) (sym (append-nil (code_of at t))) ∙ most d at [] 0 ∙ omega arith
