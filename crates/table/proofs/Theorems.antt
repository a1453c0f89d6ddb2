-- The theorems on tables that specs/Theorems.antt states. Assumes nothing.
use mathlib.Core.Path.{◌≡◌, refl, sym, ap, ◌∙◌}
use mathlib.Core.Bool.{Bool, true, false, ◌&&◌, ◌||◌, or-true}
use mathlib.Core.List.{List}
use Prim.Native.Nat.{ℕ, suc, ◌-◌, ◌^◌, ◌≤◌, ◌<◌}
use native.Mathlib.Numerals.{add-one}
use native.Mathlib.Omega.{arith}
use lib.Dec.{leb, ltb}
use lib.IntN.{ℤ, pos, negsuc}
use lib.ListN.{length}
use borrow.Author.Tests.{ltb-true, lt-ltb, leb-true, le-leb}
use mir.Syntax.{w32, w64}
use mir.Val.{SFits, of_z}
use Rattle.table.specs.Table.{most_bytes, encode, decode, layout_of, count_of, entry_at, entries_of, pool_of}
use Rattle.table.specs.Check.{in_range, entries_right, shape_from, shape_at, end_right, skips_right, patterns_before, patterns_right, program_right, check_of}
use Rattle.table.specs.Theorems.{DecodeEncode, EncodeDecode, Layout, Widened, CheckEncode, CheckWays, EveryReached, CheckedEntry, CheckedSkip, CheckedEnds, PartsName}
use Rattle.table.proofs.Tests.{both_true, are_true}
use Rattle.table.proofs.Laid.{laid, keeps, inside}
use Rattle.table.proofs.Encoding.{read_written, laid_out, written_read, within_limits, written_bytes_lem}
use Rattle.table.proofs.Reading.{length_entries, entry_of}
use Rattle.table.proofs.Passes.{each_right, each_pattern}
use Rattle.table.proofs.Patterns.{every_pattern, patterns_right_lem}
use Rattle.table.proofs.Reached.{depth, end_shape, each_step, each_landing, every_way, reached, ends_right, skips_right_lem}
use Rattle.table.proofs.Parts.{is_pooled, bytes_lie, bytes_are, parts_there}

-- ---- layout

pub decode_encode : DecodeEncode
decode_encode p l = read_written p l

pub encode_decode : EncodeDecode
encode_decode s b e = (within_limits s b (laid s e), written_read s b (laid s e))

pub layout : Layout
layout s = (
  λ h. let r = encode_decode s h.0 h.1 in (decode s, r.0, sym r.1),
  λ h. rw h.2 (written_bytes_lem h.0 h.1.bytes, keeps (encode h.0) (laid_out h.0 h.1)),
)

-- ---- the check

in_range_lem : (z : ℤ) → SFits w32 z → in_range (of_z w64 z) ≡ true
in_range_lem (pos n) f = let h = f.sfits in rw (lt-ltb n (2 ^ 31) h)
in_range_lem (negsuc n) f =
    let h = f.sfits in
    rw (le-leb (2 ^ 64 - 2 ^ 31) (2 ^ 64 - suc n) (omega arith), lt-ltb (2 ^ 64 - suc n) (2 ^ 64) (omega arith)) (or-true (ltb (2 ^ 64 - suc n) (2 ^ 31)))

pub widened : Widened
widened b = (λ h. go (ltb b (2 ^ 31)) refl h, λ h. rw h.2 (in_range_lem h.0 h.1))
  where
    go : (t : Bool) → ltb b (2 ^ 31) ≡ t → (t || (leb (2 ^ 64 - 2 ^ 31) b && ltb b (2 ^ 64))) ≡ true → (z : ℤ) × SFits w32 z × (b ≡ of_z w64 z)
    go true e h = (pos b, record { sfits = ltb-true b (2 ^ 31) e }, refl)
    go false e h =
        let p = both_true (leb (2 ^ 64 - 2 ^ 31) b) (ltb b (2 ^ 64)) h in
        let l = leb-true (2 ^ 64 - 2 ^ 31) b p.0 in
        let u = ltb-true b (2 ^ 64) p.1 in
        (negsuc (2 ^ 64 - 1 - b), record { sfits = omega arith }, omega arith)

pub check_encode : CheckEncode
unfolding check_of
check_encode p l = ap (λ (b : Bool). b && program_right (decode (encode p))) (keeps (encode p) (laid_out p l)) ∙ ap program_right (read_written p l)

-- the parts of a check that passes
record Parts (s : List ℕ) : Type 0 where
  lay : layout_of s ≡ true
  right : entries_right (pool_of s) (entries_of s) ≡ true
  ends : end_right (entries_of s) ≡ true
  lands : skips_right (entries_of s) (length (entries_of s)) ≡ true
  patterns : patterns_right (pool_of s) (entries_of s) (length (entries_of s)) ≡ true

parts : (s : List ℕ) → check_of s ≡ true → Parts s
unfolding check_of
parts s e =
    let a = both_true (layout_of s) (program_right (decode s)) e in
    let b = both_true (entries_right (pool_of s) (entries_of s)) _ a.1 in
    let c = both_true (end_right (entries_of s)) _ b.1 in
    let d = both_true (skips_right (entries_of s) (length (entries_of s))) _ c.1 in
    record { lay = a.0; right = b.0; ends = c.0; lands = d.0; patterns = d.1 }

pub check_ways : CheckWays
unfolding check_of
check_ways s = (
  λ h. let p = parts s h in (p.lay, p.right, every_way (entries_of s) p.ends p.lands, every_pattern (pool_of s) (entries_of s) p.patterns),
  λ h. are_true _ _ h.0 (are_true _ _ h.1 (are_true _ _ (ends_right (entries_of s) h.2) (are_true _ _ (skips_right_lem (entries_of s) h.2) (patterns_right_lem (pool_of s) (entries_of s) h.3)))),
)

pub every_reached : EveryReached
every_reached s c i h =
    let p = parts s c in
    reached (entries_of s) (every_way (entries_of s) p.ends p.lands) i (rw (length_entries s) h)

-- ---- what a run rests on

pub checked_layout : (s : List ℕ) → check_of s ≡ true → layout_of s ≡ true
checked_layout s c = (parts s c).lay

-- a table that passes the check is short
pub checked_short : (s : List ℕ) → check_of s ≡ true → length s ≤ most_bytes
checked_short s c = let l = laid s (checked_layout s c) in omega (arith, l.few, l.small, l.whole)

pub checked_entry : CheckedEntry
checked_entry s c i h =
    let p = parts s c in
    let k : i < length (entries_of s) = rw (length_entries s) h in
    let st = each_step (entries_of s) p.ends p.lands i k in
    let e = entry_of s i h in
    let b = rw e at st.before in
    record {
      rest = st.rest;
      inside = inside s p.lay i h;
      right = rw e at (each_right (pool_of s) (entries_of s) i k p.right);
      before = b;
      next = rw add-one (rw e at st.after);
      shallow = depth (entries_of s) i _ b;
      room = st.room;
    }

pub checked_skip : CheckedSkip
checked_skip s c i h t =
    let p = parts s c in
    let e = entry_of s i h in
    let l = each_landing (entries_of s) p.ends p.lands i (rw (length_entries s) h) (rw e t) in
    (rw (e, length_entries s) at l.0, rw e at l.1)

pub checked_patterns : (s : List ℕ) → check_of s ≡ true → (i : ℕ) → i < count_of s → patterns_before (pool_of s) (entries_of s) i (entry_at s i) ≡ true
checked_patterns s c i h = rw (entry_of s i h) at (each_pattern (pool_of s) (entries_of s) (length (entries_of s)) i (rw (length_entries s) h) (parts s c).patterns)

pub checked_ends : CheckedEnds
unfolding shape_from
checked_ends s c = let p = parts s c in (refl, ap (shape_at (entries_of s)) (sym (length_entries s)) ∙ end_shape (entries_of s) p.ends p.lands)

-- ---- what an entry is

pub parts_name : PartsName
parts_name s c k h o =
    let p = is_pooled (entry_at s k).op o in
    rw (parts_there s k c h, p) (omega arith, bytes_lie s k (checked_layout s c) (checked_entry s c k h).right o, bytes_are s k)
