-- The passes over sizes and codes: the sum, the entries and the pool. Assumes nothing.
use Prim.Native.Nat.{ℕ, suc, ◌+◌, ◌-◌, ◌*◌, ◌≤◌, ◌<◌}
use native.Mathlib.Omega.{arith}
use native.Mathlib.Numerals.{add-one}
use mathlib.Core.Path.{◌≡◌, refl, sym, ap, ap₂, ◌∙◌, subst}
use mathlib.Core.Bool.{true, false}
use mathlib.Core.List.{List, [], ◌∷◌, ◌++◌}
use lib.ListN.{length, get_or, drop, length-append, length-drop, drop_of_length-le}
use lib.Seq.{sets, drop-cons, length-sets}
use Rattle.common.proofs.Stores.{sets_append}
use Rattle.postfix.proofs.Codes.{sets_swap}
use Rattle.table.specs.Table.{entry_bytes, entries_bytes}
use Rattle.translator.specs.Emit.{entry_start}
use Rattle.translator.specs.Expand.{pushes, operands_by, brought_by, entry_by, expand, pooled, SizedBy, Sized, sum_from}
use Rattle.translator.proofs.Stores.{length_entry, length_entries}

next_is : (cs : List ℕ) (i : ℕ) → i < length cs → drop i cs ≡ get_or cs i 0 ∷ drop (i + 1) cs
next_is cs i h = rw add-one (drop-cons cs i 0 h)

ended : (cs : List ℕ) (i : ℕ) → length cs ≤ i → drop i cs ≡ []
ended cs i h = drop_of_length-le cs {i = i} h

-- ---- one code

module _ (c : ℕ) where
  pub operands_one : pushes c ≡ true → 1 ≡ operands_by c
  operands_one h = rw h

  pub operands_none : pushes c ≡ false → 0 ≡ operands_by c
  operands_none h = rw h

-- ---- the sum

pub record Summing (xs : List ℕ) (n sum i : ℕ) : Type 0 where
  pub within : i ≤ n
  pub low : sum ≤ 65536 * i
  pub is : sum + sum_from xs i (n - i) ≡ sum_from xs 0 n

pub sum_start : (xs : List ℕ) (n : ℕ) → Summing xs n 0 0
sum_start xs n = let e : n - 0 ≡ n = omega arith in record { within = omega arith; low = omega arith; is = rw e (omega arith) }

module _ {xs : List ℕ} {n sum i : ℕ} (g : Summing xs n sum i) where
  pub sum_on : {to : ℕ} → i < n → to ≡ sum + get_or xs i 0 → get_or xs i 0 < 65536 → Summing xs n to (i + 1)
  unfolding sum_from
  sum_on h e l =
      let m : n - i ≡ suc (n - (i + 1)) = omega arith in
      let f : sum_from xs i (n - i) ≡ get_or xs i 0 + sum_from xs (i + 1) (n - (i + 1)) = ap (sum_from xs i) m in
      record { within = omega arith; low = omega (arith, g.low); is = omega (arith, g.is, f, e) }

  pub sum_end : n ≤ i → sum ≡ sum_from xs 0 n
  unfolding sum_from
  sum_end h =
      let m : n - i ≡ 0 = omega arith in
      let f : sum_from xs i (n - i) ≡ 0 = ap (sum_from xs i) m in
      omega (arith, g.is, f)

-- ---- entries and pool

length_expand : (s places cs : List ℕ) (l at : ℕ) → length (expand s places cs l at) ≡ length cs
unfolding expand
length_expand s places [] l at = refl
length_expand s places (c ∷ cs) l at = ap suc (length_expand s places cs (l + operands_by c) (at + length (brought_by s c (get_or places l 0))))

pub length_written : (s places cs : List ℕ) (l at : ℕ) → length (entries_bytes (expand s places cs l at)) ≡ 12 * length cs
length_written s places cs l at = length_entries (expand s places cs l at) ∙ ap (λ (n : ℕ). 12 * n) (length_expand s places cs l at)

module _ (s places sizes codes was : List ℕ) where
  abbrev pub whole : List ℕ
  whole = sets (sets was 10 (entries_bytes (expand s places codes 0 0))) (entry_start (length codes)) (pooled s places codes 0)

  pub record Writing (now : List ℕ) (leaf pool i : ℕ) : Type 0 where
    pub within : i ≤ length codes
    pub few : leaf ≤ i
    pub long : length now ≡ length was
    pub sized : Sized s places sizes (drop i codes) leaf
    pub ends : pool + length (pooled s places (drop i codes) leaf) ≡ length (pooled s places codes 0)
    pub bytes : sets (sets now (entry_start i) (entries_bytes (expand s places (drop i codes) leaf pool))) (entry_start (length codes) + pool) (pooled s places (drop i codes) leaf) ≡ whole

  pub write_start : Sized s places sizes codes 0 → Writing was 0 0 0
  write_start sized =
      let e : entry_start (length codes) + 0 ≡ entry_start (length codes) = omega arith in
      record { within = omega arith; few = omega arith; long = refl; sized = sized; ends = omega arith; bytes = rw e }

  module _ {now : List ℕ} {leaf pool i : ℕ} (g : Writing now leaf pool i) where
    pub write_end : length codes ≤ i → now ≡ whole
    unfolding expand pooled entries_bytes
    write_end h = let e = ended codes i h in rw e at g.bytes

    module _ (h : i < length codes) where
      abbrev code : ℕ
      code = get_or codes i 0

      abbrev brought : List ℕ
      brought = brought_by s code (get_or places leaf 0)

      pool-next : pooled s places (drop i codes) leaf ≡ brought ++ pooled s places (drop (i + 1) codes) (leaf + operands_by code)
      unfolding pooled
      pool-next = ap (λ (cs : List ℕ). pooled s places cs leaf) (next_is codes i h)

      entries_next : entries_bytes (expand s places (drop i codes) leaf pool)
          ≡ entry_bytes (entry_by s code (get_or places leaf 0) pool) ++ entries_bytes (expand s places (drop (i + 1) codes) (leaf + operands_by code) (pool + length brought))
      unfolding expand entries_bytes
      entries_next = ap (λ (cs : List ℕ). entries_bytes (expand s places cs leaf pool)) (next_is codes i h)

      sized-next : Sized s places sizes (code ∷ drop (i + 1) codes) leaf
      sized-next = subst (λ (cs : List ℕ). Sized s places sizes cs leaf) (next_is codes i h) g.sized

      -- there is room for the entry and for what it brings
      pub write-fits : entry_start (length codes) + length (pooled s places codes 0) ≤ length was → length codes ≤ 512 → length (pooled s places codes 0) ≤ 4096
          → (i < 512) × (entry_start (i + 1) ≤ entry_start (length codes)) × (entry_start (length codes) + pool + length brought ≤ length now) × (length brought ≤ 4096) × SizedBy s code (get_or places leaf 0) (get_or sizes leaf 0)
      write-fits room few small =
          let n = ap length pool-next ∙ length-append brought (pooled s places (drop (i + 1) codes) (leaf + operands_by code)) in
          (omega arith, omega arith, omega (arith, g.ends, g.long), omega (arith, g.ends), sized-next.0)

      pub write-on : {mid : List ℕ} {to end : ℕ} → to ≡ leaf + operands_by code → operands_by code ≤ 1 → end ≡ pool + length brought
          → mid ≡ sets (sets now (entry_start (length codes) + pool) brought) (entry_start i) (entry_bytes (entry_by s code (get_or places leaf 0) pool))
          → Writing mid to end (i + 1)
      write-on {mid} {to} {end} et one en q =
          let at = entry_start (length codes) + pool in
          let eb = entry_bytes (entry_by s code (get_or places leaf 0) pool) in
          let rest = entries_bytes (expand s places (drop (i + 1) codes) (leaf + operands_by code) (pool + length brought)) in
          let more = pooled s places (drop (i + 1) codes) (leaf + operands_by code) in
          let le : length eb ≡ 12 = length_entry (entry_by s code (get_or places leaf 0) pool) in
          let lr : length rest ≡ 12 * length (drop (i + 1) codes) = length_written s places (drop (i + 1) codes) (leaf + operands_by code) (pool + length brought) in
          let ld = length-drop (i + 1) codes in
          let la = length-append eb rest in
          let n = ap length pool-next ∙ length-append brought more in
          let two : sets mid (entry_start (i + 1)) rest ≡ sets (sets now (entry_start i) (eb ++ rest)) at brought =
          ap (λ (l : List ℕ). sets l (entry_start (i + 1)) rest) q
          ∙ ap (λ (m : ℕ). sets (sets (sets now at brought) (entry_start i) eb) m rest) (omega (arith, le))
          ∙ sym (sets_append eb rest (sets now at brought) (entry_start i))
          ∙ sets_swap (eb ++ rest) brought now (entry_start i) at (omega (arith, le, lr, ld, la)) in
          let three : sets (sets mid (entry_start (i + 1)) rest) (entry_start (length codes) + (pool + length brought)) more ≡ whole =
          ap (λ (l : List ℕ). sets l (entry_start (length codes) + (pool + length brought)) more) two
          ∙ ap (λ (m : ℕ). sets (sets (sets now (entry_start i) (eb ++ rest)) at brought) m more) (omega arith)
          ∙ sym (sets_append brought more (sets now (entry_start i) (eb ++ rest)) at)
          ∙ ap₂ (λ (x y : List ℕ). sets (sets now (entry_start i) x) at y) (sym entries_next) (sym pool-next)
          ∙ g.bytes in
          rw (et, en) (record {
            within = omega arith;
            few = omega (arith, g.few);
            long = ap length q ∙ simp length-sets g.long;
            sized = sized-next.1;
            ends = omega (arith, g.ends, n);
            bytes = three;
          })
