-- Folding and sizes: what the code's branches give. Assumes nothing.
use mathlib.Core.Path.{◌≡◌, sym, ap}
use mathlib.Core.Bool.{Bool, true, false}
use mathlib.Core.List.{List}
use Prim.Native.Nat.{ℕ, ◌^◌, ◌<◌}
use native.Mathlib.Omega.{arith}
use mir.Syntax.{w32}
use mir.Val.{hbits}
use Rattle.octets.specs.Octets.{folded}
use Rattle.octets.proofs.Theorems.{folded_twice, not_folded}
use Rattle.std.specs.Prelude.{Option}
use Rattle.utf8.specs.Utf8.{Counts}
use Rattle.utf8.specs.Scan.{count_of}
use Rattle.utf8.proofs.Theorems.{counted_is}
use Rattle.value.specs.Value.{size_by}

-- folding what may be folded already
pub refold : (m : Bool) (s : List ℕ) → folded true (folded m s) ≡ folded true s
refold true s = folded_twice true s
refold false s = ap (folded true) (not_folded s)

pub below_half : (n : ℕ) → n < 65536 → n < 2 ^ hbits w32
below_half n h = omega arith

-- the size of a text, from the right count of its bytes
pub sized : (m : Bool) {s : List ℕ} (t : List ℕ) (r : Option ℕ) → s ≡ t → Counts s r → size_by (count_of (folded m t)) ≡ size_by r
sized m t r e h = ap size_by (sym (counted_is m t r (rw e at h)))
