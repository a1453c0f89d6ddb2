use Prim.Native.Nat.{ℕ}
use Rattle.operands.specs.Gather.{place_at, size_at}
use Rattle.operands.proofs.Gathers.{none_counted, none_stored, one_counted, one_stored, size_here}
use Rattle.operands.proofs.gather_at.Goals as goal

pub returns-then-not-is_operand : goal.returns-then-not-is_operand
returns-then-not-is_operand c =
    let a = c.args in
    let ms = a.marks.now in
    let e = c.is_operand.ensures in
    let t = c.if-not-is_operand.true in
    let place : ℕ → ℕ = place_at a.starts.now in
    let size : ℕ → ℕ = size_at a.text.now ms a.starts.now in
    record {
      value = none_counted ms a.i a.n c.requires.1 e place t;
      places_after = none_stored ms a.i a.n c.requires.1 e place a.places.now t;
      sizes_after = none_stored ms a.i a.n c.requires.1 e size a.sizes.now t;
    }

pub returns : goal.returns
returns c =
    let a = c.args in
    let ms = a.marks.now in
    let e = c.is_operand.ensures in
    let t = c.if-not-is_operand.false in
    let at = c.place-at.ensures in
    let place : ℕ → ℕ = place_at a.starts.now in
    let size : ℕ → ℕ = size_at a.text.now ms a.starts.now in
    record {
      value = one_counted ms a.i a.n c.requires.1 e place t;
      places_after = one_stored ms a.i a.n c.requires.1 e place a.places.now t c.put.ensures at;
      sizes_after = one_stored ms a.i a.n c.requires.1 e size a.sizes.now t c.put-2.ensures (size_here a.text.now ms a.starts.now a.i c.requires.1 at c.size.ensures);
    }
