use Prim.Native.Nat.{ℕ}
use Rattle.operands.specs.Gather.{place_at}
use Rattle.operands.proofs.Gathers.{gathering_starts, gathering_on, gathering_ends, counting_ends}
use Rattle.operands.proofs.gather.Goals as goal

pub loop-i-init : goal.loop-i-init
loop-i-init c = (gathering_starts _ _ _, gathering_starts _ _ _)

pub gather_at-n-requires : goal.gather_at-n-requires
gather_at-n-requires c = (c.requires, c.loop-i-test.true, c.loop-i.invariant.0.few)

pub loop-i-preserved : goal.loop-i-preserved
loop-i-preserved c =
    let l = c.loop-i in
    let place : ℕ → ℕ = place_at c.args.starts.now in
    let g = c.gather_at-n in
    let t = c.loop-i-test.true in
    (gathering_on l.invariant.0 place t g.ensures.value g.ensures.places_after, gathering_on l.invariant.1 place t g.ensures.value g.ensures.sizes_after)

pub shape_of-places : goal.shape_of-places
shape_of-places c = c.loop-i.invariant.0.long

pub shape_of-sizes : goal.shape_of-sizes
shape_of-sizes c = c.loop-i.invariant.1.long

pub returns : goal.returns
returns c =
    let l = c.loop-i in
    let t = c.loop-i-test.false in
    record { value = counting_ends l.invariant.0 t; places_after = gathering_ends l.invariant.0 t; sizes_after = gathering_ends l.invariant.1 t }
