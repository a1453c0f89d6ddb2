-- `put_fields` meets its contract: what is left to store after i fields makes the same of the notice. Assumes nothing.
use Rattle.std.proofs.Common.{rules}
use mathlib.Core.Path.{◌≡◌, refl, sym, ap, ◌∙◌}
use mathlib.Core.List.{List}
use Prim.Native.Nat.{ℕ, ◌<◌}
use native.Mathlib.Omega.{arith}
use lib.ListN.{get_or, take}
use lib.Seq.{get_or-take}
use Rattle.notice.specs.Layout.{next_at}
use Rattle.notice.proofs.Places.{right_lies}
use Rattle.mend.proofs.Orders.{right_at_lem}
use Rattle.mend.proofs.Placed.{Placing, flushed, grown}
use Rattle.mend.proofs.placing.put_fields.Goals as goal
use Rattle.mend.proofs.placing.put_fields.Goals.{then-at-end, else-at-end}

along : {s order notice₀ x x' : List ℕ} {n y y' z z' e e' i : ℕ} → x ≡ x' → y ≡ y' → z ≡ z' → e ≡ e' → Placing s order n notice₀ x' y' z' e' i → Placing s order n notice₀ x y z e i
along p q r t v = rw (p, q, r, t) v

pub loop-start-preserved : goal.loop-start-preserved
loop-start-preserved c =
    let a = c.args in
    let i = c.loop-start in
    let j = c.if-at-end in
    let at = get_or a.order.now i.start-index 0 in
    let h : i.start-index < a.n = omega (arith, c.loop-start-test.true, i.auto.start-index-end) in
    let e : get_or (take a.n a.order.now) i.start-index 0 ≡ at = get_or-take a.n a.order.now i.start-index 0 h in
    let l = right_lies a.bytes.now at (right_at_lem a.bytes.now a.order.now a.n c.requires.0 i.start-index h) in
    let met : Placing a.bytes.now a.order.now a.n a.notice.now j.notice j.to j.from at i.start-index = elim j.branch [
      | then-at-end w ↦ along w.notice-is w.to-is (w.from-is ∙ e) refl (flushed a.bytes.now a.order.now a.n a.notice.now i.notice i.to i.from i.end i.start-index i.invariant w.copy.new.buffer at w.copy.ensures (omega (arith, l.within)))
      | else-at-end w ↦ along w.notice-is w.to-is w.from-is (sym e ∙ w.if-at-end.false) i.invariant
    ] in
    grown a.bytes.now a.order.now a.n a.notice.now j.notice j.to j.from at i.start-index met c.requires.0 h refl (λ k. search rules) _ (c.next_at-end.ensures ∙ ap (next_at a.bytes.now) e)
