use native.Mathlib.Omega.{arith}
use Prim.Native.Nat.{◌+◌}
use mathlib.Core.Path.{◌≡◌, ap, ◌∙◌}
use mathlib.Core.Bool.{◌&&◌}
use Rattle.automaton.specs.Word.{bit_if}
use Rattle.automaton.proofs.Word.{on_turn, leads_quiet, leads_end, grown, small_parts, added, none_added, bit_least, bit_byte}
use Rattle.automaton.proofs.shift_word.Goals as goal
use Rattle.automaton.proofs.shift_word.Goals.{then-hit, else-hit}

pub returns-then-cur-fin : goal.returns-then-cur-fin
returns-then-cur-fin c =
    let a = c.args in
    let l = c.loop-i in
    leads_quiet a.text.now a.kinds.now a.args.now a.c c.requires.0 c.requires.1 a.w l.rest l.out l.i a.k l.cur l.invariant.3.0 l.fin l.invariant.0 l.invariant.2 l.invariant.3.1 c.if-cur-fin.true

pub overflow_mul-bit : goal.overflow_mul-bit
overflow_mul-bit c =
    let l = c.loop-i in
    let q = small_parts c.args.kinds.now c.requires.0 in
    let g = grown l.i l.out l.bit 0 (omega (arith, q.0, c.loop-i-test)) l.invariant.1 l.invariant.2 (omega arith) in record { fits = omega (arith, g.1) }

pub loop-i-preserved : goal.loop-i-preserved
loop-i-preserved c =
    let l = c.loop-i in
    let a = c.args in
    let q = small_parts a.kinds.now c.requires.0 in
    let h = c.hit_if-hit.result in
    let e : c.if-hit.out ≡ l.out + bit_if h l.bit = elim c.if-hit.branch [ then-hit w ↦ added h c.if-hit.out l.out l.bit w.if-hit.true w.out-is | else-hit w ↦ none_added h c.if-hit.out l.out l.bit w.if-hit.false w.out-is ] in
    let g = grown l.i l.out l.bit (bit_if h l.bit) (omega (arith, q.0, c.loop-i-test)) l.invariant.1 l.invariant.2 (bit_least h l.bit) in (
      omega (arith, c.loop-i-test),
      g.2,
      rw e g.3,
      (l.invariant.3.0 && c.absent-o.result, rw e (on_turn a.text.now a.kinds.now a.args.now a.c q.1 c.requires.1 l.rest l.out l.i a.k l.cur l.invariant.3.0 l.fin (omega (arith, c.loop-i-test)) l.invariant.2 c.from-arg.result (bit_if h l.bit) c.repeats-rep.result c.absent-o.result h c.from-arg.ensures c.repeats-rep.ensures c.absent-o.ensures c.hit_if-hit.ensures (ap (bit_if h) l.invariant.1) ∙ l.invariant.3.1)),
    )

pub returns : goal.returns
returns c =
    let a = c.args in
    let l = c.loop-i in
    leads_end a.text.now a.kinds.now a.args.now a.c a.w l.rest l.out l.i c.from.result a.k l.cur l.invariant.3.0 l.fin l.invariant.0 (omega (arith, c.loop-i-test)) l.invariant.3.1 (c.from.ensures ∙ bit_byte l.fin)
