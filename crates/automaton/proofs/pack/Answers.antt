use native.Mathlib.Omega.{arith}
use mathlib.Core.Bool.{false}
use Prim.Native.Nat.{◌+◌}
use mathlib.Core.Path.{◌≡◌, refl, ◌∙◌}
use lib.ListN.{get_or}
use Rattle.automaton.specs.Word.{bit_if}
use Rattle.automaton.proofs.Word.{grown, added, none_added, bit_least, bit_byte}
use Rattle.automaton.proofs.Told.{pack_one, pack_all}
use Rattle.automaton.proofs.pack.Goals as goal
use Rattle.automaton.proofs.pack.Goals.{then-m, else-m}

pub overflow_mul-bit : goal.overflow_mul-bit
overflow_mul-bit c =
    let l = c.loop-m in
    let g = grown l.m-index l.out l.bit 0 (omega (arith, c.requires)) l.invariant.1 l.invariant.2 (omega arith) in record { fits = omega (arith, g.1) }

pub loop-m-preserved : goal.loop-m-preserved
loop-m-preserved c =
    let l = c.loop-m in
    let h = get_or c.args.marks.now l.m-index false in
    let e : c.if-m.out ≡ l.out + bit_if h l.bit = elim c.if-m.branch [ then-m w ↦ added h c.if-m.out l.out l.bit w.if-m.true w.out-is | else-m w ↦ none_added h c.if-m.out l.out l.bit w.if-m.false w.out-is ] in
    let g = grown l.m-index l.out l.bit (bit_if h l.bit) (omega (arith, c.requires)) l.invariant.1 l.invariant.2 (bit_least h l.bit) in
    (omega arith, g.2, rw e g.3, rw e (pack_one c.args.marks.now l.m-index l.out l.bit (bit_if h l.bit) (omega arith) l.invariant.1 l.invariant.2 l.invariant.3 refl))

pub returns : goal.returns
returns c =
    let l = c.loop-m in
    pack_all c.args.marks.now l.m-index l.out c.from.result c.args.fin l.invariant.0 (omega arith) l.invariant.3 (c.from.ensures ∙ bit_byte c.args.fin)
