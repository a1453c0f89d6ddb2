use Prim.Native.Nat.{ℕ, ◌+◌}
use native.Mathlib.Omega.{arith}
use mathlib.Core.Path.{sym, ap, ◌∙◌}
use mathlib.Core.Bool.{not}
use lib.ListN.{length, get_or}
use lib.Seq.{sets}
use Rattle.grammar.specs.Stream.{token_of}
use Rattle.translator.specs.Compile.{leaf_entry, leaf_bytes}
use Rattle.translator.specs.Expand.{op_in}
use Rattle.translator.proofs.Making.{off, on, leaf_sized, brought_other, written_other, written_pushed}
use Rattle.translator.proofs.entry.put_code.Goals as goal

pub returns-then-not-pushes : goal.returns-then-not-pushes
returns-then-not-pushes c =
    let a = c.args in
    let place = get_or a.places.now a.leaf 0 in
    let h = off c.pushes.result c.pushes.ensures (ap not c.if-not-pushes.true) in
    record {
      value = sym (ap length (brought_other a.text.now a.c place h));
      out_after = written_other a.text.now a.c place a.out.now a.i (a.from + a.pool) a.pool h c.code_entry.ensures c.put.ensures;
    }

pub put_bytes-requires : goal.put_bytes-requires
put_bytes-requires c =
    let a = c.args in
    let place = get_or a.places.now a.leaf 0 in
    let h = on c.pushes.result c.pushes.ensures (ap not c.if-not-pushes.false) in
    let q = c.requires.4 in
    let ep = c.start-place.ensures in
    let en = c.start-n.ensures in
    (omega (arith, ep, c.shared_slice_known-2-1.given a.leaf), omega (arith, en, q h, c.requires.3), leaf_sized a.text.now a.c place h ep en q, omega (arith, en, q h, c.requires.2))

pub leaf_entry-requires : goal.leaf_entry-requires
leaf_entry-requires c =
    let a = c.args in
    let place = get_or a.places.now a.leaf 0 in
    let h = on c.pushes.result c.pushes.ensures (ap not c.if-not-pushes.false) in
    let q = c.requires.4 in
    let ep = c.start-place.ensures in
    let en = c.start-n.ensures in
    (h, leaf_sized a.text.now a.c place h ep en q, omega (arith, en, q h, c.requires.3))

pub returns : goal.returns
returns c =
    let a = c.args in
    let place = get_or a.places.now a.leaf 0 in
    let h = on c.pushes.result c.pushes.ensures (ap not c.if-not-pushes.false) in
    let q = c.requires.4 in
    let ep = c.start-place.ensures in
    let en = c.start-n.ensures in
    record {
      value = en ∙ q h;
      out_after = written_pushed a.text.now a.c place a.out.now a.i (a.from + a.pool) a.pool h (c.put_bytes.ensures ∙ ap (λ (k : ℕ). sets a.out.now (a.from + a.pool) (leaf_bytes (token_of a.text.now (op_in a.c) k))) ep) (c.leaf_entry.ensures ∙ ap (λ (k : ℕ). leaf_entry a.pool (token_of a.text.now (op_in a.c) k)) ep) c.put-2.ensures;
    }
