-- `put_data` meets its contract: by the kind, and by whether there are escapes. Assumes nothing.
use mathlib.Core.Path.{◌≡◌, sym, ap, ◌∙◌}
use mathlib.Core.Bool.{Bool, true, false}
use Prim.Native.Nat.{◌<◌}
use native.Mathlib.Omega.{arith}
use borrow.Author.Tests.{lt-ltb, le-ltb}
use lib.Dec.{ltb}
use lib.Seq.{sets}
use Rattle.ubf.specs.Escape.{bytes_in}
use Rattle.ubf.proofs.Placed.{Numeric, int32_value, int64_value, Textual, text_value}
use Rattle.ubf.proofs.placing.put_data.Lts as lts
use Rattle.ubf.proofs.placing.put_data.Tie as tie
use Rattle.ubf.proofs.placing.put_data.Reads as reads
use Rattle.ubf.proofs.placing.put_data.Goals as goal

int32 : (c : lts.Then1 tie.the-claims reads.Pre reads.Post) → Numeric c.args.text.now c.args.s.kind c.args.s.value c.args.s.len (ltb 0 c.args.s.escapes) 4 × (c.args.s.value < 4294967296)
int32 c = let a = c.args in int32_value a.text.now a.s.kind a.s.value a.s.len (ltb 0 a.s.escapes) c.requires.0.valued c.if-s-eq1.true

int64 : (c : lts.Then2 tie.the-claims reads.Pre reads.Post) → Numeric c.args.text.now c.args.s.kind c.args.s.value c.args.s.len (ltb 0 c.args.s.escapes) 8
int64 c = let a = c.args in int64_value a.text.now a.s.kind a.s.value a.s.len (ltb 0 a.s.escapes) c.requires.0.valued c.if-s-eq1.false c.if-s-eq2.true

textual : (c : lts.Else2 tie.the-claims reads.Pre reads.Post) → Textual c.args.text.now c.args.s.kind c.args.s.value c.args.s.len (ltb 0 c.args.s.escapes)
textual c = let a = c.args in text_value a.text.now a.s.kind a.s.value a.s.len (ltb 0 a.s.escapes) c.requires.0.valued c.if-s-eq1.false c.if-s-eq2.false

escaped : (c : lts.Then3 tie.the-claims reads.Pre reads.Post) → ltb 0 c.args.s.escapes ≡ true
escaped c = lt-ltb 0 c.args.s.escapes (omega (arith, c.if-s-ne0.true))

plain : (c : lts.Else3 tie.the-claims reads.Pre reads.Post) → ltb 0 c.args.s.escapes ≡ false
plain c = le-ltb 0 c.args.s.escapes (omega (arith, c.if-s-ne0.false))

pub overflow_cast-s : goal.overflow_cast-s
overflow_cast-s c = omega (arith, (int32 c.before.before.before).1)

pub write_u32-requires : goal.write_u32-requires
write_u32-requires c = omega (arith, (int32 c.before.before.before).0.long, c.requires.1)

pub returns-then-s-eq1 : goal.returns-then-s-eq1
returns-then-s-eq1 c =
    let a = c.args in c.write_u32.ensures ∙ ap (sets a.buffer.now a.at) (int32 c.before.before.before.before.before.before).0.bytes

pub write_u64-requires : goal.write_u64-requires
write_u64-requires c = omega (arith, (int64 c.before.before).long, c.requires.1)

pub returns-then-s-eq2 : goal.returns-then-s-eq2
returns-then-s-eq2 c =
    let a = c.args in c.write_u64.ensures ∙ ap (sets a.buffer.now a.at) (int64 c.before.before.before.before.before).bytes

pub put_unescaped-requires : goal.put_unescaped-requires
put_unescaped-requires c = (rw (escaped c.before.before) at (textual c.before.before.before.before).lies, c.requires.1)

pub returns-then-s-ne0 : goal.returns-then-s-ne0
returns-then-s-ne0 c =
    let a = c.args in
    c.put_unescaped.ensures
    ∙ (ap (λ (e : Bool). sets a.buffer.now a.at (bytes_in a.text.now a.s.value a.s.len e)) (sym (escaped c.before.before.before.before.before)) ∙ ap (sets a.buffer.now a.at) (textual c.before.before.before.before.before.before.before).bytes)

pub put_part-requires : goal.put_part-requires
put_part-requires c = (rw (plain c.before.before) at (textual c.before.before.before.before).lies, c.requires.1)

pub returns : goal.returns
returns c =
    let a = c.args in
    c.put_part.ensures
    ∙ (ap (λ (e : Bool). sets a.buffer.now a.at (bytes_in a.text.now a.s.value a.s.len e)) (sym (plain c.before.before.before.before.before)) ∙ ap (sets a.buffer.now a.at) (textual c.before.before.before.before.before.before.before).bytes)
