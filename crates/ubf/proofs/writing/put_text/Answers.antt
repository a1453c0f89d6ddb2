use mathlib.Core.Path.{◌≡◌, ◌∙◌}
use Prim.Native.Nat.{◌+◌}
use native.Mathlib.Omega.{arith}
use lib.ListN.{length}
use mathlib.Core.List.{[], ◌∷◌, ◌++◌}
use Rattle.decimal.proofs.Laws.{joined}
use Rattle.ubf.specs.Text.{fields_text, text_of}
use Rattle.notice.specs.Layout.{fields_of}
use Rattle.ubf.proofs.Writes.{length_text, stored_leaves}
use Rattle.ubf.proofs.writing.put_text.Goals as goal

pub put_byte-a-requires : goal.put_byte-a-requires
put_byte-a-requires c = let fs = fields_of c.args.notice.now in omega (arith, length_text fs, c.requires.1)

pub put_fields-b-requires : goal.put_fields-b-requires
put_fields-b-requires c =
    let fs = fields_of c.args.notice.now in (c.requires.0, omega (arith, length_text fs, c.requires.1, c.put_byte-a.ensures.next))

pub put_byte-c-requires : goal.put_byte-c-requires
put_byte-c-requires c =
    let fs = fields_of c.args.notice.now in omega (arith, length_text fs, c.requires.1, c.put_byte-a.ensures.next, c.put_fields-b.ensures.next)

pub put_byte-requires : goal.put_byte-requires
put_byte-requires c =
    let fs = fields_of c.args.notice.now in omega (arith, length_text fs, c.requires.1, c.put_byte-a.ensures.next, c.put_fields-b.ensures.next, c.put_byte-c.ensures.next)

pub returns : goal.returns
returns c =
    let a = c.args in
    let fs = fields_of a.notice.now in
    let t = fields_text fs in
    let j = joined (123 ∷ []) (t ++ (125 ∷ 36 ∷ [])) c.put_byte-a.ensures (joined t (125 ∷ 36 ∷ []) c.put_fields-b.ensures (joined (125 ∷ []) (36 ∷ []) c.put_byte-c.ensures c.put_byte.ensures)) in
    let z : 0 + length (text_of fs) ≡ length (text_of fs) = omega arith in
    (j.stored ∙ stored_leaves a.out.now (text_of fs) c.requires.1, j.next ∙ z)
