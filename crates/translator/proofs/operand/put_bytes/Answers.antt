use mathlib.Core.Path.{sym, ap, ◌∙◌}
use lib.ListN.{length}
use lib.Seq.{sets}
use Rattle.translator.proofs.Making.{brought_text, brought_name, brought_none}
use Rattle.translator.proofs.operand.put_bytes.Goals as goal

pub put_name-requires : goal.put_name-requires
put_name-requires c =
    (c.requires.0, c.requires.1, c.requires.2 ∙ ap length (brought_name c.args.text.now c.args.op c.args.place c.if-op-eq-NAME.true), c.requires.3)

pub returns-then-op-eq-NAME : goal.returns-then-op-eq-NAME
returns-then-op-eq-NAME c =
    c.put_name.ensures ∙ ap (sets c.args.out.now c.args.at) (sym (brought_name c.args.text.now c.args.op c.args.place c.if-op-eq-NAME.true))

pub put_string-requires : goal.put_string-requires
put_string-requires c =
    (c.requires.0, c.requires.1, c.requires.2 ∙ ap length (brought_text c.args.text.now c.args.op c.args.place c.if-op-eq-TEXT.true), c.requires.3)

pub returns-then-op-eq-TEXT : goal.returns-then-op-eq-TEXT
returns-then-op-eq-TEXT c =
    c.put_string.ensures ∙ ap (sets c.args.out.now c.args.at) (sym (brought_text c.args.text.now c.args.op c.args.place c.if-op-eq-TEXT.true))

pub returns-else-op-eq-TEXT : goal.returns-else-op-eq-TEXT
returns-else-op-eq-TEXT c =
    ap (sets c.args.out.now c.args.at) (sym (brought_none c.args.text.now c.args.op c.args.place c.if-op-eq-TEXT.false c.if-op-eq-NAME.false))
