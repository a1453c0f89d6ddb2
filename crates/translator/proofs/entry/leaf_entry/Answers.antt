use mathlib.Core.Path.{ap, ◌∙◌}
use lib.Ieee.{binary64, to_bits}
use Rattle.translator.proofs.Making.{name_made, string_made, real_made, int_made}
use Rattle.translator.proofs.entry.leaf_entry.Goals as goal

pub returns-then-op-eq-NAME : goal.returns-then-op-eq-NAME
returns-then-op-eq-NAME c =
    name_made c.args.text.now c.args.op c.args.place c.args.n c.args.pool c.requires.1 c.if-op-eq-NAME.true c.part_entry.ensures

pub returns-then-op-eq-TEXT : goal.returns-then-op-eq-TEXT
returns-then-op-eq-TEXT c =
    string_made c.args.text.now c.args.op c.args.place c.args.n c.args.pool c.requires.1 c.if-op-eq-TEXT.true c.part_entry-then-op-eq-TEXT.ensures

pub returns-then-op-eq-REAL64 : goal.returns-then-op-eq-REAL64
returns-then-op-eq-REAL64 c =
    real_made c.args.text.now c.args.op c.args.place c.args.pool c.if-op-eq-REAL64.true (c.bits_of_real.ensures ∙ ap (to_bits binary64) c.real_value.ensures) c.literal_entry.ensures

pub returns : goal.returns
returns c =
    int_made c.args.text.now c.args.op c.args.place c.args.pool c.requires.0 c.if-op-eq-NAME.false c.if-op-eq-TEXT.false c.if-op-eq-REAL64.false c.int_bits.ensures c.literal_entry-2.ensures
