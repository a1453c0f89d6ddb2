use mathlib.Core.Path.{sym, ap, ◌∙◌}
use Rattle.operands.specs.Patterns.{asks_patterns}
use Rattle.translator.proofs.Answering.{read_deep, read_marks}
use Rattle.translator.proofs.read.marked.Goals as goal

pub returns-then-too_deep : goal.returns-then-too_deep
returns-then-too_deep c =
    let a = c.args in
    record {
      value = read_deep a.text.now a.kinds.now a.starts.now c.mark-asked.ensures.kinds_after (sym c.too_deep.ensures ∙ c.if-too_deep.true);
      kinds_after = c.mark-asked.ensures.kinds_after;
      places_after = c.gather-count.ensures.places_after;
      sizes_after = c.gather-count.ensures.sizes_after;
    }

pub patterns_right-patterns-requires : goal.patterns_right-patterns-requires
patterns_right-patterns-requires c =
    (c.requires, sym c.too_deep.ensures ∙ c.if-too_deep.false, c.mark-asked.ensures.value ∙ ap asks_patterns (sym c.mark-asked.ensures.kinds_after))

pub returns : goal.returns
returns c =
    let a = c.args in
    record {
      value = read_marks a.text.now a.kinds.now a.starts.now c.mark-asked.ensures.kinds_after (sym c.too_deep.ensures ∙ c.if-too_deep.false) c.gather-count.ensures.value c.patterns_right-patterns.ensures;
      kinds_after = c.mark-asked.ensures.kinds_after;
      places_after = c.gather-count.ensures.places_after;
      sizes_after = c.gather-count.ensures.sizes_after;
    }
