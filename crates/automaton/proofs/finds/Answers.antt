use mathlib.Core.Path.{sym, ap, ◌∙◌}
use mathlib.Core.Bool.{Bool, false}
use mathlib.Core.List.{List}
use Prim.Native.Nat.{ℕ}
use lib.ListN.{drop, replicate}
use Rattle.octets.specs.Octets.{folded}
use Rattle.automaton.specs.Table.{tokens_of}
use Rattle.automaton.specs.Decide.{run_on}
use Rattle.automaton.proofs.Word.{word_first}
use Rattle.automaton.proofs.Large.{plain_first}
use Rattle.automaton.proofs.finds.Goals as goal

pub returns-then-kinds-from : goal.returns-then-kinds-from
returns-then-kinds-from c = c.finds_long.ensures ∙ c.start_if-from.ensures.1 c.args.ef

pub returns-then-single : goal.returns-then-single
returns-then-single c =
    let a = c.args in
    let t = c.start_if-from in
    word_first a.text.now a.kinds.now a.args.now (sym c.small-single.ensures ∙ c.if-single.true) c.requires.1 a.sf a.ef c.optional.result c.walk_word.result (folded a.mark (drop t.result a.value.now)) c.optional.ensures c.walk_word.ensures ∙ t.ensures.1 a.ef

pub returns-then-plain : goal.returns-then-plain
returns-then-plain c =
    let a = c.args in
    let e = (c.fill.ensures.after (λ y h. h)) ∙ ap (λ (n : ℕ). replicate n false) c.requires.2 in
    plain_first a.text.now a.kinds.now a.args.now (sym c.plain.ensures ∙ c.if-plain.true) c.requires.1 a.sf a.ef c.optional-then-plain.result c.walk_plain.result _ (folded a.mark a.value.now) c.optional-then-plain.ensures e c.walk_plain.ensures

pub returns : goal.returns
returns c =
    let a = c.args in
    let e = (c.fill.ensures.after (λ y h. h)) ∙ ap (λ (n : ℕ). replicate n false) c.requires.2 in
    c.run.ensures ∙ ap (λ (ms : List Bool). run_on (tokens_of a.text.now a.kinds.now a.args.now) ms a.sf a.ef (folded a.mark a.value.now)) e
