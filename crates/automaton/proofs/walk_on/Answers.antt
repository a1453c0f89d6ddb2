use Prim.Native.Nat.{ℕ}
use mathlib.Core.Bool.{Bool}
use mathlib.Core.List.{List}
use lib.ListN.{drop}
use Rattle.octets.specs.Octets.{folded}
use Rattle.automaton.specs.Table.{tokens_of}
use Rattle.automaton.specs.Decide.{walk_on}
use Rattle.automaton.specs.Word.{cells_in, ended_in}
use mathlib.Core.Path.{ap, ◌∙◌}
use Rattle.automaton.proofs.walk_on.Goals as goal

pub returns : goal.returns
returns c =
    let a = c.args in
    let e = c.unpack.ensures ∙ ap (λ (m : ℕ). cells_in m a.w) c.requires.2 in
    c.walk.ensures ∙ ap (λ (ms : List Bool). walk_on (tokens_of a.text.now a.kinds.now a.args.now) a.sf a.ef a.empty ms (ended_in a.w) a.sf (folded a.mark (drop a.from a.value.now))) e
