use Prim.Native.Nat.{ℕ}
use lib.ListN.{length}
use Rattle.automaton.specs.Table.{tokens_of}
use Rattle.automaton.specs.Word.{cells_in}
use mathlib.Core.Path.{refl, sym, ap, ◌∙◌}
use Rattle.automaton.proofs.Told.{led}
use Rattle.automaton.proofs.lead.Goals as goal

pub returns : goal.returns
returns c =
    let a = c.args in
    let n = length a.kinds.now in
    let e = c.marks-2-1.given ∙ c.marks-1.given ∙ c.requires.2 in
    led (tokens_of a.text.now a.kinds.now a.args.now) n a.k a.c a.w c.pack.result _ _ c.shift-l.result _ (c.unpack.ensures ∙ ap (λ (m : ℕ). cells_in m a.w) c.requires.2) c.shift-l.ensures (sym (ap (λ (m : ℕ). cells_in m c.pack.result) e) ∙ c.pack.ensures.0) c.pack.ensures.1 refl
