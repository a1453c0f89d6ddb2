use Prim.Native.Nat.{ℕ, ◌+◌, ◌-◌}
use native.Mathlib.Omega.{arith}
use mathlib.Core.List.{List}
use mathlib.Core.Path.{◌≡◌, sym, ap, subst, ◌∙◌}
use lib.ListN.{length, take, drop, length-drop}
use Rattle.std.proofs.lemmas.List.{take_all}
use Rattle.std.specs.List.{take_while}
use Rattle.grammar.specs.Grammar.{is_prefix}
use Rattle.postfix.specs.Answer.{Run}
use Rattle.postfix.proofs.Prefixes.{run_of}
use Rattle.postfix.proofs.mark.past_prefixes.Goals as goal

pub returns : goal.returns
returns c =
    let a = c.args in
    let xs = drop a.i a.marks.now in
    let all : take (length a.marks.now - a.i) xs ≡ xs = take_all _ xs (omega (arith, length-drop a.i a.marks.now)) in
    subst (λ (n : ℕ). Run a.marks.now a.i (a.i + n)) (sym (c.prefixes.ensures.0 ∙ ap (λ (l : List ℕ). length (take_while is_prefix l)) all)) (run_of a.marks.now a.i)
