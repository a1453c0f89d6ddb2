use mathlib.Core.Path.{sym, ap, ◌∙◌}
use mathlib.Core.Bool.{false}
use mathlib.Core.List.{List}
use Prim.Native.Nat.{ℕ}
use lib.ListN.{take, drop}
use lib.Seq.{sets}
use Rattle.lexer.specs.Run.{run_of, unescaped}
use Rattle.lexer.specs.Token.{name_at}
use Rattle.lexer.proofs.Runs.{empty, passes_all, stored_again}
use Rattle.lexer.proofs.copy_name.Goals as goal

pub returns-then-ended : goal.returns-then-ended
returns-then-ended c =
    let a = c.args in
    let r = c.rest-from.ensures in
    let n = c.copy_common-n.result in
    let g = rw r at c.copy_common-n.ensures in
    let e = rw r at c.ended.ensures in
    let s = drop a.at a.text.now in
    let w = passes_all 0 s n g.goes_on.0 (empty (run_of 0 (drop n s)) (sym e ∙ c.if-ended.true)) in
    record { value = w.2; part_after = g.part_after ∙ ap (sets a.part.now 0) w.1 }

pub returns : goal.returns
returns c =
    let a = c.args in
    let r = c.rest-from.ensures in
    let n = c.copy_common-n.result in
    let g = rw r at c.copy_common-n.ensures in
    let p = rw r at c.copy_plain.ensures in
    let s = drop a.at a.text.now in
    let z = g.goes_on.0.2 in
    record {
      value = p.value;
      part_after = p.part_after
          ∙ ap (λ (l : List ℕ). sets l 0 (name_at a.text.now a.at)) g.part_after
          ∙ ap (sets (sets a.part.now 0 (take n s)) 0) (sym z)
          ∙ stored_again a.part.now 0 (take n s) (unescaped false (run_of 0 (drop n s)))
          ∙ ap (sets a.part.now 0) z;
    }
