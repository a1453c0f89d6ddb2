use mathlib.Core.Path.{◌∙◌, ap}
use mathlib.Core.Bool.{false}
use native.Mathlib.Omega.{arith}
use Rattle.lexer.specs.Run.{run_of}
use Rattle.lexer.proofs.Runs.{run_first, first_part, first_fits}
use Rattle.lexer.proofs.run.run.Goals as goal

pub slice_bounds-result-end : goal.slice_bounds-result-end
slice_bounds-result-end c =
    let s = c.rest-from.result.now in
    let q = c.args.quote in
    omega (arith, first_fits (run_of q s) s (run_first q false s), c.run_length-n.ensures)

pub returns : goal.returns
returns c =
    let s = c.rest-from.result.now in
    let q = c.args.quote in
    first_part (run_of q s) s c.run_length-n.result (run_first q false s) c.run_length-n.ensures ∙ ap (run_of q) c.rest-from.ensures
