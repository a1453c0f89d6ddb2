-- `fetch` meets its contract: the part that `find` answers. Assumes nothing.
use Rattle.std.proofs.Common.{sym, subst, arith, rules}
use Rattle.store.proofs.Answers.{Fetches, fetches}
use Rattle.store.proofs.fetch.Goals as goal

pub slice_bounds-result-end : goal.slice_bounds-result-end
slice_bounds-result-end c =
    let f = subst (Fetches c.args.store.now c.args.number) (sym c.in-Ok.ensures) (fetches c.args.store.now c.args.number (λ i. search rules)) in
    omega (arith, f.0, f.1)

pub returns-in-Ok : goal.returns-in-Ok
returns-in-Ok c =
    let f = subst (Fetches c.args.store.now c.args.number) (sym c.in-Ok.ensures) (fetches c.args.store.now c.args.number (λ i. search rules)) in
    f.2
