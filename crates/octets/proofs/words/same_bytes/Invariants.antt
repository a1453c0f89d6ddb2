use mathlib.Core.Path.{◌≡◌}
use denote.Param.{number}
use Rattle.octets.specs.Octets.{fold, folded, same_of}
use Rattle.octets.specs.contracts.words.same_bytes.{S-type}
use Rattle.octets.proofs.Laws.{same_from}
use Rattle.octets.proofs.words.same_bytes.Given as goal

abbrev pub invariant-loop-i : goal.invariant-loop-i
invariant-loop-i g l =
    let m = S-type (number g.row.S) in
    same_from (fold m) (fold l.t_mark) l.s l.t l.i ≡ same_of (folded m l.s) (folded l.t_mark l.t)
