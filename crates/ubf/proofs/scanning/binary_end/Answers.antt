use native.Mathlib.Omega.{arith}
use Rattle.ubf.proofs.Scans.{binary_cut, binary_ends, binary_lacks}
use Rattle.ubf.proofs.scanning.binary_end.Goals as goal

pub returns-then-left-n : goal.returns-then-left-n
returns-then-left-n c = let a = c.args in binary_cut a.text.now a.at a.n c.requires (omega arith) c.if-left-n.true

pub returns-then-text-end-eq126 : goal.returns-then-text-end-eq126
returns-then-text-end-eq126 c =
    let a = c.args in binary_ends a.text.now a.at a.n c.requires (omega arith) c.if-left-n.false c.if-text-end-eq126.true

pub returns-else-text-end-eq126 : goal.returns-else-text-end-eq126
returns-else-text-end-eq126 c =
    let a = c.args in binary_lacks a.text.now a.at a.n c.requires (omega arith) c.if-left-n.false c.if-text-end-eq126.false
