use mathlib.Core.Path.{refl, sym, ap, ◌∙◌}
use native.Mathlib.Omega.{arith}
use lib.ListN.{length-set}
use Rattle.lexer.proofs.Streams.{goes_first, goes_space, goes_on, lexes_long, lexes_end, lexes_bad}
use Rattle.lexer.specs.Answer.{number_of_fault, scanned}
use Rattle.lexer.proofs.lex.Goals as goal

pub returns-then-text-gt4096 : goal.returns-then-text-gt4096
returns-then-text-gt4096 c =
    let w = lexes_long c.args.text.now c.args.kinds.now c.args.starts.now c.if-text-gt4096.true in record { value = w.answer; kinds_after = w.kinds; starts_after = w.starts }

pub loop-at-init : goal.loop-at-init
loop-at-init c = (c.if-text-gt4096.false, goes_first c.args.text.now c.args.kinds.now c.args.starts.now, refl, refl)

pub loop-at-smaller-then-is_space : goal.loop-at-smaller-then-is_space
loop-at-smaller-then-is_space c = let g = c.loop-at.invariant.1 in omega arith

pub loop-at-preserved-then-is_space : goal.loop-at-preserved-then-is_space
loop-at-preserved-then-is_space c =
    let l = c.loop-at in
    let a = c.args in
    (l.invariant.0, goes_space a.text.now a.kinds.now a.starts.now l.kinds l.starts l.n l.at l.invariant.1 (omega arith) (sym c.is_space.ensures ∙ c.if-is_space.true), l.invariant.2, l.invariant.3)

pub scan-requires : goal.scan-requires
scan-requires c = (c.loop-at.invariant.0, omega arith)

pub bounds-kinds-n : goal.bounds-kinds-n
bounds-kinds-n c =
    let l = c.loop-at in
    omega (arith, l.invariant.1.count, l.invariant.2, c.requires.0 l.invariant.0)

pub overflow_cast-starts : goal.overflow_cast-starts
overflow_cast-starts c = let g = c.loop-at.invariant.1 in omega arith

pub offset_bounds-starts-n : goal.offset_bounds-starts-n
offset_bounds-starts-n c =
    let l = c.loop-at in
    omega (arith, l.invariant.1.count, l.invariant.3, l.invariant.0, c.requires.1 l.invariant.0)

pub bounds-starts-n : goal.bounds-starts-n
bounds-starts-n c =
    let l = c.loop-at in
    omega (arith, l.invariant.1.count, l.invariant.3, c.requires.1 l.invariant.0)

pub overflow_add-n : goal.overflow_add-n
overflow_add-n c = let g = c.loop-at.invariant.1 in omega arith

pub overflow_add-at-in-Ok : goal.overflow_add-at-in-Ok
overflow_add-at-in-Ok c =
    let l = c.loop-at in
    let a = c.args in
    let f = sym c.is_space.ensures ∙ c.if-is_space.false in
    let q = sym c.scan.ensures ∙ ap scanned c.in-Ok.is in
    let w = goes_on a.text.now a.kinds.now a.starts.now l.kinds l.starts l.n l.at l.invariant.1 (omega arith) f c.in-Ok.kind c.in-Ok.length q in
    omega (arith, w.2, l.invariant.0)

pub loop-at-smaller : goal.loop-at-smaller
loop-at-smaller c =
    let l = c.loop-at in
    let a = c.args in
    let f = sym c.is_space.ensures ∙ c.if-is_space.false in
    let q = sym c.scan.ensures ∙ ap scanned c.in-Ok.is in
    let w = goes_on a.text.now a.kinds.now a.starts.now l.kinds l.starts l.n l.at l.invariant.1 (omega arith) f c.in-Ok.kind c.in-Ok.length q in
    let g = l.invariant.1 in
    omega (arith, w.1, w.2)

pub loop-at-preserved : goal.loop-at-preserved
loop-at-preserved c =
    let l = c.loop-at in
    let a = c.args in
    let f = sym c.is_space.ensures ∙ c.if-is_space.false in
    let q = sym c.scan.ensures ∙ ap scanned c.in-Ok.is in
    let w = goes_on a.text.now a.kinds.now a.starts.now l.kinds l.starts l.n l.at l.invariant.1 (omega arith) f c.in-Ok.kind c.in-Ok.length q in
    (l.invariant.0, w.0, simp length-set l.invariant.2, simp length-set l.invariant.3)

pub returns-in-Err : goal.returns-in-Err
returns-in-Err c =
    let l = c.loop-at in
    let a = c.args in
    let f = sym c.is_space.ensures ∙ c.if-is_space.false in
    let q = sym c.scan.ensures ∙ ap scanned c.in-Err.is in
    let w = lexes_bad a.text.now a.kinds.now a.starts.now l.kinds l.starts l.n l.at l.invariant.0 l.invariant.1 (omega arith) f (number_of_fault c.in-Err.fault) q in
    record { value = c.at.ensures ∙ w.answer; kinds_after = w.kinds; starts_after = w.starts }

pub returns : goal.returns
returns c =
    let l = c.loop-at in
    let a = c.args in
    let w = lexes_end a.text.now a.kinds.now a.starts.now l.kinds l.starts l.n l.at l.invariant.0 l.invariant.1 (omega arith) in
    record { value = w.answer; kinds_after = w.kinds; starts_after = w.starts }
