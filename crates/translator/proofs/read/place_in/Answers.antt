use Prim.Native.Nat.{ℕ}
use native.Mathlib.Omega.{arith}
use mathlib.Core.Path.{ap, ◌∙◌}
use lib.ListN.{replicate, length-replicate}
use Rattle.lexer.specs.Answer.{answered}
use Rattle.translator.proofs.Answering.{lexes, start_at, start_past, no_place}
use Rattle.translator.proofs.read.place_in.Goals as goal

pub lex-requires : goal.lex-requires
lex-requires g c =
    ((λ h. omega (arith, length-replicate {A = ℕ} g.row.TOKENS 0, c.requires.0 h)), (λ h. omega (arith, length-replicate {A = ℕ} g.row.TOKENS 0, c.requires.0 h)))

pub returns-then-p-n : goal.returns-then-p-n
returns-then-p-n g c =
    let a = c.args in
    let t = lexes a.text.now (λ i. omega (arith, c.shared_slice_known-1.given i)) c.lex.ensures.value (ap answered c.in-Ok.is) in
    λ ps e. c.start.ensures ∙ start_at t (replicate g.row.TOKENS 0) _ a.p (λ h. omega (arith, length-replicate {A = ℕ} g.row.TOKENS 0, c.requires.0 h)) c.lex.ensures.starts_after c.if-p-n.true ps e

pub returns-else-p-n : goal.returns-else-p-n
returns-else-p-n g c =
    let a = c.args in
    let t = lexes a.text.now (λ i. omega (arith, c.shared_slice_known-1.given i)) c.lex.ensures.value (ap answered c.in-Ok.is) in
    λ ps e. start_past t a.p c.if-p-n.false ps e

pub returns-in-Err : goal.returns-in-Err
returns-in-Err g c = no_place c.args.text.now c.args.p c.lex.ensures.value (ap answered c.in-Err.is)
