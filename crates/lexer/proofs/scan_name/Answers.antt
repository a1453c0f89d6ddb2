use mathlib.Core.List.{List}
use Prim.Native.Nat.{ℕ, ◌≤◌, ◌-◌}
use mathlib.Core.Bool.{true, false}
use lib.ListN.{length, drop}
use Rattle.lexer.specs.Run.{GoesOn, run_of, unescaped, legal_name, is_empty}
use mathlib.Core.Path.{◌≡◌, ◌∙◌, sym, ap}
use Rattle.lexer.specs.Token.{scan_name}
use Rattle.lexer.specs.Answer.{scanned_of}
use Rattle.lexer.specs.Answer.{Good}
use Rattle.lexer.proofs.Runs.{rest_later, ended_name}
use Rattle.lexer.proofs.Scans.{name_over, name_legal}
use Rattle.lexer.proofs.scan_name.Goals as goal

pub scan_odd_name-requires : goal.scan_odd_name-requires
scan_odd_name-requires c = rw c.rest.ensures c.common_end-end.ensures.1

pub returns-then-not-ended : goal.returns-then-not-ended
returns-then-not-ended c =
    c.scan_odd_name.ensures ∙ ap (λ s. scanned_of (scan_name s)) c.rest.ensures

-- a name of common bytes alone
whole : (text : List ℕ) (at end : ℕ) → at ≤ end → GoesOn (drop at text) (end - at) → is_empty (run_of 0 (drop end text)) ≡ true → let s = drop at text in
    let n = end - at in
    (n ≡ length (run_of 0 s)) × (n ≡ length (unescaped false (run_of 0 s))) × (legal_name false (run_of 0 s) ≡ true)
whole text at end l g e =
    ended_name (drop at text) (end - at) g (ap (λ p. is_empty (run_of 0 p)) (rest_later text at end l) ∙ e)

pub returns-then-n : goal.returns-then-n
returns-then-n c =
    let a = c.args in
    let w = whole a.text.now a.at c.common_end-end.result c.common_end-end.ensures.0 c.common_end-end.ensures.1 (sym c.ended.ensures ∙ c.if-not-ended.false) in
    let f = rw w.1 at c.if-n.true in
    ap (λ k. Good 5 k) w.0 ∙ name_legal (drop a.at a.text.now) w.2 f

pub returns : goal.returns
returns c =
    let a = c.args in
    let w = whole a.text.now a.at c.common_end-end.result c.common_end-end.ensures.0 c.common_end-end.ensures.1 (sym c.ended.ensures ∙ c.if-not-ended.false) in
    let f = rw w.1 at c.if-n.false in
    name_over (drop a.at a.text.now) w.2 f
