use mathlib.Core.Path.{◌∙◌, ap}
use native.Mathlib.Omega.{arith}
use lib.ListN.{get_or}
use Rattle.lexer.specs.Token.{scan_string}
use Rattle.lexer.specs.Answer.{scanned_of}
use Rattle.lexer.proofs.Scans.{quote_some, string_unclosed, string_closed}
use Rattle.lexer.proofs.scan_string.Goals as goal

pub unquoted_end-end-requires : goal.unquoted_end-end-requires
unquoted_end-end-requires c =
    let a = c.args in
    quote_some (get_or a.text.now a.at 0) c.requires.1

pub returns-then-text-end : goal.returns-then-text-end
returns-then-text-end c =
    let t = c.args in
    let u = c.unquoted_end-end in
    string_unclosed t.text.now t.at u.result c.requires.0 u.ensures.0 u.ensures.1 c.if-text-end.true

pub returns-then-text-end-2 : goal.returns-then-text-end-2
returns-then-text-end-2 c =
    let t = c.args in
    let u = c.unquoted_end-end in
    let f = quote_some (get_or t.text.now t.at 0) c.requires.1 in
    string_closed t.text.now t.at u.result c.requires.0 u.ensures.0 u.ensures.1 (omega arith) f c.if-text-end-2.true

pub returns : goal.returns
returns c = c.scan_odd_string.ensures ∙ ap (λ s. scanned_of (scan_string s)) c.rest.ensures
