use Prim.Native.Nat.{ℕ}
use mathlib.Core.List.{List}
use mathlib.Core.Path.{◌≡◌, ◌∙◌, sym, ap}
use mathlib.Core.Bool.{false}
use native.Mathlib.Omega.{arith}
use lib.ListN.{get_or, drop}
use lib.Seq.{get_or-drop}
use Rattle.lexer.specs.Byte.{starts_name, starts_number, is_quote}
use Rattle.lexer.specs.Answer.{scanned_of}
use Rattle.lexer.proofs.Runs.{byte_here}
use Rattle.lexer.proofs.Scans.{is_name, is_number, is-string, is-symbol}
use Rattle.lexer.proofs.scan.Lts as lts
use Rattle.lexer.proofs.scan.Tie as tie
use Rattle.lexer.proofs.scan.Reads as reads
use Rattle.lexer.proofs.scan.Goals as goal

-- what stands first, and what the tests tell of it
abbrev from : (c : lts.After-starts_number tie.the-claims reads.Pre reads.Post) → List ℕ
from c = let t = c.args in drop t.at t.text.now

no_name : (c : lts.After-starts_number tie.the-claims reads.Pre reads.Post) → let t = c.args in starts_name (get_or (drop t.at t.text.now) 0 0) ≡ false
no_name c =
    let t = c.args in
    ap starts_name (byte_here t.text.now t.at) ∙ sym c.starts_name.ensures ∙ c.if-starts_name.false

number : (c : lts.After-starts_number tie.the-claims reads.Pre reads.Post) → let t = c.args in
    starts_number (get_or (drop t.at t.text.now) 0 0) (get_or (drop t.at t.text.now) 1 0) ≡ c.starts_number.result
number c =
    let t = c.args in
    rw (byte_here t.text.now t.at, get_or-drop t.at t.text.now 1 0) (sym c.starts_number.ensures)

quote : (c : lts.After-is_quote tie.the-claims reads.Pre reads.Post) → let t = c.args in
    is_quote (get_or (drop t.at t.text.now) 0 0) ≡ c.is_quote.result
quote c =
    let t = c.args in
    ap is_quote (byte_here t.text.now t.at) ∙ sym c.is_quote.ensures

pub returns-then-starts_name : goal.returns-then-starts_name
returns-then-starts_name c =
    let t = c.args in
    let e = ap starts_name (byte_here t.text.now t.at) ∙ sym c.starts_name.ensures ∙ c.if-starts_name.true in
    c.scan_name.ensures ∙ ap scanned_of (sym (is_name (drop t.at t.text.now) e))

pub returns-then-starts_number : goal.returns-then-starts_number
returns-then-starts_number c =
    c.scan_number.ensures ∙ ap scanned_of (sym (is_number (from c.before.before.before) (no_name c.before.before.before) (number c.before.before.before ∙ c.if-starts_number.true)))

pub scan_string-requires : goal.scan_string-requires
scan_string-requires c = (omega arith, sym c.is_quote.ensures ∙ c.if-is_quote.true)

pub returns-then-is_quote : goal.returns-then-is_quote
returns-then-is_quote c =
    let d = c.before.before.before.before.before in
    c.scan_string.ensures ∙ ap scanned_of (sym (is-string (from d) (no_name d) (number d ∙ c.if-starts_number.false) (quote c.before.before.before ∙ c.if-is_quote.true)))

pub returns : goal.returns
returns c =
    let d = c.before.before.before.before.before in
    c.scan_symbol.ensures ∙ ap scanned_of (sym (is-symbol (from d) (no_name d) (number d ∙ c.if-starts_number.false) (quote c.before.before.before ∙ c.if-is_quote.false)))
