use mathlib.Core.Bool.{true}
use mathlib.Core.Path.{◌≡◌, ◌∙◌, sym}
use native.Mathlib.Omega.{arith}
use Prim.Native.Nat.{ℕ}
use lib.ListN.{get_or}
use mathlib.Core.List.{List}
use Rattle.lexer.specs.Byte.{is_quote}
use Rattle.lexer.proofs.Scans.{quote_some, string_stands, is_there}
use Rattle.lexer.proofs.plain_string.Goals as goal

-- a quote stands at the place, so the text goes on there
quoted : (s : List ℕ) (at q : ℕ) → q ≡ get_or s at 0 → is_quote q ≡ true → get_or s at 0 ≡ 0 → ⊥
quoted s at q e f z = quote_some q f (e ∙ z)

pub overflow_add-start : goal.overflow_add-start
overflow_add-start c =
    let t = c.args in
    let z = quoted t.text.now t.at c.byte_at-quote.result c.byte_at-quote.ensures (sym c.is_quote.ensures ∙ c.if-not-is_quote.false) in
    omega (arith, is_there t.text.now t.at z)

pub unquoted_end-end-requires : goal.unquoted_end-end-requires
unquoted_end-end-requires c =
    let e = c.byte_at-quote.ensures in
    λ z. quoted c.args.text.now c.args.at c.byte_at-quote.result e (sym c.is_quote.ensures ∙ c.if-not-is_quote.false) (sym e ∙ z)

pub returns-then-byte_at-quote : goal.returns-then-byte_at-quote
returns-then-byte_at-quote c =
    let t = c.args in
    let u = c.unquoted_end-end in
    let q = c.byte_at-quote.ensures in
    let e = sym c.byte_at.ensures ∙ c.if-byte_at-quote.true ∙ q in
    let some = quoted t.text.now t.at c.byte_at-quote.result q (sym c.is_quote.ensures ∙ c.if-not-is_quote.false) in
    let h = is_there t.text.now u.result (λ z. some (sym e ∙ z)) in
    let p = rw q at u.ensures.1 in
    string_stands t.text.now t.at u.result (is_there t.text.now t.at some) u.ensures.0 p h some e
