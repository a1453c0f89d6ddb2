-- `read` meets its contract: by what the text is, and what of its fields is refused. Assumes nothing.
use Rattle.std.proofs.Common.{refl, sym, ap, ◌∙◌, Bool, cond, length, arith, rules}
use borrow.Author.Tests.{not-true, not-false}
use Rattle.ubf.specs.Span.{ordered}
use Rattle.ubf.proofs.Refusals.{not_tuple, read_refused, read_err, read_accepted}
use Rattle.ubf.proofs.reading.read.Goals as goal

pub returns-then-in_syntax : goal.returns-then-in_syntax
returns-then-in_syntax c =
    let a = c.args in
    let n = not_tuple a.text.now (length a.buffer.now) c.in_syntax.result (c.tuple_in-t.ensures.none (not-true c.tuple_in-t.result.right c.if-not-t.true)) c.in_syntax.ensures in
    let r = read_refused a.text.now a.buffer.now 23 (λ e. omega arith) (n ∙ ap (λ (b : Bool). cond b 23 22) c.if-in_syntax.true) in
    (r.answer, r.bytes)

pub returns-then-not-t : goal.returns-then-not-t
returns-then-not-t c =
    let a = c.args in
    let n = not_tuple a.text.now (length a.buffer.now) c.in_syntax.result (c.tuple_in-t.ensures.none (not-true c.tuple_in-t.result.right c.if-not-t.true)) c.in_syntax.ensures in
    let r = read_refused a.text.now a.buffer.now 22 (λ e. omega arith) (n ∙ ap (λ (b : Bool). cond b 23 22) c.if-in_syntax.false) in
    (r.answer, r.bytes)

pub judge-requires : goal.judge-requires
judge-requires c = (c.tuple_in-t.ensures.found (not-false c.tuple_in-t.result.right c.if-not-t.false), c.tuple_in-t.auto.rows, refl)

pub returns-in_err-judge : goal.returns-in_err-judge
returns-in_err-judge c =
    let q = c.in_err-judge.ensures in
    let e = read_err c.args.text.now c.args.buffer.now _ q.number.number q.place in
    search rules

pub put_notice-requires : goal.put_notice-requires
put_notice-requires c = c.in_ok-judge.ensures.number.placing refl

pub returns : goal.returns
returns c =
    let a = c.args in
    let q = c.in_ok-judge.ensures.number in
    let t = c.tuple_in-t.result in
    let o = c.judge.new.order in
    let r = read_accepted a.text.now a.buffer.now t.size (ordered a.text.now c.tuple_in-t.new.rows t.count o) c.put_notice.new.buffer (sym q.number) (q.rises refl) (q.placing refl).size_is c.put_notice.ensures in
    (r.answer, r.bytes)
