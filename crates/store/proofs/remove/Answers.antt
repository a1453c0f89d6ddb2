-- `remove` meets its contract: 26, 29, or the store without the record. Assumes nothing.
use Rattle.std.proofs.Common.{sym, ◌∙◌, rules}
use Rattle.store.proofs.Answers.{is_right, start_at, broken_remove, not_held, found, is_held, cut-bytes, remove_refused}
use Rattle.store.proofs.remove.Goals as goal

pub returns-in_err-index : goal.returns-in_err-index
returns-in_err-index c = let e = broken_remove c.args.store.now c.args.number _ c.in_err-index.ensures.err in search rules

pub returns-in_default : goal.returns-in_default
returns-in_default c =
    let s = c.args.store.now in
    let n = c.args.number in
    let r = c.in_ok-index.field-0 in
    let e = c.in_ok-index.ensures.ok in
    remove_refused s n 28 (not_held s n (is_right s r e) (sym (start_at s r e n 0 (sym c.in_default.ensures))))

pub cut_out-requires : goal.cut_out-requires
cut_out-requires c =
    let s = c.args.store.now in
    let n = c.args.number in
    let r = c.in_ok-index.field-0 in
    let e = c.in_ok-index.ensures.ok in
    let f = c.in-Some.ensures in
    record { right = is_right s r e; found = found s n (is_right s r e) (λ i. search rules) c.in-Some.at (start_at s r e n c.in-Some.at f.0) f.1 }

pub returns : goal.returns
returns c =
    let s = c.args.store.now in
    let n = c.args.number in
    let r = c.in_ok-index.field-0 in
    let e = c.in_ok-index.ensures.ok in
    let f = c.in-Some.ensures in
    let a = start_at s r e n c.in-Some.at f.0 in
    record {
      answer = sym (is_held s n (is_right s r e) (λ i. search rules) c.in-Some.at a f.1);
      bytes = c.cut_out.ensures ∙ cut-bytes s n (is_right s r e) (λ i. search rules) c.in-Some.at a f.1;
    }
