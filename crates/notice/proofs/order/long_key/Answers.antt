use Rattle.std.proofs.Common.{◌≡◌, ℕ, ◌+◌, ◌-◌, List, length, take, drop, sym, ap, ◌∙◌, arith, length-drop, length-take-le}
use Rattle.notice.specs.Field.{printable}
use Rattle.notice.proofs.Keys.{key_start, right_key_lem}
use Rattle.notice.proofs.order.long_key.Lts as lts
use Rattle.notice.proofs.order.long_key.Tie as tie
use Rattle.notice.proofs.order.long_key.Reads as reads
use Rattle.notice.proofs.order.long_key.Goals as goal

abbrev name : (c : lts.After-words_right tie.the-claims reads.Pre reads.Post) → List ℕ
name c = let a = c.args in take a.n (drop a.at a.notice.now)

name_length : (c : lts.After-words_right tie.the-claims reads.Pre reads.Post) → length (name c) ≡ c.args.n
name_length c =
    let a = c.args in
    length-take-le a.n (drop a.at a.notice.now) (simp length-drop (omega (arith, c.requires)))

judged : (c : lts.After-words_right tie.the-claims reads.Pre reads.Post) → c.words_right.result ≡ printable (name c)
judged c =
    let a = c.args in
    let z : a.at + a.n - a.at ≡ a.n = omega arith in
    c.words_right.ensures ∙ ap (λ (k : ℕ). printable (take k (drop a.at a.notice.now))) z

pub returns-then-words_right : goal.returns-then-words_right
returns-then-words_right c =
    let d = c.before.before.before in
    let a = d.args in
    let p = d.requires in
    right_key_lem (name d) _ (λ z. omega (arith, p, name_length d)) (omega (arith, p, name_length d)) (sym (judged d) ∙ c.if-words_right.true) (c.eight.ensures ∙ key_start a.n a.at a.notice.now p.0)
