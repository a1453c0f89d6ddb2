use Rattle.std.proofs.Common.{◌≡◌, ℕ, ◌-◌, ◌*◌, ◌%◌, ◌^◌, List, length, take, drop, sym, ap, ◌∙◌, arith, length-drop, length-take-le}
use Rattle.notice.specs.Field.{printable}
use Rattle.notice.specs.Key.{key_of}
use Rattle.notice.proofs.Names.{by_bytes}
use Rattle.notice.proofs.Keys.{bytes_take, bytes_drop, key_read, short_word, right_key_lem, wrong_key}
use Rattle.notice.proofs.order.short_key.Lts as lts
use Rattle.notice.proofs.order.short_key.Tie as tie
use Rattle.notice.proofs.order.short_key.Reads as reads
use Rattle.notice.proofs.order.short_key.Goals as goal

abbrev name : (c : lts.After-word_right tie.the-claims reads.Pre reads.Post) → List ℕ
name c = let a = c.args in take a.n (drop a.at a.notice.now)

name_length : (c : lts.After-word_right tie.the-claims reads.Pre reads.Post) → length (name c) ≡ c.args.n
name_length c =
    let a = c.args in
    length-take-le a.n (drop a.at a.notice.now) (simp length-drop (omega (arith, c.requires)))

key_is : (c : lts.After-word_right tie.the-claims reads.Pre reads.Post) → (c.eight.result * 2 ^ ((8 - c.args.n) * 8)) % 2 ^ 64 ≡ key_of (name c)
key_is c =
    let a = c.args in
    let p = c.requires in
    ap (λ (x : ℕ). (x * 2 ^ ((8 - a.n) * 8)) % 2 ^ 64) c.eight.ensures
    ∙ key_read a.n a.at a.notice.now (λ i. (c.shared_slice_known-1.given i).fits) p.2 (omega (arith, p))

judged : (c : lts.After-word_right tie.the-claims reads.Pre reads.Post) → c.word_right.result ≡ printable (name c)
judged c =
    let a = c.args in
    short_word a.n (name c) _ c.word_right.result (bytes_take a.n (drop a.at a.notice.now) (bytes_drop a.at a.notice.now (λ i. (c.shared_slice_known-1.given i).fits)))
    (name_length c) c.requires.2 (key_is c) c.word_right.ensures

pub returns-then-word_right : goal.returns-then-word_right
returns-then-word_right c =
    let d = c.before.before in
    let p = d.requires in
    right_key_lem (name d) _ (λ z. omega (arith, p, name_length d)) (omega (arith, p, name_length d)) (sym (judged d) ∙ c.if-word_right.true) (key_is d)

pub returns : goal.returns
returns c =
    let d = c.before.before in
    let p = d.requires in
    wrong_key (name d) (sym c.if-word_right.false ∙ (judged d ∙ by_bytes (name d) (λ z. omega (arith, p, name_length d)) (omega (arith, p, name_length d))))
