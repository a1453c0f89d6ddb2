use Rattle.std.proofs.Common.{◌≡◌, ℕ, ◌+◌, ◌-◌, true, take, drop, sym, ap, ◌∙◌, ap₂}
use Rattle.notice.specs.Field.{size_right}
use Rattle.notice.specs.Layout.{kind_at, value_size_at, lies_at}
use Rattle.notice.specs.Key.{right_key}
use Rattle.notice.proofs.Places.{wrong_size, by_name}
use Rattle.notice.proofs.Keys.{no_key_here, key_named}
use Rattle.notice.proofs.order.key_at.Lts as lts
use Rattle.notice.proofs.order.key_at.Tie as tie
use Rattle.notice.proofs.order.key_at.Reads as reads
use Rattle.notice.proofs.order.key_at.Goals as goal

lies_here : (c : lts.Then1 tie.the-claims reads.Pre reads.Post) → lies_at c.args.notice.now c.args.at ≡ true
lies_here c = sym c.lies.ensures ∙ c.if-lies.true

size_is : (c : lts.After-size_right tie.the-claims reads.Pre reads.Post) → c.size_right.result ≡ size_right (kind_at c.args.notice.now c.args.at) (value_size_at c.args.notice.now c.args.at)
size_is c =
    let a = c.args in
    c.size_right.ensures ∙ ap₂ size_right c.read_u16.ensures (ap₂ (λ (n m : ℕ). n - (3 + m)) c.field_size.ensures.0 c.name_size-n.ensures.0)

pub returns-then-size_right : goal.returns-then-size_right
returns-then-size_right c =
    let d = c.before.before.before in
    let a = d.args in
    let s = a.notice.now in
    c.key_of.ensures ∙ (ap (λ (n : ℕ). right_key (take n (drop (a.at + 5) s))) d.name_size-n.ensures.0
    ∙ key_named s a.at (by_name s a.at (lies_here d.before.before.before.before) (sym (size_is d) ∙ c.if-size_right.true)))

pub returns-else-size_right : goal.returns-else-size_right
returns-else-size_right c =
    let d = c.before.before in
    let a = d.args in
    no_key_here a.notice.now a.at (wrong_size a.notice.now a.at (lies_here d.before.before.before.before) (sym (size_is d) ∙ c.if-size_right.false))
