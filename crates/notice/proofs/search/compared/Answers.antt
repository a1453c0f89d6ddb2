use Rattle.std.proofs.Common.{◌≡◌, sym, ◌∙◌, ap₂}
use Rattle.octets.specs.Octets.{same_of, before_of}
use Rattle.octets.proofs.Theorems.{same, not_folded}
use Rattle.notice.specs.Layout.{name_at}
use Rattle.notice.proofs.Orders.{after_by_other}
use Rattle.notice.proofs.search.compared.Goals as goal

pub returns-then-same : goal.returns-then-same
returns-then-same c =
    let own = name_at c.args.notice.now c.args.at in
    let t : c.same.result ≡ same_of own c.args.name.now = c.same.ensures ∙ ap₂ same_of (not_folded c.name_at-own.result.now ∙ c.name_at-own.ensures) (not_folded c.args.name.now) in
    (same own c.args.name.now).0 (sym t ∙ c.if-same.true)

pub returns-then-before : goal.returns-then-before
returns-then-before c =
    let own = name_at c.args.notice.now c.args.at in
    let t : c.before-2.result ≡ before_of own c.args.name.now = c.before-2.ensures ∙ ap₂ before_of (not_folded c.name_at-own.result.now ∙ c.name_at-own.ensures) (not_folded c.args.name.now) in
    sym t ∙ c.if-before.true

pub returns : goal.returns
returns c =
    let own = name_at c.args.notice.now c.args.at in
    let t : c.same.result ≡ same_of own c.args.name.now = c.same.ensures ∙ ap₂ same_of (not_folded c.name_at-own.result.now ∙ c.name_at-own.ensures) (not_folded c.args.name.now) in
    let u : c.before-2.result ≡ before_of own c.args.name.now = c.before-2.ensures ∙ ap₂ before_of (not_folded c.name_at-own.result.now ∙ c.name_at-own.ensures) (not_folded c.args.name.now) in
    after_by_other own c.args.name.now (sym t ∙ c.if-same.false) (sym u ∙ c.if-before.false)
