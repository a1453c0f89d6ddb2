use Rattle.std.proofs.Common.{◌∙◌, arith}
use Rattle.notice.proofs.Names.{by_each, by_bytes}
use Rattle.notice.proofs.name.name_right.Goals as goal

pub returns-in-1-to-3 : goal.returns-in-1-to-3
returns-in-1-to-3 c = by_each c.args.name.now c.bytes_right.result c.bytes_right.ensures ∙ by_bytes c.args.name.now (λ z. omega arith) (omega arith)
