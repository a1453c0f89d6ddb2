use Rattle.std.specs.Prelude.{Ok}
use mathlib.Core.Path.{◌≡◌, refl, sym, ◌∙◌}
use lib.ListN.{replicate}
use Rattle.notice.specs.Layout.{check_of}
use Rattle.notice.proofs.Stood.{stood_indexed}
use Rattle.notice_test.proofs.put_indexed.Goals as goal

pub put_halved-requires : goal.put_halved-requires
put_halved-requires g c =
    let s = c.args.s.now in
    let i = c.index-layout.ensures in
    let well : check_of s ≡ Ok tt = sym i.value ∙ c.in-Ok.is in
    (well, rw i.starts_after (stood_indexed s well (replicate 64 0) refl))
