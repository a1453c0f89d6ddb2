use Rattle.std.specs.Prelude.{Ok}
use mathlib.Core.Path.{◌≡◌, refl, sym, ap, ◌∙◌}
use native.Mathlib.Omega.{arith}
use lib.ListN.{take}
use Rattle.notice.specs.Layout.{check_of, count_of}
use Rattle.notice.proofs.Stood.{stood_indexed}
use Rattle.value.proofs.FieldValues.{found_right}
use Rattle.value_test.proofs.load_name.Goals as goal

pub find_name-found-requires : goal.find_name-found-requires
find_name-found-requires c =
    let s = c.args.notice.now in
    let i = c.index-layout.ensures in
    let well : check_of s ≡ Ok tt = sym i.value ∙ c.in-Ok.is in
    (well, ap (take (count_of s)) i.starts_after ∙ stood_indexed s well _ refl, omega arith)

pub field-requires : goal.field-requires
field-requires c =
    let s = c.args.notice.now in
    let well : check_of s ≡ Ok tt = sym c.index-layout.ensures.value ∙ c.in-Ok.is in
    found_right s _ _ _ _ (λ i. (c.shared_slice_known-2-1.given i).fits) well (sym c.find_name-found.ensures ∙ c.in-Some.is)
