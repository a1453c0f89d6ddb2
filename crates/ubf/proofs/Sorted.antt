-- Fields in name order: names that rise where none is repeated. Assumes nothing.
use mathlib.Core.Path.{◌≡◌, refl, ap, ◌∙◌}
use mathlib.Core.Bool.{Bool, true, false, ◌||◌, or-true}
use mathlib.Core.List.{List, [], ◌∷◌}
use Prim.Native.Nat.{ℕ, zero, suc}
use lib.ListN.{drop}
use Rattle.notice.specs.Field.{Field, rising}
use Rattle.notice.specs.Write.{has_name, sorted}
use Rattle.notice.proofs.Orders.{insert_rising}
use Rattle.notice.proofs.Sorted.{sorted_named}
use Rattle.ubf.specs.Answer.{repeated}
use Rattle.ubf.proofs.Names.{or_neither}

pub sorted_rising : (fs : List Field) → repeated fs ≡ false → rising (sorted fs) ≡ true
unfolding sorted
sorted_rising [] e = refl
sorted_rising (f ∷ fs) e =
    let p = or_neither (has_name f.name fs) (repeated fs) e in
    insert_rising f (sorted fs) (sorted_rising fs p.1) (sorted_named f.name fs ∙ p.0)

-- a name that is repeated among the last fields is repeated
pub repeated_drop : (fs : List Field) (n : ℕ) → repeated (drop n fs) ≡ true → repeated fs ≡ true
repeated_drop fs zero e = e
repeated_drop [] (suc n) e = e
repeated_drop (f ∷ fs) (suc n) e = ap (λ (b : Bool). has_name f.name fs || b) (repeated_drop fs n e) ∙ or-true (has_name f.name fs)
