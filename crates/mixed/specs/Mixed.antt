-- Comparison of numbers. Document 02, request 6: "An integer and a real are to be compared by exact value, an infinity lying beyond every integer on
-- its side; NaN stays unequal and unordered."
-- `fin s m e` of lib.Ieee is the number m * 2 ^ e, negative where s is true, whether or not a format holds it; `lt`, `le` and `eq` compare such
-- numbers by cross-multiplication, with no rounding, put an infinity beyond every `fin` on its side, and are false where a `nan` stands.
use Rattle.std.specs.Prelude.{◌≡◌, Bool, true, false, ◌||◌, suc, ℤ, pos, negsuc, Float}
use Rattle.std.specs.Float.{fin}
use Rattle.std.specs.Float.Ieee.{lt, le, eq}
use Rattle.std.proofs.Common.{ap, ◌∙◌}
use Rattle.opcode.specs.declared.Order.{Order}
use Rattle.opcode.specs.declared.Order.TheVariants.{Less, LessEqual, Greater, GreaterEqual}

-- "by exact value": the integer z as such a number, at every size
abbrev pub exactly : ℤ → Float
exactly (pos n) = fin false n (pos 0)
exactly (negsuc n) = fin true (suc n) (pos 0)

-- `< <= > >=`
abbrev pub order_real : Order → Float → Float → Bool
order_real Less x y = lt x y
order_real LessEqual x y = le x y
order_real Greater x y = lt y x
order_real GreaterEqual x y = le y x

-- Inside the code: u beside v compares as x beside y, on both sides.
pub record Same (u v x y : Float) : Type 0 where
  pub under : lt u v ≡ lt x y
  pub over : lt v u ≡ lt y x
  pub same : eq u v ≡ eq x y
  pub back : eq v u ≡ eq y x

-- So `==` and the orders say the same of both.
pub same_equal : {A : Type 0} (c : A) (u v x y : Float) → Same u v x y → eq u v ≡ eq x y
same_equal c u v x y s = s.same

pub same_order : (op : Order) (u v x y : Float) → Same u v x y → order_real op u v ≡ order_real op x y
unfolding le
same_order Less u v x y s = s.under
same_order LessEqual u v x y s = ap (λ (b : Bool). b || eq u v) s.under ∙ ap (λ (b : Bool). lt x y || b) s.same
same_order Greater u v x y s = s.over
same_order GreaterEqual u v x y s = ap (λ (b : Bool). b || eq v u) s.over ∙ ap (λ (b : Bool). lt y x || b) s.back
