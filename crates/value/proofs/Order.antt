-- The order of what is known: what bottom on a side makes bottom rises with its sides. Assumes nothing.
use mathlib.Core.Path.{◌≡◌, ap, ap₂, ◌∙◌}
use mathlib.Core.Logic.{inl, inr}
use mathlib.Core.List.{List, [], ◌∷◌, ◌++◌}
use Rattle.value.specs.Order.{Below, EachBelow}

below_trans : {A : Type 0} {least x y z : A} → Below least x y → Below least y z → Below least x z
below_trans (inl p) q = inl p
below_trans (inr p) (inl q) = inl (p ∙ q)
below_trans (inr p) (inr q) = inr (p ∙ q)

-- of one side and of two, where bottom makes bottom
pub strict_one : {A B : Type 0} {least x x' : A} {least' : B} (f : A → B) → f least ≡ least' → Below least x x' → Below least' (f x) (f x')
strict_one f e (inl p) = inl (ap f p ∙ e)
strict_one f e (inr p) = inr (ap f p)

pub strict_two : {A B : Type 0} {least x x' y y' : A} {least' : B} (f : A → A → B) → ((z : A) → (f least z ≡ least') × (f z least ≡ least'))
    → Below least x x' → Below least y y' → Below least' (f x y) (f x' y')
strict_two {A} {y = y} f ends (inl p) q = inl (ap (λ (z : A). f z y) p ∙ (ends y).0)
strict_two {x = x} f ends (inr p) (inl q) = inl (ap (f x) q ∙ (ends x).1)
strict_two f ends (inr p) (inr q) = inr (ap₂ f p q)

-- of two sides that rise one at a time
pub by_sides : {A B : Type 0} {least : A} {least' : B} (f : A → A → B) → ((x y : A) → Below least' (f least y) (f x y)) → ((x y : A) → Below least' (f x least) (f x y))
    → (x x' y y' : A) → Below least x x' → Below least y y' → Below least' (f x y) (f x' y')
by_sides {A} {B} {least} {least'} f left right x x' y y' p q = below_trans (on_left p) (on_right q)
  where
    on_left : Below least x x' → Below least' (f x y) (f x' y)
    on_left (inl e) = rw e (left x' y)
    on_left (inr e) = inr (ap (λ (z : A). f z y) e)

    on_right : Below least y y' → Below least' (f x' y) (f x' y')
    on_right (inl e) = rw e (right x' y')
    on_right (inr e) = inr (ap (f x') e)

-- one more at the end
pub each_more : {A : Type 0} (R : A → A → Type 0) (xs ys : List A) (x y : A) → EachBelow R xs ys → R x y → EachBelow R (xs ++ (x ∷ [])) (ys ++ (y ∷ []))
each_more R [] [] x y h r = (r, tt)
each_more R [] (b ∷ ys) x y h r = absurd h
each_more R (a ∷ xs) [] x y h r = absurd h
each_more R (a ∷ xs) (b ∷ ys) x y h r = (h.0, each_more R xs ys x y h.1 r)
