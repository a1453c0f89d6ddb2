-- The form of an argument by its number. Assumes nothing.
use mathlib.Core.Path.{◌≡◌, refl, sym, ap, ◌∙◌}
use mathlib.Core.Bool.{Bool, true, false, cond}
use Prim.Native.Nat.{ℕ}
use lib.Dec.{eqb}
use Rattle.grammar.specs.Judge.{Form, Name, Text, FoldCase, Other}
use Rattle.postfix.specs.declared.packed.Form as code
use Rattle.postfix.specs.Packed.{form_number, form_in}
use Rattle.postfix.specs.Form.{form_of}

-- the number of a form tells the form
pub form_back : (f : Form) → form_in (form_number f) ≡ f
form_back Name = refl
form_back Text = refl
form_back FoldCase = refl
form_back Other = refl

pub form_same : (f : code.Form) {n : ℕ} → form_number (form_of f) ≡ n → form_of f ≡ form_in n
form_same f e = sym (form_back (form_of f)) ∙ ap form_in e

pub number_chosen : (n : ℕ) (f g : code.Form) → form_number (form_of (cond (eqb n 0) f g)) ≡ cond (eqb n 0) (form_number (form_of f)) (form_number (form_of g))
number_chosen n f g = go (eqb n 0)
  where
    go : (b : Bool) → form_number (form_of (cond b f g)) ≡ cond b (form_number (form_of f)) (form_number (form_of g))
    go true = refl
    go false = refl
