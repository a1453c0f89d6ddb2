-- The stack of an array and a depth, topmost first: after a store, and taken apart from the top. Assumes nothing.
use mathlib.Core.Path.{◌≡◌, refl, ap, ◌∙◌}
use mathlib.Core.List.{List, [], ◌∷◌, ◌++◌, reverse, reverse-append}
use Prim.Native.Nat.{ℕ, zero, suc, ◌+◌, ◌-◌, ◌<◌, ◌≤◌}
use native.Mathlib.Nat.{not-suc-le-zero, sub-zero}
use native.Mathlib.Numerals.{add-one}
use native.Mathlib.Omega.{arith}
use lib.ListN.{length, get_or, set, take, drop}
use lib.Seq.{get_or-set_same, get_or-set_other, take-suc}
use Rattle.value.specs.Value.{Item, logic}
use Rattle.truth.specs.declared.Truth.TheVariants.{Bottom}
use Rattle.value.specs.declared.Held.{Held}
use Rattle.value.specs.declared.Slot.{Slot}
use Rattle.interpreter.specs.Machine.{blank, stack_of}

module _ (f : Held → Item) (xs : List Slot) where
  -- a store at or above the depth is not seen
  stack_keep : (i : ℕ) (s : Slot) (d : ℕ) → d ≤ i → stack_of f (set xs i s) d ≡ stack_of f xs d
  stack_keep i s zero h = refl
  stack_keep i s (suc d) h = rw (get_or-set_other xs i d s blank (λ e. omega arith), stack_keep i s d (omega arith))

  -- a store at the depth is a push
  pub stack_put : (s : Slot) (d : ℕ) → d < length xs → stack_of f (set xs d s) (d + 1) ≡ f s.held ∷ stack_of f xs d
  stack_put s d h = let k : d ≤ d = omega arith in rw (add-one, get_or-set_same xs d s blank h, stack_keep d s d k)

  pub stack_length : (d : ℕ) → length (stack_of f xs d) ≡ d
  stack_length zero = refl
  stack_length (suc d) = ap suc (stack_length d)

  pub stack_drop : (j d : ℕ) → drop j (stack_of f xs d) ≡ stack_of f xs (d - j)
  stack_drop zero d = rw sub-zero
  stack_drop (suc j) zero = let e : 0 - suc j ≡ 0 = omega arith in rw e
  stack_drop (suc j) (suc d) = let e : suc d - suc j ≡ d - j = omega arith in rw e (stack_drop j d)

  -- the slot j below the topmost
  pub stack_get : (j d : ℕ) (x : Item) → j < d → get_or (stack_of f xs d) j x ≡ f (get_or xs (d - (j + 1)) blank).held
  stack_get j zero x h = absurd (not-suc-le-zero h)
  stack_get zero (suc d) x h = let e : suc d - (0 + 1) ≡ d = omega arith in rw e
  stack_get (suc j) (suc d) x h =
      let e : suc d - (suc j + 1) ≡ d - (j + 1) = omega arith in
      rw e (stack_get j d x (omega arith))

  -- the slots from j up, the deepest first: the one at j, and those from the next up
  pub stack_up : (j d : ℕ) → j < d → reverse (take (d - j) (stack_of f xs d)) ≡ f (get_or xs j blank).held ∷ reverse (take (d - (j + 1)) (stack_of f xs d))
  stack_up j d h =
      let st = stack_of f xs d in
      let k = d - (j + 1) in
      let x = f (get_or xs j blank).held in
      let e : d - j ≡ suc k = omega arith in
      let l : k < length st = rw (stack_length d) (omega arith) in
      let i : d - (k + 1) ≡ j = omega arith in
      let g : get_or st k (logic Bottom) ≡ x = rw i at (stack_get k d (logic Bottom) (omega arith)) in
      ap (λ (q : ℕ). reverse (take q st)) e
      ∙ ap reverse (take-suc st k (logic Bottom) l ∙ ap (λ (y : Item). take k st ++ (y ∷ [])) g)
      ∙ reverse-append (take k st) (x ∷ [])
