-- The theorems that specs/Order.antt states. Assumes nothing.
use mathlib.Core.Path.{◌≡◌, refl}
use mathlib.Core.Bool.{cond}
use mathlib.Core.Logic.{inl, inr}
use Prim.Native.Nat.{ℕ, zero, suc, ◌<◌, ◌≤◌}
use lib.Dec.{leb}
use borrow.Author.Tests.{le-leb, lt-leb}
use native.Mathlib.Omega.{arith}
use Rattle.truth.specs.declared.Truth.{Truth}
use Rattle.truth.specs.declared.Truth.TheVariants.{False, Bottom, True}
use Rattle.truth.specs.Order.{at_rank, AndLesser, OrGreater, NotTurned, NotTurnsRound, PlaceTells, LesserBelow, GreaterAbove}

pub and_lesser : AndLesser
and_lesser False False = refl
and_lesser False Bottom = refl
and_lesser False True = refl
and_lesser Bottom False = refl
and_lesser Bottom Bottom = refl
and_lesser Bottom True = refl
and_lesser True False = refl
and_lesser True Bottom = refl
and_lesser True True = refl

pub or_greater : OrGreater
or_greater False False = refl
or_greater False Bottom = refl
or_greater False True = refl
or_greater Bottom False = refl
or_greater Bottom Bottom = refl
or_greater Bottom True = refl
or_greater True False = refl
or_greater True Bottom = refl
or_greater True True = refl

pub not_turned : NotTurned
not_turned False = refl
not_turned Bottom = refl
not_turned True = refl

pub not_turns_round : NotTurnsRound
not_turns_round False False = ((λ h. omega arith), (λ h. omega arith))
not_turns_round False Bottom = ((λ h. omega arith), (λ h. omega arith))
not_turns_round False True = ((λ h. omega arith), (λ h. omega arith))
not_turns_round Bottom False = ((λ h. omega arith), (λ h. omega arith))
not_turns_round Bottom Bottom = ((λ h. omega arith), (λ h. omega arith))
not_turns_round Bottom True = ((λ h. omega arith), (λ h. omega arith))
not_turns_round True False = ((λ h. omega arith), (λ h. omega arith))
not_turns_round True Bottom = ((λ h. omega arith), (λ h. omega arith))
not_turns_round True True = ((λ h. omega arith), (λ h. omega arith))

pub place_tells : PlaceTells
place_tells False = refl
place_tells Bottom = refl
place_tells True = refl

pub lesser_below : LesserBelow
lesser_below False False = (inl refl, omega arith, omega arith)
lesser_below False Bottom = (inl refl, omega arith, omega arith)
lesser_below False True = (inl refl, omega arith, omega arith)
lesser_below Bottom False = (inr refl, omega arith, omega arith)
lesser_below Bottom Bottom = (inl refl, omega arith, omega arith)
lesser_below Bottom True = (inl refl, omega arith, omega arith)
lesser_below True False = (inr refl, omega arith, omega arith)
lesser_below True Bottom = (inr refl, omega arith, omega arith)
lesser_below True True = (inl refl, omega arith, omega arith)

pub greater_above : GreaterAbove
greater_above False False = (inl refl, omega arith, omega arith)
greater_above False Bottom = (inr refl, omega arith, omega arith)
greater_above False True = (inr refl, omega arith, omega arith)
greater_above Bottom False = (inl refl, omega arith, omega arith)
greater_above Bottom Bottom = (inl refl, omega arith, omega arith)
greater_above Bottom True = (inr refl, omega arith, omega arith)
greater_above True False = (inl refl, omega arith, omega arith)
greater_above True Bottom = (inl refl, omega arith, omega arith)
greater_above True True = (inl refl, omega arith, omega arith)
