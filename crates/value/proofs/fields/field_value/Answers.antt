use mathlib.Core.Path.{◌≡◌, ap, ◌∙◌}
use lib.Ieee.{binary64, of_bits}
use mir.Syntax.{w32, w64}
use mir.Val.{to_z}
use mir.ValLaws.{to_z-of_z}
use borrow.Author.Tests.{eqb-true}
use Prim.Native.Nat.{ℕ}
use mathlib.Core.Bool.{true}
use Rattle.notice.specs.Field.{size_right}
use Rattle.octets.proofs.Theorems.{not_folded}
use Rattle.value.specs.Value.{int32, int64, real, text}
use Rattle.value.proofs.FieldValues.{word_part}
use borrow.Author.Rules.{rules}
use Rattle.value.proofs.fields.field_value.Goals as goal

-- the sizes of numbers
four : (kind len : ℕ) → size_right kind len ≡ true → kind ≡ 1 → len ≡ 4
four kind len h e = eqb-true len 4 (rw e at h)

eight : (kind len : ℕ) → size_right kind len ≡ true → kind ≡ 2 → len ≡ 8
eight kind len h e = eqb-true len 8 (rw e at h)

eight_real : (kind len : ℕ) → size_right kind len ≡ true → kind ≡ 3 → len ≡ 8
eight_real kind len h e = eqb-true len 8 (rw e at h)

pub returns-in-1 : goal.returns-in-1
returns-in-1 c =
    let a = c.args in
    let w = word_part 4 a.start a.len a.notice.now (search rules) (four a.kind a.len c.requires.0 c.in-1.is) c.requires.1 in
    λ p. rw c.in-1.is (ap int32 (to_z-of_z w32 c.cast_signed.result (record { sfits = c.cast_signed.type_inv }) ∙ c.cast_signed.ensures ∙ ap (to_z w32) (c.read_u32.ensures ∙ w)))

pub returns-in-2 : goal.returns-in-2
returns-in-2 c =
    let a = c.args in
    let w = word_part 8 a.start a.len a.notice.now (search rules) (eight a.kind a.len c.requires.0 c.in-2.is) c.requires.1 in
    λ p. rw c.in-2.is (ap int64 (to_z-of_z w64 c.cast_signed-in-2.result (record { sfits = c.cast_signed-in-2.type_inv }) ∙ c.cast_signed-in-2.ensures ∙ ap (to_z w64) (c.read_u64.ensures ∙ w)))

pub returns-in-3 : goal.returns-in-3
returns-in-3 c =
    let a = c.args in
    let w = word_part 8 a.start a.len a.notice.now (search rules) (eight_real a.kind a.len c.requires.0 c.in-3.is) c.requires.1 in
    λ p. rw c.in-3.is (ap real (c.real_of_bits.ensures ∙ ap (of_bits binary64) (c.read_u64-in-3.ensures ∙ w)))

pub returns-in-4 : goal.returns-in-4
returns-in-4 c = λ p. rw (c.in-4.is, c.in_notice.ensures) (ap text (not_folded _))
