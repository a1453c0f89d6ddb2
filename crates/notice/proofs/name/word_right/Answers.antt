use Rattle.std.proofs.Common.{ℕ, ◌+◌, ◌%◌, ◌^◌, sym, ap, ◌∙◌}
use Rattle.notice.proofs.Words.{by_tests}
use Rattle.notice.proofs.name.word_right.Goals as goal

pub returns : goal.returns
returns c y e f =
    let a = c.args in
    rw e (by_tests a.m y c.requires f c.wrapping_add_u64-high.result c.wrapping_sub_u64-low.result
    (c.wrapping_add_u64-high.ensures.value ∙ ap (λ (n : ℕ). (n + 0x0101_0101_0101_0101) % 2 ^ 64) e) c.wrapping_sub_u64-low.type_inv
    (ap (λ (n : ℕ). (c.wrapping_sub_u64-low.result + n) % 2 ^ 64) (sym e) ∙ c.wrapping_sub_u64-low.ensures.value))
