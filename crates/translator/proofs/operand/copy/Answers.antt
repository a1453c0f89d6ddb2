use Prim.Native.Nat.{ℕ, ◌+◌, ◌-◌}
use native.Mathlib.Omega.{arith}
use mathlib.Core.Path.{◌≡◌, ap, ◌∙◌}
use lib.ListN.{take, drop}
use lib.Seq.{sets}
use Rattle.word.specs.Word.{word_bytes}
use Rattle.translator.proofs.Stores.{in_words, words_over, kept_by}
use Rattle.translator.proofs.operand.copy.Goals as goal

pub returns-then-n : goal.returns-then-n
returns-then-n c =
    let a = c.args in
    let k : a.from + a.n - a.from ≡ a.n = omega arith in
    c.copy_to.ensures ∙ ap (λ (m : ℕ). sets a.out.now a.at (take m (drop a.from a.text.now))) k

pub read_u32-low-requires : goal.read_u32-low-requires
read_u32-low-requires c = omega (arith, (in_words c.args.n c.if-n.false).0, c.requires.0)

pub overflow_sub-end : goal.overflow_sub-end
overflow_sub-end c = omega (arith, (in_words c.args.n c.if-n.false).0)

pub read_u32-high-requires : goal.read_u32-high-requires
read_u32-high-requires c = omega (arith, (in_words c.args.n c.if-n.false).0, c.requires.0)

pub write_u32-requires : goal.write_u32-requires
write_u32-requires c = omega (arith, (in_words c.args.n c.if-n.false).0, c.requires.1)

pub overflow_sub-last : goal.overflow_sub-last
overflow_sub-last c = omega (arith, (in_words c.args.n c.if-n.false).0)

pub write_u32-requires-then-n-lt8 : goal.write_u32-requires-then-n-lt8
write_u32-requires-then-n-lt8 c =
    omega (arith, (in_words c.args.n c.if-n.false).0, c.requires.1, kept_by c.args.out.now c.write_u32.new.d c.args.at (word_bytes 4 c.read_u32-low.result) c.write_u32.ensures)

pub returns-then-n-lt8 : goal.returns-then-n-lt8
returns-then-n-lt8 c =
    words_over 4 c.args.n c.args.text.now c.args.out.now _ _ c.args.from c.args.at _ _ (λ i. omega (arith, c.shared_slice_known-1.given i)) (in_words c.args.n c.if-n.false).0 (omega (arith, c.if-n-lt8.true)) c.requires.0 c.read_u32-low.ensures c.read_u32-high.ensures c.write_u32.ensures c.write_u32-then-n-lt8.ensures

pub write_u64-requires-2 : goal.write_u64-requires-2
write_u64-requires-2 c =
    omega (arith, c.if-n-lt8.false, c.requires.1, kept_by c.args.out.now c.write_u64.new.d c.args.at (word_bytes 8 c.read_u64-low.result) c.write_u64.ensures)

pub returns : goal.returns
returns c =
    words_over 8 c.args.n c.args.text.now c.args.out.now _ _ c.args.from c.args.at _ _ (λ i. omega (arith, c.shared_slice_known-1.given i)) c.if-n-lt8.false (in_words c.args.n c.if-n.false).1 c.requires.0 c.read_u64-low.ensures c.read_u64-high.ensures c.write_u64.ensures c.write_u64-2.ensures
