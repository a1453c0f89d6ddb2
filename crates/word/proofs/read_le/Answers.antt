use mathlib.Core.Path.{◌≡◌, refl}
use Prim.Native.Nat.{◌<◌, ◌+◌, ◌-◌, ◌^◌}
use native.Mathlib.Omega.{arith}
use borrow.Author.Rules.{rules}
use Rattle.word.specs.Word.{word_at}
use Rattle.word.proofs.Laws.{read_more, fits7}
use Rattle.word.proofs.read_le.Goals as goal

pub loop-i-init : goal.loop-i-init
unfolding word_at
loop-i-init c =
    let z : c.args.k - c.args.k ≡ 0 = omega arith in
    (rw (z, word_at), rw z (search rules))

pub overflow_mul-v : goal.overflow_mul-v
overflow_mul-v c =
    let j = c.args.k - c.loop-i.i in
    let m : c.loop-i.v < 256 ^ 7 = fits7 j c.loop-i.invariant.1 (omega arith) in
    omega arith

pub overflow_add-v-in-loop-i : goal.overflow_add-v-in-loop-i
overflow_add-v-in-loop-i c =
    let j = c.args.k - c.loop-i.i in
    let m : c.loop-i.v < 256 ^ 7 = fits7 j c.loop-i.invariant.1 (omega arith) in
    let b = (c.type_inv.s (c.args.at + (c.loop-i.i - 1))).fits in
    omega arith

pub loop-i-preserved : goal.loop-i-preserved
loop-i-preserved c =
    let a = c.args in
    let l = c.loop-i in
    read_more a.k l.i a.at l.v _ a.s.now c.loop-i-test.true l.auto.i l.invariant.0 l.invariant.1 refl (c.type_inv.s (a.at + (l.i - 1))).fits

pub returns : goal.returns
returns c =
    let a = c.args in
    let l = c.loop-i in
    let z : l.i ≡ 0 = omega arith in
    let e1 : a.k - l.i ≡ a.k = omega arith in
    let e2 : a.at + l.i ≡ a.at = omega arith in
    (rw (e1, e2) at l.invariant.0, rw e1 at l.invariant.1)
