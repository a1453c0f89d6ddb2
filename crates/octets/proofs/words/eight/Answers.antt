use mathlib.Core.Path.{◌≡◌, sym, ap, ◌∙◌}
use Prim.Native.Nat.{ℕ, ◌+◌, ◌-◌, ◌*◌, ◌^◌, ◌<◌}
use native.Mathlib.Nat.{pow-suc}
use native.Mathlib.Numerals.{add-one}
use native.Mathlib.Omega.{arith}
use lib.ListN.{drop}
use Rattle.word.proofs.Laws.{fits7}
use Rattle.octets.specs.Octets.{lead}
use Rattle.octets.proofs.Leads.{lead_more, lead_all}
use Rattle.octets.proofs.words.eight.Goals as goal

pub loop-i-init : goal.loop-i-init
loop-i-init c =
    let z : c.args.at + 0 ≡ c.args.at = omega arith in
    (omega arith, ap (λ (n : ℕ). lead 8 0 (drop n c.args.s.now)) z)

pub overflow_mul-v : goal.overflow_mul-v
overflow_mul-v c =
    let l = c.loop-i in
    let m : l.v < 256 ^ 7 = fits7 l.i l.invariant.0 (omega arith) in
    omega arith

pub overflow_add-v-in-loop-i : goal.overflow_add-v-in-loop-i
overflow_add-v-in-loop-i c =
    let l = c.loop-i in
    let m : l.v < 256 ^ 7 = fits7 l.i l.invariant.0 (omega arith) in
    omega (arith, (c.type_inv.s (c.args.at + l.i)).fits)

pub loop-i-preserved : goal.loop-i-preserved
loop-i-preserved c =
    let a = c.args in
    let l = c.loop-i in
    let p : 256 ^ (l.i + 1) ≡ 256 ^ l.i * 256 = ap (λ (n : ℕ). 256 ^ n) (add-one l.i) ∙ pow-suc 256 l.i in
    (omega (arith, p, (c.type_inv.s (a.at + l.i)).fits, l.invariant.0), lead_more l.v a.at l.i a.s.now (omega arith) (omega arith) ∙ l.invariant.1)

pub returns : goal.returns
returns c =
    let a = c.args in
    let l = c.loop-i in
    let z : 8 - l.i ≡ 0 = omega arith in
    sym (lead_all l.v (drop (a.at + l.i) a.s.now)) ∙ (ap (λ (k : ℕ). lead k l.v (drop (a.at + l.i) a.s.now)) (sym z) ∙ l.invariant.1)
