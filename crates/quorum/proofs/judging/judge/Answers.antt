-- `judging::judge` meets its contract: counted before, new, 20. Assumes nothing.
use Rattle.std.proofs.Common.{◌≡◌, sym, ap, ◌∙◌, ℕ, ◌-◌, Bool, List, arith}
use Rattle.quorum.proofs.Turns.{turn_new, turn_ninth}
use Rattle.quorum.proofs.Reading.{holding, holding_sized, length_values}
use Rattle.quorum.specs.Decision.{has, count_of, values_from, values_of}
use Rattle.quorum.proofs.judging.judge.Goals as goal

-- what `has` told
has_is : (v s : List ℕ) {told : Bool} → told ≡ has v (values_from s 0 (count_of s - 0)) → told ≡ has v (values_of s)
has_is v s e =
    let z : count_of s - 0 ≡ count_of s = omega arith in
    e ∙ ap (λ (n : ℕ). has v (values_from s 0 n)) z

pub bounds-buffer-7 : goal.bounds-buffer-7
bounds-buffer-7 c = let h = holding c.args.buffer.now c.requires.0 in omega (arith, h.head.long)

pub has-requires : goal.has-requires
has-requires c = let s = c.args.buffer.now in (holding_sized s (holding s c.requires.0), omega arith)

pub returns-then-n-lt8-clause-turn : goal.returns-then-n-lt8-clause-turn
returns-then-n-lt8-clause-turn c =
    let s = c.args.buffer.now in
    turn_new c.args.v.now (values_of s) (λ e. omega (arith, e, c.requires.1)) (sym (has_is c.args.v.now s c.has.ensures) ∙ c.if-has.false) (omega (arith, length_values s 0 (count_of s)))

pub returns-clause-turn : goal.returns-clause-turn
returns-clause-turn c =
    let s = c.args.buffer.now in
    turn_ninth c.args.v.now (values_of s) (λ e. omega (arith, e, c.requires.1)) (sym (has_is c.args.v.now s c.has.ensures) ∙ c.if-has.false) (omega (arith, length_values s 0 (count_of s)))
