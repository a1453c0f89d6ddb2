-- `quorum::show` meets its contract: 12, or what the notice is to the decision. Assumes nothing.
use Rattle.std.proofs.Common.{◌≡◌, refl, sym, ap, ◌∙◌, ℕ, ◌+◌, length, arith, Result}
use Rattle.refusal.specs.declared.Refusal.{Refusal}
use Rattle.refusal.specs.Refusal.{number_of, place_of}
use Rattle.interpreter.specs.declared.Ran.{Ran}
use Rattle.interpreter.specs.Running.{answered}
use Rattle.quorum.specs.Decision.{needed_of, count_of, added_to}
use Rattle.quorum.specs.Showing.{Keep, Add, Refuse, shown_as}
use Rattle.quorum.proofs.Reading.{holding}
use Rattle.quorum.proofs.Staff.{staff_short}
use Rattle.quorum.proofs.Turns.{free-place, shows-by}
use Rattle.quorum.proofs.show.Goals.{in-Ok, in-Err}
use Rattle.quorum.proofs.show.Goals as goal

pub bounds-buffer-6 : goal.bounds-buffer-6
bounds-buffer-6 c = let h = holding c.args.buffer.now (sym c.holds.ensures ∙ c.if-not-holds.false) in omega (arith, h.head.long)

pub bounds-buffer-7 : goal.bounds-buffer-7
bounds-buffer-7 c = let h = holding c.args.buffer.now (sym c.holds.ensures ∙ c.if-not-holds.false) in omega (arith, h.head.long)

pub add-requires : goal.add-requires
add-requires c =
    let s = c.args.buffer.now in
    let held = sym c.holds.ensures ∙ c.if-not-holds.false in
    let h = holding s held in
    (h.head.long, free-place s c.args.notice.now held Add c.in-Added.ensures.turn refl, omega (arith, ap length c.in-Added.ensures.staff, staff_short c.args.notice.now))

pub overflow_add-count : goal.overflow_add-count
overflow_add-count c = let h = holding c.args.buffer.now (sym c.holds.ensures ∙ c.if-not-holds.false) in omega (arith, h.head.few)

pub returns-in-Left : goal.returns-in-Left
returns-in-Left c =
    let s = c.args.buffer.now in
    let r = c.run_in-ran in
    let entry : c.match-ran.undecided ≡ (answered r.result).undecided =
    elim c.match-ran.branch [
      | in-Ok w ↦ w.undecided-is ∙ ap (λ (x : Result Ran Refusal). (answered x).undecided) (sym w.in-Ok.is)
      | in-Err w ↦ w.undecided-is ∙ ap (λ (x : Result Ran Refusal). (answered x).undecided) (sym w.in-Err.is)
    ] in
    shows-by
    s
    c.args.notice.now
    (sym c.holds.ensures ∙ c.if-not-holds.false)
    Keep
    c.in-Left.ensures.turn
    (answered r.result)
    _
    _
    r.ensures.value
    (c.answer.ensures ∙ ap (λ (u : ℕ). shown_as 0 0 (count_of s) (needed_of s) u) entry)
    refl

pub returns-in-Added : goal.returns-in-Added
returns-in-Added c =
    let s = c.args.buffer.now in
    let r = c.run_in-ran in
    let entry : c.match-ran.undecided ≡ (answered r.result).undecided =
    elim c.match-ran.branch [
      | in-Ok w ↦ w.undecided-is ∙ ap (λ (x : Result Ran Refusal). (answered x).undecided) (sym w.in-Ok.is)
      | in-Err w ↦ w.undecided-is ∙ ap (λ (x : Result Ran Refusal). (answered x).undecided) (sym w.in-Err.is)
    ] in
    shows-by
    s
    c.args.notice.now
    (sym c.holds.ensures ∙ c.if-not-holds.false)
    Add
    c.in-Added.ensures.turn
    (answered r.result)
    _
    _
    r.ensures.value
    (c.answer-in-Added.ensures ∙ ap (λ (u : ℕ). shown_as 0 0 (count_of s + 1) (needed_of s) u) entry)
    (c.add.ensures ∙ ap (added_to s) c.in-Added.ensures.staff)

pub returns-in-Refused : goal.returns-in-Refused
returns-in-Refused c =
    let s = c.args.buffer.now in
    let r = c.run_in-ran in
    let f = c.in-Refused.refusal in
    let entry : c.match-ran.undecided ≡ (answered r.result).undecided =
    elim c.match-ran.branch [
      | in-Ok w ↦ w.undecided-is ∙ ap (λ (x : Result Ran Refusal). (answered x).undecided) (sym w.in-Ok.is)
      | in-Err w ↦ w.undecided-is ∙ ap (λ (x : Result Ran Refusal). (answered x).undecided) (sym w.in-Err.is)
    ] in
    shows-by
    s
    c.args.notice.now
    (sym c.holds.ensures ∙ c.if-not-holds.false)
    (Refuse (number_of f) (place_of f))
    c.in-Refused.ensures.turn
    (answered r.result)
    _
    _
    r.ensures.value
    (c.answer-in-Refused.ensures ∙ ap (λ (u : ℕ). shown_as (number_of f) (place_of f) (count_of s) (needed_of s) u) entry)
    refl
