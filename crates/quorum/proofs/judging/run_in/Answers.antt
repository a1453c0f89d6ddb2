-- `judging::run_in` meets its contract: 11, then the run of the table, which lies in the buffer and passes the check; and the starts of the fields. Assumes nothing.
use Rattle.std.proofs.Common.{◌≡◌, refl, sym, ap, ◌∙◌, ℕ, ◌-◌, take, drop, true, arith, rules}
use Rattle.table.specs.Check.{check_of as tableCheck}
use Rattle.interpreter.specs.Running.{running_of}
use Rattle.interpreter.proofs.Answers.{indexed, notice_refused, neither_refused}
use Rattle.quorum.specs.Decision.{table_of}
use Rattle.quorum.proofs.Reading.{holding}
use Rattle.quorum.proofs.judging.run_in.Goals as goal

pub returns-in_err-index-clause-value : goal.returns-in_err-index-clause-value
returns-in_err-index-clause-value c =
    let s = c.args.buffer.now in
    let e = notice_refused (table_of s) c.args.notice.now c.in_err-index.field-0.0 (holding s c.requires.0).table (sym c.in_err-index.ensures.value) in
    search rules

pub size_of-size-requires : goal.size_of-size-requires
size_of-size-requires c = let h = holding c.args.buffer.now c.requires.0 in omega (arith, h.head.long)

pub slice_bounds-run_whole-count : goal.slice_bounds-run_whole-count
slice_bounds-run_whole-count c = let h = holding c.args.buffer.now c.requires.0 in omega (arith, h.head.least, h.head.fits, c.size_of-size.ensures)

pub slice_bounds-run_whole-start : goal.slice_bounds-run_whole-start
slice_bounds-run_whole-start c = let h = holding c.args.buffer.now c.requires.0 in omega (arith, h.head.least, h.head.fits, c.size_of-size.ensures)

pub slice_bounds-run_whole-end : goal.slice_bounds-run_whole-end
slice_bounds-run_whole-end c = let h = holding c.args.buffer.now c.requires.0 in omega (arith, h.head.least, h.head.fits, c.size_of-size.ensures)

pub run_whole-requires : goal.run_whole-requires
run_whole-requires c =
    let n = c.args.notice.now in
    let well = sym c.in_ok-index.ensures.value in
    (rw c.size_of-size.ensures (holding c.args.buffer.now c.requires.0).table, well, indexed n n _ refl well c.in_ok-index.ensures.starts_after c.requires.1)

pub returns-clause-value : goal.returns-clause-value
returns-clause-value c =
    let s = c.args.buffer.now in
    let n = c.args.notice.now in
    let checked : tableCheck (take (c.size_of-size.result - 528) (drop 528 s)) ≡ true = rw c.size_of-size.ensures (holding s c.requires.0).table in
    c.run_whole.ensures
    ∙ neither_refused (take (c.size_of-size.result - 528) (drop 528 s)) n checked (sym c.in_ok-index.ensures.value)
    ∙ ap (λ (k : ℕ). running_of (take (k - 528) (drop 528 s)) n) c.size_of-size.ensures

pub returns-clause-marks : goal.returns-clause-marks
returns-clause-marks c = λ well. indexed c.args.notice.now c.args.notice.now _ refl well c.in_ok-index.ensures.starts_after c.requires.1
