use mathlib.Core.Path.{ap}
use Rattle.translator.specs.Translation.{answered}
use Rattle.session.proofs.Laws.{to_end, text_answers}
use Rattle.session.proofs.answer_text.Goals as goal

pub returns-in-Ok : goal.returns-in-Ok
returns-in-Ok c =
    λ t. text_answers c.args.bytes.now t c.args.table.now c.args.out.now _ _ _ c.args.at c.put_text_line.result
    _ (λ i. (c.shared_slice_known-1.given i).fits) (to_end c.args.bytes.now 6) c.translate.ensures (ap answered c.in-Ok.is)
    c.put_text_line.ensures.0 c.put_text_line.ensures.1

pub returns-in-Err : goal.returns-in-Err
returns-in-Err c =
    let p = rw (c.number.ensures, c.place.ensures) at c.put_text_line-in-Err.ensures.0 in
    λ t. text_answers c.args.bytes.now t c.args.table.now c.args.out.now _ _ _ c.args.at c.put_text_line-in-Err.result
    _ (λ i. (c.shared_slice_known-1.given i).fits) (to_end c.args.bytes.now 6) c.translate.ensures (ap answered c.in-Err.is) p c.put_text_line-in-Err.ensures.1
