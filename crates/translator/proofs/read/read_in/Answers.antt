use Rattle.std.proofs.lemmas.Result.{err_from_is_err_and}
use Prim.Native.Nat.{ℕ, ◌-◌}
use native.Mathlib.Omega.{arith}
use mathlib.Core.Path.{refl, ap, ◌∙◌}
use mathlib.Core.List.{[]}
use lib.ListN.{replicate, length, length-append, length-map, length-drop, length-replicate}
use lib.Seq.{length-sets}
use borrow.Rule.Slice.PartMut.{post_of}
use Rattle.lexer.specs.Token.{kind_of, tokens_of, kinds_of, starts_of}
use Rattle.lexer.specs.Answer.{answered}
use Rattle.translator.proofs.Stores.{kept_by}
use Rattle.translator.proofs.Answering.{lexes, few, kinds_front, starts_front, front_as, reads_tokens, reads_refused}
use Rattle.translator.proofs.read.read_in.Goals as goal

pub lex-requires : goal.lex-requires
lex-requires g c = (c.requires.0, λ h. omega (arith, length-replicate {A = ℕ} g.row.TOKENS 0, c.requires.1 h))

pub returns-in_err-n : goal.returns-in_err-n
returns-in_err-n g c =
    let a = c.args in
    let p = err_from_is_err_and c.from_residual.result c.from_residual.ensures.1 in
    record {
      reads = rw (p.1, p.2) (reads_refused a.text.now [] [] [] _ c.lex.ensures.value (ap answered c.in_err-n.was));
      marks_len_unchanged = (ap length c.lex.ensures.kinds_after ∙ simp length-sets, refl, refl);
    }

pub slice_bounds-marked-end : goal.slice_bounds-marked-end
slice_bounds-marked-end g c =
    let a = c.args in
    let t = lexes a.text.now (λ i. omega (arith, c.shared_slice_known-1.given i)) c.lex.ensures.value (ap answered c.in_ok-n.was) in
    let k = kept_by a.marks.now _ 0 (kinds_of (tokens_of a.text.now)) c.lex.ensures.kinds_after in
    omega (arith, few t a.marks.now c.requires.0, k)

pub slice_bounds-marked-end-2 : goal.slice_bounds-marked-end-2
slice_bounds-marked-end-2 g c =
    let a = c.args in
    let t = lexes a.text.now (λ i. omega (arith, c.shared_slice_known-1.given i)) c.lex.ensures.value (ap answered c.in_ok-n.was) in
    let k = kept_by (replicate g.row.TOKENS 0) _ 0 (starts_of (tokens_of a.text.now)) c.lex.ensures.starts_after in
    omega (arith, few t (replicate g.row.TOKENS 0) (λ h. omega (arith, length-replicate {A = ℕ} g.row.TOKENS 0, c.requires.1 h)), k)

pub marked-requires : goal.marked-requires
marked-requires g c =
    let a = c.args in
    let t = lexes a.text.now (λ i. omega (arith, c.shared_slice_known-1.given i)) c.lex.ensures.value (ap answered c.in_ok-n.was) in
    t.text.short

pub returns : goal.returns
returns g c =
    let a = c.args in
    let t = lexes a.text.now (λ i. omega (arith, c.shared_slice_known-1.given i)) c.lex.ensures.value (ap answered c.in_ok-n.was) in
    let n = c.in_ok-n.n in
    let kinds = c.lex.new.kinds in
    let starts = c.lex.new.starts in
    let ek = front_as n kinds ∙ kinds_front t a.marks.now kinds c.requires.0 c.lex.ensures.kinds_after in
    let es = front_as n starts ∙ starts_front t (replicate g.row.TOKENS 0) starts (λ h. omega (arith, length-replicate {A = ℕ} g.row.TOKENS 0, c.requires.1 h)) c.lex.ensures.starts_after in
    let front = c.marked.new.kinds in
    let rest = post_of 0 (n - 0) kinds in
    let e = c.marked.ensures in
    record {
      reads = reads_tokens t ek es front rest a.places.now a.sizes.now e.kinds_after e.places_after e.sizes_after e.value;
      marks_len_unchanged = (omega (arith, length-append front rest, c.marked.auto.kinds, ap length ek, length-map t.placed (λ p. kind_of p.token), t.count, length-drop (n - 0) kinds, c.lex.auto.kinds, few t a.marks.now c.requires.0), ap length e.places_after ∙ simp length-sets, ap length e.sizes_after ∙ simp length-sets);
    }
