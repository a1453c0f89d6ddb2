use Rattle.std.proofs.Common.{◌≡◌, ℕ, ◌+◌, ◌-◌, length, take, sym, ap, ◌∙◌, arith}
use Rattle.word.specs.Word.{word_bytes, Bytes}
use Rattle.notice.specs.Field.{printable}
use Rattle.notice.proofs.Names.{overlap, start_wrong, next_right, whole_word, word_bytes_lem, end_word}
use Rattle.notice.proofs.name.words_right.Lts as lts
use Rattle.notice.proofs.name.words_right.Tie as tie
use Rattle.notice.proofs.name.words_right.Reads as reads
use Rattle.notice.proofs.name.words_right.Goals as goal

bytes : (c : lts.After-shared_slice_known tie.the-claims reads.Pre reads.Post goal.the-invariant-loop-i goal.the-decreases-loop-i) → Bytes c.args.name.now
bytes c i = (c.shared_slice_known-1.given i).fits

-- a turn's word, after the bytes that are right
word_is : (c : lts.After-word_right tie.the-claims reads.Pre reads.Post goal.the-invariant-loop-i goal.the-decreases-loop-i) → c.word_right.result ≡ printable (take (c.loop-i.i + 8) c.args.name.now)
word_is c =
    let s = c.args.name.now in
    let i = c.loop-i in
    whole_word c.read_u64.result c.word_right.result c.read_u64.type_inv c.word_right.ensures ∙ (ap (λ (x : ℕ). printable (word_bytes 8 x)) c.read_u64.ensures
    ∙ (word_bytes_lem 8 i.i s (bytes c.before.before.before.before) (omega arith) ∙ next_right i.i 8 s i.invariant.1))

pub loop-i-preserved : goal.loop-i-preserved
loop-i-preserved c = (omega arith, sym (word_is c.before.before) ∙ c.if-word_right.true)

pub returns-else-word_right : goal.returns-else-word_right
returns-else-word_right c = start_wrong (c.loop-i.i + 8) c.args.name.now (sym (word_is c.before.before) ∙ c.if-word_right.false)

pub returns : goal.returns
returns c =
    let s = c.args.name.now in
    let i = c.loop-i in
    whole_word c.read_u64-2.result c.word_right-2.result c.read_u64-2.type_inv c.word_right-2.ensures ∙ (ap (λ (x : ℕ). printable (word_bytes 8 x)) c.read_u64-2.ensures
    ∙ (end_word 8 (length s - 8) s (bytes c.before.before.before.before.before) (omega arith) ∙ overlap i.i (length s - 8) s (omega arith) i.invariant.1))
