-- Document 02, request 10:
--
-- Take either edition, an accepted text, and two well-formed notices, where the second holds every field of the first with the same kind and bytes and perhaps others. If the first gives true, so does the second; if the first gives
-- false, so does the second. It holds of the text's meaning, and of the verdicts that the code answers.
--
-- `MoreFields` says it of the meaning, `MoreAnswers` of the answers of `translate` and `run`, by their promises and demand 3, and `MoreMatches` of those of `match_text`. The proofs are in proofs/More.antt, under the same names.
-- The notices are `More` of crate `notice`; the order and the laws of the operators that it rests on are Order and Laws of crate `value`.
use Rattle.std.specs.Prelude.{ℕ, ◌≤◌, ◌≡◌, List, length}
use Rattle.std.proofs.Math.Option.{some}
use Rattle.word.specs.Word.{Bytes}
use Rattle.truth.specs.declared.Truth.{Truth}
use Rattle.truth.specs.declared.Truth.TheVariants.{False, True}
use Rattle.notice.specs.More.{More}
use Rattle.opcode.specs.declared.Edition.{Edition}
use Rattle.grammar.specs.Tree.{Tree}
use Rattle.table.specs.Table.{encode}
use Rattle.meaning.specs.Meaning.{text_meaning}
use Rattle.translator.specs.Compile.{compile}
use Rattle.translator.specs.Translation.{edition_number}
use Rattle.translator.specs.Theorems.{Accepted}
use Rattle.router.specs.Demand.{Calls, Matches}
use Rattle.router.specs.declared.matching.Matched.{Matched}

-- "If the first gives true, so does the second; if false, likewise."
abbrev pub NeverTurns : Truth → Truth → Type 0
NeverTurns s t = (s ≡ True → t ≡ True) × (s ≡ False → t ≡ False)

-- Of the meaning: an accepted text has one on both notices, and more fields do not turn it round.
abbrev pub MoreFields : Type 0
MoreFields =
    (edition : Edition) (text first second : List ℕ) (tree : Tree) → Accepted text tree → More first second
    → (s t : Truth) × (text_meaning edition text first ≡ some s) × (text_meaning edition text second ≡ some t) × NeverTurns s t

-- Of the code's own answers: `translate` the text and `run` the table that it writes on each notice. Neither run is refused. The two may be of one translation, or of two in any two buffers.
abbrev pub MoreAnswers : Type 0
MoreAnswers =
    (edition : Edition) (text buffer buffer' first second : List ℕ) (visits visits' : ℕ) (tree : Tree) (c : Calls edition text buffer first visits) (d : Calls edition text buffer' second visits')
    → Bytes text → Accepted text tree → length (encode (compile edition tree)) ≤ length buffer → length (encode (compile edition tree)) ≤ length buffer' → More first second
    → (c.ran.number ≡ 0) × (d.ran.number ≡ 0) × NeverTurns c.ran.verdict d.ran.verdict

-- .. and of those of `match_text`.
abbrev pub MoreMatches : Type 0
MoreMatches =
    (edition : Edition) (text buffer buffer' first second written written' : List ℕ) (visits visits' : ℕ) (tree : Tree) (r r' : Matched)
    → Matches (edition_number edition) text buffer first written visits r → Matches (edition_number edition) text buffer' second written' visits' r'
    → Accepted text tree → length (encode (compile edition tree)) ≤ length buffer → length (encode (compile edition tree)) ≤ length buffer' → More first second
    → (r.number ≡ 0) × (r'.number ≡ 0) × NeverTurns r.verdict r'.verdict
