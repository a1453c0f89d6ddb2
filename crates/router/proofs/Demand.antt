-- Demand 3, as specs/Demand.antt states it. Assumes nothing.
use Rattle.std.specs.Prelude.{Ok, Err}
use Prim.Native.Nat.{ℕ, ◌≤◌}
use native.Mathlib.Omega.{arith}
use mathlib.Core.Path.{◌≡◌, refl, sym, ap, ◌∙◌, subst}
use mathlib.Core.Bool.{Bool, true, false}
use mathlib.Core.Logic.{◌⊎◌, inl, inr}
use mathlib.Core.List.{List, [], map}
use mathlib.Core.Option.{some}
use native.Mathlib.Decide.{ℕ_discrete}
use lib.Dec.{eqb}
use lib.ListN.{length, take}
use lib.Seq.{length-sets}
use borrow.Author.Tests.{ne_eqb}
use Rattle.common.specs.Choice.{pick}
use Rattle.common.proofs.Choice.{false_true}
use Rattle.word.specs.Word.{Bytes}
use Rattle.refusal.specs.declared.Refusal.{Refusal}
use Rattle.refusal.specs.Refusal.{number_of as refusal_number, place_of as refusal_place}
use Rattle.refusal.proofs.Numbers.{refuses, not_zero}
use Rattle.notice.specs.Layout.{check_of as noticeCheck}
use Rattle.notice.specs.Layout.{Layout}
use Rattle.notice.specs.Field.{Field}
use Rattle.notice.specs.Write.{written_of, written_bytes, refusal_of as refusal_in}
use Rattle.lexer.proofs.Theorems.{stored}
use Rattle.opcode.specs.declared.Edition.{Edition}
use Rattle.grammar.specs.Tree.{Tree}
use Rattle.grammar.proofs.Theorems.{parses}
use Rattle.table.specs.Table.{Program, encode, decode}
use Rattle.table.specs.Check.{check_of as tableCheck, refusal_of}
use Rattle.interpreter.specs.Run.{State, run_of, verdict_of}
use Rattle.interpreter.specs.Machine.{Visited}
use Rattle.interpreter.specs.Running.{RunAnswer, answered, answer_of, running_of}
use Rattle.interpreter.specs.declared.Machine.{Machine}
use Rattle.interpreter.specs.declared.Ran.{Ran}
use Rattle.interpreter.proofs.Visits.{as_many}
use Rattle.interpreter.proofs.Answers.{table_refused, neither_refused, ran_checked}
use Rattle.interpreter.proofs.Theorems.{stack_small}
use Rattle.meaning.specs.Meaning.{meaning, text_meaning}
use Rattle.translator.specs.Compile.{compile}
use Rattle.translator.specs.Translation.{Outcome, edition_number, translation_of, Answers}
use Rattle.translator.specs.Theorems.{Accepted}
use Rattle.translator.specs.Translation.{Translated}
use Rattle.translator.proofs.Sound.{size}
use Rattle.translator.proofs.Lexed.{lexed_text}
use Rattle.translator.proofs.Fits.{fits_room, refused_empty}
use Rattle.translator.proofs.Theorems.{writes_table, accepts_exactly, decodes, passes_check, other_edition, pool_small}
use Rattle.router.specs.Agree.{Made}
use Rattle.router.specs.Demand.{Met, DemandThree, AcceptedText, RefusalKeeps, outcome_by, outcome_of, refused as refusedWith, ran_of, checked_of, match_by, RunsChecked, RunsTable, Matches}
use Rattle.router.specs.declared.matching.Matched.{Matched}
use Rattle.router.proofs.Agree.{Whole, runs_whole}
use Rattle.router.proofs.Made.{accepted_made}

-- the table that is written, of the length that is answered
written_table : (o : Outcome) (buffer written : List ℕ) (r : Translated) → length o.table ≤ length buffer → Answers o buffer written r → take r.length written ≡ o.table
written_table o buffer written r h a = rw (a.answer, a.bytes) (stored buffer o.table h)

-- an accepted text's meaning is its tree's
pub text_means : (edition : Edition) (text notice : List ℕ) (tree : Tree) → Accepted text tree → text_meaning edition text notice ≡ some (meaning edition tree notice)
text_means edition text notice tree a = let x = a.expression in rw (x.lexed, (parses (map (λ p. p.token) x.placed) tree).1 x.derived)

module _ (edition : Edition) (text notice : List ℕ) (tree : Tree) (b : Bytes text) (a : Accepted text tree) where
  made : Made tree
  made = let x = a.expression in accepted_made (map (λ p. p.token) x.placed) tree x.derived (lexed_text text x.placed b x.lexed).right a.right.forms

  whole : Whole edition tree notice
  whole = let h = pool_small text tree b a in runs_whole edition tree notice (omega arith) made

  -- the accepted text's own table, by the definitions, and a machine of the runner on it
  met : noticeCheck notice ≡ Ok tt → {visits : ℕ} {m : Machine} → Visited (encode (compile edition tree)) notice visits m
      → Met edition text notice (encode (compile edition tree)) (running_of (encode (compile edition tree)) notice).number (running_of (encode (compile edition tree)) notice).verdict (running_of (encode (compile edition tree)) notice).steps visits m
  met w {visits} {m} v =
      let table = encode (compile edition tree) in
      let p = passes_check edition text tree b a in
      let d = decodes edition text tree b a in
      let r : running_of table notice ≡ answer_of (decode table) notice = sym (neither_refused table notice p w) in
      let e = whole.ends in
      record {
        passes = p;
        answered = ap (λ (x : RunAnswer). x.number) r;
        means = text_means edition text notice tree a ∙ ap some (sym (ap (λ (x : RunAnswer). x.verdict) r ∙ ap (λ (x : Program). verdict_of (run_of x notice)) d ∙ ap verdict_of e));
        verdict_run = ap (λ (x : RunAnswer). x.verdict) r;
        steps_run = ap (λ (x : RunAnswer). x.steps) r;
        ends = ap (λ (x : Program). (run_of x notice).next) d ∙ ap (λ (s : State). s.next) e ∙ sym (size tree 0) ∙ sym (ap (λ (x : Program). length x.entries) d);
        run_small = stack_small table notice p;
        runner_holds = as_many table notice visits m v.state;
        runner_small = v.inside;
      }

pub demand_three : DemandThree
demand_three edition text buffer notice visits tree c b a room w =
    let e = writes_table edition text tree (length buffer) a room in
    let t : take c.translated.length c.written ≡ encode (compile edition tree) = written_table _ buffer c.written c.translated room (rw e at c.translates) in
    let v : Visited (encode (compile edition tree)) notice visits c.machine = subst (λ (x : List ℕ). Visited x notice visits c.machine) t (c.runner (rw t (passes_check edition text tree b a)) w) in
    let m = met edition text notice tree b a w v in
    let n : c.translated.number ≡ 0 = rw (c.translates.answer, e) in
    (n, c.checks ∙ rw t m.passes, rw (c.runs, t) m)

pub accepted_text : AcceptedText
accepted_text edition text =
    (λ h. (length (encode (compile edition h.0)), (accepts_exactly edition text _).1 (h.0, h.1, omega arith)), λ h. let t = (accepts_exactly edition text h.0).0 h.1 in (t.0, t.1))

-- ---- a refusal changes no byte

no_table : (edition : ℕ) (text : List ℕ) (room : ℕ) → ((translation_of edition text room).number ≡ 0 → ⊥) → (translation_of edition text room).table ≡ []
no_table edition text room h = go (refused_empty edition text room)
  where
    go : ((translation_of edition text room).number ≡ 0) ⊎ ((translation_of edition text room).table ≡ []) → (translation_of edition text room).table ≡ []
    go (inl e) = absurd (h e)
    go (inr e) = e

unwritten : (buffer : List ℕ) (len : ℕ) (f : Field) → ((written_of buffer len f).number ≡ 0 → ⊥) → written_bytes buffer len f ≡ buffer
unwritten buffer len f h = rw (ne_eqb (refusal_in buffer len f) 0 h)

pub refusal_keeps : RefusalKeeps
refusal_keeps = (
  λ edition text buffer written r a h. a.bytes ∙ rw (no_table edition text (length buffer) (λ e. h (ap (λ (x : Translated). x.number) a.answer ∙ e))),
  unwritten,
)

-- ---- one function that translates, checks and runs

-- a table that fails the check, and one that passes it, with the answers of the run and of the runner
pub check_refused : (table notice : List ℕ) (visits : ℕ) (r : Matched) → tableCheck table ≡ false → r ≡ refusedWith (refusal_of false) 0 → RunsChecked table notice visits r
check_refused table notice visits r e q =
    record {
      answer = q ∙ sym (ap (λ (b : Bool). checked_of b table notice r.machine) e);
      runner = λ p. false_true (sym e ∙ p);
    }

pub check_passed : (table notice : List ℕ) (visits : ℕ) (a : RunAnswer) (m : Machine) → tableCheck table ≡ true → a ≡ running_of table notice → Visited table notice visits m
    → RunsChecked table notice visits (record { number = a.number; place = a.place; length = length table; verdict = a.verdict; steps = a.steps; undecided = a.undecided; machine = m })
check_passed table notice visits a m p q v =
    record {
      answer =
          ap (λ (x : RunAnswer). record { number = x.number; place = x.place; length = length table; verdict = x.verdict; steps = x.steps; undecided = x.undecided; machine = m }) q
          ∙ sym (ap (λ (b : Bool). checked_of b table notice m) p);
      runner = λ _. v;
    }

-- .. by what the run answers of a notice found well-formed: only the table can be refused
pub check_run : (table notice : List ℕ) (visits : ℕ) (a : Ran) (m : Machine) → answered (Ok a) ≡ running_of table notice → Visited table notice visits m
    → RunsChecked table notice visits (record { number = 0; place = 0; length = length table; verdict = a.verdict; steps = a.steps; undecided = a.undecided; machine = m })
check_run table notice visits a m q v =
    check_passed table notice visits (answered (Ok a)) m (ran_checked table notice (sym (ap (λ (x : RunAnswer). x.number) q))) q v

pub check_unrun : (table notice : List ℕ) (visits : ℕ) (f : Refusal) (r : Matched) → noticeCheck notice ≡ Ok tt → answered (Err f) ≡ running_of table notice
    → r ≡ refusedWith (refusal_number f) (refusal_place f) → RunsChecked table notice visits r
check_unrun table notice visits f r w q e = go (tableCheck table) refl
  where
    go : (b : Bool) → tableCheck table ≡ b → RunsChecked table notice visits r
    go true p = refuses f (ap (λ (x : RunAnswer). x.number) (q ∙ sym (neither_refused table notice p w)))
    go false p =
        let s = q ∙ sym (table_refused table notice p) in
        check_refused table notice visits r p (e ∙ ap (λ (x : RunAnswer). refusedWith x.number x.place) s)

-- what is translated is of one of the two editions
named : (number : ℕ) (text : List ℕ) (room : ℕ) → (translation_of number text room).number ≡ 0 → (edition : Edition) × (number ≡ edition_number edition)
named number text room z = go (ℕ_discrete number 1) (ℕ_discrete number 2)
  where
    go : Dec (number ≡ 1) → Dec (number ≡ 2) → (edition : Edition) × (number ≡ edition_number edition)
    go (yes e) d = (Edition.First, e)
    go (no a) (yes e) = (Edition.Second, e)
    go (no a) (no b) = let n : ◌≡◌ {A = ℕ} 25 0 = sym (ap (λ (o : Outcome). o.number) (other_edition number text room other)) ∙ z in absurd (omega arith)
      where
        other : (edition : Edition) → number ≡ edition_number edition → ⊥
        other Edition.First e = a e
        other Edition.Second e = b e

module _ (number : ℕ) (text buffer notice written : List ℕ) (visits : ℕ) (t : Translated) (a : Answers (translation_of number text (length buffer)) buffer written t) where
  pub fits : t.length ≤ length written
  fits =
      let n : t.length ≡ length (translation_of number text (length buffer)).table = ap (λ (x : Translated). x.length) a.answer in
      let m : length written ≡ length buffer = ap length a.bytes ∙ length-sets buffer 0 (translation_of number text (length buffer)).table in
      let f = fits_room number text (length buffer) in
      omega arith

  table_is : take t.length written ≡ (translation_of number text (length buffer)).table
  table_is = written_table _ buffer written t (fits_room number text (length buffer)) a

  number_is : t.number ≡ (translation_of number text (length buffer)).number
  number_is = ap (λ (x : Translated). x.number) a.answer

  -- a table that is written passes the check, by `PassesCheck`
  passes : Bytes text → (translation_of number text (length buffer)).number ≡ 0 → tableCheck (translation_of number text (length buffer)).table ≡ true
  passes b z =
      let e = named number text (length buffer) z in
      let k = (accepts_exactly e.0 text (length buffer)).0 (rw e.1 at z) in
      rw (e.1, writes_table e.0 text k.0 (length buffer) k.1 k.2) (passes_check e.0 text k.0 b k.1)

  pub refused_run : (r : Matched) → (t.number ≡ 0 → ⊥) → r ≡ refusedWith t.number t.place → RunsTable (translation_of number text (length buffer)) buffer notice written visits r
  refused_run r n q =
      let m : (translation_of number text (length buffer)).number ≡ 0 → ⊥ = λ e. n (number_is ∙ e) in
      record { answer = q ∙ rw (a.answer, ne_eqb _ 0 m); bytes = a.bytes; runner = λ z. absurd (m z) }

  pub table_run : (r : Matched) (long : ℕ) → long ≡ t.length → t.number ≡ 0 → Bytes text → RunsChecked (take long written) notice visits r
      → RunsTable (translation_of number text (length buffer)) buffer notice written visits r
  table_run r long l n b q =
      let o = translation_of number text (length buffer) in
      let z : o.number ≡ 0 = sym number_is ∙ n in
      let p = passes b z in
      let k : RunsChecked o.table notice visits r = subst (λ (x : List ℕ). RunsChecked x notice visits r) (ap (λ (i : ℕ). take i written) l ∙ table_is) q in
      record {
        answer =
            k.answer
            ∙ ap (λ (c : Bool). checked_of c o.table notice r.machine) p
            ∙ sym (ap (λ (i : ℕ). pick (eqb i 0) (λ _. ran_of o.table notice r.machine) (λ _. refusedWith o.number o.place)) z);
        bytes = a.bytes;
        runner = λ _. k.runner p;
      }

module _ (number : ℕ) (text buffer notice written : List ℕ) (visits : ℕ) (r : Matched) where
  -- a faulty notice: the buffer stays
  pub fault_matches : (layout : Layout) (f : Refusal) → layout ≡ noticeCheck notice → layout ≡ Err f → written ≡ buffer → r ≡ refusedWith (refusal_number f) (refusal_place f) → Matches number text buffer notice written visits r
  fault_matches layout f e w b q =
      let g : noticeCheck notice ≡ Err f = sym e ∙ w in
      record {
        determined = record {
          answer = q ∙ sym (ap (λ (l : Layout). match_by (outcome_by l (translation_of number text (length buffer))) notice r.machine) g ∙ chosen (eqb (refusal_number f) 0) (not_zero f));
          bytes = rw g b;
          runner = λ z. let n : (outcome_of number text (length buffer) notice).number ≡ refusal_number f = rw g in refuses f (sym n ∙ z);
        };
        demand = λ edition tree is acc room w. no_way (sym w ∙ g);
      }
    where
      chosen : (t : Bool) → t ≡ false → pick t (λ _. ran_of [] notice r.machine) (λ _. refusedWith (refusal_number f) (refusal_place f)) ≡ refusedWith (refusal_number f) (refusal_place f)
      chosen t e = rw e refl

      isFault : Layout → Bool
      isFault (Ok u) = false
      isFault (Err r) = true

      no_way : {A : Type 0} → ◌≡◌ {A = Layout} (Ok tt) (Err f) → A
      no_way h = let z : ◌≡◌ {A = Bool} false true = ap isFault h in false_true z

  pub run_matches : (layout : Layout) → layout ≡ noticeCheck notice → layout ≡ Ok tt → Bytes text → RunsTable (translation_of number text (length buffer)) buffer notice written visits r → Matches number text buffer notice written visits r
  run_matches layout e f b a =
      let g : noticeCheck notice ≡ Ok tt = sym e ∙ f in
      record {
        determined = rw g a;
        demand = λ edition tree is acc room w.
            let a : RunsTable (translation_of (edition_number edition) text (length buffer)) buffer notice written visits r = rw is at a in
            let e = writes_table edition text tree (length buffer) acc room in
            let table = encode (compile edition tree) in
            let s : r ≡ ran_of table notice r.machine = rw e at a.answer in
            let k : take (length table) written ≡ table = rw (a.bytes, e) (stored buffer table room) in
            let v : Visited table notice visits r.machine = (rw e at a.runner) refl in
            let n = running_of table notice in
            subst (λ (x : Matched). Met edition text notice (take x.length written) x.number x.verdict x.steps visits x.machine) (sym s)
            (subst (λ (x : List ℕ). Met edition text notice x n.number n.verdict n.steps visits r.machine) (sym k) (met edition text notice tree b acc w v));
      }
