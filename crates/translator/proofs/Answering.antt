-- From the lexer's answer over the marks, the operands and the parser's answer to that of translation. Assumes nothing.
use Prim.Native.Nat.{ℕ, zero, suc, ◌+◌, ◌-◌, ◌*◌, ◌≤◌, ◌<◌}
use native.Mathlib.Decide.{dec_lt}
use native.Mathlib.Omega.{arith}
use mathlib.Core.Path.{◌≡◌, refl, sym, ap, ap₂, ◌∙◌, subst}
use mathlib.Core.Bool.{Bool, true, false, cond, not, ◌&&◌, ◌||◌, not-not}
use mathlib.Core.List.{List, [], ◌∷◌, ◌++◌, map}
use lib.Dec.{eqb, ltb}
use lib.ListN.{length, get_or, take, drop, length-map, length-append, get_or-append}
use lib.Seq.{sets, sets-eq, take-append_seam, length-sets}
use borrow.Author.Tests.{ltb-false, lt-ltb, le-ltb, ne_eqb}
use Rattle.common.specs.Choice.{pick}
use Rattle.word.specs.Word.{Bytes}
use Rattle.opcode.specs.declared.Edition.{Edition}
use Rattle.lexer.specs.Token.{Token, Placed, kind_of, Lexed, tokens, refused, tokens_of, kinds_of, starts_of}
use Rattle.refusal.specs.Refusal.{number_of, place_of}
use Rattle.refusal.specs.declared.Refusal.{Refusal}
use Rattle.refusal.proofs.Numbers.{refuses}
use Rattle.refusal.specs.declared.Refusal.TheVariants as why
use Rattle.refusal.specs.declared.Refusal.TheVariants.{Call, Kind, Nesting, Entries, Stack, Pattern, Grammar}
use Rattle.std.specs.Prelude.{Ok, Err, Result as Reply}
use Rattle.lexer.specs.Answer.{lexing_of, Lexing}
use Rattle.lexer.specs.Answer as lexing
use Rattle.grammar.specs.Tree.{Tree}
use Rattle.grammar.specs.Grammar.{Level}
use Rattle.grammar.specs.Parse.{Result, ok, bad, token_at, kind_at, parse_all}
use Rattle.grammar.specs.Size.{entries_of, pool_bytes, pool_of, depth_of}
use Rattle.grammar.specs.Judge.{forms_right, patterns_right, kinds_right, is_logic}
use Rattle.grammar.specs.Nesting.{too_deep}
use Rattle.grammar.specs.Answer.{found_of, found_number}
use Rattle.grammar.specs.Stream.{token_of, tokens_in}
use Rattle.grammar.specs.Marks.{mark_at, marks_from, marks_of, is_operand, operands_from, operands_in}
use Rattle.grammar.specs.Code.{codes_of, leaves_of}
use Rattle.grammar.proofs.Theorems.{parses}
use Rattle.grammar.proofs.Streams.{length_tokens}
use Rattle.operands.specs.Gather.{operand_places, operand_sizes}
use Rattle.operands.specs.Patterns.{patterns_by}
use Rattle.operands.proofs.Theorems.{parsed_leaves, operands_stand, parsed_patterns, deep_alike}
use Rattle.postfix.specs.Marked.{Marked}
use Rattle.postfix.proofs.Codes.{length_codes}
use Rattle.postfix.specs.Packed.{counted_to}
use Rattle.postfix.specs.Answer.{judged_of, answer_of as parsedOf, Leaves, Ready}
use Rattle.postfix.specs.declared.Judged.{Judged}
use Rattle.translator.specs.Expand.{expand, pooled, Sized, sum_from}
use Rattle.translator.specs.Emit.{Roomy, kinds_in, starts_in, Tokened, read_of, Reads, PlaceOf, Known, first_by, Coded}
use Rattle.translator.specs.Translation.{refusal, answer_of, refusal_of, of_tree, of_result, of_tokens, of_lexed, translation_in, is_edition, edition_by, edition_named, translation_of, Translated, answered, Answers}
use Rattle.translator.specs.Theorems.{Right}
use Rattle.translator.specs.declared.read.Reading.{Reading}
use Rattle.translator.proofs.Derived.{AllRight, level_sound}
use Rattle.translator.proofs.Sound.{Sound}
use Rattle.translator.proofs.Bounded.{total_of, bounded}
use Rattle.translator.proofs.Expanding.{Stand, leaf_count, leaf_total, entries_are, pool_is, sizes_are}
use Rattle.translator.proofs.Lexed.{LexedText, lexed_text}
use Rattle.translator.proofs.Filling.{whole_level, refusal_by_lem, tree_refused, answers_as}

-- ---- fronts of arrays

front_is : (d xs : List ℕ) (n : ℕ) → length xs ≡ n → n ≤ length d → take n (sets d 0 xs) ≡ xs
front_is d xs n e h = ap (take n) (sets-eq xs d 0 (omega arith)) ∙ rw (← e) (take-append_seam xs (drop (0 + length xs) d))

front_at : (d xs : List ℕ) (i : ℕ) → length xs ≤ length d → i < length xs → get_or (sets d 0 xs) i 0 ≡ get_or xs i 0
front_at d xs i h l = ap (λ (ys : List ℕ). get_or ys i 0) (sets-eq xs d 0 (omega arith)) ∙ get_or-append xs (drop (0 + length xs) d) 0 i l

-- ---- the lexer's answer

tokens_told : (l : Lexed) {n : ℕ} → lexing_of l ≡ lexing.Tokens n → (ps : List Placed) × (l ≡ tokens ps) × (length ps ≡ n)
tokens_told (tokens ps) e = let a = e in (ps, refl, cc)
tokens_told (refused k at ps) e = let z : ◌≡◌ {A = ℕ} 0 1 = cc in absurd (omega arith)

refused_told : (l : Lexed) {k at : ℕ} → lexing_of l ≡ lexing.Refused k at → (ps : List Placed) × (l ≡ refused k at ps)
refused_told (tokens ps) e = let z : ◌≡◌ {A = ℕ} 0 1 = cc in absurd (omega arith)
refused_told (refused j p ps) {k} {at} e =
    let a : j ≡ k = cc in
    let b : p ≡ at = cc in
    (ps, rw (a, b))

-- the tokens of a text, and what the front of the arrays holds
pub record Lexes (s : List ℕ) (n : ℕ) : Type 0 where
  pub placed : List Placed
  pub are : tokens_of s ≡ tokens placed
  pub count : length placed ≡ n
  pub text : LexedText s placed

pub lexes : (s : List ℕ) {q : Lexing} {n : ℕ} → Bytes s → q ≡ lexing_of (tokens_of s) → q ≡ lexing.Tokens n → Lexes s n
lexes s h a b =
    let w = tokens_told (tokens_of s) (sym a ∙ b) in
    record { placed = w.0; are = w.1; count = w.2; text = lexed_text s w.0 h w.1 }

module _ {s : List ℕ} {n : ℕ} (t : Lexes s n) where
  pub few : (d : List ℕ) → (length s ≤ 4096 → length s ≤ length d) → n ≤ length d
  few d room = omega (arith, t.count, t.text.count, room t.text.short)

  pub kinds_front : (d k : List ℕ) → (length s ≤ 4096 → length s ≤ length d) → k ≡ sets d 0 (kinds_of (tokens_of s)) → take n k ≡ kinds_in t.placed
  kinds_front d k room e =
      ap (take n) (e ∙ rw t.are) ∙ front_is d (kinds_in t.placed) n (length-map t.placed (λ p. kind_of p.token) ∙ t.count) (few d room)

  pub starts_front : (d k : List ℕ) → (length s ≤ 4096 → length s ≤ length d) → k ≡ sets d 0 (starts_of (tokens_of s)) → take n k ≡ starts_in t.placed
  starts_front d k room e =
      ap (take n) (e ∙ rw t.are) ∙ front_is d (starts_in t.placed) n (length-map t.placed (λ p. p.start) ∙ t.count) (few d room)

  -- what stands past the last token
  pub start_at : (d k : List ℕ) (p : ℕ) → (length s ≤ 4096 → length s ≤ length d) → k ≡ sets d 0 (starts_of (tokens_of s)) → p < n → (ps : List Placed) → tokens_of s ≡ tokens ps → get_or k p 0 ≡ get_or (starts_in ps) p (length s)
  start_at d k p room e h ps q =
      let same : t.placed ≡ ps = let a = t.are in cc in
      let l : length (starts_in t.placed) ≡ n = length-map t.placed (λ p. p.start) ∙ t.count in
      let f = few d room in
      let k-is : k ≡ sets d 0 (starts_in t.placed) = e ∙ rw t.are in
      ap (λ (ys : List ℕ). get_or ys p 0) k-is ∙ front_at d (starts_in t.placed) p (omega arith) (omega arith) ∙ at-any (starts_in t.placed) p (omega arith)
      ∙ ap (λ (qs : List Placed). get_or (starts_in qs) p (length s)) same
    where
      at-any : (xs : List ℕ) (i : ℕ) → i < length xs → get_or xs i 0 ≡ get_or xs i (length s)
      at-any [] i l = absurd (omega arith)
      at-any (x ∷ xs) zero l = refl
      at-any (x ∷ xs) (suc i) l = at-any xs i (omega arith)

  pub start_past : (p : ℕ) → n ≤ p → (ps : List Placed) → tokens_of s ≡ tokens ps → length s ≡ get_or (starts_in ps) p (length s)
  start_past p h ps q =
      let same : t.placed ≡ ps = let a = t.are in cc in
      let l : length (starts_in t.placed) ≡ n = length-map t.placed (λ p. p.start) ∙ t.count in
      sym (past (starts_in t.placed) p (omega arith)) ∙ ap (λ (qs : List Placed). get_or (starts_in qs) p (length s)) same
    where
      past : (xs : List ℕ) (i : ℕ) → length xs ≤ i → get_or xs i (length s) ≡ length s
      past [] i l = refl
      past (x ∷ xs) zero l = absurd (omega arith)
      past (x ∷ xs) (suc i) l = past xs i (omega arith)

pub no_place : (s : List ℕ) (p : ℕ) {q : Lexing} {k at : ℕ} → q ≡ lexing_of (tokens_of s) → q ≡ lexing.Refused k at → PlaceOf s p 0
no_place s p a b ps e =
    let w = refused_told (tokens_of s) (sym a ∙ b) in
    let f = w.1 in
    let z : ◌≡◌ {A = ℕ} 0 1 = cc in
    absurd (omega arith)

-- ---- reading

pub reads_refused : (s marks places sizes : List ℕ) (r : Refusal) {q : Lexing} → q ≡ lexing_of (tokens_of s) → q ≡ lexing.Refused (number_of r) (place_of r) → Reads s marks places sizes (Err r)
unfolding translation_in of_lexed
reads_refused s marks places sizes r a b e room = rw (refused_told (tokens_of s) (sym a ∙ b)).1

module _ {s : List ℕ} {n : ℕ} (t : Lexes s n) {kinds starts : List ℕ} (ek : kinds ≡ kinds_in t.placed) (es : starts ≡ starts_in t.placed) where
  abbrev those : List ℕ
  those = marks_of (tokens_in s kinds starts)

  -- the marks are a front of their array
  pub reads_tokens : (front rest : List ℕ) {places sizes : List ℕ} (was-places was-sizes : List ℕ) {r : Reply Reading Refusal} → front ≡ those
      → places ≡ sets was-places 0 (operand_places front starts) → sizes ≡ sets was-sizes 0 (operand_sizes s front starts) → r ≡ read_of s kinds starts → Reads s (front ++ rest) places sizes r
  unfolding read_of translation_in of_lexed of_tokens
  reads_tokens front rest {places} {sizes} wp wz {r} em ep ez er = rw er (go (too_deep those) refl)
    where
      same : too_deep those ≡ too_deep (kinds_in t.placed)
      same = deep_alike s kinds starts ∙ ap too_deep ek

      taken : take (length those) (front ++ rest) ≡ those
      taken = ap (λ (xs : List ℕ). take (length those) (xs ++ rest)) em ∙ take-append_seam those rest

      go : (b : Bool) → too_deep those ≡ b → Reads s (front ++ rest) places sizes (pick b (λ _. Err Nesting) (λ _. Ok (record { tokens = length those; operands = length (operand_places those starts); patterns = patterns_by s those starts })))
      go true e = λ edition room. rw (t.are, sym same ∙ e)
      go false e = (
        omega (arith, ap length em, length-append front rest),
        record {
          placed = t.placed;
          lexed = t.are;
          shallow = sym same ∙ e;
          marks_are = taken ∙ ap₂ (λ (x y : List ℕ). marks_of (tokens_in s x y)) ek es;
          places_are = (wp, ep ∙ ap₂ (λ (x y : List ℕ). sets wp 0 (operand_places x y)) (em ∙ sym taken) es);
          sizes_are = (wz, ez ∙ ap₂ (λ (x y : List ℕ). sets wz 0 (operand_sizes s x y)) (em ∙ sym taken) es);
          count_is = ap₂ (λ (x y : List ℕ). length (operand_places x y)) (sym taken) es;
          patterns_are = ap₂ (λ (x y : List ℕ). patterns_by s x y) (sym taken) es;
        },
      )

module _ (s kinds starts : List ℕ) {k : List ℕ} (e : k ≡ marks_of (tokens_in s kinds starts)) where
  pub read_deep : too_deep k ≡ true → Err Nesting ≡ read_of s kinds starts
  unfolding read_of
  read_deep d = rw (sym (ap too_deep e) ∙ d)

  pub read_marks : {count : ℕ} {right : Bool} → too_deep k ≡ false → count ≡ length (operand_places k starts) → right ≡ patterns_by s k starts → Ok (record { tokens = length k; operands = count; patterns = right }) ≡ read_of s kinds starts
  unfolding read_of
  read_marks {count} {right} d ec er = rw (ec, er, e, sym (ap too_deep e) ∙ d)

pub front_as : (n : ℕ) (xs : List ℕ) → take (n - 0) (drop 0 xs) ≡ take n xs
front_as n xs = let e : n - 0 ≡ n = omega arith in ap (λ (m : ℕ). take m xs) e

pub answers_read : (s : List ℕ) (r : Refusal) (e : Edition) (room : ℕ) {was : List ℕ} → ((e : Edition) (room : ℕ) → translation_in e s room ≡ refusal (number_of r) (place_of r)) → Answers (translation_in e s room) was was (answered (Err r))
answers_read s r e room f = answers_as (f e room) (record { answer = refl; bytes = refl })

-- ---- the parser's answer

module _ {s marks places sizes : List ℕ} {count : ℕ} {patterns : Bool} (bytes : Bytes s) (g : Tokened s marks places sizes count patterns) where
  abbrev pub ks : List Token
  ks = tokens_in s (kinds_in g.placed) (starts_in g.placed)

  lexed : LexedText s g.placed
  lexed = lexed_text s g.placed bytes g.lexed

  many : length ks ≤ length s
  many = omega (arith, length_tokens s (kinds_in g.placed) (starts_in g.placed), length-map g.placed (λ p. kind_of p.token), lexed.count)

  length_marks : (xs : List Token) (i n : ℕ) → length (marks_from xs i n) ≡ n
  unfolding marks_from
  length_marks xs i zero = refl
  length_marks xs i (suc n) = ap suc (length_marks xs (i + 1) n)

  pub marked : Marked marks ks
  marked = record { are = g.marks_are; low = λ i. subst (λ (xs : List Token). kind_at xs i < 128) (sym lexed.stand) (lexed.low i) }

  pub ready : Ready marks 0 0
  ready =
      record {
        tokens = ks;
        marked = marked;
        few = omega (arith, ap length g.marks_are, length_marks ks 0 (length ks), many, lexed.short);
        within = omega arith;
        room = omega arith;
      }

  -- translation is what the parser's result says
  outcome : (e : Edition) (room : ℕ) {x : Result} → parse_all ks ≡ x → translation_in e s room ≡ of_result e (length s) (starts_in g.placed) room x
  unfolding translation_in of_lexed of_tokens
  outcome e room {x} q = rw (g.lexed, g.shallow, ← lexed.stand, q)

  broken_told : (x : Result) {p : ℕ} → parsedOf x ≡ Err p → x ≡ bad p
  broken_told (ok t m) e = let z : ◌≡◌ {A = ℕ} 0 1 = cc in absurd (omega arith)
  broken_told (bad q) {p} e = let a : q ≡ p = cc in ap bad a

  pub answers_broken : {q : Reply Judged ℕ} {p n : ℕ} (e : Edition) (room : ℕ) {was : List ℕ} → q ≡ parsedOf (parse_all ks) → q ≡ Err p → PlaceOf s p n → Answers (translation_in e s room) was was (answered (Err (Grammar n)))
  unfolding of_result
  answers_broken e room a b pl =
      rw (outcome e room (broken_told (parse_all ks) (sym a ∙ b))) (record { answer = ap (λ (m : ℕ). answer_of (refusal 2 m)) (pl g.placed g.lexed); bytes = refl })

  whole_told : (x : Result) {j : Judged} → parsedOf x ≡ Ok j → (t : Tree) × (m : ℕ) × (x ≡ ok t m) × (j ≡ judged_of t)
  whole_told (ok t m) {j} e = let a : j ≡ judged_of t = cc in (t, m, refl, a)
  whole_told (bad p) e = let z : ◌≡◌ {A = ℕ} 0 1 = cc in absurd (omega arith)

  pub known : (codes was : List ℕ) {q : Reply Judged ℕ} {j : Judged} → q ≡ parsedOf (parse_all ks) → q ≡ Ok j → Leaves (parse_all ks) 0 was codes → Known s places sizes codes count patterns j
  known codes was {q} {j} a b l =
      let w = whole_told (parse_all ks) (sym a ∙ b) in
      let e = w.2 in
      record {
        marks = marks;
        tokened = g;
        tree = w.0;
        is_ok = e ∙ ap (ok w.0) (whole_level ks e).1;
        has = w.3;
        codes_are = (was, subst (λ (x : Result). Leaves x 0 was codes) e l);
      }

-- ---- an expression

-- kinds, places and sizes of operands, one by one
stand_from : (s places sizes : List ℕ) (l : ℕ) (xs : List Token) (ps : List ℕ) → tokens_in s (map kind_of xs) ps ≡ xs → length xs ≤ length ps
    → ((i : ℕ) → i < length xs → get_or places (l + i) 0 ≡ get_or ps i 0) → ((i : ℕ) → i < length xs → get_or sizes (l + i) 0 ≡ get_or (map pool_bytes xs) i 0) → Stand s places sizes l xs
unfolding tokens_in
stand_from s places sizes l [] ps e h f g = tt
stand_from s places sizes l (x ∷ xs) [] e h f g = absurd (omega arith)
stand_from s places sizes l (x ∷ xs) (p ∷ ps) e h f g =
    let z : l + 0 ≡ l = omega arith in
    let a : token_of s (kind_of x) p ≡ x = cc in
    let b : tokens_in s (map kind_of xs) ps ≡ xs = cc in (
      ap (token_of s (kind_of x)) (rw z at (f 0 (omega arith))) ∙ a,
      rw z at (g 0 (omega arith)),
      stand_from s places sizes (l + 1) xs ps b (omega arith) (λ i k. let n : l + 1 + i ≡ l + suc i = omega arith in rw n (f (suc i) (omega arith)))
          (λ i k. let n : l + 1 + i ≡ l + suc i = omega arith in rw n (g (suc i) (omega arith))),
    )

-- the sizes of operands, added up
sum_from_lem : (xs : List Token) (zs : List ℕ) (i : ℕ) → ((n : ℕ) → n < length xs → get_or zs (i + n) 0 ≡ get_or (map pool_bytes xs) n 0) → sum_from zs i (length xs) ≡ total_of xs
unfolding sum_from
sum_from_lem [] zs i f = refl
sum_from_lem (x ∷ xs) zs i f =
    let z : i + 0 ≡ i = omega arith in
    ap₂ (λ (a b : ℕ). a + b) (rw z at (f 0 (omega arith))) (sum_from_lem xs zs (i + 1) (λ n h. let e : i + 1 + n ≡ i + suc n = omega arith in rw e (f (suc n) (omega arith))))

operands_few : (xs : List Token) (i n : ℕ) → length (operands_from xs i n) ≤ n
unfolding operands_from
operands_few xs i zero = omega arith
operands_few xs i (suc n) = go (is_operand (mark_at xs i)) (operands_few xs (i + 1) n)
  where
    go : (b : Bool) → length (operands_from xs (i + 1) n) ≤ n → length (cond b (token_at xs i ∷ operands_from xs (i + 1) n) (operands_from xs (i + 1) n)) ≤ suc n
    go true h = omega arith
    go false h = omega arith

-- the refusals up to 8, by number
abbrev first_number : Reply (Unit {0}) Refusal → ℕ
first_number (Ok u) = 0
first_number (Err r) = number_of r

-- a refusal is one of them, with no place
pub record First (q : Reply (Unit {0}) Refusal) (r : Refusal) : Type 0 where
  pub number : first_number q ≡ number_of r
  pub some : number_of r ≡ 0 → ⊥
  pub none : place_of r ≡ 0

first_one : (j : Judged) (p : Bool) {r : Refusal} → first_by j p ≡ Err r → First (first_by j p) r
first_one j p {r} = go (not j.forms) (not p) (not (j.kinds && j.logic)) (ltb 512 j.entries) (ltb 32 j.depth)
  where
    is : (a : Refusal) → place_of a ≡ 0 → ◌≡◌ {A = Reply (Unit {0}) Refusal} (Err a) (Err r) → First (Err a) r
    is a n e = let q : a ≡ r = cc in record { number = ap number_of q; some = λ z. refuses r z; none = sym (ap place_of q) ∙ n }

    go : (a b c d e : Bool) → ◌≡◌ {A = Reply (Unit {0}) Refusal} (cond a (Err Call) (cond b (Err Pattern) (cond c (Err Kind) (cond d (Err Entries) (cond e (Err Stack) (Ok tt)))))) (Err r)
        → First (cond a (Err Call) (cond b (Err Pattern) (cond c (Err Kind) (cond d (Err Entries) (cond e (Err Stack) (Ok tt)))))) r
    go true b c d e = is Call refl
    go false true c d e = is Pattern refl
    go false false true d e = is Kind refl
    go false false false true e = is Entries refl
    go false false false false true = is Stack refl
    go false false false false false = λ q. cc

first_number_is : (a p b c d g : Bool) → first_number (cond (not a) (Err Call) (cond (not p) (Err Pattern) (cond (not (b && c)) (Err Kind) (cond d (Err Entries) (cond g (Err Stack) (Ok tt))))))
    ≡ cond (not a) 4 (cond (not p) 18 (cond (not (b && c)) 5 (cond d 7 (cond g 8 0))))
first_number_is false p b c d g = refl
first_number_is true false b c d g = refl
first_number_is true true false c d g = refl
first_number_is true true true false d g = refl
first_number_is true true true true true g = refl
first_number_is true true true true false true = refl
first_number_is true true true true false false = refl

-- 63 are counted, and asked is whether they are over 32
over_32 : (n : ℕ) → ltb 32 (counted_to n) ≡ ltb 32 n
over_32 n = go (dec_lt 32 n)
  where
    go : Dec (32 < n) → ltb 32 (counted_to n) ≡ ltb 32 n
    go (yes h) = lt-ltb 32 (counted_to n) (omega arith) ∙ sym (lt-ltb 32 n h)
    go (no h) = le-ltb 32 (counted_to n) (omega arith) ∙ sym (le-ltb 32 n (omega arith))

first_none : (t : Tree) (a p b c d g : Bool) → forms_right t ≡ a → patterns_right t ≡ p → kinds_right t ≡ b → is_logic t ≡ c → ltb 512 (entries_of t) ≡ d → ltb 32 (depth_of t) ≡ g
    → ◌≡◌ {A = ℕ} (cond (not a) 4 (cond (not p) 18 (cond (not (b && c)) 5 (cond d 7 (cond g 8 0))))) 0 → Right t × (entries_of t ≤ 512) × (depth_of t ≤ 32)
first_none t false p b c d g ea ep eb ec ed eg z = absurd (omega arith)
first_none t true false b c d g ea ep eb ec ed eg z = absurd (omega arith)
first_none t true true false c d g ea ep eb ec ed eg z = absurd (omega arith)
first_none t true true true false d g ea ep eb ec ed eg z = absurd (omega arith)
first_none t true true true true true g ea ep eb ec ed eg z = absurd (omega arith)
first_none t true true true true false true ea ep eb ec ed eg z = absurd (omega arith)
first_none t true true true true false false ea ep eb ec ed eg z = (record { forms = ea; patterns = ep; kinds = eb; logic = ec }, ltb-false 512 (entries_of t) ed, ltb-false 32 (depth_of t) eg)

module _ {s places sizes codes : List ℕ} {count : ℕ} {patterns : Bool} {j : Judged} (bytes : Bytes s) (k : Known s places sizes codes count patterns j) where
  abbrev t : Tree
  t = k.tree

  abbrev all : List Token
  all = tokens_in s (kinds_in k.tokened.placed) (starts_in k.tokened.placed)

  abbrev own : List ℕ
  own = operand_places (marks_of all) (starts_in k.tokened.placed)

  patterns_told : patterns_right t ≡ patterns
  patterns_told =
      let g = k.tokened in
      parsed_patterns s (kinds_in g.placed) (starts_in g.placed) t k.is_ok ∙ ap (λ (ms : List ℕ). patterns_by s ms (starts_in g.placed)) (sym g.marks_are) ∙ sym g.patterns_are

  first_is : first_number (first_by j patterns) ≡ found_number (found_of t)
  first_is =
      ap₂ (λ (x : Judged) (p : Bool). first_number (first_by x p)) k.has (sym patterns_told)
      ∙ first_number_is (forms_right t) (patterns_right t) (kinds_right t) (is_logic t) (ltb 512 (entries_of t)) (ltb 32 (counted_to (depth_of t)))
      ∙ rw (over_32 (depth_of t))

  tree_outcome : (e : Edition) (room : ℕ) → translation_in e s room ≡ of_tree e t room
  unfolding of_result
  tree_outcome e room = outcome bytes k.tokened e room k.is_ok

  pub first_refused : (e : Edition) (room : ℕ) {q : Reply (Unit {0}) Refusal} {r : Refusal} {was : List ℕ} → q ≡ first_by j patterns → q ≡ Err r → Answers (translation_in e s room) was was (answered (Err r))
  first_refused e room {q} {r} eq er =
      let n = number_of r in
      let h = first_one j patterns (sym eq ∙ er) in
      let f : found_number (found_of t) ≡ n = sym first_is ∙ h.number in
      let num : refusal_of e t room ≡ n = refusal_by_lem e t room ∙ rw (f, ne_eqb n 0 h.some) in
      answers_as (tree_outcome e room) (tree_refused e t room num h.some (rw h.none))

  module _ (passed : first_by j patterns ≡ Ok tt) where
    none : first_number (first_by j patterns) ≡ 0
    none = ap first_number passed

    right_few : Right t × (entries_of t ≤ 512) × (depth_of t ≤ 32)
    right_few = first_none t (forms_right t) (patterns_right t) (kinds_right t) (is_logic t) (ltb 512 (entries_of t)) (ltb 32 (depth_of t)) refl refl refl refl refl refl (sym first_is ∙ none)

    derived : Level 0 all t
    derived = (parses all t).0 k.is_ok

    tokens_right : AllRight all
    tokens_right = subst AllRight (sym (lexed bytes k.tokened).stand) (lexed bytes k.tokened).right

    sound : Sound t
    sound = level_sound derived tokens_right right_few.0.forms right_few.0.kinds

    small : pool_of t ≤ 4096
    small = omega (arith, (bounded derived).pool, ap total_of (lexed bytes k.tokened).stand, (lexed bytes k.tokened).total)

    leaves_own : length (leaves_of t) ≡ length own
    leaves_own =
        let g = k.tokened in
        ap length (parsed_leaves all t k.is_ok) ∙ sym (operands_stand s (kinds_in g.placed) (starts_in g.placed)).as_many

    count_own : count ≡ length own
    count_own = let g = k.tokened in g.count_is ∙ ap (λ (ms : List ℕ). length (operand_places ms (starts_in g.placed))) g.marks_are

    -- no more operands than an array has room for
    within : (array : List ℕ) → Roomy (length s) array → length own ≤ length array
    within array room =
        room (length own) (omega (arith, leaves_own, leaf_count t, right_few.1))
        (omega (arith, leaves_own, ap length (parsed_leaves all t k.is_ok), operands_few all 0 (length all), many bytes k.tokened))

    pub count_few : count ≤ 4096
    count_few = omega (arith, count_own, leaves_own, leaf_count t, right_few.1)

    pub entries_few : Roomy (2 * length s) codes → j.entries ≤ length codes
    entries_few room =
        let e = ap (λ (x : Judged). x.entries) k.has in
        let m = room (entries_of t) right_few.1 (omega (arith, (bounded derived).entries, many bytes k.tokened)) in
        omega arith

    codes_front : Roomy (2 * length s) codes → take j.entries codes ≡ codes_of t
    codes_front room =
        let e = ap (λ (x : Judged). x.entries) k.has in
        let f = k.codes_are.1 in
        let n = length_codes t in
        let m = ap length f ∙ length-sets k.codes_are.0 0 (codes_of t) in
        ap (take j.entries) f ∙ front_is k.codes_are.0 (codes_of t) j.entries (omega arith) (omega (arith, entries_few room))

    sizes_stand : Roomy (length s) sizes → (i : ℕ) → i < length (operands_in all) → get_or sizes (0 + i) 0 ≡ get_or (map pool_bytes (operands_in all)) i 0
    sizes_stand room i h =
        let g = k.tokened in
        let st = operands_stand s (kinds_in g.placed) (starts_in g.placed) in
        let was = g.sizes_are.0 in
        let zs = map pool_bytes (operands_in all) in
        let f : sizes ≡ sets was 0 zs = g.sizes_are.1 ∙ ap (λ (ms : List ℕ). sets was 0 (operand_sizes s ms (starts_in g.placed))) g.marks_are ∙ ap (sets was 0) st.sizes_are in
        let n = ap length f ∙ length-sets was 0 zs in
        let lz : length zs ≡ length (operands_in all) = length-map (operands_in all) pool_bytes in
        let z : 0 + i ≡ i = omega arith in
        ap (λ (m : ℕ). get_or sizes m 0) z ∙ ap (λ (l : List ℕ). get_or l i 0) f ∙ front_at was zs i (omega (arith, within sizes room, st.as_many)) (omega arith)

    operands_told : Roomy (length s) places → Roomy (length s) sizes → Stand s places sizes 0 (leaves_of t)
    operands_told room sized =
        let g = k.tokened in
        let st = operands_stand s (kinds_in g.placed) (starts_in g.placed) in
        let was = g.places_are.0 in
        let f : places ≡ sets was 0 own = g.places_are.1 ∙ ap (λ (ms : List ℕ). sets was 0 (operand_places ms (starts_in g.placed))) g.marks_are in
        let n = ap length f ∙ length-sets was 0 own in
        subst (Stand s places sizes 0) (sym (parsed_leaves all t k.is_ok))
        (stand_from s places sizes 0 (operands_in all) own st.places_are (omega (arith, st.as_many))
        (λ i h. let z : 0 + i ≡ i = omega arith in ap (λ (m : ℕ). get_or places m 0) z ∙ ap (λ (l : List ℕ). get_or l i 0) f ∙ front_at was own i (omega (arith, within places room)) (omega (arith, st.as_many))) (sizes_stand sized))

    sum_is : Roomy (length s) sizes → sum_from sizes 0 count ≡ pool_of t
    sum_is room =
        let g = k.tokened in
        let st = operands_stand s (kinds_in g.placed) (starts_in g.placed) in
        let c : count ≡ length (operands_in all) = count_own ∙ st.as_many in
        ap (sum_from sizes 0) c
        ∙ sum_from_lem (operands_in all) sizes 0 (sizes_stand room)
        ∙ ap total_of (sym (parsed_leaves all t k.is_ok))
        ∙ leaf_total t

    pub coded : {pool : ℕ} {front : List ℕ} → Roomy (length s) places → Roomy (length s) sizes → Roomy (2 * length s) codes → pool ≡ sum_from sizes 0 count → front ≡ take j.entries codes → Coded s places sizes front pool
    coded {pool} {front} rp rz rc ep ef =
        let few = right_few.1 in
        let stand = operands_told rp rz in
        let f : front ≡ codes_of t = ef ∙ codes_front rc in
        record {
          tree = t;
          outcome = tree_outcome;
          right = right_few.0;
          few = few;
          low = right_few.2;
          small = small;
          count = ap length f ∙ length_codes t;
          pool_is = ep ∙ sum_is rz;
          entries = ap (λ (cs : List ℕ). expand s places cs 0 0) f ∙ entries_are s places sizes t sound few stand;
          bytes = ap (λ (cs : List ℕ). pooled s places cs 0) f ∙ pool_is s places sizes t sound few stand;
          sized = subst (λ (cs : List ℕ). Sized s places sizes cs 0) (sym f) (sizes_are s places sizes t sound few stand);
        }

-- ---- the edition's number

module _ (number : ℕ) (s : List ℕ) (room : ℕ) {was : List ℕ} where
  pub answers_other : {r : Refusal} → edition_named number ≡ Err r → Answers (translation_of number s room) was was (answered (Err r))
  unfolding translation_of
  answers_other {r} = go (eqb number 1) (eqb number 2)
    where
      go : (a b : Bool) → cond a (Ok Edition.First) (cond b (Ok Edition.Second) (Err why.Edition)) ≡ Err r → Answers (pick (a || b) (λ _. translation_in (cond a Edition.First Edition.Second) s room) (λ _. refusal 25 0)) was was (answered (Err r))
      go true b e = cc
      go false true e = cc
      go false false e = let q : why.Edition ≡ r = cc in rw (← q) (record { answer = refl; bytes = refl })

  pub answers_edition : {now : List ℕ} {edition : Edition} {r : Translated} → edition_named number ≡ Ok edition → Answers (translation_in edition s room) was now r → Answers (translation_of number s room) was now r
  unfolding translation_of
  answers_edition {now} {edition} {r} = go (eqb number 1) (eqb number 2)
    where
      go : (a b : Bool) → cond a (Ok Edition.First) (cond b (Ok Edition.Second) (Err why.Edition)) ≡ Ok edition → Answers (translation_in edition s room) was now r
          → Answers (pick (a || b) (λ _. translation_in (cond a Edition.First Edition.Second) s room) (λ _. refusal 25 0)) was now r
      go true b e h = let q : Edition.First ≡ edition = cc in rw q h
      go false true e h = let q : Edition.Second ≡ edition = cc in rw q h
      go false false e h = cc
