-- The machine on a written text: every part leads to the state that its items say. Assumes nothing.
use mathlib.Core.Path.{◌≡◌, refl, sym, ap, ◌∙◌}
use mathlib.Core.Bool.{Bool, true, false}
use mathlib.Core.List.{List, [], ◌∷◌, ◌++◌, append_assoc, append-nil}
use Prim.Native.Nat.{ℕ, zero, suc, ◌+◌, ◌*◌, ◌-◌, ◌/◌, ◌%◌, ◌^◌, ◌≤◌, ◌<◌}
use native.Mathlib.Decide.{dec_lt}
use native.Mathlib.Omega.{arith}
use borrow.Author.Tests.{ne_eqb, eqb-true, eqb-false, le-leb, ltb-false}
use lib.Dec.{eqb, ltb}
use lib.ListN.{length, take}
use lib.Seq.{take-length}
use Rattle.word.specs.Word.{word_at, word_bytes, Bytes}
use Rattle.word.proofs.Theorems.{read_bytes_lem, bounded}
use Rattle.decimal.specs.Decimal.{decimal_of}
use Rattle.decimal.proofs.Laws.{decimal_small, decimal_more}
use Rattle.notice.specs.Field.{Field, size_right}
use Rattle.notice.specs.Write.{field}
use Rattle.ubf.specs.Byte.{is_digit}
use Rattle.ubf.specs.Item.{Item, integer, quoted, binary, mark, between, within, minus, digits, counted, ended, State, state, start, fresh, step, run}
use Rattle.ubf.specs.Fields.{names, value, number, whole, add, half, fits, number_bytes, int64, next, phase_of, says, said_by, said_in, said}
use Rattle.ubf.specs.Escape.{escapes}
use Rattle.ubf.specs.Text.{string_text, signed_of, sign_text, signed_text, tag_text, binary_text, value_text, field_text, fields_text, text_of}
use Rattle.ubf.proofs.Machine.{run_append, run_one, run_none, quoted_body, fresh_digit, counted_run}
use Rattle.ubf.proofs.Values.{size_4, size_8, text_1, text_2, text_4, text_other}

-- a state that takes a byte which is no digit as one between items
abbrev Ready : State → List Item → ℕ → Type 0
Ready s its d = (b : ℕ) → is_digit b ≡ false → step s b ≡ fresh its d b

ready_between : (its : List Item) (d : ℕ) → Ready (state between its d) its d
unfolding step
ready_between its d b h = refl

ready_digits : (negative : Bool) (n : ℕ) (its : List Item) (d : ℕ) → Ready (state (digits negative n) its d) (integer negative n ∷ its) d
unfolding step
ready_digits negative n its d b h = rw h

string_close : (bs : List ℕ) (its : List Item) (d : ℕ) → run (state (within 34 bs) its d) (34 ∷ []) ≡ state between (quoted 34 bs ∷ its) d
unfolding run step
string_close bs its d = refl

string_open : (its : List Item) (d : ℕ) → fresh its d 34 ≡ state (within 34 []) its d
unfolding fresh
string_open its d = refl

string_run : (s : State) (bs : List ℕ) (its : List Item) (d : ℕ) → Ready s its d → run s (string_text bs) ≡ state between (quoted 34 bs ∷ its) d
string_run s bs its d r =
    run_one s 34 (escapes 34 bs ++ (34 ∷ []))
    ∙ ap (λ (t : State). run t (escapes 34 bs ++ (34 ∷ []))) (r 34 refl ∙ string_open its d)
    ∙ run_append (state (within 34 []) its d) (escapes 34 bs) (34 ∷ [])
    ∙ ap (λ (t : State). run t (34 ∷ [])) (quoted_body 34 bs [] its d (λ e. omega arith))
    ∙ string_close bs its d

-- ---- numbers

-- a state that starts an integer with a digit
abbrev Entry : State → Bool → List Item → ℕ → Type 0
Entry s negative its d = (b : ℕ) → 48 ≤ b → b ≤ 57 → step s b ≡ state (digits negative (b - 48)) its d

entry_between : (its : List Item) (d : ℕ) → Entry (state between its d) false its d
unfolding step
entry_between its d b h g = fresh_digit b its d (rw (le-leb 48 b h, le-leb b 57 g))

entry_minus : (its : List Item) (d : ℕ) → Entry (state minus its d) true its d
unfolding step
entry_minus its d b h g = rw (le-leb 48 b h, le-leb b 57 g)

digit_more : (negative : Bool) (n b : ℕ) (its : List Item) (d : ℕ) → 48 ≤ b → b ≤ 57 → step (state (digits negative n) its d) b ≡ state (digits negative (n * 10 + (b - 48))) its d
unfolding step
digit_more negative n b its d h g = rw (le-leb 48 b h, le-leb b 57 g)

decimal_run : (k n : ℕ) (s : State) (negative : Bool) (its : List Item) (d : ℕ) → n < k → Entry s negative its d → run s (decimal_of n) ≡ state (digits negative n) its d
decimal_run zero n s negative its d h en = absurd (omega arith)
decimal_run (suc k) n s negative its d h en = go (dec_lt n 10) (λ l. decimal_run k (n / 10) s negative its d (omega arith) en)
  where
    go : Dec (n < 10) → (10 ≤ n → run s (decimal_of (n / 10)) ≡ state (digits negative (n / 10)) its d) → run s (decimal_of n) ≡ state (digits negative n) its d
    go (yes l) ih =
        let z : 48 + n - 48 ≡ n = omega arith in
        ap (run s) (decimal_small n l) ∙ run_one s (48 + n) [] ∙ run_none (step s (48 + n)) ∙ en (48 + n) (omega arith) (omega arith) ∙ ap (λ (m : ℕ). state (digits negative m) its d) z
    go (no l) ih =
        let g : 10 ≤ n = omega arith in
        let z : n / 10 * 10 + (48 + n % 10 - 48) ≡ n = omega arith in
        ap (run s) (decimal_more n g)
        ∙ run_append s (decimal_of (n / 10)) ((48 + n % 10) ∷ [])
        ∙ ap (λ (t : State). run t ((48 + n % 10) ∷ [])) (ih g)
        ∙ run_one (state (digits negative (n / 10)) its d) (48 + n % 10) []
        ∙ run_none (step (state (digits negative (n / 10)) its d) (48 + n % 10))
        ∙ digit_more negative (n / 10) (48 + n % 10) its d (omega arith) (omega arith)
        ∙ ap (λ (m : ℕ). state (digits negative m) its d) z

minus_first : (its : List Item) (d : ℕ) → step (state between its d) 45 ≡ state minus its d
unfolding step fresh
minus_first its d = refl

signed_run : (negative : Bool) (n : ℕ) (its : List Item) (d : ℕ) → run (state between its d) (sign_text negative n) ≡ state (digits negative n) its d
signed_run true n its d =
    run_one (state between its d) 45 (decimal_of n)
    ∙ ap (λ (t : State). run t (decimal_of n)) (minus_first its d)
    ∙ decimal_run (suc n) n (state minus its d) true its d (omega arith) (entry_minus its d)
signed_run false n its d = decimal_run (suc n) n (state between its d) false its d (omega arith) (entry_between its d)

tag_run : (negative : Bool) (n : ℕ) (its : List Item) (d : ℕ) → run (state (digits negative n) its d) tag_text ≡ state between (quoted 96 int64 ∷ integer negative n ∷ its) d
unfolding run step fresh
tag_run negative n its d = refl

-- ---- binaries

count_first : (n : ℕ) (its : List Item) (d : ℕ) → step (state (digits false n) its d) 126 ≡ state (counted n []) its d
unfolding step fresh
count_first n its d = refl

binary_close : (bs : List ℕ) (its : List Item) (d : ℕ) → run (state (counted 0 bs) its d) (126 ∷ []) ≡ state between (binary bs ∷ its) d
unfolding run step
binary_close bs its d = refl

binary_run : (bs : List ℕ) (its : List Item) (d : ℕ) → run (state between its d) (binary_text bs) ≡ state between (binary bs ∷ its) d
binary_run bs its d =
    run_append (state between its d) (decimal_of (length bs)) (126 ∷ (bs ++ (126 ∷ [])))
    ∙ ap (λ (t : State). run t (126 ∷ (bs ++ (126 ∷ [])))) (decimal_run (suc (length bs)) (length bs) (state between its d) false its d (omega arith) (entry_between its d))
    ∙ run_one (state (digits false (length bs)) its d) 126 (bs ++ (126 ∷ []))
    ∙ ap (λ (t : State). run t (bs ++ (126 ∷ []))) (count_first (length bs) its d)
    ∙ run_append (state (counted (length bs) []) its d) bs (126 ∷ [])
    ∙ ap (λ (t : State). run t (126 ∷ [])) (counted_run bs [] its d)
    ∙ binary_close bs its d

-- ---- a number's bytes and back

number_back : (k : ℕ) (v : List ℕ) → 256 ^ k ≡ half k + half k → Bytes v → length v ≡ k
    → (fits k (signed_of k (word_at k v 0)).negative (signed_of k (word_at k v 0)).size ≡ true) × (number_bytes k (signed_of k (word_at k v 0)).negative (signed_of k (word_at k v 0)).size ≡ v)
number_back k v t bytes e = go (ltb (word_at k v 0) (half k)) refl
  where
    same : word_bytes k (word_at k v 0) ≡ v
    same = read_bytes_lem k 0 v bytes (omega arith) ∙ ap (λ (n : ℕ). take n v) (sym e) ∙ take-length v

    below : word_at k v 0 < 256 ^ k
    below = bounded k 0 v bytes

    go : (b : Bool) → ltb (word_at k v 0) (half k) ≡ b
        → (fits k (signed_of k (word_at k v 0)).negative (signed_of k (word_at k v 0)).size ≡ true) × (number_bytes k (signed_of k (word_at k v 0)).negative (signed_of k (word_at k v 0)).size ≡ v)
    go true l = rw l (l, same)
    go false l =
        let h : half k ≤ word_at k v 0 = ltb-false (word_at k v 0) (half k) l in
        let z : 256 ^ k - (256 ^ k - word_at k v 0) ≡ word_at k v 0 = omega (arith, below) in
        rw l (le-leb (256 ^ k - word_at k v 0) (half k) (omega (arith, t)), ap (word_bytes k) z ∙ same)

-- ---- fields

-- a field that can be written
pub record Good (f : Field) : Type 0 where
  pub size : size_right f.kind (length f.value) ≡ true
  pub bytes : Bytes f.value
  pub no_real : f.kind ≡ 3 → ⊥

abbrev pub AllGood : List Field → Type 0
AllGood [] = Unit {0}
AllGood (f ∷ fs) = Good f × AllGood fs

-- a state after these fields: what comes is a name or the tuple's end
pub record Stand (s : State) (fs : List Field) (d : ℕ) : Type 0 where
  pub its : List Item
  pub ready : (b : ℕ) → is_digit b ≡ false → step s b ≡ fresh its d b
  pub named : (bs : List ℕ) → next (phase_of its) (quoted 34 bs) ≡ value fs bs
  pub shuts : next (phase_of its) (mark 125) ≡ whole fs

stand_at : {s t : State} {fs : List Field} {d : ℕ} → s ≡ t → Stand t fs d → Stand s fs d
stand_at e r = record { its = r.its; ready = λ b h. ap (λ x. step x b) e ∙ r.ready b h; named = r.named; shuts = r.shuts }

-- between items, after a whole field
stand_names : (its : List Item) (fs : List Field) (d : ℕ) → phase_of its ≡ names fs → Stand (state between its d) fs d
unfolding next
stand_names its fs d e = record { its = its; ready = ready_between its d; named = λ bs. ap (λ p. next p (quoted 34 bs)) e; shuts = ap (λ p. next p (mark 125)) e }

phase_more : (i : Item) (its : List Item) → phase_of (i ∷ its) ≡ next (phase_of its) i
unfolding phase_of
phase_more i its = refl

same_field : (f : Field) (k : ℕ) → f.kind ≡ k → field k f.name f.value ≡ f
same_field f k e = ap (λ (n : ℕ). field n f.name f.value) (sym e)

module _ (f : Field) (fs : List Field) (its : List Item) (d : ℕ) (p : phase_of its ≡ value fs f.name) where
  string_stand : f.kind ≡ 4 → Stand (state between (quoted 34 f.value ∷ its) d) (add fs f) d
  unfolding next
  string_stand e = stand_names (quoted 34 f.value ∷ its) (add fs f) d (phase_more (quoted 34 f.value) its ∙ ap (λ q. next q (quoted 34 f.value)) p ∙ ap (λ g. names (add fs g)) (same_field f 4 e))

  binary_stand : f.kind ≡ 5 → Stand (state between (binary f.value ∷ its) d) (add fs f) d
  unfolding next
  binary_stand e = stand_names (binary f.value ∷ its) (add fs f) d (phase_more (binary f.value) its ∙ ap (λ q. next q (binary f.value)) p ∙ ap (λ g. names (add fs g)) (same_field f 5 e))

  module _ (negative : Bool) (n : ℕ) where
    number_phase : phase_of (integer negative n ∷ its) ≡ number fs f.name negative n
    unfolding next
    number_phase = phase_more (integer negative n) its ∙ ap (λ q. next q (integer negative n)) p

    int32_stand : f.kind ≡ 1 → fits 4 negative n ≡ true → number_bytes 4 negative n ≡ f.value → Stand (state (digits negative n) its d) (add fs f) d
    unfolding next
    int32_stand e h v =
        let g : field 1 f.name (number_bytes 4 negative n) ≡ f = ap (λ w. field 1 f.name w) v ∙ same_field f 1 e in
        record {
          its = integer negative n ∷ its;
          ready = ready_digits negative n its d;
          named = λ bs. ap (λ q. next q (quoted 34 bs)) number_phase ∙ rw h (ap (λ x. value (add fs x) bs) g);
          shuts = ap (λ q. next q (mark 125)) number_phase ∙ rw h (ap (λ x. whole (add fs x)) g);
        }

    int64_stand : f.kind ≡ 2 → fits 8 negative n ≡ true → number_bytes 8 negative n ≡ f.value → Stand (state between (quoted 96 int64 ∷ integer negative n ∷ its) d) (add fs f) d
    unfolding next
    int64_stand e h v =
        let g : field 2 f.name (number_bytes 8 negative n) ≡ f = ap (λ w. field 2 f.name w) v ∙ same_field f 2 e in
        stand_names (quoted 96 int64 ∷ integer negative n ∷ its) (add fs f) d (phase_more (quoted 96 int64) (integer negative n ∷ its) ∙ ap (λ q. next q (quoted 96 int64)) number_phase ∙ rw h (ap (λ x. names (add fs x)) g))

-- the kinds that a right field has
kind_other : (f : Field) → Good f → (f.kind ≡ 1 → ⊥) → (f.kind ≡ 2 → ⊥) → (f.kind ≡ 4 → ⊥) → f.kind ≡ 5
kind_other f g p q r = go (eqb f.kind 5) refl
  where
    go : (b : Bool) → eqb f.kind 5 ≡ b → f.kind ≡ 5
    go true e = eqb-true f.kind 5 e
    go false e = let z : false ≡ true = rw (ne_eqb f.kind 1 p, ne_eqb f.kind 2 q, ne_eqb f.kind 3 g.no_real, ne_eqb f.kind 4 r, e) at g.size in let y : ◌≡◌ {A = ℕ} 0 1 = cc in absurd (omega arith)

value_stand : (f : Field) (fs : List Field) (its : List Item) (d : ℕ) → Good f → phase_of its ≡ value fs f.name → Stand (run (state between its d) (value_text f.kind f.value)) (add fs f) d
value_stand f fs its d g p = go (eqb f.kind 1) refl (eqb f.kind 2) refl (eqb f.kind 4) refl
  where
    to : (t : List ℕ) → t ≡ value_text f.kind f.value → run (state between its d) (value_text f.kind f.value) ≡ run (state between its d) t
    to t e = ap (run (state between its d)) (sym e)

    go : (a : Bool) → eqb f.kind 1 ≡ a → (b : Bool) → eqb f.kind 2 ≡ b → (c : Bool) → eqb f.kind 4 ≡ c → Stand (run (state between its d) (value_text f.kind f.value)) (add fs f) d
    go true e b e2 c e4 =
        let k = eqb-true f.kind 1 e in
        let s = signed_of 4 (word_at 4 f.value 0) in
        let n = number_back 4 f.value refl g.bytes (size_4 f.kind (length f.value) k g.size) in
        stand_at (to (signed_text s) (text_1 f.kind f.value k) ∙ signed_run s.negative s.size its d) (int32_stand f fs its d p s.negative s.size k n.0 n.1)
    go false e true e2 c e4 =
        let k = eqb-true f.kind 2 e2 in
        let s = signed_of 8 (word_at 8 f.value 0) in
        let n = number_back 8 f.value refl g.bytes (size_8 f.kind (length f.value) k g.size) in
        stand_at (to (signed_text s ++ tag_text) (text_2 f.kind f.value k) ∙ run_append (state between its d) (signed_text s) tag_text ∙ ap (λ t. run t tag_text) (signed_run s.negative s.size its d) ∙ tag_run s.negative s.size its d) (int64_stand f fs its d p s.negative s.size k n.0 n.1)
    go false e false e2 true e4 =
        let k = eqb-true f.kind 4 e4 in
        stand_at (to (string_text f.value) (text_4 f.kind f.value k) ∙ string_run (state between its d) f.value its d (ready_between its d)) (string_stand f fs its d p k)
    go false e false e2 false e4 =
        let k1 = eqb-false f.kind 1 e in
        let k2 = eqb-false f.kind 2 e2 in
        let k4 = eqb-false f.kind 4 e4 in
        stand_at (to (binary_text f.value) (text_other f.kind f.value k1 k2 k4) ∙ binary_run f.value its d) (binary_stand f fs its d p (kind_other f g k1 k2 k4))

field_stand : (f : Field) (fs : List Field) (s : State) (d : ℕ) → Good f → Stand s fs d → Stand (run s (field_text f)) (add fs f) d
field_stand f fs s d g r =
    stand_at (run_append s (string_text f.name) (value_text f.kind f.value) ∙ ap (λ t. run t (value_text f.kind f.value)) (string_run s f.name r.its d r.ready))
    (value_stand f fs (quoted 34 f.name ∷ r.its) d g (phase_more (quoted 34 f.name) r.its ∙ r.named f.name))

fields_stand : (gs fs : List Field) (s : State) (d : ℕ) → AllGood gs → Stand s fs d → Stand (run s (fields_text gs)) (fs ++ gs) d
unfolding fields_text
fields_stand [] fs s d g r = stand_at (run_none s) (rw (append-nil fs) r)
fields_stand (f ∷ gs) fs s d g r =
    stand_at (run_append s (field_text f) (fields_text gs))
    (rw (sym (append_assoc fs (f ∷ []) gs)) (fields_stand gs (add fs f) (run s (field_text f)) d g.1 (field_stand f fs s d g.0 r)))

-- ---- the whole text

open_first : step start 123 ≡ state between (mark 123 ∷ []) 1
unfolding step fresh
open_first = refl

open_phase : phase_of (mark 123 ∷ []) ≡ names []
unfolding phase_of next
open_phase = refl

close_last : (its : List Item) → fresh its 1 125 ≡ state between (mark 125 ∷ its) 0
unfolding fresh
close_last its = refl

dollar_last : (its : List Item) → step (state between its 0) 36 ≡ state ended its 0
unfolding step fresh
dollar_last its = refl

pub text_says : (fs : List Field) → AllGood fs → said (text_of fs) ≡ says fs
text_says fs g =
    let s : State = run (state between (mark 123 ∷ []) 1) (fields_text fs) in
    let r = fields_stand fs [] (state between (mark 123 ∷ []) 1) 1 g (stand_names (mark 123 ∷ []) [] 1 open_phase) in
    let e : run start (text_of fs) ≡ state ended (mark 125 ∷ r.its) 0 =
    run_one start 123 (fields_text fs ++ (125 ∷ 36 ∷ []))
    ∙ ap (λ t. run t (fields_text fs ++ (125 ∷ 36 ∷ []))) open_first
    ∙ run_append (state between (mark 123 ∷ []) 1) (fields_text fs) (125 ∷ 36 ∷ [])
    ∙ run_one s 125 (36 ∷ [])
    ∙ ap (λ t. run t (36 ∷ [])) (r.ready 125 refl ∙ close_last r.its)
    ∙ run_one (state between (mark 125 ∷ r.its) 0) 36 []
    ∙ run_none (step (state between (mark 125 ∷ r.its) 0) 36)
    ∙ dollar_last (mark 125 ∷ r.its) in
    ap said_in e ∙ ap said_by (phase_more (mark 125) r.its ∙ r.shuts)
