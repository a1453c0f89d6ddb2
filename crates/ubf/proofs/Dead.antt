-- Dead states: whatever comes, the text is no tuple of fields. And which bytes lead to one. Assumes nothing.
use mathlib.Core.Path.{◌≡◌, refl, sym, ap, ◌∙◌}
use mathlib.Core.Bool.{Bool, true, false, cond, not, ◌&&◌, ◌||◌, or-true}
use mathlib.Core.List.{List, [], ◌∷◌, ◌++◌}
use mathlib.Core.Logic.{◌⊎◌, inl, inr}
use Prim.Native.Nat.{ℕ, zero, suc, ◌+◌, ◌*◌, ◌<◌}
use native.Mathlib.Omega.{arith}
use borrow.Author.Tests.{ne_eqb, eqb-true}
use lib.Dec.{eqb}
use lib.ListN.{length, get_or, drop}
use Rattle.common.proofs.Choice.{true_false}
use Rattle.notice.specs.Field.{Field}
use Rattle.ubf.specs.Byte.{is, is_space, is_digit, digit_of, is_quote}
use Rattle.ubf.specs.Item.{Item, integer, quoted, binary, mark, between, within, escaped, minus, digits, counted, ended, broken, State, state, closed, counting, shut, dollar, fresh, step, run}
use Rattle.ubf.specs.Fields.{Phase, outside, names, value, number, whole, wrong, fits, as_number, next, phase_of, said_by, said_in, is_tuple}
use Rattle.ubf.specs.Scan.{onward, is_blank}
use Rattle.ubf.specs.Span.{settled}
use Rattle.ubf.proofs.Machine.{onward_one}

abbrev pub Dead : State → Type 0
Dead (state between its d) = phase_of its ≡ wrong
Dead (state (within q bs) its d) = (more : List ℕ) → phase_of (closed q more its) ≡ wrong
Dead (state (escaped q bs) its d) = (more : List ℕ) → phase_of (closed q more its) ≡ wrong
Dead (state minus its d) = (negative : Bool) (n : ℕ) → phase_of (integer negative n ∷ its) ≡ wrong
Dead (state (digits sign k) its d) = (negative : Bool) (n : ℕ) → phase_of (integer negative n ∷ its) ≡ wrong
Dead (state (counted n bs) its d) = (more : List ℕ) → phase_of (binary more ∷ its) ≡ wrong
Dead (state ended its d) = is_tuple (said_by (phase_of its)) ≡ false
Dead (state broken its d) = Unit {0}

dead_cond : (c : Bool) (s t : State) → (c ≡ true → Dead s) → (c ≡ false → Dead t) → Dead (cond c s t)
dead_cond true s t f g = f refl
dead_cond false s t f g = g refl

pub phase_more : (i : Item) (its : List Item) → phase_of (i ∷ its) ≡ next (phase_of its) i
unfolding phase_of
phase_more i its = refl

-- the phase with one item more
pub phase_with : (its : List Item) (i : Item) (p q : Phase) → phase_of its ≡ p → next p i ≡ q → phase_of (i ∷ its) ≡ q
phase_with its i p q e f = phase_more i its ∙ ap (λ (r : Phase). next r i) e ∙ f

next_wrong : (i : Item) → next wrong i ≡ wrong
unfolding next
next_wrong i = refl

-- ---- a byte between items

-- a byte that no tuple of fields has there
record Unwelcome (its : List Item) (d b : ℕ) : Type 0 where
  spaces : is_space b ≡ true → phase_of its ≡ wrong
  quotes : is_quote b ≡ true → (bs : List ℕ) → phase_of (closed b bs its) ≡ wrong
  numbers : (is_digit b || is "-" b) ≡ true → (negative : Bool) (n : ℕ) → phase_of (integer negative n ∷ its) ≡ wrong
  counts : b ≡ 126 → Dead (counting its d)
  marks : phase_of (mark b ∷ its) ≡ wrong
  ends : b ≡ 36 → Dead (dollar its d)

dead_shut : (its : List Item) (d : ℕ) → phase_of (mark 125 ∷ its) ≡ wrong → Dead (shut its d)
dead_shut its zero h = tt
dead_shut its (suc d) h = h

or_left : (a b : Bool) → a ≡ true → (a || b) ≡ true
or_left a b e = rw e

or_right : (a b : Bool) → b ≡ true → (a || b) ≡ true
or_right a b e = rw e (or-true a)

dead_fresh : (its : List Item) (d b : ℕ) → Unwelcome its d b → Dead (fresh its d b)
unfolding fresh
dead_fresh its d b u =
    let last : State = state between (mark b ∷ its) d in
    let comma : State = cond (is "," b) (state broken its d) last in
    let end : State = cond (is "$" b) (dollar its d) comma in
    let close : State = cond (is "}" b) (shut its d) end in
    let opens : State = cond (is "{" b) (state between (mark b ∷ its) (suc d)) close in
    let tilde : State = cond (is "~" b) (counting its d) opens in
    let sign : State = cond (is "-" b) (state minus its d) tilde in
    let digit : State = cond (is_digit b) (state (digits false (digit_of b)) its d) sign in
    let quote : State = cond (is_quote b) (state (within b []) its d) digit in
    dead_cond (is_space b) (state between its d) quote u.spaces
    (λ _. dead_cond (is_quote b) (state (within b []) its d) digit u.quotes
    (λ _. dead_cond (is_digit b) (state (digits false (digit_of b)) its d) sign (λ e. u.numbers (or_left (is_digit b) (is "-" b) e))
    (λ _. dead_cond (is "-" b) (state minus its d) tilde (λ e. u.numbers (or_right (is_digit b) (is "-" b) e))
    (λ _. dead_cond (is "~" b) (counting its d) opens (λ e. u.counts (eqb-true b 126 e))
    (λ _. dead_cond (is "{" b) (state between (mark b ∷ its) (suc d)) close (λ _. u.marks)
    (λ _. dead_cond (is "}" b) (shut its d) end (λ e. dead_shut its d (ap (λ (c : ℕ). phase_of (mark c ∷ its)) (sym (eqb-true b 125 e)) ∙ u.marks))
    (λ _. dead_cond (is "$" b) (dollar its d) comma (λ e. u.ends (eqb-true b 36 e))
    (λ _. dead_cond (is "," b) (state broken its d) last (λ _. tt)
    (λ _. u.marks)))))))))

-- ---- items

-- a phase whose last item is no integer
abbrev NoNumber : Phase → Type 0
NoNumber outside = Unit {0}
NoNumber (names fs) = Unit {0}
NoNumber (value fs name) = Unit {0}
NoNumber (number fs name negative n) = ⊥
NoNumber (whole fs) = Unit {0}
NoNumber wrong = Unit {0}

-- a binary whose count is the integer after a value's place stands for the integer
counted_wrong : (q : Phase) (negative : Bool) (n : ℕ) (bs : List ℕ) → NoNumber (next q (integer negative n)) → next q (binary bs) ≡ wrong
unfolding next
counted_wrong outside negative n bs h = refl
counted_wrong (names fs) negative n bs h = refl
counted_wrong (value fs name) negative n bs h = absurd h
counted_wrong (number fs name sign k) negative n bs h = refl
counted_wrong (whole fs) negative n bs h = refl
counted_wrong wrong negative n bs h = refl

dead_counting : (its : List Item) (d : ℕ) → NoNumber (phase_of its) → Dead (counting its d)
unfolding phase_of
dead_counting [] d h = tt
dead_counting (integer negative n ∷ its) d h =
    dead_cond (negative && not (eqb n 0)) (state broken its d) (state (counted n []) its d) (λ _. tt)
    (λ _ more. phase_more (binary more) its ∙ counted_wrong (phase_of its) negative n more h)
dead_counting (quoted q bs ∷ its) d h = tt
dead_counting (binary bs ∷ its) d h = tt
dead_counting (mark b ∷ its) d h = tt

dead_dollar : (its : List Item) (d : ℕ) → is_tuple (said_by (phase_of its)) ≡ false → Dead (dollar its d)
dead_dollar its zero h = h
dead_dollar its (suc d) h = tt

closed_wrong : (q : ℕ) (bs : List ℕ) (its : List Item) → phase_of its ≡ wrong → phase_of (closed q bs its) ≡ wrong
closed_wrong q bs its h = go (eqb q 37)
  where
    go : (c : Bool) → phase_of (cond c its (quoted q bs ∷ its)) ≡ wrong
    go true = h
    go false = phase_with its (quoted q bs) wrong wrong h (next_wrong (quoted q bs))

-- after what is wrong every byte is unwelcome
wrong_unwelcome : (its : List Item) (d b : ℕ) → phase_of its ≡ wrong → Unwelcome its d b
wrong_unwelcome its d b h = record {
  spaces = λ _. h;
  quotes = λ _ bs. closed_wrong b bs its h;
  numbers = λ _ negative n. phase_with its (integer negative n) wrong wrong h (next_wrong (integer negative n));
  counts = λ _. dead_counting its d (rw h tt);
  marks = phase_with its (mark b) wrong wrong h (next_wrong (mark b));
  ends = λ _. dead_dollar its d (ap (λ (p : Phase). is_tuple (said_by p)) h);
}

-- ---- no way out

dead_step : (s : State) (b : ℕ) → Dead s → Dead (step s b)
unfolding step
dead_step (state between its d) b h = dead_fresh its d b (wrong_unwelcome its d b h)
dead_step (state (within q bs) its d) b h =
    dead_cond (eqb b q) (state between (closed q bs its) d) (cond (is "\\" b) (state (escaped q bs) its d) (state (within q (bs ++ (b ∷ []))) its d)) (λ _. h bs)
    (λ _. dead_cond (is "\\" b) (state (escaped q bs) its d) (state (within q (bs ++ (b ∷ []))) its d) (λ _. h) (λ _. h))
dead_step (state (escaped q bs) its d) b h =
    dead_cond (eqb b q) (state (within q (bs ++ (b ∷ []))) its d) (cond (is "\\" b) (state (within q (bs ++ (b ∷ []))) its d) (state broken its d)) (λ _. h)
    (λ _. dead_cond (is "\\" b) (state (within q (bs ++ (b ∷ []))) its d) (state broken its d) (λ _. h) (λ _. tt))
dead_step (state minus its d) b h = dead_cond (is_digit b) (state (digits true (digit_of b)) its d) (state broken its d) (λ _. h) (λ _. tt)
dead_step (state (digits negative n) its d) b h =
    dead_cond (is_digit b) (state (digits negative (n * 10 + digit_of b)) its d) (fresh (integer negative n ∷ its) d b) (λ _. h)
    (λ _. dead_fresh (integer negative n ∷ its) d b (wrong_unwelcome (integer negative n ∷ its) d b (h negative n)))
dead_step (state (counted zero bs) its d) b h = dead_cond (is "~" b) (state between (binary bs ∷ its) d) (state broken its d) (λ _. h bs) (λ _. tt)
dead_step (state (counted (suc n) bs) its d) b h = h
dead_step (state ended its d) b h = tt
dead_step (state broken its d) b h = tt

dead_run : (s : State) (bs : List ℕ) → Dead s → Dead (run s bs)
unfolding run
dead_run s [] h = h
dead_run s (b ∷ bs) h = dead_run (step s b) bs (dead_step s b h)

dead_said : (s : State) → Dead s → is_tuple (said_in s) ≡ false
dead_said (state between its d) h = refl
dead_said (state (within q bs) its d) h = refl
dead_said (state (escaped q bs) its d) h = refl
dead_said (state minus its d) h = refl
dead_said (state (digits negative n) its d) h = refl
dead_said (state (counted n bs) its d) h = refl
dead_said (state ended its d) h = h
dead_said (state broken its d) h = refl

pub dead_onward : (text : List ℕ) (at : ℕ) (s : State) → Dead s → is_tuple (onward text at s) ≡ false
dead_onward text at s h = dead_said (run s (drop at text)) (dead_run s (drop at text) h)

pub dead_byte : (text : List ℕ) (at : ℕ) (its : List Item) (d : ℕ) → at < length text → Dead (fresh its d (get_or text at 0)) → is_tuple (onward text at (state between its d)) ≡ false
unfolding step
dead_byte text at its d l h = ap is_tuple (onward_one text at (state between its d) l) ∙ dead_onward text (suc at) (step (state between its d) (get_or text at 0)) h

-- ---- the bytes that are unwelcome in a phase

not_space : (b : ℕ) → is_blank b ≡ false → is_space b ≡ false
not_space b h = go (is_space b) h
  where
    go : (c : Bool) → (c || is "%" b) ≡ false → c ≡ false
    go true e = true_false e
    go false e = refl

not_comment : (b : ℕ) → is_blank b ≡ false → eqb b 37 ≡ false
not_comment b h = go (is_space b) h
  where
    go : (c : Bool) → (c || is "%" b) ≡ false → is "%" b ≡ false
    go true e = true_false e
    go false e = e

-- by what the items of that byte make of the phase
pub record Refuses (p : Phase) (b : ℕ) : Type 0 where
  pub quotes : (bs : List ℕ) → is_quote b ≡ true → next p (quoted b bs) ≡ wrong
  pub numbers : (is_digit b || is "-" b) ≡ true → (negative : Bool) (n : ℕ) → next p (integer negative n) ≡ wrong
  pub counts : b ≡ 126 → NoNumber p
  pub marks : next p (mark b) ≡ wrong
  pub ends : b ≡ 36 → is_tuple (said_by p) ≡ false

pub refused : (text : List ℕ) (at : ℕ) (its : List Item) (d : ℕ) (p : Phase) → at < length text → is_blank (get_or text at 0) ≡ false → phase_of its ≡ p → Refuses p (get_or text at 0)
    → is_tuple (onward text at (state between its d)) ≡ false
refused text at its d p l h e r = dead_byte text at its d l (dead_fresh its d b (record {
  spaces = λ s. true_false (sym s ∙ not_space b h);
  quotes = λ q bs. ap (λ (c : Bool). phase_of (cond c its (quoted b bs ∷ its))) (not_comment b h) ∙ phase_with its (quoted b bs) p wrong e (r.quotes bs q);
  numbers = λ c negative n. phase_with its (integer negative n) p wrong e (r.numbers c negative n);
  counts = λ c. dead_counting its d (rw e (r.counts c));
  marks = phase_with its (mark b) p wrong e r.marks;
  ends = λ c. dead_dollar its d (ap (λ (q : Phase). is_tuple (said_by q)) e ∙ r.ends c);
}))
  where
    b : ℕ
    b = get_or text at 0

-- before the tuple
pub outside_refuses : (b : ℕ) → (b ≡ 123 → ⊥) → Refuses outside b
unfolding next
outside_refuses b h = record { quotes = λ bs q. refl; numbers = λ c negative n. refl; counts = λ c. tt; marks = rw (ne_eqb b 123 h); ends = λ c. refl }

-- for a value
pub value_refuses : (fs : List Field) (name : List ℕ) (b : ℕ) → (b ≡ 34 → ⊥) → (is_digit b || is "-" b) ≡ false → Refuses (value fs name) b
unfolding next
value_refuses fs name b h g = record { quotes = λ bs q. rw (ne_eqb b 34 h); numbers = λ c negative n. true_false (sym c ∙ g); counts = λ c. tt; marks = refl; ends = λ c. refl }

-- after the tuple
pub whole_refuses : (fs : List Field) (b : ℕ) → (b ≡ 36 → ⊥) → Refuses (whole fs) b
unfolding next
whole_refuses fs b h = record { quotes = λ bs q. refl; numbers = λ c negative n. refl; counts = λ c. tt; marks = refl; ends = λ c. absurd (h c) }

-- for a name or `}`
names_refuses : (fs : List Field) (b : ℕ) → (b ≡ 34 → ⊥) → (b ≡ 125 → ⊥) → Refuses (names fs) b
unfolding next
names_refuses fs b h g = record { quotes = λ bs q. rw (ne_eqb b 34 h); numbers = λ c negative n. refl; counts = λ c. tt; marks = rw (ne_eqb b 125 g); ends = λ c. refl }

-- after an integer that no tag and no `~` follows
module _ (fs : List Field) (name : List ℕ) (negative : Bool) (n b : ℕ) (tag : b ≡ 96 → ⊥) (tilde : b ≡ 126 → ⊥) where
  number_refuses : (gs : List Field) → as_number 1 4 fs name negative n ≡ names gs → (b ≡ 34 → ⊥) → (b ≡ 125 → ⊥) → Refuses (number fs name negative n) b
  unfolding next
  number_refuses gs e h g = record { quotes = λ bs q. rw (ne_eqb b 96 tag, e, ne_eqb b 34 h); numbers = λ c sign k. refl; counts = λ c. absurd (tilde c); marks = rw (e, ne_eqb b 125 g); ends = λ c. refl }

  pub large_refuses : fits 4 negative n ≡ false → Refuses (number fs name negative n) b
  unfolding next
  large_refuses e = record { quotes = λ bs q. rw (ne_eqb b 96 tag, e); numbers = λ c sign k. refl; counts = λ c. absurd (tilde c); marks = rw e; ends = λ c. refl }

pub settled_refuses : (p : Phase) (fs : List Field) (b : ℕ) → settled p ≡ names fs → (p ≡ names fs) ⊎ ((b ≡ 96 → ⊥) × (b ≡ 126 → ⊥)) → (b ≡ 34 → ⊥) → (b ≡ 125 → ⊥) → Refuses p b
settled_refuses p fs b e (inl s) h g = rw s (names_refuses fs b h g)
settled_refuses outside fs b e (inr u) h g = let z : ◌≡◌ {A = ℕ} 0 1 = cc in absurd (omega arith)
settled_refuses (names gs) fs b e (inr u) h g = names_refuses gs b h g
settled_refuses (value gs name) fs b e (inr u) h g = let z : ◌≡◌ {A = ℕ} 0 1 = cc in absurd (omega arith)
settled_refuses (number gs name negative n) fs b e (inr u) h g = number_refuses gs name negative n b u.0 u.1 fs e h g
settled_refuses (whole gs) fs b e (inr u) h g = let z : ◌≡◌ {A = ℕ} 0 1 = cc in absurd (omega arith)
settled_refuses wrong fs b e (inr u) h g = let z : ◌≡◌ {A = ℕ} 0 1 = cc in absurd (omega arith)

-- ---- an item that is no tag

pub next_name : (p : Phase) (fs : List Field) (bs : List ℕ) → settled p ≡ names fs → next p (quoted 34 bs) ≡ value fs bs
unfolding next
next_name outside fs bs e = let z : ◌≡◌ {A = ℕ} 0 1 = cc in absurd (omega arith)
next_name (names gs) fs bs e = let z : gs ≡ fs = cc in ap (λ (l : List Field). value l bs) z
next_name (value gs name) fs bs e = let z : ◌≡◌ {A = ℕ} 0 1 = cc in absurd (omega arith)
next_name (number gs name negative n) fs bs e = rw e
next_name (whole gs) fs bs e = let z : ◌≡◌ {A = ℕ} 0 1 = cc in absurd (omega arith)
next_name wrong fs bs e = let z : ◌≡◌ {A = ℕ} 0 1 = cc in absurd (omega arith)

pub next_end : (p : Phase) (fs : List Field) → settled p ≡ names fs → next p (mark 125) ≡ whole fs
unfolding next
next_end outside fs e = let z : ◌≡◌ {A = ℕ} 0 1 = cc in absurd (omega arith)
next_end (names gs) fs e = let z : gs ≡ fs = cc in ap whole z
next_end (value gs name) fs e = let z : ◌≡◌ {A = ℕ} 0 1 = cc in absurd (omega arith)
next_end (number gs name negative n) fs e = rw e
next_end (whole gs) fs e = let z : ◌≡◌ {A = ℕ} 0 1 = cc in absurd (omega arith)
next_end wrong fs e = let z : ◌≡◌ {A = ℕ} 0 1 = cc in absurd (omega arith)
