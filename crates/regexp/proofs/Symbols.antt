-- A text has one list of symbols, or one of request 1's cases begins behind some. Assumes nothing.
use mathlib.Core.Path.{◌≡◌, refl, sym, ap, ◌∙◌}
use mathlib.Core.Logic.{◌⊎◌, inl, inr}
use mathlib.Core.Bool.{Bool, true, false, not, and-false}
use mathlib.Core.List.{List, [], ◌∷◌, ◌++◌, append_assoc}
use Prim.Native.Nat.{ℕ, zero, suc, ◌<◌}
use native.Mathlib.Omega.{arith}
use lib.ListN.{length, drop, length-append}
use borrow.Author.Tests.{ne_eqb}
use Rattle.common.proofs.Choice.{true_false}
use Rattle.pattern.specs.Sets.{spans_of, is_closed, is_empty}
use Rattle.pattern.specs.Wildcard.{is_set}
use Rattle.pattern.specs.Steps.{begins}
use Rattle.regexp.specs.Grammar.{byte_of}
use Rattle.regexp.specs.Causes.{Behind, Fault, backslash_last, unclosed_set, empty_set, falling_range, Symbol, atom, mark, opening, closing, bar, hat, dollar, SymbolText, atom_text, mark_text, opening_text, closing_text, bar_text, hat_text, dollar_text, Symbols, end, next}
use Rattle.regexp.specs.Words.{Word, item, repeats, opening as opens, bars, closing as closes, stops, none, set_of, word_of}
use Rattle.regexp.proofs.Told.{Told, told, atom_word, mark_word}
use Rattle.regexp.proofs.Scans.{atom_long}

-- ---- the first symbol of a text, and what stands behind it
abbrev anchor_of : Bool → Symbol
anchor_of true = hat
anchor_of false = dollar

abbrev head_by : Word → List ℕ → Symbol
head_by (item a r) z = atom a
head_by (repeats m r) z = mark m
head_by (opens r) z = opening
head_by (bars r) z = bar
head_by (closes r) z = closing
head_by stops z = anchor_of (begins 94 z)
head_by none z = dollar

abbrev rest_by : Word → List ℕ → List ℕ
rest_by (item a r) z = r
rest_by (repeats m r) z = r
rest_by (opens r) z = r
rest_by (bars r) z = r
rest_by (closes r) z = r
rest_by stops z = drop 1 z
rest_by none z = z

abbrev goes_on : Word → Bool
goes_on (item a r) = true
goes_on (repeats m r) = true
goes_on (opens r) = true
goes_on (bars r) = true
goes_on (closes r) = true
goes_on stops = true
goes_on none = false

abbrev Front : List ℕ → Symbol → List ℕ → Type 0
Front z x r = (head_by (word_of z) z ≡ x) × (rest_by (word_of z) z ≡ r) × (goes_on (word_of z) ≡ true)

front_by : (z : List ℕ) (w : Word) (x : Symbol) (r : List ℕ) → word_of z ≡ w → head_by w z ≡ x → rest_by w z ≡ r → goes_on w ≡ true → Front z x r
front_by z w x r e f g h = (ap (λ (v : Word). head_by v z) e ∙ f, ap (λ (v : Word). rest_by v z) e ∙ g, ap goes_on e ∙ h)

front : {s : List ℕ} {x : Symbol} → SymbolText s x → (r : List ℕ) → Front (s ++ r) x r
front (atom_text {s = s} {a = a} t) r = front_by (s ++ r) (item a r) (atom a) r (atom_word t r) refl refl refl
front (mark_text m) r = front_by (byte_of m ∷ r) (repeats m r) (mark m) r (mark_word m r) refl refl refl
front opening_text r = (refl, refl, refl)
front closing_text r = (refl, refl, refl)
front bar_text r = (refl, refl, refl)
front hat_text r = (refl, refl, refl)
front dollar_text r = (refl, refl, refl)

front_at : {s z : List ℕ} {x : Symbol} (r : List ℕ) → SymbolText s x → s ++ r ≡ z → Front z x r
front_at r h e = (rw e at (front h r))

long : {s : List ℕ} {x : Symbol} → SymbolText s x → 0 < length s
long (atom_text t) = atom_long t
long (mark_text m) = omega arith
long opening_text = omega arith
long closing_text = omega arith
long bar_text = omega arith
long hat_text = omega arith
long dollar_text = omega arith

shorter : {s z : List ℕ} {x : Symbol} (r : List ℕ) → SymbolText s x → s ++ r ≡ z → length r < length z
shorter {s = s} r h e = omega (arith, long h, ap length e, length-append s r)

no_symbol : {A : Type 0} {s : List ℕ} {x : Symbol} (r : List ℕ) → SymbolText s x → s ++ r ≡ [] → A
no_symbol r h e = let l = shorter r h e in absurd (omega (arith, l))

-- ---- one list at most
pub one_list : {z : List ℕ} {xs ys : List Symbol} → Symbols z xs → Symbols z ys → xs ≡ ys
one_list end end = refl
one_list end (next {r = q} i u f) = no_symbol q i f
one_list (next {r = r} h t e) end = no_symbol r h e
one_list (next {r = r} h t e) (next {r = q} i u f) =
    let a = front_at r h e in
    let b = front_at q i f in
    let c : q ≡ r = sym b.1 ∙ a.1 in
    cc (sym a.0 ∙ b.0, one_list t (rw c at u))

-- ---- none behind which one of request 1's cases begins
behind_none : (r s : List ℕ) → Behind r s → is_set s ≡ false → set_of r ≡ none
behind_none r s (inl e) h = rw (e, h)
behind_none r s (inr (e, n)) h = rw e (go s n h)
  where
    go : (q : List ℕ) → ((t : List ℕ) → q ≡ 94 ∷ t → ⊥) → is_set q ≡ false → set_of q ≡ none
    go [] m i = refl
    go (b ∷ q) m i = rw (ne_eqb b 94 (λ f. m q (ap (λ (k : ℕ). k ∷ q) f)), i)

fault_none : {r : List ℕ} → Fault r → word_of r ≡ none
fault_none backslash_last = refl
fault_none (unclosed_set r s b e) = behind_none r s b (rw e)
fault_none (empty_set r s b e) = behind_none r s b (rw e (and-false (is_closed s)))
fault_none (falling_range r s b e) = behind_none r s b (rw (e, and-false (not (is_empty (spans_of s)))) (and-false (is_closed s)))

on : {z : List ℕ} {ys : List Symbol} → Symbols z ys → goes_on (word_of z) ≡ true
on end = refl
on (next {r = r} h t e) = (front_at r h e).2

pub no_list : {q r z : List ℕ} {xs ys : List Symbol} → Symbols q xs → Fault r → q ++ r ≡ z → Symbols z ys → ⊥
no_list end f e u = true_false (sym (on u) ∙ ap goes_on (fault_none (rw e at f)))
no_list {r = r} (next {s = s} {r = o} h t g) f e end = no_symbol (o ++ r) h (sym (append_assoc s o r) ∙ ap (λ (l : List ℕ). l ++ r) g ∙ e)
no_list {r = r} {z = z} (next {s = s} {r = o} h t g) f e (next {r = v} i u k) =
    let d : s ++ (o ++ r) ≡ z = sym (append_assoc s o r) ∙ ap (λ (l : List ℕ). l ++ r) g ∙ e in
    no_list t f (sym (front_at (o ++ r) h d).1 ∙ (front_at v i k).1) u

-- ---- one or the other
abbrev pub ReadAs : List ℕ → Type 0
ReadAs z = ((xs : List Symbol) × Symbols z xs) ⊎ ((q : List ℕ) × (r : List ℕ) × (xs : List Symbol) × (q ++ r ≡ z) × Symbols q xs × Fault r)

on_symbol : {s z : List ℕ} {x : Symbol} (r : List ℕ) → SymbolText s x → s ++ r ≡ z → ReadAs r → ReadAs z
on_symbol {x = x} r h e (inl (xs, t)) = inl (x ∷ xs, next h t e)
on_symbol {s = s} {x = x} r h e (inr (q, v, xs, f, t, g)) = inr (s ++ q, v, x ∷ xs, append_assoc s q v ∙ ap (λ (l : List ℕ). s ++ l) f ∙ e, next h t refl, g)

module _ (z : List ℕ) (more : (r : List ℕ) → length r < length z → ReadAs r) where
  further : {s : List ℕ} {x : Symbol} (r : List ℕ) → SymbolText s x → s ++ r ≡ z → ReadAs z
  further r h e = on_symbol r h e (more r (shorter r h e))

  read_by : (w : Word) → Told z w → ReadAs z
  read_by (item a r) h = further r (atom_text h.1) h.2
  read_by (repeats m r) h = further r (mark_text m) h
  read_by (opens r) h = further r opening_text h
  read_by (bars r) h = further r bar_text h
  read_by (closes r) h = further r closing_text h
  read_by stops (inl e) = inl ([], rw e end)
  read_by stops (inr (inl (r, e))) = further r hat_text e
  read_by stops (inr (inr (r, e))) = further r dollar_text e
  read_by none h = inr ([], z, [], refl, end, h)

read_within : (n : ℕ) (z : List ℕ) → length z < n → ReadAs z
read_within zero z l = absurd (omega arith)
read_within (suc n) z l = read_by z (λ r h. read_within n r (omega arith)) (word_of z) (told z)

pub read_symbols : (z : List ℕ) → ReadAs z
read_symbols z = read_within (suc (length z)) z (omega arith)
