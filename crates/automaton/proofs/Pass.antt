-- A pass over the table is a shift of the tree. Assumes nothing.
use mathlib.Core.Path.{◌≡◌, refl, sym, ap, ◌∙◌}
use mathlib.Core.Bool.{Bool, true, false, ◌&&◌, ◌||◌}
use mathlib.Core.List.{List, [], ◌∷◌, ◌++◌, append_assoc}
use Prim.Native.Nat.{ℕ, zero, suc, ◌+◌, ◌≤◌}
use native.Mathlib.Omega.{arith}
use lib.ListN.{length, get_or, length-append}
use lib.Seq.{get_or_at}
use borrow.Author.Tests.{lt-ltb}
use Rattle.automaton.specs.Language.{Re, leaf, group, nil, seq, alt}
use Rattle.automaton.specs.Marks.{empty, final, shift}
use Rattle.automaton.specs.Pass.{Token, bar, closes, passed, closed, Left, left, onto, push, pass, tokens, cells, Flat, Alts}
use Rattle.automaton.specs.Theorems.{Passes}
use Rattle.automaton.specs.declared.Level.{Level}

-- laws of truth values
after_two : (a b c d e : Bool) → (((a && b) || c) && d) || e ≡ (a && (b && d)) || ((c && d) || e)
after_two true true true true true = refl
after_two true true true true false = refl
after_two true true true false true = refl
after_two true true true false false = refl
after_two true true false true true = refl
after_two true true false true false = refl
after_two true true false false true = refl
after_two true true false false false = refl
after_two true false true true true = refl
after_two true false true true false = refl
after_two true false true false true = refl
after_two true false true false false = refl
after_two true false false true true = refl
after_two true false false true false = refl
after_two true false false false true = refl
after_two true false false false false = refl
after_two false true true true true = refl
after_two false true true true false = refl
after_two false true true false true = refl
after_two false true true false false = refl
after_two false true false true true = refl
after_two false true false true false = refl
after_two false true false false true = refl
after_two false true false false false = refl
after_two false false true true true = refl
after_two false false true true false = refl
after_two false false true false true = refl
after_two false false true false false = refl
after_two false false false true true = refl
after_two false false false true false = refl
after_two false false false false true = refl
after_two false false false false false = refl

in_group : (a b c d e : Bool) → (a && b) || (((a || (c && d)) && e) || d) ≡ (a && (b || e)) || d
in_group true true true true true = refl
in_group true true true true false = refl
in_group true true true false true = refl
in_group true true true false false = refl
in_group true true false true true = refl
in_group true true false true false = refl
in_group true true false false true = refl
in_group true true false false false = refl
in_group true false true true true = refl
in_group true false true true false = refl
in_group true false true false true = refl
in_group true false true false false = refl
in_group true false false true true = refl
in_group true false false true false = refl
in_group true false false false true = refl
in_group true false false false false = refl
in_group false true true true true = refl
in_group false true true true false = refl
in_group false true true false true = refl
in_group false true true false false = refl
in_group false true false true true = refl
in_group false true false true false = refl
in_group false true false false true = refl
in_group false true false false false = refl
in_group false false true true true = refl
in_group false false true true false = refl
in_group false false true false true = refl
in_group false false true false false = refl
in_group false false false true true = refl
in_group false false false true false = refl
in_group false false false false true = refl
in_group false false false false false = refl

branches : (a b c d e f : Bool) → (a || ((b && c) || d)) || ((b && e) || f) ≡ a || ((b && (c || e)) || (d || f))
branches true true true true true true = refl
branches true true true true true false = refl
branches true true true true false true = refl
branches true true true true false false = refl
branches true true true false true true = refl
branches true true true false true false = refl
branches true true true false false true = refl
branches true true true false false false = refl
branches true true false true true true = refl
branches true true false true true false = refl
branches true true false true false true = refl
branches true true false true false false = refl
branches true true false false true true = refl
branches true true false false true false = refl
branches true true false false false true = refl
branches true true false false false false = refl
branches true false true true true true = refl
branches true false true true true false = refl
branches true false true true false true = refl
branches true false true true false false = refl
branches true false true false true true = refl
branches true false true false true false = refl
branches true false true false false true = refl
branches true false true false false false = refl
branches true false false true true true = refl
branches true false false true true false = refl
branches true false false true false true = refl
branches true false false true false false = refl
branches true false false false true true = refl
branches true false false false true false = refl
branches true false false false false true = refl
branches true false false false false false = refl
branches false true true true true true = refl
branches false true true true true false = refl
branches false true true true false true = refl
branches false true true true false false = refl
branches false true true false true true = refl
branches false true true false true false = refl
branches false true true false false true = refl
branches false true true false false false = refl
branches false true false true true true = refl
branches false true false true true false = refl
branches false true false true false true = refl
branches false true false true false false = refl
branches false true false false true true = refl
branches false true false false true false = refl
branches false true false false false true = refl
branches false true false false false false = refl
branches false false true true true true = refl
branches false false true true true false = refl
branches false false true true false true = refl
branches false false true true false false = refl
branches false false true false true true = refl
branches false false true false true false = refl
branches false false true false false true = refl
branches false false true false false false = refl
branches false false false true true true = refl
branches false false false true true false = refl
branches false false false true false true = refl
branches false false false true false false = refl
branches false false false false true true = refl
branches false false false false true false = refl
branches false false false false false true = refl
branches false false false false false false = refl

or_assoc : (a b c : Bool) → (a || b) || c ≡ a || (b || c)
or_assoc true true true = refl
or_assoc true true false = refl
or_assoc true false true = refl
or_assoc true false false = refl
or_assoc false true true = refl
or_assoc false true false = refl
or_assoc false false true = refl
or_assoc false false false = refl

pub and_assoc : (a b c : Bool) → (a && b) && c ≡ a && (b && c)
and_assoc true true true = refl
and_assoc true true false = refl
and_assoc true false true = refl
and_assoc true false false = refl
and_assoc false true true = refl
and_assoc false true false = refl
and_assoc false false true = refl
and_assoc false false false = refl

pub and_t : (a : Bool) → (a && true) ≡ a
and_t true = refl
and_t false = refl

pass_none : (a : Bool) → ((a && true) || false) ≡ a
pass_none true = refl
pass_none false = refl

pub empty_shift : (k : Bool) (t : Re) (c : ℕ) → empty (shift k t c) ≡ empty t
empty_shift k (leaf f r o m) c = refl
empty_shift k (group r o t) c = ap (λ (b : Bool). o || b) (empty_shift (k || (r && final t)) t c)
empty_shift k nil c = refl
empty_shift k (seq p q) c = cc (empty_shift k p c, empty_shift ((k && empty p) || final p) q c)
empty_shift k (alt p q) c = cc (empty_shift k p c, empty_shift k q c)

pub cells_length : (t : Re) → length (cells t) ≡ length (tokens t)
cells_length (leaf f r o m) = refl
cells_length (group r o t) = ap suc (length-append (cells t) (final t ∷ []) ∙ ap (λ (n : ℕ). n + 1) (cells_length t) ∙ sym (length-append (tokens t) (closes o ∷ [])))
cells_length nil = refl
cells_length (seq p q) = length-append (cells p) (cells q) ∙ cc (cells_length p, cells_length q) ∙ sym (length-append (tokens p) (tokens q))
cells_length (alt p q) =
    length-append (cells p) (false ∷ cells q) ∙ cc (cells_length p, cells_length q) ∙ sym (length-append (tokens p) (bar ∷ tokens q))

pub onto_nil : (x : Left) → onto [] x ≡ x
onto_nil (left ys l) = refl

pub onto_onto : (xs ys : List Bool) (x : Left) → onto xs (onto ys x) ≡ onto (xs ++ ys) x
onto_onto xs ys (left zs l) = ap (λ (r : List Bool). left r l) (sym (append_assoc xs ys zs))

-- a group's level with nothing of the branch passed yet
abbrev begun : Bool → Bool → Bool → Bool → Level
begun i a n f = record { into = i; out = a; none = n; done = f; cur = i; emp = true; fin = false }

-- behind the branches t of a group
abbrev behind : Bool → Bool → Bool → Bool → Re → ℕ → Level
behind i a n f t c = passed (begun i a n f) (empty t) (final t) (final (shift i t c))

passed_twice : (l : Level) (a b c d e f : Bool) → passed (passed l a b c) d e f ≡ passed l (a && d) ((b && d) || e) ((c && d) || f)
passed_twice l a b c d e f =
    rw (after_two l.cur a b d e, after_two l.fin a c d f, and_assoc l.emp a d)

passed_none : (l : Level) → passed l true false false ≡ l
passed_none l = rw (pass_none l.cur, pass_none l.fin, and_t l.emp)

abbrev Seq-law : Re → ℕ → Type 0
Seq-law t d =
    (l : Level) (s : List Level) → length s + d ≤ 8 → (ts : List Token) (ms : List Bool) (c : ℕ) →
    pass (tokens t ++ ts) (cells t ++ ms) c l s
    ≡ onto (cells (shift l.cur t c)) (pass ts ms c (passed l (empty t) (final t) (final (shift l.cur t c))) s)

abbrev Alt-law : Re → ℕ → Type 0
Alt-law t d =
    (i a n f : Bool) (p : Level) (s : List Level) → suc (length s) + d ≤ 8 → (o : Bool) (ts : List Token) (m : Bool) (ms : List Bool) (c : ℕ) →
    pass (tokens t ++ (closes o ∷ ts)) (cells t ++ (m ∷ ms)) c (begun i a n f) (p ∷ s)
    ≡ onto (cells (shift i t c) ++ ((f || final (shift i t c)) ∷ [])) (pass ts ms c (closed p (behind i a n f t c) o) s)

seq_alt : (t : Re) (d : ℕ) → Seq-law t d → Alt-law t d
seq_alt t d h i a n f p s b o ts m ms c =
    h (begun i a n f) (p ∷ s) b (closes o ∷ ts) (m ∷ ms) c
    ∙ onto_onto (cells (shift i t c)) ((f || final (shift i t c)) ∷ []) (pass ts ms c (closed p (behind i a n f t c) o) s)

group_law : (r o : Bool) (t : Re) (d : ℕ) → Alt-law t d → Seq-law (group r o t) (suc d)
group_law r o t d h l s b ts ms c =
    let k : Bool = l.cur || (r && final t) in
    let e1 : get_or (cells t ++ (final t ∷ ms)) (length (tokens t)) false ≡ final t = get_or_at (cells t) (final t) ms false (length (tokens t)) (cells_length t) in
    let e2 : push l s ≡ l ∷ s = rw (lt-ltb (length s) 8 (omega arith)) in
    let e3 : closed l (behind k false false false t c) o ≡ passed l (o || empty t) (final t) (final (shift k t c)) = rw (in_group l.cur o r (final t) (empty t)) in
    rw (append_assoc (tokens t) (closes o ∷ []) ts, append_assoc (cells t) (final t ∷ []) ms, e1, e2)
    (ap (onto (false ∷ [])) (h k false false false l s (omega arith) o ts (final t) ms c)
    ∙ onto_onto (false ∷ []) (cells (shift k t c) ++ (final (shift k t c) ∷ [])) (pass ts ms c (closed l (behind k false false false t c) o) s)
    ∙ ap (λ (x : Level). onto (false ∷ (cells (shift k t c) ++ (final (shift k t c) ∷ []))) (pass ts ms c x s)) e3)

two_law : (p q : Re) (d : ℕ) → Seq-law p d → Seq-law q d → Seq-law (seq p q) d
two_law p q d hp hq l s b ts ms c =
    let k : Bool = (l.cur && empty p) || final p in
    let p' : Re = shift l.cur p c in
    let q' : Re = shift k q c in
    rw (append_assoc (tokens p) (tokens q) ts, append_assoc (cells p) (cells q) ms, empty_shift k q c)
    (hp l s b (tokens q ++ ts) (cells q ++ ms) c
    ∙ ap (onto (cells p')) (hq (passed l (empty p) (final p) (final p')) s b ts ms c)
    ∙ onto_onto (cells p') (cells q') (pass ts ms c (passed (passed l (empty p) (final p) (final p')) (empty q) (final q) (final q')) s)
    ∙ ap (λ (x : Level). onto (cells p' ++ cells q') (pass ts ms c x s)) (passed_twice l (empty p) (final p) (final p') (empty q) (final q) (final q')))

alt_law : (p q : Re) (d : ℕ) → Seq-law p d → Alt-law q d → Alt-law (alt p q) d
alt_law p q d hp hq i a n f x s b o ts m ms c =
    let p' : Re = shift i p c in
    let q' : Re = shift i q c in
    let z : Bool = (f || final p') || final q' in
    let lq : Level = closed x (behind i (a || ((i && empty p) || final p)) (n || empty p) (f || final p') q c) o in
    let e1 : lq ≡ closed x (behind i a n f (alt p q) c) o =
    rw (branches a i (empty p) (final p) (empty q) (final q), or_assoc n (empty p) (empty q), or_assoc f (final p') (final q')) in
    rw (append_assoc (tokens p) (bar ∷ tokens q) (closes o ∷ ts), append_assoc (cells p) (false ∷ cells q) (m ∷ ms))
    (hp (begun i a n f) (x ∷ s) b (bar ∷ (tokens q ++ (closes o ∷ ts))) (false ∷ (cells q ++ (m ∷ ms))) c
    ∙ ap (λ (y : Left). onto (cells p') (onto (false ∷ []) y)) (hq i (a || ((i && empty p) || final p)) (n || empty p) (f || final p') x s b o ts m ms c)
    ∙ ap (onto (cells p')) (onto_onto (false ∷ []) (cells q' ++ (z ∷ [])) (pass ts ms c lq s))
    ∙ onto_onto (cells p') (false ∷ (cells q' ++ (z ∷ []))) (pass ts ms c lq s)
    ∙ ap (λ (y : List Bool). onto y (pass ts ms c lq s)) (sym (append_assoc (cells p') (false ∷ cells q') (z ∷ [])))
    ∙ ap (λ (y : Bool). onto ((cells p' ++ (false ∷ cells q')) ++ (y ∷ [])) (pass ts ms c lq s)) (or_assoc f (final p') (final q'))
    ∙ ap (λ (y : Level). onto ((cells p' ++ (false ∷ cells q')) ++ ((f || (final p' || final q')) ∷ [])) (pass ts ms c y s)) e1)

both : (t : Re) (d : ℕ) → (Flat t d → Seq-law t d) × (Alts t d → Alt-law t d)
both (leaf f r o m) d =
    let h : Seq-law (leaf f r o m) d = λ l s b ts ms c. refl in
    (λ k. h, λ k. seq_alt (leaf f r o m) d h)
both (group r o t) zero = (λ k. absurd k, λ k. absurd k)
both (group r o t) (suc d) = let ih = both t d in (λ k. group_law r o t d (ih.1 k), λ k. seq_alt (group r o t) (suc d) (group_law r o t d (ih.1 k)))
both nil d =
    let h : Seq-law nil d = λ l s b ts ms c. rw (passed_none l) (sym (onto_nil (pass ts ms c l s))) in
    (λ k. h, λ k. seq_alt nil d h)
both (seq p q) d =
    let ip = both p d in
    let iq = both q d in
    (λ k. two_law p q d (ip.0 k.0) (iq.0 k.1), λ k. seq_alt (seq p q) d (two_law p q d (ip.0 k.0) (iq.0 k.1)))
both (alt p q) d =
    let ip = both p d in
    let iq = both q d in
    (λ k. absurd k, λ k. alt_law p q d (ip.0 k.0) (iq.1 k.1))

pub passes : Passes
passes t d f = (both t d).0 f
