-- Turns of the pass over a large table without groups. Assumes nothing.
use mathlib.Core.Path.{◌≡◌, refl, sym, ap, ◌∙◌}
use mathlib.Core.Bool.{Bool, true, false, not, cond, ◌&&◌, ◌||◌}
use mathlib.Core.List.{List, [], ◌∷◌, ◌++◌, map}
use Prim.Native.Nat.{ℕ, suc, ◌+◌, ◌-◌, ◌≤◌, ◌<◌}
use native.Mathlib.Omega.{arith}
use lib.ListN.{get_or-eq_default, length, get_or, set, take, drop, replicate, length-drop, take-append-drop}
use lib.Seq.{get_or-drop, get_or-set_same, get_or-set_other}
use lib.Dec.{eqb, leb, ltb}
use borrow.Author.Tests.{leb-true, ltb-true, ltb-false, eqb-true, eqb-false, not-true}
use Rattle.octets.proofs.Theorems.{and_parts}
use Rattle.automaton.specs.Pass.{Token, started, left, Left, onto, pass}
use Rattle.automaton.specs.Table.{repeats, absent, sort, hits, tokens_of}
use Rattle.automaton.specs.Decide.{walk_on, decide}
use Rattle.automaton.specs.Word.{plain, optional, Reaches}
use Rattle.automaton.specs.declared.Level.{Level}
use Rattle.automaton.specs.declared.Reach.{Reach}
use Rattle.automaton.proofs.Pass.{onto_nil}
use Rattle.automaton.proofs.Step.{going, set_turn, all_passed}
use Rattle.automaton.proofs.Value.{onward, ran}
use Rattle.automaton.proofs.Word.{lev, quiet, plain_at, plain_drop, neither}

-- ---- cells without marks

unmarked : (ms : List Bool) → ((j : ℕ) → get_or ms j false ≡ false) → ms ≡ replicate (length ms) false
unmarked [] h = refl
unmarked (m ∷ ms) h =
    let e : m ≡ false = h 0 in
    rw e (ap (λ (l : List Bool). false ∷ l) (unmarked ms (λ j. h (suc j))))

-- from place i on no mark that stood before, up to place i none above the highest
abbrev pub Above : List Bool → ℕ → ℕ → Type 0
Above ms top i = (j : ℕ) → i ≤ j → top ≤ j → get_or ms j false ≡ false

abbrev pub Below : List Bool → ℕ → ℕ → Type 0
Below ms high i = (j : ℕ) → high ≤ j → j < i → get_or ms j false ≡ false

below_of : (j i : ℕ) → (j ≡ i → ⊥) → j < i + 1 → j < i
below_of j i g q = omega arith

module _ (ms : List Bool) (i : ℕ) (hit : Bool) where
  pub above_on : (top : ℕ) → Above ms top i → Above (set ms i hit) top (i + 1)
  above_on top h j p q = get_or-set_other ms i j hit false (λ e. omega arith) ∙ h j (omega arith) q

  pub below_on : (high h2 : ℕ) → i < length ms → Below ms high i → h2 ≡ cond hit (i + 1) high → Below (set ms i hit) h2 (i + 1)
  below_on high h2 hi h e j p q = go hit refl (eqb j i) refl
    where
      go : (t : Bool) → hit ≡ t → (b : Bool) → eqb j i ≡ b → get_or (set ms i hit) j false ≡ false
      go true t b f = let z : h2 ≡ i + 1 = rw t at e in absurd (omega arith)
      go false t true f = let g = eqb-true j i f in rw g (get_or-set_same ms i hit false hi ∙ t)
      go false t false f =
          let z : h2 ≡ high = rw t at e in
          let g = eqb-false j i f in
          get_or-set_other ms i j hit false g ∙ h j (omega arith) (below_of j i g q)

-- ---- the pass

abbrev pub goes : List ℕ → List ℕ → List ℕ → List Bool → ℕ → Level → ℕ → Left
goes text ks xs ms c l i = going text ks xs ms c l (started false ∷ []) 0 i

module _ (text ks xs : List ℕ) (c : ℕ) where
  pub goes_start : (ms : List Bool) (k : Bool) → goes text ks xs ms c (lev k k true false) 0 ≡ pass (tokens_of text ks xs) ms c (started k) []
  goes_start ms k = onto_nil _

  pub goes_turn : plain ks ≡ true → length xs ≡ length ks → (ms : List Bool) → length ms ≡ length ks → (i : ℕ) (k cur e fin : Bool) → i < length ks
      → (a : ℕ) (r o hit : Bool) → a ≡ get_or xs i 0 → r ≡ repeats (get_or ks i 0) → o ≡ absent (get_or ks i 0)
      → hit ≡ (hits text (get_or ks i 0) a c && (cur || (r && get_or ms i false)))
      → goes text ks xs (set ms i hit) c (lev k ((cur && o) || get_or ms i false) (e && o) ((fin && o) || hit)) (i + 1) ≡ goes text ks xs ms c (lev k cur e fin) i
  goes_turn p lx ms lm i k cur e fin h a r o hit ea er eo eh =
      set_turn text ks xs ms c (lev k cur e fin) (started false ∷ []) 0 i h lx lm (omega arith) (sort (get_or ks i 0)) a r hit o (lev k ((cur && o) || get_or ms i false) (e && o) ((fin && o) || hit)) ea refl er eh eo refl (plain_at ks i p h)

  goes_quiet : plain ks ≡ true → length xs ≡ length ks → (ms : List Bool) → length ms ≡ length ks → (top i : ℕ) (k e : Bool) → Above ms top i → top ≤ i
      → goes text ks xs ms c (lev k false e false) i ≡ left ms (lev k false (e && optional (drop i ks)) false)
  goes_quiet p lx ms lm top i k e ab ht =
      let ex : length (drop i xs) ≡ length (drop i ks) = length-drop i xs ∙ ap (λ (n : ℕ). n - i) lx ∙ sym (length-drop i ks) in
      let em : length (drop i ms) ≡ length (drop i ks) = length-drop i ms ∙ ap (λ (n : ℕ). n - i) lm ∙ sym (length-drop i ks) in
      let d : drop i ms ≡ replicate (length (drop i ks)) false = unmarked (drop i ms) (λ j. get_or-drop i ms j false ∙ ab (i + j) (omega arith) (omega arith)) ∙ ap (λ (n : ℕ). replicate n false) em in
      ap (λ (z : List Bool). onto (take i ms) (pass (tokens_of text (drop i ks) (drop i xs)) z c (lev k false e false) [])) d
      ∙ ap (λ (z : Left). onto (take i ms) z) (quiet text c (drop i ks) (drop i xs) (plain_drop ks i p) ex k e false)
      ∙ ap (λ (z : List Bool). left z (lev k false (e && optional (drop i ks)) false)) (ap (λ (z : List Bool). take i ms ++ z) (sym d) ∙ take-append-drop i ms)

  module _ (k : Bool) (ms₀ ms : List Bool) (lm : length ms ≡ length ks) (top high i : ℕ) (cur e fin : Bool) (inv : goes text ks xs ms c (lev k cur e fin) i ≡ pass (tokens_of text ks xs) ms₀ c (started k) []) (ab : Above ms top i) (be : Below ms high i) where
    pub reach_quiet : plain ks ≡ true → length xs ≡ length ks → (not (cur || fin) && leb top i) ≡ true → Reaches (tokens_of text ks xs) ms₀ k c ms (record { top = high; fin = false })
    reach_quiet p lx t =
        let q = and_parts (not (cur || fin)) (leb top i) t in
        let ht = leb-true top i q.1 in
        let nf = neither cur fin (not-true (cur || fin) q.0) in
        ((lev k false (e && optional (drop i ks)) false, sym (rw (nf.0, nf.1) at inv) ∙ goes_quiet p lx ms lm top i k e ab ht, refl), λ j h. low j h (ltb j i) refl)
      where
        low : (j : ℕ) → high ≤ j → (b : Bool) → ltb j i ≡ b → get_or ms j false ≡ false
        low j h true g = be j h (ltb-true j i g)
        low j h false g = let z = ltb-false j i g in let u = leb-true top i (and_parts (not (cur || fin)) (leb top i) t).1 in ab j z (omega arith)

    pub reach_end : length ks ≤ i → Reaches (tokens_of text ks xs) ms₀ k c ms (record { top = high; fin = fin })
    reach_end h = ((lev k cur e fin, sym inv ∙ all_passed text ks xs ms c (lev k cur e fin) (started false ∷ []) 0 i h lm, refl), λ j g. low j g (ltb j i) refl)
      where
        low : (j : ℕ) → high ≤ j → (b : Bool) → ltb j i ≡ b → get_or ms j false ≡ false
        low j g true f = be j g (ltb-true j i f)
        low j g false f = let z = ltb-false j i f in get_or-eq_default ms false (let q : length ms ≤ j = omega arith in q)

-- ---- the value

module _ (ts : List Token) (sf ef e : Bool) (f : ℕ → ℕ) (v : List ℕ) (ms : List Bool) (fin k : Bool) (i : ℕ) where
  pub plain_on : i < length v → (ef && (fin || (k && e))) ≡ false → (b : ℕ) → b ≡ f (get_or v i 0) → (ns : List Bool) (r : Reach) → Reaches ts ms k b ns r
      → walk_on ts sf ef e ns r.fin sf (map f (drop (i + 1) v)) ≡ walk_on ts sf ef e ms fin k (map f (drop i v))
  plain_on h q b eb ns r d =
      ap (λ (t : Bool). walk_on ts sf ef e ns t sf (map f (drop (i + 1) v))) (sym d.0.2)
      ∙ onward ts sf ef e f v ms fin k i h q b eb ns d.0.0 d.0.1

-- nothing is marked at first
pub plain_first : (text ks xs : List ℕ) → plain ks ≡ true → length xs ≡ length ks → (sf ef e r : Bool) (ms : List Bool) (x : List ℕ) → e ≡ optional ks → ms ≡ replicate (length ks) false
    → r ≡ walk_on (tokens_of text ks xs) sf ef e ms false true x → r ≡ decide (tokens_of text ks xs) (length ks) sf ef x
plain_first text ks xs p lx sf ef e r ms x ee em h =
    ran (tokens_of text ks xs) (replicate (length ks) false) (replicate (length ks) false) (lev false false (optional ks) false) sf ef r x (quiet text 0 ks xs p lx false true false) (rw (ee, em) at h)
