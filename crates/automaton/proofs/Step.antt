-- Turns of the pass's loop. Assumes nothing.
use mathlib.Core.Path.{◌≡◌, refl, ap}
use mathlib.Core.Bool.{Bool, true, false, cond, ◌&&◌, ◌||◌}
use mathlib.Core.List.{List, [], ◌∷◌, append-nil}
use Prim.Native.Nat.{ℕ, zero, suc, ◌+◌, ◌-◌, ◌≤◌, ◌<◌}
use native.Mathlib.Numerals.{add-one}
use native.Mathlib.Omega.{arith}
use lib.ListN.{length, get_or, set, take, drop, drop_of_length-le}
use lib.Seq.{drop-cons, get_or-set_same, get_or-set_other, get_or-drop, take-suc-set, drop-set-lt, take_all}
use lib.Dec.{ltb, eqb}
use borrow.Author.Tests.{le-ltb, ne_eqb}
use Rattle.automaton.specs.Pass.{Token, started, passed, Left, left, onto, push, top, rest, pass, stack_of, depth_by, up_of}
use Rattle.automaton.specs.Table.{repeats, absent, sort, hits, token_by, tokens_of, mark_by, level_by, outside, held_of}
use Rattle.pattern.specs.Steps.{turned, test_at}
use Rattle.automaton.specs.declared.Level.{Level}
use Rattle.automaton.proofs.Pass.{onto_onto}

pub up_suc : (d : ℕ) (x : Level) → (d ≡ 0 → ⊥) → x ≡ up_of d x
up_suc zero x h = absurd (h refl)
up_suc (suc d) x h = refl

-- the levels in an array
pub stack_length : (xs : List Level) (d : ℕ) → length (stack_of xs d) ≡ d
stack_length xs zero = refl
stack_length xs (suc d) = ap suc (stack_length xs d)

pub stack_keep : (xs : List Level) (i : ℕ) (x : Level) (d : ℕ) → d ≤ i → stack_of (set xs i x) d ≡ stack_of xs d
stack_keep xs i x zero h = refl
stack_keep xs i x (suc d) h =
    let e : get_or (set xs i x) d (started false) ≡ get_or xs d (started false) = get_or-set_other xs i d x (started false) (λ e. omega arith) in
    cc (e, stack_keep xs i x d (omega arith))

-- a group's level goes onto the stack; it comes off again
push_stack : (xs : List Level) (d : ℕ) (l : Level) → d < length xs → stack_of (set xs d l) (cond (ltb d 8) (d + 1) d) ≡ push l (stack_of xs d)
push_stack xs d l h = go (ltb d 8) refl
  where
    go : (b : Bool) → ltb d 8 ≡ b → stack_of (set xs d l) (cond (ltb d 8) (d + 1) d) ≡ push l (stack_of xs d)
    go true e = rw (stack_length xs d, e, add-one, get_or-set_same xs d l (started false) h, stack_keep xs d l d (omega arith))
    go false e = rw (stack_length xs d, e, stack_keep xs d l d (omega arith))

rest_stack : (xs : List Level) (d : ℕ) (l : Level) → stack_of (set xs d l) (d - 1) ≡ rest (stack_of xs d)
rest_stack xs zero l = refl
rest_stack xs (suc d) l = let e : suc d - 1 ≡ d = omega arith in rw (e, stack_keep xs (suc d) l d (omega arith))

top_stack : (xs : List Level) (d : ℕ) → up_of d (get_or xs (d - 1) (started false)) ≡ top (stack_of xs d)
top_stack xs zero = refl
top_stack xs (suc d) = let e : suc d - 1 ≡ d = omega arith in rw e

-- one token
step : (x y z : Bool) (f : ℕ → Bool) (r o : Bool) (a : ℕ) (ts : List Token) (m : Bool) (ms : List Bool) (c : ℕ) (l : Level) (xs : List Level) (d : ℕ) → d < length xs →
    pass (token_by x y z f r o a ∷ ts) (m ∷ ms) c l (stack_of xs d)
    ≡ onto (mark_by x y z (f c && (l.cur || (r && m))) m l ∷ [])
    (pass ts ms c (level_by x y z (l.cur || (r && get_or ms a false)) o m (f c && (l.cur || (r && m))) (up_of d (get_or xs (d - 1) (started false))) l) (stack_of (set xs d l) (depth_by x y z d)))
step true y z f r o a ts m ms c l xs d h = rw (push_stack xs d l h)
step false true z f r o a ts m ms c l xs d h = rw (stack_keep xs d l d (omega arith))
step false false true f r o a ts m ms c l xs d h = rw (top_stack xs d, rest_stack xs d l)
step false false false f r o a ts m ms c l xs d h = rw (stack_keep xs d l d (omega arith))

-- what is left to pass at place i, behind what was passed
abbrev pub going : List ℕ → List ℕ → List ℕ → List Bool → ℕ → Level → List Level → ℕ → ℕ → Left
going text ks xs ms c l st d i = onto (take i ms) (pass (tokens_of text (drop i ks) (drop i xs)) (drop i ms) c l (stack_of st d))

module _ (text ks as' : List ℕ) (ms : List Bool) (c : ℕ) (l : Level) (xs : List Level) (d i : ℕ) where
  abbrev kind : ℕ
  kind = get_or ks i 0

  abbrev arg : ℕ
  arg = get_or as' i 0

  abbrev was : Bool
  was = get_or ms i false

  abbrev hit : Bool
  hit = hits text kind arg c && (l.cur || (repeats kind && was))

  abbrev enter : Bool
  enter = l.cur || (repeats kind && get_or ms (i + 1 + arg) false)

  abbrev left_mark : Bool
  left_mark = mark_by (eqb (sort kind) 3) (eqb (sort kind) 4) (eqb (sort kind) 5) hit was l

  abbrev next : Level
  next = level_by (eqb (sort kind) 3) (eqb (sort kind) 4) (eqb (sort kind) 5) enter (absent kind) was hit (up_of d (get_or xs (d - 1) (started false))) l

  abbrev deep : ℕ
  deep = depth_by (eqb (sort kind) 3) (eqb (sort kind) 4) (eqb (sort kind) 5) d

  pub turn : i < length ks → length as' ≡ length ks → length ms ≡ length ks → d < length xs
      → going text ks as' (set ms i left_mark) c next (set xs d l) deep (i + 1) ≡ going text ks as' ms c l xs d i
  turn h ha hm hd =
      let pa : i < length as' = omega arith in
      let pm : i < length ms = omega arith in
      let ff : get_or (drop (suc i) ms) arg false ≡ get_or ms (suc i + arg) false = get_or-drop (suc i) ms arg false in
      let st = step (eqb (sort kind) 3) (eqb (sort kind) 4) (eqb (sort kind) 5) (hits text kind arg) (repeats kind) (absent kind) arg (tokens_of text (drop (suc i) ks) (drop (suc i) as')) was (drop (suc i) ms) c l xs d hd in
      rw (add-one i, drop-cons ks i 0 h, drop-cons as' i 0 pa, drop-cons ms i false pm, take-suc-set ms i left_mark pm, drop-set-lt (suc i) ms i left_mark (omega arith), st, ff, onto_onto)

-- the default of a read inside does not matter
pub get_d_any : {A : Type 0} (l : List A) (i : ℕ) (a b : A) → i < length l → get_or l i a ≡ get_or l i b
get_d_any [] i a b h = absurd (omega arith)
get_d_any (x ∷ l) zero a b h = refl
get_d_any (x ∷ l) (suc i) a b h = get_d_any l i a b (omega arith)

-- the answers of `hits`
module _ (text : List ℕ) (k a c : ℕ) where
  pub hits_set : sort k ≤ 2 → (sort k ≡ 0 → ⊥) → (sort k ≡ 1 → ⊥) → turned (outside k) (held_of (test_at a (drop a text) c)) ≡ hits text k a c
  hits_set l e f = rw (le-ltb 2 (sort k) l, ne_eqb (sort k) 0 e, ne_eqb (sort k) 1 f)

-- the same with what the calls answered
pub turn_on : (text ks as' : List ℕ) (ms : List Bool) (c : ℕ) (l : Level) (xs : List Level) (d i : ℕ)
    → i < length ks → length as' ≡ length ks → length ms ≡ length ks → d < length xs
    → (s w u dp : ℕ) (r f ht mk ab : Bool) (e pv nx : Level)
    → w ≡ get_or as' i 0
    → s ≡ sort (get_or ks i 0)
    → r ≡ repeats (get_or ks i 0)
    → f ≡ get_or ms (i + 1 + w) false
    → ht ≡ (hits text (get_or ks i 0) w c && (l.cur || (r && get_or ms i false)))
    → u ≡ d - 1
    → e ≡ get_or xs u (started false)
    → pv ≡ up_of d e
    → mk ≡ mark_by (eqb s 3) (eqb s 4) (eqb s 5) ht (get_or ms i false) l
    → ab ≡ absent (get_or ks i 0)
    → nx ≡ level_by (eqb s 3) (eqb s 4) (eqb s 5) (l.cur || (r && f)) ab (get_or ms i false) ht pv l
    → dp ≡ depth_by (eqb s 3) (eqb s 4) (eqb s 5) d
    → going text ks as' (set ms i mk) c nx (set xs d l) dp (i + 1) ≡ going text ks as' ms c l xs d i
turn_on text ks as' ms c l xs d i h ha hm hd s w u dp r f ht mk ab e pv nx ew es er ef eh eu ee ep em ea en ed =
    rw (ed, en, em, ea, ep, ee, eu, eh, ef, er, ew, es) (turn text ks as' ms c l xs d i h ha hm hd)

-- a set, which leaves the stack as it is
pub set_turn : (text ks as' : List ℕ) (ms : List Bool) (c : ℕ) (l : Level) (xs : List Level) (d i : ℕ)
    → i < length ks → length as' ≡ length ks → length ms ≡ length ks → d < length xs
    → (s w : ℕ) (r ht ab : Bool) (nx : Level)
    → w ≡ get_or as' i 0
    → s ≡ sort (get_or ks i 0)
    → r ≡ repeats (get_or ks i 0)
    → ht ≡ (hits text (get_or ks i 0) w c && (l.cur || (r && get_or ms i false)))
    → ab ≡ absent (get_or ks i 0)
    → nx ≡ passed l ab (get_or ms i false) ht
    → s < 3
    → going text ks as' (set ms i ht) c nx xs d (i + 1) ≡ going text ks as' ms c l xs d i
set_turn text ks as' ms c l xs d i h ha hm hd s w r ht ab nx ew es er eh ea en hs =
    let k = get_or ks i 0 in
    let h3 : eqb (sort k) 3 ≡ false = ne_eqb (sort k) 3 (λ z. omega arith) in
    let h4 : eqb (sort k) 4 ≡ false = ne_eqb (sort k) 4 (λ z. omega arith) in
    let h5 : eqb (sort k) 5 ≡ false = ne_eqb (sort k) 5 (λ z. omega arith) in
    let t = turn text ks as' ms c l xs d i h ha hm hd in
    rw (en, ea, eh, er, ew) (rw (h3, h4, h5, stack_keep xs d l d (omega arith)) at t)

-- the end of the loop
pub all_passed : (text ks as' : List ℕ) (ms : List Bool) (c : ℕ) (l : Level) (xs : List Level) (d i : ℕ) → length ks ≤ i → length ms ≡ length ks → going text ks as' ms c l xs d i ≡ left ms l
all_passed text ks as' ms c l xs d i h e =
    let p : length ms ≤ i = omega arith in
    rw (drop_of_length-le ks h, take_all i ms p) (ap (λ (y : List Bool). left y l) (append-nil ms))
