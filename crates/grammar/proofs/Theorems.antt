-- The theorems that specs/Theorems.antt states. Assumes nothing.
use Prim.Native.Nat.{ℕ, ◌<◌, ◌≤◌}
use native.Mathlib.Omega.{arith}
use native.Mathlib.Decide.{dec_lt}
use mathlib.Core.Path.{◌≡◌, refl, sym, ap, ◌∙◌}
use mathlib.Core.List.{List, ◌++◌, append_assoc}
use lib.ListN.{length, take, length-append, get_or-append}
use lib.Seq.{slice, take-length, length-take-le, get_or-take}
use Rattle.lexer.specs.Token.{Token}
use Rattle.grammar.specs.Parse.{Result, ok, bad, ended, token_at, parse_all}
use Rattle.grammar.specs.Place.{Completes, Breaks}
use Rattle.grammar.specs.Theorems.{Parses, Unique, NamesPlace, JustEnds}
use Rattle.grammar.proofs.Sound.{slice_join, sound, named}
use Rattle.grammar.proofs.Complete.{complete, unambiguous}
use Rattle.grammar.proofs.First.{first_bad}

pub parses : Parses
parses ks t = (sound ks t (length ks), complete ks t)

pub unique : Unique
unique ks t u a b = unambiguous ks t u a b

shorter : (ks : List Token) (n p : ℕ) → n ≤ p → p ≤ length ks → Completes (take p ks) → Completes (take n ks)
shorter ks n p a b (ys, t, d) = (slice n p ks ++ ys, t, rw (← (append_assoc (take n ks) (slice n p ks) ys), slice_join 0 n p ks (omega arith) a b) d)

alike : (ks ys : List Token) (p n : ℕ) → p < n → n ≤ length ks → (j : ℕ) → j ≤ p → token_at ks j ≡ token_at (take n ks ++ ys) j
alike ks ys p n lt le j h =
    let size = length-take-le n ks le in
    sym (get_or-append (take n ks) ys ended j (omega arith) ∙ get_or-take n ks j ended (omega arith))

breaks : (ks : List Token) (p : ℕ) → parse_all ks ≡ bad p → Breaks ks p
breaks ks p e =
    let o = named ks p e (omega arith) in
    record {
      within = o.1;
      before = λ n h. shorter ks n p h o.1 (o.2, o.3, o.4);
      beyond = λ n lt le (ys, t, d). let size = length-take-le n ks le in first_bad ks (take n ks ++ ys) p e (alike ks ys p n lt le) (rw length-append (omega arith)) t d;
      not_whole = λ t d. let y = complete ks t d in let z : ◌≡◌ {A = ℕ} 0 1 = cc in omega arith;
    }

-- there is one such token
only_one : (ks : List Token) (p q : ℕ) → Breaks ks p → Breaks ks q → p ≤ q
only_one ks p q a b = go (dec_lt q p)
  where
    go : Dec (q < p) → p ≤ q
    go (yes lt) = absurd (b.beyond p lt a.within (a.before p (omega arith)))
    go (no ge) = omega arith

exactly : (ks : List Token) (p : ℕ) → Breaks ks p → parse_all ks ≡ bad p
exactly ks p b = go (parse_all ks) refl
  where
    go : (x : Result) → parse_all ks ≡ x → parse_all ks ≡ bad p
    go (ok t n) e = absurd (b.not_whole t (sound ks t n e))
    go (bad q) e =
        let c = breaks ks q e in
        let same : q ≡ p = omega (arith, only_one ks p q b c, only_one ks q p c b) in
        e ∙ ap bad same

pub names_place : NamesPlace
names_place ks p = (breaks ks p, exactly ks p)

pub just_ends : JustEnds
just_ends ks e =
    let b = breaks ks (length ks) e in
    (b.before, rw (take-length ks) at (b.before (length ks) (omega arith)), b.not_whole)
