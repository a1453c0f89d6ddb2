use mathlib.Core.Path.{◌≡◌, refl}
use mathlib.Core.Bool.{Bool, true, false, ◌&&◌}
use mathlib.Core.List.{List}
use Prim.Native.Nat.{ℕ, ◌+◌}
use native.Mathlib.Omega.{arith}
use lib.Dec.{eqb}
use lib.ListN.{length, get_or, take}
use lib.Seq.{take_all}
use borrow.Author.Tests.{eqb-true, eq-eqb}
use Rattle.std.specs.List.{All}
use Rattle.std.proofs.lemmas.List.Elements.{All-nil, All-more, All-get_or}
use Rattle.cases.proofs.kept.Goals as goal

both : (a b : Bool) → (a && b) ≡ true → (a ≡ true) × (b ≡ true)
both true b e = (refl, e)
both false b e = let z : ◌≡◌ {A = ℕ} 0 1 = cc in absurd (omega arith)

-- a byte more
seen : (all : Bool) (s : List ℕ) (i : ℕ) → Prim.Native.Nat.◌<◌ i (length s) → (all ≡ true → All (λ b. b ≡ 165) (take i s)) → (all && eqb (get_or s i 0) 165) ≡ true → All (λ b. b ≡ 165) (take (i + 1) s)
seen all s i h f e =
    let p = both all (eqb (get_or s i 0) 165) e in
    All-more (λ b. b ≡ 165) s i 0 h (f p.0) (eqb-true (get_or s i 0) 165 p.1)

pub loop-b-preserved : goal.loop-b-preserved
loop-b-preserved c =
    let l = c.loop-b in
    let s = c.args.rest.now in
    let i = l.b-index in (
      λ e. seen l.all s i (omega arith) l.invariant.0 e,
      λ a. rw (l.invariant.1 a, eq-eqb (get_or s i 0) 165 (All-get_or (λ b. b ≡ 165) s i 0 (omega arith) a)),
    )

pub returns : goal.returns
returns c =
    let l = c.loop-b in
    let z = take_all l.b-index c.args.rest.now (omega arith) in
    (rw z at l.invariant.0, l.invariant.1)
