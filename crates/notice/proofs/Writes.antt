-- What writing answers, case by case, and the bytes that it leaves. Assumes nothing.
use Rattle.std.specs.Prelude.{Ok}
use Rattle.std.proofs.Common.{◌≡◌, ℕ, ◌+◌, ◌≤◌, List, length, take, le-leb}
use Rattle.notice.specs.Field.{Field}
use Rattle.notice.specs.Layout.{check_of}
use Rattle.notice.specs.Write.{field_size, layout_in, refusal_in, refusal_of, inserted_bytes, WriteIs}

module _ (b : List ℕ) (len : ℕ) (f : Field) where
  module _ (p : len ≤ length b) where
    module _ (e : check_of (take len b) ≡ Ok tt) where
      pub added : refusal_in (take len b) (length b) f ≡ 0 → WriteIs b len f (record { number = 0; place = 0; len = len + field_size f }) (inserted_bytes b len f)
      added q =
          let k : refusal_of b len f ≡ 0 = rw (le-leb len (length b) p, e) q in
          let l : layout_in b len ≡ Ok tt = rw (le-leb len (length b) p, e) in
          (rw (k, l), rw k)
