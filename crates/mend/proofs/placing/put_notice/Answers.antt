-- `put_notice` meets its contract: header and fields are the notice's bytes. Assumes nothing.
use mathlib.Core.Path.{◌≡◌, sym, ap, ap₂, ◌∙◌}
use mathlib.Core.List.{List, ◌++◌}
use Prim.Native.Nat.{ℕ, ◌+◌, ◌-◌}
use native.Mathlib.Omega.{arith}
use lib.ListN.{length}
use lib.Seq.{sets}
use Rattle.word.specs.Word.{word_bytes}
use Rattle.notice.specs.Render.{fields_bytes}
use Rattle.notice.proofs.Renders.{length_render}
use Rattle.mend.specs.Mend.{onto}
use Rattle.mend.specs.Order.{fields_in}
use Rattle.mend.proofs.Orders.{order_length}
use Rattle.mend.proofs.Stores.{header_stored}
use Rattle.mend.proofs.placing.put_notice.Goals as goal

pub overflow_sub-size : goal.overflow_sub-size
overflow_sub-size c = let a = c.args in omega (arith, c.requires.1, length_render (fields_in a.bytes.now a.order.now a.n))

pub write_u32-requires : goal.write_u32-requires
write_u32-requires c =
    let a = c.args in omega (arith, c.requires.1, c.requires.2, length_render (fields_in a.bytes.now a.order.now a.n))

pub write_u16-requires : goal.write_u16-requires
write_u16-requires c =
    let a = c.args in omega (arith, c.requires.1, c.requires.2, length_render (fields_in a.bytes.now a.order.now a.n), c.write_u32.auto.d)

pub write_u16-requires-2 : goal.write_u16-requires-2
write_u16-requires-2 c =
    let a = c.args in omega (arith, c.requires.1, c.requires.2, length_render (fields_in a.bytes.now a.order.now a.n), c.write_u32.auto.d, c.write_u16.auto.d)

pub put_fields-requires : goal.put_fields-requires
put_fields-requires c =
    let a = c.args in (c.requires.0, omega (arith, c.requires.1, c.requires.2, length_render (fields_in a.bytes.now a.order.now a.n), c.write_u32.auto.d, c.write_u16.auto.d, c.write_u16-2.auto.d))

pub returns : goal.returns
returns c =
    let a = c.args in
    let p = c.requires in
    let fs = fields_in a.bytes.now a.order.now a.n in
    let body = fields_bytes fs in
    let l = length_render fs in
    let n : a.size - 4 ≡ 4 + length body = omega (arith, p.1) in
    let m : a.n ≡ length fs = sym (order_length a.bytes.now a.order.now a.n p.0) in
    (c.put_fields.ensures
    ∙ ap (λ (t : List ℕ). sets t 8 body) (c.write_u16-2.ensures
    ∙ ap (λ (t : List ℕ). sets t 6 (word_bytes 2 a.n)) (c.write_u16.ensures
    ∙ ap (λ (t : List ℕ). sets t 4 (word_bytes 2 1)) c.write_u32.ensures)))
    ∙ (header_stored a.notice.now body (a.size - 4) a.n (omega (arith, p.1, p.2))
    ∙ ap₂ (λ (x y : ℕ). onto ((word_bytes 4 x ++ (word_bytes 2 1 ++ word_bytes 2 y)) ++ body) a.notice.now) n m)
