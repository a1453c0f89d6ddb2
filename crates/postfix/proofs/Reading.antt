-- What the number of a result tells. Assumes nothing.
use Prim.Native.Nat.{ℕ, ◌+◌, ◌*◌, ◌/◌, ◌%◌, ◌<◌, ◌≤◌}
use native.Mathlib.Omega.{arith}
use mathlib.Core.Path.{◌≡◌, refl}
use mathlib.Core.Bool.{Bool, true, false}
use lib.Dec.{eqb}
use Rattle.grammar.specs.Tree.{Tree, Trees}
use Rattle.grammar.specs.Size.{count_of, depth_of, depth_in}
use Rattle.grammar.specs.Judge.{Form, Name, Text, FoldCase, Other, form_of, first_of, later_texts, forms_right, forms_in, is_logic, kinds_right, kinds_in}
use Rattle.postfix.specs.Packed.{packed, next_in, end_in, known_in, bit, form_number, counted_to, know, logic_bit, forms_bit, kinds_bit, form_bits, broken_bit, depth_bits, count_bits, broken, broken_at, known_of, args_known}

bit_small : (b : Bool) → bit b ≤ 1
bit_small true = omega arith
bit_small false = omega arith

bit_is : (b : Bool) → eqb (bit b) 1 ≡ b
bit_is true = refl
bit_is false = refl

pub form_small : (f : Form) → form_number f < 4
form_small Name = omega arith
form_small Text = omega arith
form_small FoldCase = omega arith
form_small Other = omega arith

low_bit : (n b q : ℕ) → b ≤ 1 → n ≡ b + 2 * q → n % 2 ≡ b
low_bit n b q h e = omega arith

low_two : (n b q : ℕ) → b < 4 → n ≡ b + 4 * q → n % 4 ≡ b
low_two n b q h e = omega arith

low_word : (n b q : ℕ) → b < 65536 → n ≡ b + 65536 * q → n % 65536 ≡ b
low_word n b q h e = omega arith

low_six : (n : ℕ) → n < 64 → n % 64 ≡ n
low_six n h = omega arith

-- ---- the parts of what is known

pub record View (f : ℕ) (logic forms kinds : Bool) (form depth count : ℕ) : Type 0 where
  pub logic_is : logic_bit f ≡ logic
  pub forms_is : forms_bit f ≡ forms
  pub kinds_is : kinds_bit f ≡ kinds
  pub form_is : form_bits f ≡ form
  pub depth_is : depth_bits f ≡ depth
  pub count_is : count_bits f ≡ count
  pub whole : broken_bit f ≡ false

view : (f : ℕ) (a b d : Bool) (g p n : ℕ) → g < 4 → p < 64 → n < 65536 → f ≡ know a b d g p + 256 * n → View f a b d g p n
view f a b d g p n hg hp hn e =
    let sa = bit_small a in
    let sb = bit_small b in
    let sd = bit_small d in
    let l : f % 2 ≡ bit a = low_bit f (bit a) (bit b + 2 * bit d + 4 * g + 8388608 * p + 128 * n) sa (omega (arith, e)) in
    let f2 : f / 2 ≡ bit b + 2 * bit d + 4 * g + 8388608 * p + 128 * n = omega (arith, sa, sb, sd, e) in
    let m : f / 2 % 2 ≡ bit b = low_bit (f / 2) (bit b) (bit d + 2 * g + 4194304 * p + 64 * n) sb (omega (arith, f2)) in
    let f4 : f / 4 ≡ bit d + 2 * g + 4194304 * p + 64 * n = omega (arith, sa, sb, sd, e) in
    let k : f / 4 % 2 ≡ bit d = low_bit (f / 4) (bit d) (g + 2097152 * p + 32 * n) sd (omega (arith, f4)) in
    let f8 : f / 8 ≡ g + 2097152 * p + 32 * n = omega (arith, sa, sb, sd, e) in
    let w : f / 128 ≡ 131072 * p + 2 * n = omega (arith, sa, sb, sd, e, hg) in
    let z : f / 128 % 2 ≡ 0 = low_bit (f / 128) 0 (65536 * p + n) (omega arith) (omega (arith, w)) in
    let x : f / 256 ≡ n + 65536 * p = omega (arith, sa, sb, sd, e, hg) in
    let y : f / 16777216 ≡ p = omega (arith, sa, sb, sd, e, hg, hn) in
    record {
      logic_is = rw l (bit_is a);
      forms_is = rw m (bit_is b);
      kinds_is = rw k (bit_is d);
      form_is = low_two (f / 8) g (524288 * p + 8 * n) hg (omega (arith, f8));
      depth_is = rw y (low_six p hp);
      count_is = low_word (f / 256) n p hn x;
      whole = rw z;
    }

counted_small : (n : ℕ) → counted_to n < 64
counted_small n = omega arith

pub view_tree : (t : Tree) → View (known_of t) (is_logic t) (forms_right t) (kinds_right t) (form_number (form_of t)) (counted_to (depth_of t)) 0
view_tree t = view (known_of t) _ _ _ _ (counted_to (depth_of t)) 0 (form_small (form_of t)) (counted_small (depth_of t)) (omega arith) (omega arith)

pub view_args : (ts : Trees) → count_of ts < 65536 → View (args_known ts) (later_texts ts) (forms_in ts) (kinds_in ts) (form_number (first_of ts)) (counted_to (depth_in ts)) (count_of ts)
view_args ts h = view (args_known ts) _ _ _ _ (counted_to (depth_in ts)) (count_of ts) (form_small (first_of ts)) (counted_small (depth_in ts)) h refl

-- ---- the parts of a number

pub record Parts (x next end known : ℕ) : Type 0 where
  pub next_is : next_in x ≡ next
  pub end_is : end_in x ≡ end
  pub known_is : known_in x ≡ known

pub parts : {x n e f : ℕ} → x ≡ packed n e f → n < 65536 → e < 65536 → Parts x n e f
parts {x} {n} {e} {f} q hn he = record { next_is = omega (arith, q, hn, he); end_is = omega (arith, q, hn, he); known_is = omega (arith, q, hn, he) }

pub broken_is : {x p : ℕ} → x ≡ broken_at p → p < 65536 → broken x ≡ true
broken_is {x} {p} q h = rw (parts {x = x} {n = p} {e = 0} {f = 128} q h (omega arith)).known_is

pub whole_is : {x n e f : ℕ} → Parts x n e f → broken_bit f ≡ false → broken x ≡ false
whole_is p w = rw p.known_is w
