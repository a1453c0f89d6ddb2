-- Fields in the order of their names: insertion keeps the order, and fields of different names may be inserted in any order. Assumes nothing.
use Rattle.std.proofs.Common.{◌≡◌, ℕ, suc, ◌+◌, Bool, true, false, cond, not, ◌&&◌, ◌||◌, List, [], ◌∷◌, ◌++◌, length, sym, refl, ap, ◌∙◌, ap₂, ⊎_elim, append_assoc, append-nil, arith, length-append}
use mathlib.Core.List.{Permᴰ}
use borrow.Author.Tests.{not-true}
use Rattle.common.proofs.Choice.{true_false}
use Rattle.octets.specs.Octets.{same_of, before_of}
use Rattle.octets.proofs.Theorems.{and_parts, same, before_irreflexive, before_transitive, before_total}
use Rattle.notice.specs.Field.{Field, field_right, all_right, before_first, rising}
use Rattle.notice.specs.Render.{field_bytes, fields_bytes}
use Rattle.notice.specs.Write.{field_size, has_name, insert_field}
use Rattle.notice.proofs.Fields.{length_field}

-- two names: one of three cases
pub same_symmetric : (s t : List ℕ) → same_of s t ≡ same_of t s
same_symmetric s t = go (same_of s t) (same_of t s) refl refl
  where
    go : (a b : Bool) → same_of s t ≡ a → same_of t s ≡ b → a ≡ b
    go true true p q = refl
    go false false p q = refl
    go true false p q = true_false (sym ((same t s).1 (sym ((same s t).0 p))) ∙ q)
    go false true p q = true_false (sym ((same s t).1 (sym ((same t s).0 q))) ∙ p)

pub before_not_same : (s t : List ℕ) → before_of s t ≡ true → same_of s t ≡ false
before_not_same s t e = go (same_of s t) refl
  where
    go : (b : Bool) → same_of s t ≡ b → b ≡ false
    go true p = true_false (sym e ∙ (ap (λ (u : List ℕ). before_of s u) (sym ((same s t).0 p)) ∙ before_irreflexive s))
    go false p = refl

pub before_not_after : (s t : List ℕ) → before_of s t ≡ true → before_of t s ≡ false
before_not_after s t e = go (before_of t s) refl
  where
    go : (b : Bool) → before_of t s ≡ b → b ≡ false
    go true p = true_false (sym (before_transitive s t s e p) ∙ before_irreflexive s)
    go false p = refl

pub after_by_other : (s t : List ℕ) → same_of s t ≡ false → before_of s t ≡ false → before_of t s ≡ true
after_by_other s t n e = ⊎_elim (λ p. true_false (sym p ∙ e)) (λ q. ⊎_elim (λ p. true_false (sym ((same s t).1 p) ∙ n)) (λ p. p) q) (before_total s t)

pub or_no : (a b : Bool) → (a || b) ≡ false → (a ≡ false) × (b ≡ false)
or_no true b e = true_false e
or_no false b e = (refl, e)

-- insertion keeps the names in order
first_inserted : (name : List ℕ) (f : Field) (fs : List Field) → before_of name f.name ≡ true → before_first name fs ≡ true → before_first name (insert_field f fs) ≡ true
first_inserted name f [] p q = p
first_inserted name f (g ∷ gs) p q = go (before_of f.name g.name)
  where
    go : (b : Bool) → before_first name (cond b (f ∷ (g ∷ gs)) (g ∷ insert_field f gs)) ≡ true
    go true = p
    go false = q

pub insert_rising : (f : Field) (fs : List Field) → rising fs ≡ true → has_name f.name fs ≡ false → rising (insert_field f fs) ≡ true
insert_rising f [] r n = refl
insert_rising f (g ∷ gs) r n = go (before_of f.name g.name) refl (insert_rising f gs (and_parts (before_first g.name gs) (rising gs) r).1 (or_no (same_of g.name f.name) (has_name f.name gs) n).1)
  where
    go : (b : Bool) → before_of f.name g.name ≡ b → rising (insert_field f gs) ≡ true → rising (cond b (f ∷ (g ∷ gs)) (g ∷ insert_field f gs)) ≡ true
    go true e ih = ap₂ (λ (a b : Bool). a && b) e r
    go false e ih =
        let p = or_no (same_of g.name f.name) (has_name f.name gs) n in
        let a : before_of g.name f.name ≡ true = after_by_other f.name g.name (same_symmetric f.name g.name ∙ p.0) e in
        ap₂ (λ (a b : Bool). a && b) (first_inserted g.name f gs a (and_parts (before_first g.name gs) (rising gs) r).0) ih

-- what insertion changes
module _ (f : Field) where
  pub insert_length : (fs : List Field) → length (insert_field f fs) ≡ suc (length fs)
  insert_length [] = refl
  insert_length (g ∷ gs) = go (before_of f.name g.name) (insert_length gs)
    where
      go : (b : Bool) → length (insert_field f gs) ≡ suc (length gs) → length (cond b (f ∷ (g ∷ gs)) (g ∷ insert_field f gs)) ≡ suc (suc (length gs))
      go true e = refl
      go false e = ap suc e

  pub insert_size : (fs : List Field) → length (fields_bytes (insert_field f fs)) ≡ field_size f + length (fields_bytes fs)
  insert_size [] = length-append (field_bytes f) [] ∙ ap (λ (n : ℕ). n + 0) (length_field f)
  insert_size (g ∷ gs) = go (before_of f.name g.name) (insert_size gs)
    where
      go : (b : Bool) → length (fields_bytes (insert_field f gs)) ≡ field_size f + length (fields_bytes gs)
          → length (fields_bytes (cond b (f ∷ (g ∷ gs)) (g ∷ insert_field f gs))) ≡ field_size f + length (fields_bytes (g ∷ gs))
      go true e = length-append (field_bytes f) (fields_bytes (g ∷ gs)) ∙ ap (λ (n : ℕ). n + length (fields_bytes (g ∷ gs))) (length_field f)
      go false e = omega (arith, length-append (field_bytes g) (fields_bytes (insert_field f gs)), length-append (field_bytes g) (fields_bytes gs))

  pub insert_right : (fs : List Field) → field_right f ≡ true → all_right fs ≡ true → all_right (insert_field f fs) ≡ true
  insert_right [] p q = ap (λ (b : Bool). b && true) p
  insert_right (g ∷ gs) p q = go (before_of f.name g.name) (insert_right gs p (and_parts (field_right g) (all_right gs) q).1)
    where
      go : (b : Bool) → all_right (insert_field f gs) ≡ true → all_right (cond b (f ∷ (g ∷ gs)) (g ∷ insert_field f gs)) ≡ true
      go true e = ap₂ (λ (a b : Bool). a && b) p q
      go false e = ap₂ (λ (a b : Bool). a && b) (and_parts (field_right g) (all_right gs) q).0 e

  pub insert_named : (name : List ℕ) (fs : List Field) → has_name name (insert_field f fs) ≡ has_name name (f ∷ fs)
  insert_named name [] = refl
  insert_named name (g ∷ gs) = go (before_of f.name g.name) (insert_named name gs)
    where
      turn : (a b c : Bool) → (b || (a || c)) ≡ (a || (b || c))
      turn true true c = refl
      turn true false c = refl
      turn false true c = refl
      turn false false c = refl

      go : (b : Bool) → has_name name (insert_field f gs) ≡ (same_of f.name name || has_name name gs)
          → has_name name (cond b (f ∷ (g ∷ gs)) (g ∷ insert_field f gs)) ≡ (same_of f.name name || (same_of g.name name || has_name name gs))
      go true e = refl
      go false e = ap (λ (b : Bool). same_of g.name name || b) e ∙ turn (same_of f.name name) (same_of g.name name) (has_name name gs)

  -- all the old fields and the new one
  pub insert_splits : (fs : List Field) → (pre post : List Field) × (fs ≡ pre ++ post) × (insert_field f fs ≡ pre ++ (f ∷ post))
  insert_splits [] = ([], [], refl, refl)
  insert_splits (g ∷ gs) = go (before_of f.name g.name) (insert_splits gs)
    where
      go : (b : Bool) → ((pre post : List Field) × (gs ≡ pre ++ post) × (insert_field f gs ≡ pre ++ (f ∷ post)))
          → (pre post : List Field) × (◌≡◌ {A = List Field} (g ∷ gs) (pre ++ post)) × (cond b (f ∷ (g ∷ gs)) (g ∷ insert_field f gs) ≡ pre ++ (f ∷ post))
      go true s = ([], g ∷ gs, refl, refl)
      go false s = (g ∷ s.0, s.1, ap (λ (l : List Field). g ∷ l) s.2, ap (λ (l : List Field). g ∷ l) s.3)

-- two fields of different names go in in either order
swap_before : (f g : Field) → before_of f.name g.name ≡ true → (xs : List Field) → insert_field f (insert_field g xs) ≡ insert_field g (insert_field f xs)
swap_before f g e [] = let n = before_not_after f.name g.name e in rw (e, n)
swap_before f g e (x ∷ xs) = go (before_of f.name x.name) (before_of g.name x.name) refl refl (swap_before f g e xs)
  where
    go : (a b : Bool) → before_of f.name x.name ≡ a → before_of g.name x.name ≡ b → insert_field f (insert_field g xs) ≡ insert_field g (insert_field f xs)
        → insert_field f (insert_field g (x ∷ xs)) ≡ insert_field g (insert_field f (x ∷ xs))
    go true true p q ih = let n = before_not_after f.name g.name e in simp (p, q, e, n)
    go false true p q ih = true_false (sym (before_transitive f.name g.name x.name e q) ∙ p)
    go true false p q ih = let n = before_not_after f.name g.name e in simp (q, p, n)
    go false false p q ih = simp (q, p) (ap (λ (l : List Field). x ∷ l) ih)

pub insert_swap : (f g : Field) → same_of f.name g.name ≡ false → (xs : List Field) → insert_field f (insert_field g xs) ≡ insert_field g (insert_field f xs)
insert_swap f g n xs = go (before_of f.name g.name) refl
  where
    go : (b : Bool) → before_of f.name g.name ≡ b → insert_field f (insert_field g xs) ≡ insert_field g (insert_field f xs)
    go true e = swap_before f g e xs
    go false e = sym (swap_before g f (after_by_other f.name g.name n e) xs)

-- fields inserted one after the other
abbrev pub insert_all : List Field → List Field → List Field
insert_all [] acc = acc
insert_all (f ∷ fs) acc = insert_all fs (insert_field f acc)

-- each name is new when it comes
abbrev pub fresh : List Field → List Field → Bool
fresh [] acc = true
fresh (f ∷ fs) acc = not (has_name f.name acc) && fresh fs (f ∷ acc)

fresh_same : (fs acc acc' : List Field) → ((name : List ℕ) → has_name name acc ≡ has_name name acc') → fresh fs acc ≡ fresh fs acc'
fresh_same [] acc acc' h = refl
fresh_same (f ∷ fs) acc acc' h =
    ap₂ (λ (a b : Bool). not a && b) (h f.name) (fresh_same fs (f ∷ acc) (f ∷ acc') (λ name. ap (λ (b : Bool). same_of f.name name || b) (h name)))

pub fresh_inserted : (f : Field) (fs acc : List Field) → fresh fs (f ∷ acc) ≡ true → fresh fs (insert_field f acc) ≡ true
fresh_inserted f fs acc e = fresh_same fs (insert_field f acc) (f ∷ acc) (λ name. insert_named f name acc) ∙ e

-- the same fields in any order
pub perm_fresh : {gs fs : List Field} → Permᴰ gs fs → (acc : List Field) → fresh gs acc ≡ fresh fs acc
perm_fresh Permᴰ.nil acc = refl
perm_fresh (Permᴰ.cons {a = a} {l₂ = fs} e d) acc =
    ap₂ (λ (f : Field) (x : Bool). not (has_name f.name acc) && x) e (perm_fresh d (a ∷ acc) ∙ ap (λ (f : Field). fresh fs (f ∷ acc)) e)
perm_fresh (Permᴰ.swap {a = a} {b = b} {l = l} e₁ e₂) acc =
    turn (has_name a.name acc) (has_name b.name acc) (same_of a.name b.name) (fresh l (b ∷ (a ∷ acc))) (fresh l (a ∷ (b ∷ acc)))
    (fresh_same l (b ∷ (a ∷ acc)) (a ∷ (b ∷ acc)) (λ name. either (same_of b.name name) (same_of a.name name) (has_name name acc)))
    ∙ (ap (λ (s : Bool). not (has_name b.name acc) && (not (s || has_name a.name acc) && fresh l (a ∷ (b ∷ acc)))) (same_symmetric a.name b.name)
    ∙ ap₂ (λ (f g : Field). not (has_name f.name acc) && (not (same_of f.name g.name || has_name g.name acc) && fresh l (g ∷ (f ∷ acc)))) e₂ e₁)
  where
    either : (x y z : Bool) → (x || (y || z)) ≡ (y || (x || z))
    either true true z = refl
    either true false z = refl
    either false true z = refl
    either false false z = refl

    turn : (x y s u v : Bool) → u ≡ v → (not x && (not (s || y) && u)) ≡ (not y && (not (s || x) && v))
    turn true true s u v q = refl
    turn true false true u v q = refl
    turn true false false u v q = refl
    turn false true true u v q = refl
    turn false true false u v q = refl
    turn false false true u v q = refl
    turn false false false u v q = q
perm_fresh (Permᴰ.trans d₁ d₂) acc = perm_fresh d₁ acc ∙ perm_fresh d₂ acc

pub perm_inserted : {gs fs : List Field} → Permᴰ gs fs → (acc : List Field) → fresh gs acc ≡ true → insert_all gs acc ≡ insert_all fs acc
perm_inserted Permᴰ.nil acc n = refl
perm_inserted (Permᴰ.cons {a = a} {b = b} {l₁ = gs} {l₂ = fs} e d) acc n =
    let t = and_parts (not (has_name a.name acc)) (fresh gs (a ∷ acc)) n in
    perm_inserted d (insert_field a acc) (fresh_inserted a gs acc t.1) ∙ ap (λ (f : Field). insert_all fs (insert_field f acc)) e
perm_inserted (Permᴰ.swap {a = a} {b = b} {l = l} e₁ e₂) acc n =
    let t = and_parts (not (has_name a.name acc)) _ n in
    let u = and_parts (not (same_of a.name b.name || has_name b.name acc)) _ t.1 in
    let v = or_no (same_of a.name b.name) (has_name b.name acc) (not-true _ u.0) in
    ap (insert_all l) (sym (insert_swap a b v.0 acc)) ∙ ap₂ (λ (f g : Field). insert_all l (insert_field g (insert_field f acc))) e₂ e₁
perm_inserted (Permᴰ.trans d₁ d₂) acc n = perm_inserted d₁ acc n ∙ perm_inserted d₂ acc (sym (perm_fresh d₁ acc) ∙ n)

pub perm_right : {gs fs : List Field} → Permᴰ gs fs → all_right gs ≡ all_right fs
perm_right Permᴰ.nil = refl
perm_right (Permᴰ.cons e d) = ap₂ (λ (f : Field) (b : Bool). field_right f && b) e (perm_right d)
perm_right (Permᴰ.swap {a = a} {b = b} {l = l} e₁ e₂) =
    turn (field_right a) (field_right b) (all_right l) ∙ ap₂ (λ (f g : Field). field_right f && (field_right g && all_right l)) e₂ e₁
  where
    turn : (x y z : Bool) → (x && (y && z)) ≡ (y && (x && z))
    turn true true z = refl
    turn true false z = refl
    turn false true z = refl
    turn false false z = refl
perm_right (Permᴰ.trans d₁ d₂) = perm_right d₁ ∙ perm_right d₂

-- how many, and how many bytes
pub perm_length : {gs fs : List Field} → Permᴰ gs fs → length gs ≡ length fs
perm_length Permᴰ.nil = refl
perm_length (Permᴰ.cons e d) = ap suc (perm_length d)
perm_length (Permᴰ.swap e₁ e₂) = refl
perm_length (Permᴰ.trans d₁ d₂) = perm_length d₁ ∙ perm_length d₂

pub perm_size : {gs fs : List Field} → Permᴰ gs fs → length (fields_bytes gs) ≡ length (fields_bytes fs)
perm_size Permᴰ.nil = refl
perm_size (Permᴰ.cons {a = a} {b = b} {l₁ = gs} {l₂ = fs} e d) =
    length-append (field_bytes a) (fields_bytes gs) ∙ (ap₂ (λ (f : Field) (n : ℕ). length (field_bytes f) + n) e (perm_size d) ∙ sym (length-append (field_bytes b) (fields_bytes fs)))
perm_size (Permᴰ.swap {a = a} {b = b} {a' = a'} {b' = b'} {l = l} e₁ e₂) =
    omega (
      arith,
      length-append (field_bytes a) (field_bytes b ++ fields_bytes l),
      length-append (field_bytes b) (fields_bytes l),
      length-append (field_bytes a') (field_bytes b' ++ fields_bytes l),
      length-append (field_bytes b') (fields_bytes l),
      ap (λ (f : Field). length (field_bytes f)) e₁,
      ap (λ (f : Field). length (field_bytes f)) e₂,
    )
perm_size (Permᴰ.trans d₁ d₂) = perm_size d₁ ∙ perm_size d₂

-- fields that rise are new when they come in their own order, and each goes to the end
abbrev pub all_before : List Field → List ℕ → Bool
all_before [] name = true
all_before (g ∷ gs) name = before_of g.name name && all_before gs name

-- .. before the first of some fields
abbrev pub all_before_first : List Field → List Field → Bool
all_before_first acc [] = true
all_before_first acc (f ∷ fs) = all_before acc f.name

pub before_new : (acc : List Field) (name : List ℕ) → all_before acc name ≡ true → has_name name acc ≡ false
before_new [] name e = refl
before_new (g ∷ gs) name e =
    let p = and_parts (before_of g.name name) (all_before gs name) e in
    ap₂ (λ (a b : Bool). a || b) (before_not_same g.name name p.0) (before_new gs name p.1)

before_last : (f : Field) (acc : List Field) → all_before acc f.name ≡ true → insert_field f acc ≡ acc ++ (f ∷ [])
before_last f [] e = refl
before_last f (g ∷ gs) e =
    let p = and_parts (before_of g.name f.name) (all_before gs f.name) e in
    let n = before_not_after g.name f.name p.0 in
    rw n (ap (λ (l : List Field). g ∷ l) (before_last f gs p.1))

pub before_both : (acc : List Field) (name next : List ℕ) → all_before acc name ≡ true → before_of name next ≡ true → all_before acc next ≡ true
before_both [] name next e n = refl
before_both (g ∷ gs) name next e n =
    let p = and_parts (before_of g.name name) (all_before gs name) e in
    ap₂ (λ (a b : Bool). a && b) (before_transitive g.name name next p.0 n) (before_both gs name next p.1 n)

pub before_end : (acc : List Field) (f : Field) (name : List ℕ) → all_before acc name ≡ true → before_of f.name name ≡ true → all_before (acc ++ (f ∷ [])) name ≡ true
before_end [] f name e n = ap (λ (b : Bool). b && true) n
before_end (g ∷ gs) f name e n =
    let p = and_parts (before_of g.name name) (all_before gs name) e in
    ap₂ (λ (a b : Bool). a && b) p.0 (before_end gs f name p.1 n)

pub rising_fresh : (fs acc : List Field) → rising fs ≡ true → all_before_first acc fs ≡ true → fresh fs acc ≡ true
rising_fresh [] acc r b = refl
rising_fresh (f ∷ fs) acc r b =
    let p = and_parts (before_first f.name fs) (rising fs) r in
    ap₂ (λ (x y : Bool). not x && y) (before_new acc f.name b) (rising_fresh fs (f ∷ acc) p.1 (next fs p.0))
  where
    next : (gs : List Field) → before_first f.name gs ≡ true → all_before_first (f ∷ acc) gs ≡ true
    next [] e = refl
    next (g ∷ gs) e = ap₂ (λ (x y : Bool). x && y) e (before_both acc f.name g.name b e)

pub rising_inserted : (fs acc : List Field) → rising fs ≡ true → all_before_first acc fs ≡ true → insert_all fs acc ≡ acc ++ fs
rising_inserted [] acc r b = sym (append-nil acc)
rising_inserted (f ∷ fs) acc r b =
    let p = and_parts (before_first f.name fs) (rising fs) r in
    ap (insert_all fs) (before_last f acc b) ∙ (rising_inserted fs (acc ++ (f ∷ [])) p.1 (next fs p.0) ∙ append_assoc acc (f ∷ []) fs)
  where
    next : (gs : List Field) → before_first f.name gs ≡ true → all_before_first (acc ++ (f ∷ [])) gs ≡ true
    next [] e = refl
    next (g ∷ gs) e = before_end acc f g.name (before_both acc f.name g.name b e) e
