-- The theorems that specs/Theorems.antt states. Assumes nothing.
use Rattle.std.specs.Prelude.{Ok, Err}
use Rattle.std.proofs.Common.{◌≡◌, ℕ, zero, suc, ◌+◌, ◌-◌, ◌<◌, ◌≤◌, Bool, true, false, cond, ◌&&◌, ltb, leb, ◌⊎◌, List, [], ◌∷◌, ◌++◌, map, length, get_or, take, drop, sym, refl, ap, ◌∙◌, ap₂, inl, inr, arith, take-append-drop, length-take-le, take_at, lt-ltb, leb-true}
use mathlib.Core.List.Memᴰ
use mathlib.Core.List.{Memᴰ}
use mathlib.Core.Option.{Option, some, none, some-injective}
use Rattle.common.specs.Choice.{pick}
use Rattle.common.proofs.Choice.{true_false}
use Rattle.word.specs.Word.{word_bytes, Bytes}
use Rattle.octets.specs.Octets.{same_of, before_of}
use Rattle.octets.proofs.Theorems.{and_parts, same, before_irreflexive, before_transitive}
use Rattle.refusal.specs.declared.Refusal.TheVariants.{Notice}
use Rattle.refusal.proofs.Numbers.{refuses}
use Rattle.notice.specs.Layout.{Layout}
use Rattle.notice.specs.Write.{WriteAnswer}
use Rattle.notice.specs.Field.{Field, all_right, before_first, rising}
use Rattle.notice.specs.Render.{fields_bytes, render, NoticeFields}
use Rattle.notice.specs.Layout.{next_at, name_at, field_at, lies_at, count_of, check_of, starts_from, fields_of, header_right, stands_at, check_from, place_of}
use Rattle.notice.specs.Lookup.{field_named, lookup_in, FoundIs}
use Rattle.notice.specs.Search.{further, index_of, below_of, not_below, first_named}
use Rattle.notice.specs.Read.{read_number, blank, read_field}
use Rattle.notice.specs.Write.{field_size, insert_field, refusal_by, refusal_of, written_of, written_bytes, Writes, Insertable}
use Rattle.notice.specs.Theorems.{WellFormedExactly, last_name, FaultPlace, OnlyFault, OneList, FieldsRead, CountFields, ReadEach, Lookup, NamedField, NoneNamed, EachFound, StoppingFinds, StoppingLooks, IndexFinds, NoIndex, WriteAdds, InsertAdds, WrittenAgain, EmptyNotice, Op42}
use Rattle.notice.proofs.Places.{lies_true}
use Rattle.notice.proofs.Walks.{starts_end, starts_more, starts_stop}
use Rattle.notice.proofs.Renders.{render_passes, render_fields, well_render, well_fields, well_count, length_render}
use Rattle.notice.proofs.Keys.{bytes_take}
use Rattle.notice.proofs.Orders.{before_not_same, insert_splits, insert_all, fresh, perm_fresh, perm_inserted, perm_right, perm_length, perm_size, all_before_first, rising_fresh, rising_inserted}
use Rattle.notice.proofs.Searches.{first_above, none_same, not_below_lem}
use Rattle.notice.proofs.Checks.{header_numbers}
use Rattle.notice.proofs.Faults.{faulted, one_fault}
use Rattle.notice.proofs.Trips.{Fitting, added_fields, added_length, over, writes_all}
use Rattle.notice.proofs.Writes.{added}
use Rattle.notice.proofs.Inserts.{accepted}

pub well_formed_exactly : WellFormedExactly
well_formed_exactly s bytes = (
  λ well. (fields_of s, well_fields s bytes well, well_render s bytes well),
  λ r. ap check_of r.2 ∙ render_passes r.0 r.1,
)

pub only_fault : OnlyFault
only_fault = one_fault

pub fault_place_lem : FaultPlace
fault_place_lem s place bytes e = go (header_right s) refl e
  where
    go : (b : Bool) → header_right s ≡ b → pick b (λ _. check_from (count_of s) [] s 8) (λ _. Err (Notice 0)) ≡ Err (Notice place)
        → ((header_right s ≡ false) × (place ≡ 0))
        ⊎ ((fs : List Field) × (header_right s ≡ true) × (all_right fs ≡ true) × (rising fs ≡ true) × (drop 8 s ≡ fields_bytes fs ++ drop place s) × (place ≡ 8 + length (fields_bytes fs))
        × (((length fs < count_of s) × (stands_at (last_name [] fs) s place ≡ false)) ⊎ ((length fs ≡ count_of s) × (place < length s))))
    go false p x = inl (p, ap place_of (sym x))
    go true p x =
        let f = faulted (count_of s) [] s 8 place bytes (header_numbers s p).long x in
        inr (f.fs, p, f.right, f.rises, f.bytes, f.place_is, f.why)

pub fields_read : FieldsRead
fields_read = render_fields

pub one_list : OneList
one_list fs gs p q e = sym (fields_read fs p) ∙ (ap fields_of e ∙ fields_read gs q)

pub count_fields : CountFields
count_fields s bytes well = sym (well_count s bytes well)

pub read_below : (s : List ℕ) (k : ℕ) → check_of s ≡ Ok tt → k < count_of s → (read_number s k ≡ 0) × (read_field s k ≡ get_or (fields_of s) k blank)
read_below s k well h =
    let b : ltb k (count_of s) ≡ true = lt-ltb k (count_of s) h in
    (rw (well, b), rw (well, b))

pub read_each : ReadEach
read_each s k bytes well h = read_below s k well (omega (arith, well_count s bytes well))

-- lookup, on every walk over fields that lie within the notice
found_from : (n : ℕ) (s name : List ℕ) (at : ℕ) → FoundIs s (lookup_in s name (starts_from n s at)) (field_named name (map (field_at s) (starts_from n s at)))
found_from zero s name at = rw (starts_end s at) tt
found_from (suc n) s name at = lies (lies_at s at) refl (found_from n s name (next_at s at))
  where
    i : suc n - 1 ≡ n
    i = omega arith

    named : lies_at s at ≡ true → (b : Bool) → same_of (name_at s at) name ≡ b → FoundIs s (lookup_in s name (starts_from n s (next_at s at))) (field_named name (map (field_at s) (starts_from n s (next_at s at))))
        → FoundIs s (lookup_in s name (at ∷ starts_from n s (next_at s at))) (field_named name (map (field_at s) (at ∷ starts_from n s (next_at s at))))
    named l true e ih =
        let p = lies_true s at l in
        rw e (refl, omega (arith, p.room, p.within), refl)
    named l false e ih = rw e ih

    lies : (b : Bool) → lies_at s at ≡ b → FoundIs s (lookup_in s name (starts_from n s (next_at s at))) (field_named name (map (field_at s) (starts_from n s (next_at s at))))
        → FoundIs s (lookup_in s name (starts_from (suc n) s at)) (field_named name (map (field_at s) (starts_from (suc n) s at)))
    lies true e ih = rw (starts_more s at (suc n) (omega arith) e, i) (named e (same_of (name_at s at) name) refl ih)
    lies false e ih = rw (starts_stop s at (suc n) (omega arith) e) tt

pub lookup : Lookup
lookup s name = go (leb 8 (length s) && leb (length s) 16384)
  where
    go : (b : Bool) → FoundIs s (lookup_in s name (pick b (λ _. starts_from (count_of s) s 8) (λ _. []))) (field_named name (map (field_at s) (pick b (λ _. starts_from (count_of s) s 8) (λ _. []))))
    go true = found_from (count_of s) s name 8
    go false = tt

-- the field of a name
some_none : {A B : Type 0} {x : B} → some x ≡ none → A
some_none e = true_false (cc)

pub named_field : NamedField
named_field name [] f e = some_none (sym e)
named_field name (g ∷ gs) f e = go (same_of g.name name) refl e (named_field name gs f)
  where
    go : (b : Bool) → same_of g.name name ≡ b → pick b (λ _. some g) (λ _. field_named name gs) ≡ some f → (field_named name gs ≡ some f → Memᴰ f gs × (f.name ≡ name))
        → Memᴰ f (g ∷ gs) × (f.name ≡ name)
    go true p h ih =
        let e : g ≡ f = cc in
        (Memᴰ.head (sym e), ap (λ (x : Field). x.name) (sym e) ∙ (same g.name name).0 p)
    go false p h ih = let r = ih h in (Memᴰ.tail r.0, r.1)

none_other : (name : List ℕ) (fs : List Field) → field_named name fs ≡ none → (f : Field) → Memᴰ f fs → f.name ≡ name → ⊥
none_other name [] e f m q = Memᴰ.not-nil m
none_other name (g ∷ gs) e f m q = go (same_of g.name name) refl e (none_other name gs) (Memᴰ.cases_cons m)
  where
    go : (b : Bool) → same_of g.name name ≡ b → pick b (λ _. some g) (λ _. field_named name gs) ≡ none
        → (field_named name gs ≡ none → (f : Field) → Memᴰ f gs → f.name ≡ name → ⊥) → (f ≡ g) ⊎ Memᴰ f gs → ⊥
    go true p h ih c = some_none h
    go false p h ih (inl c) = true_false (sym ((same g.name name).1 (ap (λ (x : Field). x.name) (sym c) ∙ q)) ∙ p)
    go false p h ih (inr c) = ih h f c q

other_none : (name : List ℕ) (fs : List Field) → ((f : Field) → Memᴰ f fs → f.name ≡ name → ⊥) → field_named name fs ≡ none
other_none name [] h = refl
other_none name (g ∷ gs) h = go (same_of g.name name) refl (other_none name gs (λ f m. h f (Memᴰ.tail m)))
  where
    go : (b : Bool) → same_of g.name name ≡ b → field_named name gs ≡ none → pick b (λ _. some g) (λ _. field_named name gs) ≡ none
    go true p ih = absurd (h g (Memᴰ.head refl) ((same g.name name).0 p))
    go false p ih = ih

pub none_named : NoneNamed
none_named name fs = (none_other name fs, other_none name fs)

-- a field of a rising list is after the first
after_first : (name : List ℕ) (fs : List Field) (f : Field) → before_first name fs ≡ true → rising fs ≡ true → Memᴰ f fs → before_of name f.name ≡ true
after_first name [] f b r m = absurd (Memᴰ.not-nil m)
after_first name (g ∷ gs) f b r m = go (Memᴰ.cases_cons m) (after_first g.name gs f (and_parts (before_first g.name gs) (rising gs) r).0 (and_parts (before_first g.name gs) (rising gs) r).1)
  where
    go : (f ≡ g) ⊎ Memᴰ f gs → (Memᴰ f gs → before_of g.name f.name ≡ true) → before_of name f.name ≡ true
    go (inl c) ih = ap (λ (x : Field). before_of name x.name) c ∙ b
    go (inr c) ih = before_transitive name g.name f.name b (ih c)

pub each_found : EachFound
each_found [] f r m = absurd (Memᴰ.not-nil m)
each_found (g ∷ gs) f r m = go (Memᴰ.cases_cons m) (each_found gs f (and_parts (before_first g.name gs) (rising gs) r).1)
  where
    go : (f ≡ g) ⊎ Memᴰ f gs → (Memᴰ f gs → field_named f.name gs ≡ some f) → field_named f.name (g ∷ gs) ≡ some f
    go (inl c) ih = let e : same_of g.name f.name ≡ true = (same g.name f.name).1 (ap (λ (x : Field). x.name) (sym c)) in rw e (ap some (sym c))
    go (inr c) ih =
        let p = and_parts (before_first g.name gs) (rising gs) r in
        let n : same_of g.name f.name ≡ false = before_not_same g.name f.name (after_first g.name gs f p.0 p.1 c) in
        rw n (ih c)

-- the search that stops
further_none : (i : Option ℕ) → further i ≡ none → i ≡ none
further_none none e = refl
further_none (some k) e = some_none e

index_none : (name : List ℕ) (fs : List Field) → index_of name fs ≡ none → field_named name fs ≡ none
index_none name [] e = refl
index_none name (f ∷ fs) e = go (same_of f.name name) e (index_none name fs)
  where
    go : (b : Bool) → pick b (λ _. some 0) (λ _. further (index_of name fs)) ≡ none → (index_of name fs ≡ none → field_named name fs ≡ none) → pick b (λ _. some f) (λ _. field_named name fs) ≡ none
    go true h ih = some_none h
    go false h ih = ih (further_none (index_of name fs) h)

none_index : (name : List ℕ) (fs : List Field) → field_named name fs ≡ none → index_of name fs ≡ none
none_index name [] e = refl
none_index name (f ∷ fs) e = go (same_of f.name name) e (none_index name fs)
  where
    go : (b : Bool) → pick b (λ _. some f) (λ _. field_named name fs) ≡ none → (field_named name fs ≡ none → index_of name fs ≡ none) → pick b (λ _. some 0) (λ _. further (index_of name fs)) ≡ none
    go true h ih = some_none h
    go false h ih = ap further (ih h)

pub no_index : NoIndex
no_index name fs = (index_none name fs, none_index name fs)

-- after a field whose name is not below, none has the name
none_after : (name : List ℕ) (f : Field) (fs : List Field) → rising (f ∷ fs) ≡ true → before_of f.name name ≡ false → index_of name fs ≡ none
none_after name f fs r n =
    let p = and_parts (before_first f.name fs) (rising fs) r in
    none_same name fs (first_above name f.name fs n p.0) p.1

pub stopping_finds : StoppingFinds
stopping_finds name [] r = refl
stopping_finds name (f ∷ fs) r = go (before_of f.name name) refl (stopping_finds name fs (and_parts (before_first f.name fs) (rising fs) r).1)
  where
    go : (b : Bool) → before_of f.name name ≡ b → first_named name (not_below name fs) ≡ field_named name fs
        → first_named name (pick b (λ _. not_below name fs) (λ _. f ∷ fs)) ≡ field_named name (f ∷ fs)
    go true p ih = rw (before_not_same f.name name p) ih
    go false p ih = rw (index_none name fs (none_after name f fs r p))

pub stopping_looks : StoppingLooks
stopping_looks name [] r = omega arith
stopping_looks name (f ∷ fs) r = go (before_of f.name name) refl (stopping_looks name fs (and_parts (before_first f.name fs) (rising fs) r).1)
  where
    go : (b : Bool) → before_of f.name name ≡ b → below_of name fs + length (not_below name fs) ≡ length fs
        → below_of name (f ∷ fs) + length (pick b (λ _. not_below name fs) (λ _. f ∷ fs)) ≡ suc (length fs)
    go true p ih = rw p (omega (arith, ih))
    go false p ih = omega (arith, not_below_lem name f fs p r)

pub index_finds : IndexFinds
index_finds name [] k e = some_none (sym e)
index_finds name (f ∷ fs) k e = go (same_of f.name name) refl e (index_finds name fs)
  where
    first : same_of f.name name ≡ true → 0 ≡ k → (k < suc (length fs)) × (some f ≡ some (get_or (f ∷ fs) k blank)) × (rising (f ∷ fs) ≡ true → k ≡ below_of name (f ∷ fs))
    first p z =
        let m : before_of f.name name ≡ false = ap (λ (t : List ℕ). before_of t name) ((same f.name name).0 p) ∙ before_irreflexive name in
        rw (← z) (omega arith, refl, λ r. sym (not_below_lem name f fs m r))

    later : (j : ℕ) → index_of name fs ≡ some j → suc j ≡ k → (j < length fs) × (field_named name fs ≡ some (get_or fs j blank)) × (rising fs ≡ true → j ≡ below_of name fs)
        → (k < suc (length fs)) × (field_named name fs ≡ some (get_or (f ∷ fs) k blank)) × (rising (f ∷ fs) ≡ true → k ≡ below_of name (f ∷ fs))
    later j i z ih = rw (← z) (omega (arith, ih.0), ih.1, λ r. below r (before_of f.name name) refl)
      where
        below : rising (f ∷ fs) ≡ true → (b : Bool) → before_of f.name name ≡ b → suc j ≡ cond b 1 0 + below_of name fs
        below r true p = omega (arith, ih.2 (and_parts (before_first f.name fs) (rising fs) r).1)
        below r false p = some_none (sym i ∙ none_after name f fs r p)

    rest : (i : Option ℕ) → index_of name fs ≡ i → further i ≡ some k → ((j : ℕ) → index_of name fs ≡ some j → (j < length fs) × (field_named name fs ≡ some (get_or fs j blank)) × (rising fs ≡ true → j ≡ below_of name fs))
        → (k < suc (length fs)) × (field_named name fs ≡ some (get_or (f ∷ fs) k blank)) × (rising (f ∷ fs) ≡ true → k ≡ below_of name (f ∷ fs))
    rest none q h ih = some_none (sym h)
    rest (some j) q h ih = later j q (some-injective (suc j) k h) (ih j q)

    go : (b : Bool) → same_of f.name name ≡ b → pick b (λ _. some 0) (λ _. further (index_of name fs)) ≡ some k
        → ((j : ℕ) → index_of name fs ≡ some j → (j < length fs) × (field_named name fs ≡ some (get_or fs j blank)) × (rising fs ≡ true → j ≡ below_of name fs))
        → (k < suc (length fs)) × (pick b (λ _. some f) (λ _. field_named name fs) ≡ some (get_or (f ∷ fs) k blank)) × (rising (f ∷ fs) ≡ true → k ≡ below_of name (f ∷ fs))
    go true p h ih = first p (some-injective 0 k h)
    go false p h ih = rest (index_of name fs) refl h ih

-- insertion into the fields of a notice
pub insert_adds : InsertAdds
insert_adds = insert_splits

-- a write that is not refused
pub number_zero : (b : List ℕ) (len : ℕ) (f : Field) → refusal_of b len f ≡ 0 → Insertable b len f
number_zero b len f e = within (leb len (length b)) refl e
  where
    well : len ≤ length b → (l : Layout) → check_of (take len b) ≡ l → refusal_by l b len f ≡ 0 → Insertable b len f
    well w (Ok u) p h = record { within = w; well = p; accepted = h }
    well w (Err r) p h = refuses r h

    within : (x : Bool) → leb len (length b) ≡ x → refusal_by (pick x (λ _. check_of (take len b)) (λ _. Err (Notice 0))) b len f ≡ 0 → Insertable b len f
    within true p h = well (leb-true len (length b) p) (check_of (take len b)) refl h
    within false p h = absurd (omega arith)

-- .. leaves the bytes of a notice's fields
pub left_by : (b : List ℕ) (len : ℕ) (f : Field) → Bytes b → (written_of b len f).number ≡ 0
    → NoticeFields (insert_field f (fields_of (take len b))) × (take (written_of b len f).len (written_bytes b len f) ≡ render (insert_field f (fields_of (take len b))))
left_by b len f bytes e =
    let ins = number_zero b len f e in
    let s = take len b in
    let fs = fields_of s in
    let small = bytes_take len b bytes in
    let a = accepted s (length b) f ins.accepted in
    let l : length s ≡ len = length-take-le len b ins.within in
    let r : s ≡ render fs = well_render s small ins.well in
    let n : length (render fs) ≡ len = sym (ap length r) ∙ l in
    let t : Fitting fs f (length b) = record {
      ok = well_fields s small ins.well;
      right = a.right;
      new = a.new;
      few = omega (arith, well_count s small ins.well, a.few);
      short = omega (arith, a.short);
      fits = omega (arith, a.fits);
    } in
    let w = added b len f ins.within ins.well ins.accepted in
    let m : (written_of b len f).len ≡ len + field_size f = ap (λ (x : WriteAnswer). x.len) (sym w.0) in (
      added_fields fs f (length b) t,
      ap₂ (λ (k : ℕ) (d : List ℕ). take k d) m (sym w.1)
          ∙ take_at (render (insert_field f fs)) (drop (len + field_size f) b) (len + field_size f) (omega (arith, added_length fs f)),
    )

pub write_adds : WriteAdds
write_adds b len f bytes e =
    let new = insert_field f (fields_of (take len b)) in
    let l = left_by b len f bytes e in
    (ap check_of l.1 ∙ render_passes new l.0, ap fields_of l.1 ∙ render_fields new l.0)

no_fields : NoticeFields []
no_fields = record { few = omega arith; right = refl; rises = refl; short = omega (arith, length_render []) }

pub written_again : WrittenAgain
written_again s bytes well fs perm b e h =
    let gs = fields_of s in
    let ok = well_fields s bytes well in
    let r : s ≡ render gs = well_render s bytes well in
    let l : length s ≡ 8 + length (fields_bytes gs) = ap length r ∙ length_render gs in
    let short : length s ≤ 16384 = rw r ok.short in
    let z : length (render []) ≡ 8 = length_render [] in
    let n : fresh fs [] ≡ true = perm_fresh perm [] ∙ rising_fresh gs [] ok.rises (none_first gs) in
    let all : insert_all fs [] ≡ gs = perm_inserted perm [] n ∙ rising_inserted gs [] ok.rises (none_first gs) in
    let w = writes_all fs [] b no_fields (perm_right perm ∙ ok.right) n (omega (arith, perm_length perm, ok.few)) (omega (arith, perm_size perm)) (omega (arith, perm_size perm)) in
    let start : over [] b ≡ b = ap₂ (λ (x : List ℕ) (k : ℕ). x ++ drop k b) (sym e) z ∙ take-append-drop 8 b in
    let end : over (insert_all fs []) b ≡ s ++ drop (length s) b = ap (λ (x : List Field). over x b) all ∙ ap (λ (x : List ℕ). x ++ drop (length x) b) (sym r) in
    let last : length (render (insert_all fs [])) ≡ length s = ap (λ (x : List Field). length (render x)) all ∙ ap length (sym r) in
    along start z end last w
  where
    none_first : (gs : List Field) → all_before_first [] gs ≡ true
    none_first [] = refl
    none_first (g ∷ gs) = refl

    along : {a a' d d' : List ℕ} {m m' k k' : ℕ} → a ≡ a' → m ≡ m' → d ≡ d' → k ≡ k' → Writes fs a m d k → Writes fs a' m' d' k'
    along p q u v x = rw (← p, ← q, ← u, ← v) x

pub empty_notice : EmptyNotice
unfolding word_bytes
empty_notice = refl

pub op42 : Op42
unfolding word_bytes
op42 = refl
