-- The turns of the two passes, and their ends. Assumes nothing.
use mathlib.Core.Path.{◌≡◌, refl, sym, ap, ap₂, ◌∙◌}
use mathlib.Core.Logic.{◌⊎◌, inl, inr, ⊎_elim}
use mathlib.Core.Bool.{Bool, true, false, cond, ◌&&◌}
use mathlib.Core.List.{List, [], ◌∷◌, ◌++◌}
use Prim.Native.Nat.{ℕ, suc, ◌+◌, ◌-◌, ◌*◌, ◌≤◌, ◌<◌}
use native.Mathlib.Omega.{arith}
use lib.Dec.{leb, ltb}
use lib.ListN.{length, get_or, take, drop, set, length-append, length-map, length-set, length-take, length-drop}
use lib.Seq.{sets, length-sets, drop-cons, take_at}
use borrow.Author.Tests.{ltb-true, ltb-false, leb-true, leb-false}
use Rattle.common.proofs.Choice.{true_false}
use Rattle.common.proofs.Stores.{sets_append}
use Rattle.word.specs.Word.{word_bytes}
use Rattle.word.proofs.Laws.{length_word_bytes}
use Rattle.octets.proofs.Theorems.{and_parts}
use Rattle.refusal.specs.declared.Refusal.TheVariants.{Room}
use Rattle.notice.specs.Field.{Field}
use Rattle.notice.specs.Render.{fields_bytes}
use Rattle.notice.specs.Layout.{next_at}
use Rattle.notice.specs.Write.{sorted}
use Rattle.notice.proofs.Renders.{length_render}
use Rattle.notice.proofs.Sorted.{sorted_size}
use Rattle.mend.specs.Mend.{Entry, stays, code_at, kept_with, list_from, list_of, kept_of, entry_bytes, list_bytes, onto}
use Rattle.mend.specs.Order.{codes_of, Roomy, Admits, Surveys}
use Rattle.mend.proofs.Stores.{onto_sets, list_length}
use Rattle.mend.proofs.Walks.{Walked, walk_starts, kept_length, part_of, ended, list_on, code_is, kept_size, walks-on, list_end, list_more}

-- ---- the first pass

pub record Counted (s order codes₀ codes : List ℕ) (n at size count : ℕ) : Type 0 where
  pub kept : List Field
  pub walked : Walked s order kept n at count
  pub size_is : size ≡ 8 + length (fields_bytes kept)
  pub noted : sets codes count (codes_of (list_from (length s - count) s kept at)) ≡ sets codes₀ 0 (codes_of (list_of s))
  pub same_long : length codes ≡ length codes₀
  pub room : Roomy s codes₀
  pub fits : count ≤ length codes₀

pub count_starts : (s order codes : List ℕ) → 8 ≤ length s → length order ≡ 65 → Roomy s codes → Counted s order codes codes 0 8 8 0
count_starts s order codes g h m =
    let z : length s - 0 ≡ length s = omega arith in
    record { kept = []; walked = walk_starts s order g h; size_is = refl; noted = ap (λ (k : ℕ). sets codes 0 (codes_of (list_from k s [] 8))) z; same_long = refl; room = m; fits = omega arith }

pub both : (a b d e : ℕ) → (ltb a b && ltb d e) ≡ true → (a < b) × (d < e)
both a b d e h = let p = and_parts (ltb a b) (ltb d e) h in (ltb-true a b p.0, ltb-true d e p.1)

pub not_both : (a b d e : ℕ) → (ltb a b && ltb d e) ≡ false → (b ≤ a) ⊎ (e ≤ d)
not_both a b d e = go (ltb a b) (ltb d e) refl refl
  where
    go : (x y : Bool) → ltb a b ≡ x → ltb d e ≡ y → (x && y) ≡ false → (b ≤ a) ⊎ (e ≤ d)
    go false y p q h = inl (ltb-false a b p)
    go true false p q h = inr (ltb-false d e q)
    go true true p q h = true_false h

module _ (s order codes₀ codes : List ℕ) (n at size count : ℕ) (r : Counted s order codes₀ codes n at size count) where
  pub note_room : at < length s → count < length codes
  note_room h = omega (arith, r.walked.from, r.room, r.same_long)

  pub counts_on : at < length s → (after : List ℕ) (code g to t : ℕ) → Admits s order n at after code → g ≡ cond (stays code) 1 0 → to ≡ next_at s at → to < 81922 → t ≡ cond (stays code) (to - at) 0
      → Counted s after codes₀ (set codes count code) (n + g) to (size + t) (count + 1)
  counts_on h after code g to t a p q u v =
      let w = r.walked in
      let c = code_is s order r.kept n at count w h after code a in
      let z : t ≡ cond (stays (code_at s r.kept at)) (next_at s at - at) 0 = v ∙ ap₂ (λ (x y : ℕ). cond (stays x) (y - at) 0) c q in
      let cs = codes_of (list_from (length s - (count + 1)) s (kept_with s r.kept at) (next_at s at)) in
      let k : count + 1 ≡ suc count = omega arith in
      along p q (record {
        kept = kept_with s r.kept at;
        walked = walks-on s order r.kept n at count w h after code a (omega (arith, q, u));
        size_is = omega (arith, r.size_is, z, kept_size s r.kept at);
        noted = ap₂ (λ (x i : ℕ). sets (set codes count x) i cs) c k
            ∙ (ap (λ (es : List Entry). sets codes count (codes_of es)) (sym (list_on s order r.kept n at count w h)) ∙ r.noted);
        same_long = length-set codes count code ∙ r.same_long;
        room = r.room;
        fits = omega (arith, note_room h, r.same_long);
      })
    where
      along : {x x' y y' : ℕ} → x ≡ x' → y ≡ y' → Counted s after codes₀ (set codes count code) (n + x') y' (size + t) (count + 1) → Counted s after codes₀ (set codes count code) (n + x) y (size + t) (count + 1)
      along p q v = rw (p, q) v

  abbrev w : Walked s order r.kept n at count
  w = r.walked

  pub survey_over : n ≡ 65 → (Room ≡ Room) × (64 < length (kept_of s))
  survey_over e = (refl, omega (arith, part_of s order r.kept n at count w))

  pub survey_ends : (length s ≤ at) ⊎ (65 ≤ n) → (n ≡ 65 → ⊥) → Surveys s order codes (record { kept = n; size = size; count = count })
  survey_ends end e = record {
    kept_is = sym (kept_length s order r.kept n at count w) ∙ ap length (all e).0;
    few = go (leb n 64) refl;
    in_order = w.in_order;
    fields_are = w.fields_are ∙ ap sorted (all e).0;
    size_is = omega (arith, r.size_is, ap (λ (fs : List Field). length (fields_bytes fs)) (all e).0, length_render (sorted (kept_of s)), sorted_size (kept_of s));
    size_short = omega (arith, r.size_is, w.short);
    count_is = (all e).1;
    codes_are = noted-all (at_end e) (all e).1;
  }
    where
      go : (b : Bool) → leb n 64 ≡ b → n ≤ 64
      go true p = leb-true n 64 p
      go false p = let m = leb-false n 64 p in absurd (e (omega (arith, w.in_order.few)))

      at_end : (n ≡ 65 → ⊥) → length s ≤ at
      at_end e = ⊎_elim (λ h. h) (λ h. absurd (e (omega (arith, w.in_order.few)))) end

      all : (n ≡ 65 → ⊥) → (r.kept ≡ kept_of s) × (count ≡ length (list_of s))
      all e = ended s order r.kept n at count w (at_end e)

      noted-all : length s ≤ at → count ≡ length (list_of s) → take count codes ≡ codes_of (list_of s)
      noted-all h e =
          let cs = codes_of (list_of s) in
          let l : length cs ≡ length (list_of s) = length-map (list_of s) (λ (d : Entry). d.code) in
          let z : list_from (length s - count) s r.kept at ≡ [] = list_end s (length s - count) r.kept at h in
          let m : length cs ≤ length codes₀ = omega (arith, r.fits) in
          let o : codes ≡ onto cs codes₀ = ap (λ (es : List Entry). sets codes count (codes_of es)) (sym z) ∙ (r.noted ∙ onto_sets cs codes₀ m) in
          ap (take count) o ∙ take_at cs (drop (length cs) codes₀) count (omega arith)

-- ---- the second pass

pub record Listing (s lists list codes : List ℕ) (at count : ℕ) : Type 0 where
  pub kept : List Field
  pub list_is : sets list (3 * count) (list_bytes (list_from (length s - count) s kept at)) ≡ sets lists 0 (list_bytes (list_of s))
  pub codes_are : take (length (list_from (length s - count) s kept at)) (drop count codes) ≡ codes_of (list_from (length s - count) s kept at)
  pub listed : count + length (list_from (length s - count) s kept at) ≡ length (list_of s)
  pub from : 8 + 2 * count ≤ at
  pub below : at < 81922
  pub same_long : length list ≡ length lists

module _ (s lists list codes : List ℕ) (at count : ℕ) (r : Listing s lists list codes at count) where
  pub listed : length s ≤ at → 3 * length (list_of s) ≤ length lists → list ≡ onto (list_bytes (list_of s)) lists
  listed h m =
      let e : list_from (length s - count) s r.kept at ≡ [] = list_end s (length s - count) r.kept at h in
      ap (λ (es : List Entry). sets list (3 * count) (list_bytes es)) (sym e) ∙ (r.list_is ∙ onto_sets (list_bytes (list_of s)) lists (omega (arith, m, list_length (list_of s))))

  module _ (h : at < length s) where
    abbrev entry : Entry
    entry = record { offset = at; code = code_at s r.kept at }

    abbrev rest : List Entry
    rest = list_from (length s - (count + 1)) s (kept_with s r.kept at) (next_at s at)

    one_more : list_from (length s - count) s r.kept at ≡ entry ∷ rest
    one_more =
        let one_less : length s - count - 1 ≡ length s - (count + 1) = omega arith in
        list_more s (length s - count) r.kept at (omega (arith, r.from)) h
        ∙ ap (λ (k : ℕ). entry ∷ list_from k s (kept_with s r.kept at) (next_at s at)) one_less

    pub entry_room : 3 * length (list_of s) ≤ length lists → 3 * count + 3 ≤ length list
    entry_room m = omega (arith, m, r.same_long, r.listed, ap length one_more)

    noted : take (suc (length rest)) (drop count codes) ≡ code_at s r.kept at ∷ codes_of rest
    noted = ap (λ (es : List Entry). take (length es) (drop count codes)) (sym one_more) ∙ (r.codes_are ∙ ap codes_of one_more)

    pub code_there : count < length codes
    code_there = omega (arith, ap length noted, length-take (suc (length rest)) (drop count codes), length-drop count codes, length-map rest (λ (e : Entry). e.code))

    noted_here : get_or codes count 0 ∷ take (length rest) (drop (suc count) codes) ≡ code_at s r.kept at ∷ codes_of rest
    noted_here = ap (take (suc (length rest))) (sym (drop-cons codes count 0 code_there)) ∙ noted

    code_here : get_or codes count 0 ≡ code_at s r.kept at
    code_here = ap (λ (l : List ℕ). get_or l 0 0) noted_here

    pub lists_on : (now : List ℕ) (to : ℕ) → to ≡ next_at s at → to < 81922
        → now ≡ sets list (3 * count) (word_bytes 2 at ++ (get_or codes count 0 ∷ [])) → Listing s lists now codes to (count + 1)
    lists_on now to q u v =
        let l : 3 * (count + 1) ≡ 3 * count + length (entry_bytes entry) = omega (arith, length-append (word_bytes 2 at) (code_at s r.kept at ∷ []), length_word_bytes 2 at) in
        let k : count + 1 ≡ suc count = omega arith in
        along q (record {
          kept = kept_with s r.kept at;
          list_is = ap₂ (λ (t : List ℕ) (k : ℕ). sets t k (list_bytes rest)) (v ∙ ap (λ (x : ℕ). sets list (3 * count) (word_bytes 2 at ++ (x ∷ []))) code_here) l
              ∙ (sym (sets_append (entry_bytes entry) (list_bytes rest) list (3 * count))
              ∙ (ap (λ (x : List Entry). sets list (3 * count) (list_bytes x)) (sym one_more) ∙ r.list_is));
          codes_are = ap (λ (i : ℕ). take (length rest) (drop i codes)) k ∙ ap (drop 1) noted_here;
          listed = omega (arith, r.listed, ap length one_more);
          from = omega (arith, r.from);
          below = omega (arith, q, u);
          same_long = ap length v ∙ (length-sets list (3 * count) (word_bytes 2 at ++ (get_or codes count 0 ∷ [])) ∙ r.same_long);
        })
      where
        along : {y y' : ℕ} → y ≡ y' → Listing s lists now codes y' (count + 1) → Listing s lists now codes y (count + 1)
        along q v = rw q v
