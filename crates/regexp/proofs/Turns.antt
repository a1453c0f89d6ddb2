-- Turns of the loop that makes a branch's table. Assumes nothing.
use mathlib.Core.Path.{◌≡◌, refl, sym, ap, ◌∙◌}
use mathlib.Core.Bool.{Bool, true, false, ◌||◌}
use mathlib.Core.List.{List, [], ◌∷◌, ◌++◌, append_assoc, append-nil}
use Prim.Native.Nat.{ℕ, suc, ◌+◌, ◌-◌, ◌≤◌, ◌<◌}
use native.Mathlib.Numerals.{add-one}
use native.Mathlib.Omega.{arith}
use lib.ListN.{length, get_or, set, take, drop, length-append, length-set}
use lib.Seq.{take-suc-set, take-set-lt, length-take-le, get_or-take, set-get_or, get_or-set_same, get_or-set_other}
use lib.Dec.{eqb, ltb}
use borrow.Author.Tests.{ne_eqb}
use Rattle.common.proofs.Choice.{true_false}
use Rattle.pattern.specs.Steps.{test_at}
use Rattle.automaton.specs.Language.{Re, leaf, group as grouping, nil as nothing, seq as then, alt as or}
use Rattle.automaton.specs.Pass.{Token, one, opens, bar, closes, tokens}
use Rattle.automaton.specs.Table.{held_of, hits, hit_by, repeats, absent, outside, sort, token_by, token_of, tokens_of}
use Rattle.regexp.specs.Language.{Atom, takes, Mark, Tree, one as atom, group, repeat, seq, alt}
use Rattle.regexp.specs.Words.{Word, item, repeats as marking, opening, bars, closing, word_of, ends}
use Rattle.regexp.specs.Scan.{Frame, frame, Spot, spot, goes, sequence, choice, next, Steps, here, start, tree_of, has, read, branch_of}
use Rattle.regexp.specs.Regex.{repeats as repeatsOf, absent as absentOf, remark, re_of}
use Rattle.regexp.proofs.Forth.{chain, step}
use Rattle.regexp.proofs.Shape.{Markable, markable_still}
use Rattle.regexp.proofs.Walks.{Walks, walk_end}
use Rattle.regexp.proofs.Back.{base}

-- the tokens of pieces, of branches, of all that is open
abbrev of_pieces : List Tree → List Token
of_pieces [] = []
of_pieces (t ∷ ps) = of_pieces ps ++ tokens (re_of t)

abbrev of_bars : List Tree → List Token
of_bars [] = []
of_bars (t ∷ bs) = of_bars bs ++ (tokens (re_of t) ++ (bar ∷ []))

abbrev toks : List Frame → List Tree → List Tree → List Token
toks [] bs ps = of_bars bs ++ of_pieces ps
toks (frame cs qs ∷ out) bs ps = toks out cs qs ++ (opens false 0 ∷ (of_bars bs ++ of_pieces ps))

abbrev Held : List ℕ → ℕ → List Frame → Type 0
Held os k [] = Unit {0}
Held os k (frame cs qs ∷ out) = (get_or os k 0 ≡ length (toks out cs qs)) × Held os (suc k) out

abbrev LastAt : ℕ → List Frame → List Tree → List Tree → Type 0
LastAt x out bs [] = Unit {0}
LastAt x out bs (t ∷ ps) = (x ≡ length (toks out bs ps)) × Markable (re_of t)

-- The table stands for what has been read.
abbrev pub Stands : List ℕ → List ℕ → List ℕ → ℕ → List ℕ → ℕ → ℕ → Bool → ℕ → ℕ → Type 0
Stands text ks xs from os room last some n i =
    (bs : List Tree) × (ps : List Tree) × (out : List Frame)
    × Steps (goes (drop from text) start) (goes (drop i text) (spot room bs ps out))
    × (some ≡ has ps) × (room + length out ≡ 8)
    × (tokens_of text (take n ks) (take n xs) ≡ toks out bs ps)
    × Held os room out × LastAt last out bs ps

pub begins : (text ks xs : List ℕ) (from : ℕ) (os : List ℕ) (last : ℕ) → Stands text ks xs from os 8 last false 0 from
begins text ks xs from os last = ([], [], [], here refl, refl, refl, refl, tt, tt)

tokens_snoc : (text ks xs : List ℕ) (k a : ℕ) → length ks ≡ length xs → tokens_of text (ks ++ (k ∷ [])) (xs ++ (a ∷ [])) ≡ tokens_of text ks xs ++ (token_of text k a ∷ [])
tokens_snoc text [] [] k a e = refl
tokens_snoc text [] (x ∷ xs) k a e = absurd (omega arith)
tokens_snoc text (y ∷ ks) [] k a e = absurd (omega arith)
tokens_snoc text (y ∷ ks) (x ∷ xs) k a e = ap (λ (l : List Token). token_of text y x ∷ l) (tokens_snoc text ks xs k a (omega arith))

tokens_length : (text ks xs : List ℕ) → length ks ≡ length xs → length (tokens_of text ks xs) ≡ length ks
tokens_length text [] xs e = refl
tokens_length text (k ∷ ks) [] e = absurd (omega arith)
tokens_length text (k ∷ ks) (x ∷ xs) e = ap suc (tokens_length text ks xs (omega arith))

-- one entry in the middle
tokens_put : (text ks xs : List ℕ) (av : List Token) (x : Token) (bs : List Token) (k a : ℕ) → length ks ≡ length xs → tokens_of text ks xs ≡ av ++ (x ∷ bs) →
    (tokens_of text (set ks (length av) k) (set xs (length av) a) ≡ av ++ (token_of text k a ∷ bs)) × (x ≡ token_of text (get_or ks (length av) 0) (get_or xs (length av) 0))
tokens_put text [] xs [] x bs k a l e = let z : ◌≡◌ {A = ℕ} 0 1 = cc in absurd (omega arith)
tokens_put text [] xs (y ∷ av) x bs k a l e = let z : ◌≡◌ {A = ℕ} 0 1 = cc in absurd (omega arith)
tokens_put text (u ∷ ks) [] av x bs k a l e = absurd (omega arith)
tokens_put text (u ∷ ks) (v ∷ xs) [] x bs k a l e =
    let f : tokens_of text ks xs ≡ bs = cc in
    let g : token_of text u v ≡ x = cc in
    (ap (λ (m : List Token). token_of text k a ∷ m) f, sym g)
tokens_put text (u ∷ ks) (v ∷ xs) (y ∷ av) x bs k a l e =
    let f : tokens_of text ks xs ≡ av ++ (x ∷ bs) = cc in
    let g : token_of text u v ≡ y = cc in
    let q = tokens_put text ks xs av x bs k a (omega arith) f in
    (cc q.0, q.1)

-- a table of n entries
module _ (text ks xs : List ℕ) (n : ℕ) (hk : n ≤ length ks) (hx : n ≤ length xs) where
  same : length (take n ks) ≡ length (take n xs)
  same = length-take-le n ks hk ∙ sym (length-take-le n xs hx)

  pub table_length : (ts : List Token) → tokens_of text (take n ks) (take n xs) ≡ ts → n ≡ length ts
  table_length ts e = sym (length-take-le n ks hk) ∙ sym (tokens_length text (take n ks) (take n xs) same) ∙ ap length e

  module _ (av : List Token) (x : Token) (bs : List Token) (e : tokens_of text (take n ks) (take n xs) ≡ av ++ (x ∷ bs)) (p : ℕ) (h : p ≡ length av) where
    inner : p < n
    inner = omega (arith, table_length (av ++ (x ∷ bs)) e, length-append av (x ∷ bs))

    was : x ≡ token_of text (get_or ks p 0) (get_or xs p 0)
    was =
        let q = (tokens_put text (take n ks) (take n xs) av x bs 0 0 same e).1 in
        (rw (← h, get_or-take n ks p 0 inner, get_or-take n xs p 0 inner) at q)

    put_both : (k a : ℕ) → tokens_of text (take n (set ks p k)) (take n (set xs p a)) ≡ av ++ (token_of text k a ∷ bs)
    put_both k a =
        let q = (tokens_put text (take n ks) (take n xs) av x bs k a same e).0 in
        rw (take-set-lt n ks p k inner, take-set-lt n xs p a inner) (rw (← h) at q)

    put_kind : (k : ℕ) → tokens_of text (take n (set ks p k)) (take n xs) ≡ av ++ (token_of text k (get_or xs p 0) ∷ bs)
    put_kind k = (rw (set-get_or xs p 0) at (put_both k (get_or xs p 0)))

    put_arg : (a : ℕ) → tokens_of text (take n ks) (take n (set xs p a)) ≡ av ++ (token_of text (get_or ks p 0) a ∷ bs)
    put_arg a = (rw (set-get_or ks p 0) at (put_both (get_or ks p 0) a))

-- one entry more
table_snoc : (text ks xs : List ℕ) (n k a : ℕ) → n < length ks → n < length xs → tokens_of text (take (n + 1) (set ks n k)) (take (n + 1) (set xs n a)) ≡ tokens_of text (take n ks) (take n xs) ++ (token_of text k a ∷ [])
table_snoc text ks xs n k a hk hx =
    rw (add-one n, take-suc-set ks n k hk, take-suc-set xs n a hx)
    (tokens_snoc text (take n ks) (take n xs) k a (length-take-le n ks (omega arith) ∙ sym (length-take-le n xs (omega arith))))

toks_piece : (out : List Frame) (bs ps : List Tree) (t : Tree) → toks out bs (t ∷ ps) ≡ toks out bs ps ++ tokens (re_of t)
toks_piece [] bs ps t = sym (append_assoc (of_bars bs) (of_pieces ps) (tokens (re_of t)))
toks_piece (frame cs qs ∷ out) bs ps t =
    ap (λ (l : List Token). toks out cs qs ++ (opens false 0 ∷ l)) (sym (append_assoc (of_bars bs) (of_pieces ps) (tokens (re_of t))))
    ∙ sym (append_assoc (toks out cs qs) (opens false 0 ∷ (of_bars bs ++ of_pieces ps)) (tokens (re_of t)))

sequence_tokens : (ps : List Tree) (u : Tree) → tokens (re_of (sequence u ps)) ≡ of_pieces ps ++ tokens (re_of u)
sequence_tokens [] u = refl
sequence_tokens (t ∷ ps) u = sequence_tokens ps (seq t u) ∙ sym (append_assoc (of_pieces ps) (tokens (re_of t)) (tokens (re_of u)))

choice_tokens : (bs : List Tree) (u : Tree) → tokens (re_of (choice u bs)) ≡ of_bars bs ++ tokens (re_of u)
choice_tokens [] u = refl
choice_tokens (t ∷ bs) u =
    choice_tokens bs (alt t u)
    ∙ ap (λ (l : List Token). of_bars bs ++ l) (sym (append_assoc (tokens (re_of t)) (bar ∷ []) (tokens (re_of u))))
    ∙ sym (append_assoc (of_bars bs) (tokens (re_of t) ++ (bar ∷ [])) (tokens (re_of u)))

-- a kind by its parts
abbrev token_from : List ℕ → ℕ → Bool → Bool → Bool → ℕ → Token
token_from text s out r o a =
    token_by (eqb s 3) (eqb s 4) (eqb s 5) (λ c. hit_by (ltb 2 s) (eqb s 0) (eqb s 1) (eqb (get_or text a 256) c) out (held_of (test_at a (drop a text) c))) r o a

abbrev again_tok : Bool → Token → Token
again_tok q (one f r o) = one f (r || q) o
again_tok q (opens r d) = opens (r || q) d
again_tok q bar = bar
again_tok q (closes o) = closes o

abbrev lack_tok : Bool → Token → Token
lack_tok q (one f r o) = one f r (o || q)
lack_tok q (opens r d) = opens r d
lack_tok q bar = bar
lack_tok q (closes o) = closes (o || q)

again_by : (x y z : Bool) (f : ℕ → Bool) (r o q : Bool) (d : ℕ) → token_by x y z f (r || q) o d ≡ again_tok q (token_by x y z f r o d)
again_by true y z f r o q d = refl
again_by false true z f r o q d = refl
again_by false false true f r o q d = refl
again_by false false false f r o q d = refl

lack_by : (x y z : Bool) (f : ℕ → Bool) (r o q : Bool) (d : ℕ) → token_by x y z f r (o || q) d ≡ lack_tok q (token_by x y z f r o d)
lack_by true y z f r o q d = refl
lack_by false true z f r o q d = refl
lack_by false false true f r o q d = refl
lack_by false false false f r o q d = refl

abbrev pub Again : ℕ → Bool → ℕ → Type 0
Again k r x = (sort x ≡ sort k) × (outside x ≡ outside k) × (absent x ≡ absent k) × (repeats x ≡ (repeats k || r))

abbrev pub Lacks : ℕ → Bool → ℕ → Type 0
Lacks k o x = (sort x ≡ sort k) × (outside x ≡ outside k) × (repeats x ≡ repeats k) × (absent x ≡ (absent k || o))

again_token : (text : List ℕ) (k x a : ℕ) (r : Bool) → Again k r x → token_of text x a ≡ again_tok r (token_of text k a)
again_token text k x a r h =
    let e : token_from text (sort x) (outside x) (repeats x) (absent x) a ≡ token_from text (sort k) (outside k) (repeats k || r) (absent k) a = rw (h.0, h.1, h.2, h.3) in
    e ∙ again_by (eqb (sort k) 3) (eqb (sort k) 4) (eqb (sort k) 5) (hits text k a) (repeats k) (absent k) r a

lack_token : (text : List ℕ) (k x a : ℕ) (o : Bool) → Lacks k o x → token_of text x a ≡ lack_tok o (token_of text k a)
lack_token text k x a o h =
    let e : token_from text (sort x) (outside x) (repeats x) (absent x) a ≡ token_from text (sort k) (outside k) (repeats k) (absent k || o) a = rw (h.0, h.1, h.2, h.3) in
    e ∙ lack_by (eqb (sort k) 3) (eqb (sort k) 4) (eqb (sort k) 5) (hits text k a) (repeats k) (absent k) o a

token_one : (text : List ℕ) (k a : ℕ) → sort k < 3 → repeats k ≡ false → absent k ≡ false → token_of text k a ≡ one (hits text k a) false false
token_one text k a h r o = rw (ne_eqb (sort k) 3 (λ e. omega arith), ne_eqb (sort k) 4 (λ e. omega arith), ne_eqb (sort k) 5 (λ e. omega arith), r, o)

-- the marks of the last piece
marked_toks : (text ks xs : List ℕ) (n last k x : ℕ) (m : Mark) (av : List Token) (t : Re) → Markable t → n ≤ length ks → n ≤ length xs →
    tokens_of text (take n ks) (take n xs) ≡ av ++ tokens t → last ≡ length av →
    Again (get_or ks last 0) (repeatsOf m) k → Lacks (get_or (set ks last k) (n - 1) 0) (absentOf m) x →
    tokens_of text (take n (set (set ks last k) (n - 1) x)) (take n xs) ≡ av ++ tokens (remark m t)
marked_toks text ks xs n last k x m av (leaf f r o y) mk hk hx e l ha hl =
    let nn : n ≡ length (av ++ (one f r o ∷ [])) = table_length text ks xs n hk hx (av ++ (one f r o ∷ [])) e in
    let p : n - 1 ≡ length av = omega (arith, nn, length-append av (one f r o ∷ [])) in
    let w = was text ks xs n hk hx av (one f r o) [] e last l in
    let g : token_of text k (get_or xs last 0) ≡ one f (r || repeatsOf m) o = again_token text (get_or ks last 0) k (get_or xs last 0) (repeatsOf m) ha ∙ ap (again_tok (repeatsOf m)) (sym w) in
    let e1 = put_kind text ks xs n hk hx av (one f r o) [] e last l k ∙ ap (λ (z : Token). av ++ (z ∷ [])) g in
    let hk1 : n ≤ length (set ks last k) = simp length-set hk in
    let w1 = was text (set ks last k) xs n hk1 hx av (one f (r || repeatsOf m) o) [] e1 (n - 1) p in
    put_kind text (set ks last k) xs n hk1 hx av (one f (r || repeatsOf m) o) [] e1 (n - 1) p x
    ∙ ap (λ (z : Token). av ++ (z ∷ [])) (lack_token text (get_or (set ks last k) (n - 1) 0) x (get_or xs (n - 1) 0) (absentOf m) hl ∙ ap (lack_tok (absentOf m)) (sym w1))
marked_toks text ks xs n last k x m av (grouping r o t) mk hk hx e l ha hl =
    let d = length (tokens t) in
    let bs = tokens t ++ (closes o ∷ []) in
    let w = was text ks xs n hk hx av (opens r d) bs e last l in
    let g : token_of text k (get_or xs last 0) ≡ opens (r || repeatsOf m) d = again_token text (get_or ks last 0) k (get_or xs last 0) (repeatsOf m) ha ∙ ap (again_tok (repeatsOf m)) (sym w) in
    let e1 : tokens_of text (take n (set ks last k)) (take n xs) ≡ (av ++ (opens (r || repeatsOf m) d ∷ tokens t)) ++ (closes o ∷ []) =
    put_kind text ks xs n hk hx av (opens r d) bs e last l k ∙ ap (λ (z : Token). av ++ (z ∷ bs)) g ∙ sym (append_assoc av (opens (r || repeatsOf m) d ∷ tokens t) (closes o ∷ [])) in
    let hk1 : n ≤ length (set ks last k) = simp length-set hk in
    let nn : n ≡ length ((av ++ (opens (r || repeatsOf m) d ∷ tokens t)) ++ (closes o ∷ [])) = table_length text (set ks last k) xs n hk1 hx ((av ++ (opens (r || repeatsOf m) d ∷ tokens t)) ++ (closes o ∷ [])) e1 in
    let p : n - 1 ≡ length (av ++ (opens (r || repeatsOf m) d ∷ tokens t)) = omega (arith, nn, length-append (av ++ (opens (r || repeatsOf m) d ∷ tokens t)) (closes o ∷ [])) in
    let w1 = was text (set ks last k) xs n hk1 hx (av ++ (opens (r || repeatsOf m) d ∷ tokens t)) (closes o) [] e1 (n - 1) p in
    put_kind text (set ks last k) xs n hk1 hx (av ++ (opens (r || repeatsOf m) d ∷ tokens t)) (closes o) [] e1 (n - 1) p x
    ∙ ap (λ (z : Token). (av ++ (opens (r || repeatsOf m) d ∷ tokens t)) ++ (z ∷ [])) (lack_token text (get_or (set ks last k) (n - 1) 0) x (get_or xs (n - 1) 0) (absentOf m) hl ∙ ap (lack_tok (absentOf m)) (sym w1))
    ∙ append_assoc av (opens (r || repeatsOf m) d ∷ tokens t) (closes (o || absentOf m) ∷ [])
marked_toks text ks xs n last k x m av nothing mk hk hx e l ha hl = absurd mk
marked_toks text ks xs n last k x m av (then p q) mk hk hx e l ha hl = absurd mk
marked_toks text ks xs n last k x m av (or p q) mk hk hx e l ha hl = absurd mk

-- The turns, one a word.
module _ (text ks xs : List ℕ) (from : ℕ) (os : List ℕ) (room last : ℕ) (some : Bool) (n i : ℕ) (s : Stands text ks xs from os room last some n i) (hk : n < length ks) (hx : n < length xs) where
  abbrev bs : List Tree
  bs = s.0

  abbrev ps : List Tree
  ps = s.1

  abbrev out : List Frame
  out = s.2

  n_is : n ≡ length (toks out bs ps)
  n_is = table_length text ks xs n (omega arith) (omega arith) (toks out bs ps) s.6

  moved : (z : List ℕ) (p : Spot) → next (word_of (drop i text)) (spot room bs ps out) ≡ goes z p → Steps (goes (drop from text) start) (goes z p)
  moved z p e = chain s.3 (step e)

  pub item_turn : (k a j : ℕ) (x : Atom) → word_of (drop i text) ≡ item x (drop j text) → hits text k a ≡ takes x → sort k < 3 → repeats k ≡ false → absent k ≡ false →
      Stands text (set ks n k) (set xs n a) from os room n true (n + 1) j
  item_turn k a j x w t h r o = (
    bs,
    atom x ∷ ps,
    out,
    moved (drop j text) (spot room bs (atom x ∷ ps) out) (ap (λ (v : Word). next v (spot room bs ps out)) w),
    refl,
    s.5,
    table_snoc text ks xs n k a hk hx ∙ cc (s.6, token_one text k a h r o ∙ ap (λ (f : ℕ → Bool). one f false false) t) ∙ sym (toks_piece out bs ps (atom x)),
    s.7,
    (n_is, tt),
  )

  pub last_inside : some ≡ true → last < n
  last_inside e = go ps s.4 s.8 n_is
    where
      longer : (t : Re) → Markable t → 0 < length (tokens t)
      longer (leaf f r o x) h = omega arith
      longer (grouping r o t) h = omega arith
      longer nothing h = absurd h
      longer (then p q) h = absurd h
      longer (or p q) h = absurd h

      go : (qs : List Tree) → some ≡ has qs → LastAt last out bs qs → n ≡ length (toks out bs qs) → last < n
      go [] f l q = true_false (sym e ∙ f)
      go (t ∷ qs) f l q = omega (arith, l.0, longer (re_of t) l.1, q, ap length (toks_piece out bs qs t), length-append (toks out bs qs) (tokens (re_of t)))

  pub repeat_turn : (m : Mark) (k x : ℕ) → word_of (drop i text) ≡ marking m (drop (i + 1) text) → some ≡ true →
      Again (get_or ks last 0) (repeatsOf m) k → Lacks (get_or (set ks last k) (n - 1) 0) (absentOf m) x →
      Stands text (set (set ks last k) (n - 1) x) xs from os room last some n (i + 1)
  repeat_turn m k x w e ha hl = go ps s.3 s.4 s.6 s.8
    where
      go : (qs : List Tree) → Steps (goes (drop from text) start) (goes (drop i text) (spot room bs qs out)) → some ≡ has qs → tokens_of text (take n ks) (take n xs) ≡ toks out bs qs → LastAt last out bs qs →
          Stands text (set (set ks last k) (n - 1) x) xs from os room last some n (i + 1)
      go [] st f t l = true_false (sym e ∙ f)
      go (p ∷ qs) st f t l = (
        bs,
        repeat m p ∷ qs,
        out,
        chain st (step (ap (λ (v : Word). next v (spot room bs (p ∷ qs) out)) w)),
        e,
        s.5,
        marked_toks text ks xs n last k x m (toks out bs qs) (re_of p) l.1 (omega arith) (omega arith) (t ∙ toks_piece out bs qs p) l.0 ha hl ∙ sym (toks_piece out bs qs (repeat m p)),
        s.7,
        (l.0, markable_still m (re_of p) l.1),
      )

  held_set : (p v k : ℕ) (fs : List Frame) → p < k → Held os k fs → Held (set os p v) k fs
  held_set p v k [] h q = tt
  held_set p v k (frame cs qs ∷ fs) h q = (get_or-set_other os p k v 0 (λ z. omega arith) ∙ q.0, held_set p v (suc k) fs (omega arith) q.1)

  open_token : token_of text 24 0 ≡ opens false 0
  unfolding repeats absent outside sort
  open_token = refl

  bar_token : token_of text 32 0 ≡ bar
  unfolding repeats absent outside sort
  bar_token = refl

  close_token : token_of text 40 0 ≡ closes false
  unfolding repeats absent outside sort
  close_token = refl

  pub open_turn : word_of (drop i text) ≡ opening (drop (i + 1) text) → 0 < room → room ≤ length os →
      Stands text (set ks n 24) (set xs n 0) from (set os (room - 1) n) (room - 1) last false (n + 1) (i + 1)
  open_turn w h ho = go room (room - 1) (omega arith) ho s.3 s.5 s.7
    where
      go : (r k : ℕ) → r ≡ suc k → r ≤ length os → Steps (goes (drop from text) start) (goes (drop i text) (spot r bs ps out)) → r + length out ≡ 8 → Held os r out → Stands text (set ks n 24) (set xs n 0) from (set os k n) k last false (n + 1) (i + 1)
      go r k e l st f q =
          let st1 : Steps (goes (drop from text) start) (goes (drop i text) (spot (suc k) bs ps out)) = (rw e at st) in
          let q1 : Held os (suc k) out = (rw e at q) in (
            [],
            [],
            frame bs ps ∷ out,
            chain st1 (step (ap (λ (v : Word). next v (spot (suc k) bs ps out)) w)),
            refl,
            omega arith,
            table_snoc text ks xs n 24 0 hk hx ∙ cc (s.6, open_token),
            (get_or-set_same os k n 0 (omega arith) ∙ n_is, held_set k n (suc k) out (omega arith) q1),
            tt,
          )

  pub bar_turn : word_of (drop i text) ≡ bars (drop (i + 1) text) → (room ≡ 8 → ⊥) → some ≡ true → Stands text (set ks n 32) (set xs n 0) from os room last false (n + 1) (i + 1)
  bar_turn w h e = go ps out s.3 s.4 s.5 s.6 s.7
    where
      go : (qs : List Tree) (fs : List Frame) → Steps (goes (drop from text) start) (goes (drop i text) (spot room bs qs fs)) → some ≡ has qs → room + length fs ≡ 8 → tokens_of text (take n ks) (take n xs) ≡ toks fs bs qs → Held os room fs →
          Stands text (set ks n 32) (set xs n 0) from os room last false (n + 1) (i + 1)
      go qs [] st f l t q = absurd (h (omega arith))
      go [] (g ∷ fs) st f l t q = true_false (sym e ∙ f)
      go (p ∷ qs) (frame cs us ∷ fs) st f l t q = (
        sequence p qs ∷ bs,
        [],
        frame cs us ∷ fs,
        chain st (step (ap (λ (v : Word). next v (spot room bs (p ∷ qs) (frame cs us ∷ fs))) w)),
        refl,
        l,
        table_snoc text ks xs n 32 0 hk hx ∙ cc (t, bar_token)
            ∙ append_assoc (toks fs cs us) (opens false 0 ∷ (of_bars bs ++ (of_pieces qs ++ tokens (re_of p)))) (bar ∷ [])
            ∙ ap (λ (z : List Token). toks fs cs us ++ (opens false 0 ∷ z))
            (append_assoc (of_bars bs) (of_pieces qs ++ tokens (re_of p)) (bar ∷ []) ∙ ap (λ (z : List Token). of_bars bs ++ (z ++ (bar ∷ []))) (sym (sequence_tokens qs p)) ∙ sym (append-nil (of_bars bs ++ (tokens (re_of (sequence p qs)) ++ (bar ∷ []))))),
        q,
        tt,
      )

  pub open_inside : (room ≡ 8 → ⊥) → get_or os room 0 < n
  open_inside h = go out s.5 s.7 n_is
    where
      go : (fs : List Frame) → room + length fs ≡ 8 → Held os room fs → n ≡ length (toks fs bs ps) → get_or os room 0 < n
      go [] l q e = absurd (h (omega arith))
      go (frame cs us ∷ fs) l q e = omega (arith, q.0, e, length-append (toks fs cs us) (opens false 0 ∷ (of_bars bs ++ of_pieces ps)))

  opens_arg : (x y z : Bool) (f g : ℕ → Bool) (r o q : Bool) (a b d : ℕ) → token_by x y z f r o a ≡ opens q b → token_by x y z g r o d ≡ opens q d
  opens_arg true y z f g r o q a b d e = let w : r ≡ q = cc in ap (λ (v : Bool). opens v d) w
  opens_arg false true z f g r o q a b d e = let w : ◌≡◌ {A = ℕ} 0 1 = cc in absurd (omega arith)
  opens_arg false false true f g r o q a b d e = let w : ◌≡◌ {A = ℕ} 0 1 = cc in absurd (omega arith)
  opens_arg false false false f g r o q a b d e = let w : ◌≡◌ {A = ℕ} 0 1 = cc in absurd (omega arith)

  pub close_turn : (p d : ℕ) → p ≡ get_or os room 0 → d ≡ n - p - 1 → word_of (drop i text) ≡ closing (drop (i + 1) text) → (room ≡ 8 → ⊥) → some ≡ true →
      Stands text (set ks n 40) (set (set xs p d) n 0) from os (room + 1) p some (n + 1) (i + 1)
  close_turn p d ep ed w h e = go ps out s.3 s.4 s.5 s.6 s.7
    where
      go : (qs : List Tree) (fs : List Frame) → Steps (goes (drop from text) start) (goes (drop i text) (spot room bs qs fs)) → some ≡ has qs → room + length fs ≡ 8 → tokens_of text (take n ks) (take n xs) ≡ toks fs bs qs → Held os room fs →
          Stands text (set ks n 40) (set (set xs p d) n 0) from os (room + 1) p some (n + 1) (i + 1)
      go qs [] st f l t q = absurd (h (omega arith))
      go [] (g ∷ fs) st f l t q = true_false (sym e ∙ f)
      go (v ∷ qs) (frame cs us ∷ fs) st f l t q =
          let av = toks fs cs us in
          let bv = of_bars bs ++ (of_pieces qs ++ tokens (re_of v)) in
          let x = choice (sequence v qs) bs in
          let g = group x in
          let hk0 : n ≤ length ks = omega arith in
          let hx0 : n ≤ length xs = omega arith in
          let hx1 : n < length (set xs p d) = simp length-set hx in
          let pv : p ≡ length av = ep ∙ q.0 in
          let bx : bv ≡ tokens (re_of x) = sym (choice_tokens bs (sequence v qs) ∙ ap (λ (z : List Token). of_bars bs ++ z) (sequence_tokens qs v)) in
          let nn : n ≡ length (av ++ (opens false 0 ∷ bv)) = table_length text ks xs n hk0 hx0 (av ++ (opens false 0 ∷ bv)) t in
          let dv : d ≡ length bv = omega (arith, ed, nn, pv, length-append av (opens false 0 ∷ bv)) in
          let ow : opens false 0 ≡ token_of text (get_or ks p 0) (get_or xs p 0) = was text ks xs n hk0 hx0 av (opens false 0) bv t p pv in
          let k = get_or ks p 0 in
          let tk : token_of text k d ≡ opens false d = opens_arg (eqb (sort k) 3) (eqb (sort k) 4) (eqb (sort k) 5) (hits text k (get_or xs p 0)) (hits text k d) (repeats k) (absent k) false (get_or xs p 0) 0 d (sym ow) in
          let t1 : tokens_of text (take n ks) (take n (set xs p d)) ≡ av ++ (opens false (length (tokens (re_of x))) ∷ tokens (re_of x)) =
          put_arg text ks xs n hk0 hx0 av (opens false 0) bv t p pv d ∙ ap (λ (z : Token). av ++ (z ∷ bv)) (tk ∙ ap (opens false) dv) ∙ ap (λ (z : List Token). av ++ (opens false (length z) ∷ z)) bx in (
            cs,
            g ∷ us,
            fs,
            rw (add-one room) (chain st (step (ap (λ (y : Word). next y (spot room bs (v ∷ qs) (frame cs us ∷ fs))) w))),
            e,
            omega arith,
            table_snoc text ks (set xs p d) n 40 0 hk hx1 ∙ cc (t1, close_token) ∙ append_assoc av (opens false (length (tokens (re_of x))) ∷ tokens (re_of x)) (closes false ∷ []) ∙ sym (toks_piece fs cs us g),
            rw (add-one room) q.1,
            (pv, tt),
          )

module _ (text ks xs : List ℕ) (from : ℕ) (os : List ℕ) (room last : ℕ) (some : Bool) (n i : ℕ) (s : Stands text ks xs from os room last some n i) where
  abbrev pub walked : Walks text from room some i
  walked = (s.0, s.1, s.2, s.3, s.4, s.5)

  bare : (ts : List Tree) → Steps (goes (drop from text) start) (goes (drop i text) (spot room ts s.1 [])) → of_bars ts ≡ []
  bare ts p = ap of_bars (base p)

  whole : (qs : List Tree) → of_pieces qs ≡ tokens (re_of (tree_of qs))
  whole [] = refl
  whole (t ∷ qs) = sym (sequence_tokens qs t)

  pub finish : ends (word_of (drop i text)) ≡ true → room ≡ 8
      → (ps : List Tree) × (branch_of (drop from text) ≡ read ps (drop i text)) × (some ≡ has ps) × (tokens_of text (take n ks) (take n xs) ≡ tokens (re_of (tree_of ps)))
  finish h e =
      let q = walk_end text from room some i walked h e in
      (s.1, q.0, s.4, go s.2 q.1 s.3 s.6)
    where
      go : (fs : List Frame) → fs ≡ [] → Steps (goes (drop from text) start) (goes (drop i text) (spot room s.0 s.1 fs)) → tokens_of text (take n ks) (take n xs) ≡ toks fs s.0 s.1
          → tokens_of text (take n ks) (take n xs) ≡ tokens (re_of (tree_of s.1))
      go [] f p t = t ∙ ap (λ (l : List Token). l ++ of_pieces s.1) (bare s.0 p) ∙ whole s.1
      go (g ∷ fs) f p t = let y : ◌≡◌ {A = ℕ} 0 1 = cc in absurd (omega arith)
