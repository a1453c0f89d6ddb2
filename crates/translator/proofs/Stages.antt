-- Where translation comes to its answer: before there is a tree, or by the tree. Assumes nothing.
use Prim.Native.Nat.{ℕ, ◌<◌}
use native.Mathlib.Omega.{arith}
use mathlib.Core.Path.{◌≡◌, refl, sym, ap, ◌∙◌, subst}
use mathlib.Core.Bool.{Bool, true, false}
use mathlib.Core.List.{List, map}
use mathlib.Core.Logic.{inl, inr}
use lib.ListN.{length}
use Rattle.common.specs.Choice.{pick}
use Rattle.opcode.specs.declared.Edition.{Edition}
use Rattle.lexer.specs.Token.{Placed, kind_of, Lexed, tokens, refused, tokens_of}
use Rattle.lexer.specs.Theorems.{Laid, BadToken, HasNumber}
use Rattle.lexer.proofs.Theorems.{whole, numbered}
use Rattle.grammar.specs.Tree.{Tree}
use Rattle.grammar.specs.Parse.{Result, ok, bad as unfit, parse_all}
use Rattle.grammar.specs.Nesting.{too_deep}
use Rattle.grammar.proofs.Theorems.{parses, names_place}
use Rattle.translator.specs.Translation.{Outcome, refusal, of_tree, of_result, of_tokens, of_lexed, translation_in, edition_number, translation_of}
use Rattle.translator.specs.Theorems.{Expression, Given, long, formless, outside, deep, broken}
use Rattle.translator.proofs.Filling.{whole_level}

pub data Stage (edition : Edition) (s : List ℕ) (room : ℕ) : Outcome → Type 0 where
  before : (k place : ℕ) → Given edition s room k place → 0 < k → Stage edition s room (refusal k place)
  at_tree : (t : Tree) → Expression s t → Stage edition s room (of_tree edition t room)

-- an edition by its number
pub in_edition : (edition : Edition) (s : List ℕ) (room : ℕ) → translation_of (edition_number edition) s room ≡ translation_in edition s room
unfolding translation_of
in_edition Edition.First s room = refl
in_edition Edition.Second s room = refl

pub stage : (edition : Edition) (s : List ℕ) (room : ℕ) → Stage edition s room (translation_of (edition_number edition) s room)
unfolding translation_in of_lexed of_tokens of_result
stage edition s room = rw (in_edition edition s room) (by_lexed (tokens_of s) refl)
  where
    by_parsed : (ps : List Placed) → tokens_of s ≡ tokens ps → too_deep (map (λ p. kind_of p.token) ps) ≡ false → (x : Result) → parse_all (map (λ p. p.token) ps) ≡ x
        → Stage edition s room (of_result edition (length s) (map (λ p. p.start) ps) room x)
    by_parsed ps q d (ok t n) r =
        let ks = map (λ p. p.token) ps in
        at_tree t (record { placed = ps; lexed = q; shallow = d; derived = (parses ks t).0 (r ∙ ap (ok t) (whole_level ks r).1) })
    by_parsed ps q d (unfit p) r = before 2 _ (broken ps p q d ((names_place (map (λ p. p.token) ps) p).0 r)) (omega arith)

    by_deep : (ps : List Placed) → tokens_of s ≡ tokens ps → (b : Bool) → too_deep (map (λ p. kind_of p.token) ps) ≡ b
        → Stage edition s room (pick b (λ _. refusal 6 0) (λ _. of_result edition (length s) (map (λ p. p.start) ps) room (parse_all (map (λ p. p.token) ps))))
    by_deep ps q true d = before 6 0 (deep ps q d) (omega arith)
    by_deep ps q false d = by_parsed ps q d (parse_all (map (λ p. p.token) ps)) refl

    by_token : (k place : ℕ) (ps : List Placed) → tokens_of s ≡ refused k place ps → HasNumber s k place → Stage edition s room (refusal k place)
    by_token k place ps q (inl h) = rw (h.1, h.2) (before 10 0 (long h.0) (omega arith))
    by_token k place ps q (inr (inl (h, inl e, qs, l))) = before k place (subst (λ (n : ℕ). Given edition s room n place) (sym e) (formless place qs h (subst (λ (n : ℕ). Laid (BadToken n place) 0 qs s) e l))) (omega arith)
    by_token k place ps q (inr (inl (h, inr e, qs, l))) = before k place (subst (λ (n : ℕ). Given edition s room n place) (sym e) (outside place qs h (subst (λ (n : ℕ). Laid (BadToken n place) 0 qs s) e l))) (omega arith)
    by_token k place ps q (inr (inr (h, e, z, qs, l))) = let f = sym q ∙ (whole s qs).1 (h, l) in let z : ◌≡◌ {A = ℕ} 0 1 = cc in absurd (omega arith)

    by_lexed : (l : Lexed) → tokens_of s ≡ l → Stage edition s room (of_lexed edition (length s) room l)
    by_lexed (tokens ps) q = by_deep ps q (too_deep (map (λ p. kind_of p.token) ps)) refl
    by_lexed (refused k place ps) q = by_token k place ps q ((numbered s k place).0 (rw q (refl, refl)))
