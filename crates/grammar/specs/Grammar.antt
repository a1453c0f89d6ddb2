-- The grammar: which tokens each level derives, with the tree. Document 01, "Grammar".
use Rattle.std.specs.Prelude.{ℕ, suc, ◌<◌, ◌≡◌, Bool, true, cond, ◌&&◌, ◌||◌, List, [], ◌∷◌, ◌++◌, eqb, leb}
use Rattle.opcode.specs.Number.{complement_op, shift_left_op, shift_right_zero_op, bit_and_op, bit_xor_op, bit_or_op, mul_op, rem_op, add_op, sub_op, equal_op, not_equal_op, less_op, greater_equal_op, not_op, and_op, xor_op, or_op}
use Rattle.lexer.specs.Kind.{int32_kind, text_kind, naming, opening, closing, comma}
use Rattle.lexer.specs.Token.{Token, kind_of}
use Rattle.grammar.specs.Tree.{Tree, leaf, group, unary, binary, call, Trees, none, ◌then◌}

-- The binary operators by level, 0 the loosest: "`<< >> >>>`; `&`; `^`; `|`; `* / %`; `+ -`; `< <= > >=`; `== !=`; `&&`; `^^`; `||`" stand from the tightest, 10, to the loosest.
-- A kind that is no binary operator has 11.
unfoldable pub rank : ℕ → ℕ
rank k =
    cond (eqb k or_op) 0
    (cond (eqb k xor_op) 1
    (cond (eqb k and_op) 2
    (cond (leb equal_op k && leb k not_equal_op) 3
    (cond (leb less_op k && leb k greater_equal_op) 4
    (cond (leb add_op k && leb k sub_op) 5
    (cond (leb mul_op k && leb k rem_op) 6
    (cond (eqb k bit_or_op) 7
    (cond (eqb k bit_xor_op) 8
    (cond (eqb k bit_and_op) 9
    (cond (leb shift_left_op k && leb k shift_right_zero_op) 10 11))))))))))

-- `!` and `~`
abbrev pub is_prefix : ℕ → Bool
is_prefix k = eqb k not_op || eqb k complement_op

-- int32, int64, real64, string
abbrev pub is_literal : ℕ → Bool
is_literal k = leb int32_kind k && leb k text_kind

mutual
  -- "Binary operators group to the left": an operator of a level between the same level and the next tighter one; or the tighter one alone
  pub data Level : ℕ → List Token → Tree → Type 0 where
    operator : (x : Token) {l k : ℕ} {xs ys zs : List Token} {t u : Tree} → kind_of x ≡ k → rank k ≡ l → l < 11 → Level l xs t → Level (suc l) ys u → xs ++ (x ∷ ys) ≡ zs → Level l zs (binary k t u)
    tighter : {l : ℕ} {xs : List Token} {t : Tree} → l < 11 → Level (suc l) xs t → Level l xs t
    tightest : {xs : List Token} {t : Tree} → Prefix xs t → Level 11 xs t

  -- "`!` and `~` (prefix, on what follows directly)"
  pub data Prefix : List Token → Tree → Type 0 where
    applied : {x : Token} {k : ℕ} {xs : List Token} {t : Tree} → kind_of x ≡ k → is_prefix k ≡ true → Prefix xs t → Prefix (x ∷ xs) (unary k t)
    plain : {xs : List Token} {t : Tree} → Operand xs t → Prefix xs t

  -- "Operands are literals, names, a parenthesised expression, or a call: a name, `(`, expressions parted by commas (perhaps none), `)`"
  pub data Operand : List Token → Tree → Type 0 where
    a_literal : {x : Token} → is_literal (kind_of x) ≡ true → Operand (x ∷ []) (leaf x)
    a_name : {x : Token} → kind_of x ≡ naming → Operand (x ∷ []) (leaf x)
    a_group : (o c : Token) {xs zs : List Token} {t : Tree} → kind_of o ≡ opening → kind_of c ≡ closing → Level 0 xs t → o ∷ (xs ++ (c ∷ [])) ≡ zs → Operand zs (group t)
    a_call_none : {x o c : Token} → kind_of x ≡ naming → kind_of o ≡ opening → kind_of c ≡ closing → Operand (x ∷ o ∷ c ∷ []) (call x none)
    a_call : (o c : Token) {x : Token} {xs zs : List Token} {ts : Trees} → kind_of x ≡ naming → kind_of o ≡ opening → kind_of c ≡ closing → Arguments xs ts → x ∷ o ∷ (xs ++ (c ∷ [])) ≡ zs → Operand zs (call x ts)

  pub data Arguments : List Token → Trees → Type 0 where
    first : {xs : List Token} {t : Tree} → Level 0 xs t → Arguments xs (◌then◌ none t)
    next : (m : Token) {xs ys zs : List Token} {ts : Trees} {t : Tree} → kind_of m ≡ comma → Arguments xs ts → Level 0 ys t → xs ++ (m ∷ ys) ≡ zs → Arguments zs (◌then◌ ts t)
