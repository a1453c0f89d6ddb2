-- The kinds of tokens by number: the op of "Table" where there is one, which an operator has too. Document 01, "Table", "Ops".
use Rattle.std.specs.Prelude.{ℕ}
use Rattle.opcode.specs.Number.{int32_op, int64_op, real64_op, text_op, name_op}

-- the literals, and a name
abbrev pub int32_kind : ℕ
int32_kind = int32_op

abbrev pub int64_kind : ℕ
int64_kind = int64_op

abbrev pub real64_kind : ℕ
real64_kind = real64_op

abbrev pub text_kind : ℕ
text_kind = text_op

abbrev pub naming : ℕ
naming = name_op

-- `(`, `)` and `,`: numbers that no op has
abbrev pub opening : ℕ
opening = 9

abbrev pub closing : ℕ
closing = 10

abbrev pub comma : ℕ
comma = 11

-- what stands past the last token: a kind that no token has
abbrev pub ending : ℕ
ending = 99
