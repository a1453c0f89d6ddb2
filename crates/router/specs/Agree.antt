-- What of a tree's making the run of its table rests on: operators by their ops, calls with the arguments that their functions take, and literals that their types hold.
-- Every accepted text's tree is so (`accepted_made` in proofs/Made.antt).
use Rattle.std.specs.Prelude.{ℕ, ◌≤◌, ◌<◌, ◌≡◌, ◌⊎◌, T}
use Rattle.std.specs.Float.{binary64}
use Rattle.std.specs.Float.Ieee.{fits}
use Rattle.std.specs.Int.{w32, w64}
use Rattle.std.proofs.Common.{SFits}
use Rattle.opcode.specs.Opcode.{op_of}
use Rattle.opcode.specs.declared.Op.{Op}
use Rattle.opcode.specs.declared.Unary.{Unary}
use Rattle.opcode.specs.declared.Binary.{Binary}
use Rattle.opcode.specs.declared.Many.{Many}
use Rattle.lexer.specs.Token.{Token, name, int32, int64, real, text, symbol}
use Rattle.grammar.specs.Tree.{Tree, leaf, group, unary, binary, call, Trees, none, ◌then◌}
use Rattle.grammar.specs.Function.{function_of}
use Rattle.grammar.specs.Size.{count_of}

-- a literal within its type, or a name
abbrev pub LeafMade : Token → Type 0
LeafMade (name s escaped) = Unit {0}
LeafMade (int32 z) = SFits w32 z
LeafMade (int64 z) = SFits w64 z
LeafMade (real x) = T (fits binary64 x)
LeafMade (text s) = Unit {0}
LeafMade (symbol k) = ⊥

-- a function of one argument, or one of a first and at least one more
abbrev pub CallMade : ℕ → ℕ → Type 0
CallMade f count =
    ((u : Unary) × (op_of f ≡ Op.Unary u) × (f < 56) × (count ≡ 1))
    ⊎ ((m : Many) × (op_of f ≡ Op.Many m) × (56 ≤ f) × (1 ≤ count))

unfoldable mutual
  pub Made : Tree → Type 0
  Made (leaf x) = LeafMade x
  Made (group t) = Made t
  Made (unary k t) = ((u : Unary) × (op_of k ≡ Op.Unary u)) × Made t
  Made (binary k t u) = ((b : Binary) × (op_of k ≡ Op.Binary b)) × Made t × Made u
  Made (call x ts) = CallMade (function_of x) (count_of ts) × MadeIn ts

  pub MadeIn : Trees → Type 0
  MadeIn none = Unit {0}
  MadeIn (◌then◌ ts t) = MadeIn ts × Made t
