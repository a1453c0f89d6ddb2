-- Document 02, request 10: "It must hold for every function then built, and for those added later." An operator rises (is monotone) in the order of what is known if, with more known of its operands, it gives the same or gave bottom.
-- One law for each group of operators, over every operator of the group, so that one that is added later is under it. The proofs, and what a new function owes, are in proofs/Laws.antt, under the same names.
use Rattle.std.specs.Prelude.{ℕ, ◌≡◌, List}
use Rattle.truth.specs.declared.Truth.{Truth}
use Rattle.truth.specs.declared.Truth.TheVariants.{Bottom}
use Rattle.opcode.specs.declared.Edition.{Edition}
use Rattle.opcode.specs.declared.Unary.{Unary}
use Rattle.opcode.specs.declared.Connective.{Connective}
use Rattle.opcode.specs.declared.Binary.{Binary}
use Rattle.opcode.specs.declared.Many.{Many}
use Rattle.notice.specs.More.{More}
use Rattle.value.specs.Value.{Value, bottom, Item, logic, value, connect_of, unary_of, binary_of, many_items, value_named}
use Rattle.value.specs.Order.{TruthBelow, ValueBelow, ItemBelow, EachBelow}

-- A name's value is the same on a notice with more fields, or was bottom.
abbrev pub LookupRises : Type 0
LookupRises = (first second : List ℕ) → More first second → (name : List ℕ) → ValueBelow (value_named first name) (value_named second name)

-- One operand rises: `! fold-case size ~ int32 int64 real64 string opaque nan require`.
abbrev pub OneRises : Type 0
OneRises = (o : Unary) (x x' : Item) → ItemBelow x x' → ItemBelow (unary_of o x) (unary_of o x')

-- The connectives rise: `&& ^^ ||`.
abbrev pub ConnectiveRises : Type 0
ConnectiveRises = (o : Connective) (s s' t t' : Truth) → TruthBelow s s' → TruthBelow t t' → TruthBelow (connect_of o s t) (connect_of o s' t')

-- Two operands rise, in either edition: `<< >> >>> & ^ | * / % + - == != < <= > >=`, and the connectives.
abbrev pub TwoRises : Type 0
TwoRises =
    (e : Edition) (o : Binary) (x x' y y' : Item) → ItemBelow x x' → ItemBelow y y' → ItemBelow (binary_of e o x y) (binary_of e o x' y')

-- Several operands rise, the first and the later ones: `begins-with contains ends-with equals wildcard regex`.
abbrev pub ManyRises : Type 0
ManyRises =
    (o : Many) (x x' : Item) (ys ys' : List Item) → ItemBelow x x' → EachBelow ItemBelow ys ys' → ItemBelow (many_items o x ys) (many_items o x' ys')

-- What rising rules out, of any function, built or not: one that is true or false of a missing field, and something else of one that is there. So `require` could not be false of a missing field.
abbrev pub NoneTells : Type 0
NoneTells =
    (f : Item → Item) → ((x x' : Item) → ItemBelow x x' → ItemBelow (f x) (f x'))
    → (t : Truth) → (t ≡ Bottom → ⊥) → f (value bottom) ≡ logic t → (v : Value) → f (value v) ≡ logic t
