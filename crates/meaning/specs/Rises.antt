-- Document 02, request 10, of trees: with more known of its names, what a tree is stays or was bottom. The proofs are in proofs/Rises.antt, under the same names.
use Rattle.std.specs.Prelude.{ℕ, List}
use Rattle.opcode.specs.declared.Edition.{Edition}
use Rattle.notice.specs.More.{More}
use Rattle.grammar.specs.Tree.{Tree}
use Rattle.value.specs.Value.{Value}
use Rattle.value.specs.Order.{TruthBelow, ValueBelow, ItemBelow}
use Rattle.meaning.specs.Meaning.{item_of, meaning}

-- What a tree is rises with what its names are, whatever the tree, in either edition.
abbrev pub TreeRises : Type 0
TreeRises =
    (e : Edition) (field more : List ℕ → Value) → ((name : List ℕ) → ValueBelow (field name) (more name))
    → (t : Tree) → ItemBelow (item_of e field t) (item_of e more t)

-- So the verdict on a notice with more fields is the same, or was bottom.
abbrev pub MeaningRises : Type 0
MeaningRises = (e : Edition) (first second : List ℕ) → More first second → (t : Tree) → TruthBelow (meaning e t first) (meaning e t second)
