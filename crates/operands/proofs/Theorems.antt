-- The theorems that specs/Theorems.antt states. Assumes nothing.
use Rattle.grammar.specs.Stream.{tokens_in}
use Rattle.grammar.proofs.Theorems.{parses}
use Rattle.operands.specs.Theorems.{LeavesAreOperands, ParsedLeaves, OperandsStand, PatternsByTokens, ParsedPatterns, NoneAsked, DeepAlike}
use Rattle.operands.proofs.Marks.{deep_marks}
use Rattle.operands.proofs.Gathers.{stands}
use Rattle.operands.proofs.Passes.{none_asked as none_is}
use Rattle.operands.proofs.Leaves.{parsed_leaves as leaves}
use Rattle.operands.proofs.Judged.{parsed_patterns as patterns}

pub parsed_leaves : ParsedLeaves
parsed_leaves = leaves

pub leaves_are_operands : LeavesAreOperands
leaves_are_operands ks t d = leaves ks t ((parses ks t).1 d)

pub operands_stand : OperandsStand
operands_stand = stands

pub parsed_patterns : ParsedPatterns
parsed_patterns = patterns

pub patterns_by_tokens : PatternsByTokens
patterns_by_tokens s kinds starts t d = patterns s kinds starts t ((parses (tokens_in s kinds starts) t).1 d)

pub none_asked : NoneAsked
none_asked = none_is

pub deep_alike : DeepAlike
deep_alike = deep_marks
