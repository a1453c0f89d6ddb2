-- The examples of specs/Examples.antt, by computing. Assumes nothing.
use mathlib.Core.Path.{refl}
use mathlib.Core.List.Memᴰ
use lib.Ieee.{of_int, eq}
use Rattle.word.specs.Word.{word_at, word_bytes}
use Rattle.notice.specs.Layout.{check_from, starts_from}
use Rattle.opcode.specs.declared.Edition.{Edition}
use Rattle.lexer.specs.Token.{scan_of, tokens_from, tokens_of}
use Rattle.grammar.specs.Grammar.{rank}
use Rattle.grammar.specs.Parse.{level, level_of, parse_all}
use Rattle.table.specs.Table.{entries_bytes, body_bytes, encode, entries_from, layout_of}
use Rattle.table.specs.Check.{entries_right, shape_from, skips_right, operands_right, patterns_right, check_of}
use Rattle.interpreter.specs.Run.{after_from}
use Rattle.meaning.specs.Meaning.{item_of}
use Rattle.more.specs.Examples.{OneMore, BottomTurns, TableTurns}

pub one_more : OneMore
unfolding word_at check_from starts_from
one_more = record { first_right = refl; second_right = refl; holds = λ f m. absurd (Memᴰ.not-nil m) }

pub bottom_turns : BottomTurns
unfolding of_int eq word_at starts_from scan_of tokens_from tokens_of rank level level_of parse_all item_of
bottom_turns e = (refl, refl)

pub table_turns : TableTurns
unfolding of_int eq word_at word_bytes check_from starts_from entries_bytes body_bytes encode entries_from layout_of entries_right shape_from skips_right operands_right patterns_right check_of after_from
table_turns Edition.First = (refl, refl, refl)
table_turns Edition.Second = (refl, refl, refl)
