-- The theorems that specs/Theorems.antt states, by computing each case. Assumes nothing.
use mathlib.Core.Path.{refl}
use lib.Ieee.{of_int, eq}
use Rattle.word.specs.Word.{word_at}
use Rattle.notice.specs.Layout.{starts_from}
use Rattle.opcode.specs.declared.Edition.{Edition}
use Rattle.lexer.specs.Token.{scan_of, tokens_from, tokens_of}
use Rattle.pattern.specs.Wildcard.{items_from}
use Rattle.grammar.specs.Grammar.{rank}
use Rattle.grammar.specs.Parse.{level, level_of, parse_all}
use Rattle.meaning.specs.Meaning.{item_of}
use Rattle.meaning.specs.Theorems.{PCases, ShiftCases, CabCases, RegexCases}

pub p_cases : PCases
unfolding of_int eq word_at starts_from scan_of tokens_from tokens_of rank level level_of parse_all item_of
p_cases Edition.First = (refl, (refl, (refl, (refl, (refl, (refl, (refl, (refl, (refl, (refl, (refl, tt)))))))))))
p_cases Edition.Second = (refl, (refl, (refl, (refl, (refl, (refl, (refl, (refl, (refl, (refl, (refl, tt)))))))))))

pub shift_cases : ShiftCases
unfolding of_int eq word_at starts_from scan_of tokens_from tokens_of rank level level_of parse_all item_of
shift_cases = ((refl, refl), ((refl, refl), ((refl, refl), ((refl, refl), ((refl, refl), ((refl, refl), tt))))))

pub cab_cases : CabCases
unfolding word_at starts_from scan_of tokens_from tokens_of items_from rank level level_of parse_all item_of
cab_cases e = (refl, (refl, (refl, (refl, tt))))

pub regex_cases : RegexCases
unfolding word_at starts_from scan_of tokens_from tokens_of rank level level_of parse_all item_of
regex_cases e = (refl, (refl, (refl, (refl, tt))))
