use mathlib.Core.Path.{◌∙◌}
use Rattle.ubf.proofs.Scans.{escape_cut, escape_there}
use Rattle.ubf.proofs.scanning.escape_right.Goals as goal

pub returns-then-text-at-lt2 : goal.returns-then-text-at-lt2
returns-then-text-at-lt2 c = let a = c.args in escape_cut a.text.now a.at a.q c.if-text-at-lt2.true

pub returns : goal.returns
returns c = let a = c.args in c.needs_escape.ensures ∙ escape_there a.text.now a.at a.q c.if-text-at-lt2.false
