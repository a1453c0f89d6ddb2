use Rattle.ubf.proofs.Scans.{place_escaped, place_plain}
use Rattle.ubf.proofs.scanning.byte_place.Goals as goal

pub returns-then-escaped-text : goal.returns-then-escaped-text
returns-then-escaped-text c = let a = c.args in place_escaped a.text.now a.at a.escaped c.if-escaped-text.true

pub returns : goal.returns
returns c = let a = c.args in place_plain a.text.now a.at a.escaped c.if-escaped-text.false
