use native.Mathlib.Omega.{arith}
use Rattle.octets.specs.Octets.{folded}
use Rattle.regexp.proofs.Loops.{regex_long}
use Rattle.regexp.proofs.fits_plain.Goals as goal

pub returns-then-p-le32 : goal.returns-then-p-le32
returns-then-p-le32 c = c.search_in.ensures

pub returns-then-p-le256 : goal.returns-then-p-le256
returns-then-p-le256 c = c.search_in-then-p-le256.ensures

pub returns-then-p-le4096 : goal.returns-then-p-le4096
returns-then-p-le4096 c = c.search_in-then-p-le4096.ensures

pub returns : goal.returns
returns c =
    regex_long (folded c.args.s_mark c.args.s.now) c.args.p.now (omega arith)
