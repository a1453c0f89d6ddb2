use Rattle.std.proofs.Common.{rules}
use Rattle.notice.proofs.Searches.{sought_is, sought_index}
use Rattle.notice.proofs.search.sought.Goals as goal

pub returns : goal.returns
returns c =
    let stop = c.search-stop in
    let n = c.args.notice.now in
    let k = c.args.name.now in
    record {
      answer = sought_is n k (λ i. search rules) c.requires stop.result stop.ensures c.and.ensures c.read_u16-n.ensures c.min.ensures;
      index = sought_index n k (λ i. search rules) c.requires stop.result stop.ensures c.and.ensures;
    }
