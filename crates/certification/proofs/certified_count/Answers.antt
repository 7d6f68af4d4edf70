-- `certification::certified_count` meets its contract: the length of the list, which has room.
use Rattle.protocol.specs.Record.{certified}
use Rattle.certified.specs.Listed.{listed_count, listed_most}
use Rattle.certification.proofs.certified_count.Goals as goal

pub returns : goal.returns
returns c = let b = c.args.base in let e = c.certified_ids-list.ensures in (listed_count (certified b) _ e, listed_most b _ e)
