-- `framing::bytes::put_identifier` meets its contract: what put_four ensures of the number's four bytes.
use Rattle.frame.specs.Encoding.{four_bytes}
use Rattle.framing.proofs.bytes.put_identifier.Goals as goal

pub returns : goal.returns
unfolding four_bytes
returns c = c.put_four.ensures
