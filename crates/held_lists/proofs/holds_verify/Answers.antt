-- `held_lists::holds_verify` meets its contract: the Verify identifiers are the first ones of their array.
use Rattle.protocol.specs.Links.{holds_verify, verifies_of}
use Rattle.held_lists.proofs.holds_verify.Goals as goal

pub returns : goal.returns
unfolding holds_verify verifies_of
returns c = c.holds.ensures
