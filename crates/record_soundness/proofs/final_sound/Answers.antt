-- `record_soundness::final_sound` meets its contract, by whether the base has stopped.
use borrow.Author.Tests.{le-leb, lt-leb}
use Rattle.protocol.specs.Sound.{final_sound, stopped}
use Rattle.lists.specs.Choice.Laws.{chosen_yes, chosen_no}
use Rattle.record_soundness.proofs.final_sound.Goals as goal

pub returns-then-base-ge-PRIME : goal.returns-then-base-ge-PRIME
unfolding final_sound stopped
returns-then-base-ge-PRIME c = chosen_yes _ (le-leb _ _ c.if-base-ge-PRIME.true) c.list_sound.ensures

pub returns : goal.returns
unfolding final_sound stopped
returns c = chosen_no _ (lt-leb _ _ c.if-base-ge-PRIME.false) c.zero_behind.ensures
