-- Every row of the table holds: the definitions are computed.
use Rattle.std.specs.Prelude.{◌≡◌, refl, true}
use Rattle.protocol.proofs.Computed.{computed}
use Rattle.protocol.specs.Table.{heard, link_holding, running, rows, same_answer, done, seen_after, tallied, row_holds, all_hold}

pub starred : all_hold rows ≡ true
unfolding computed rows all_hold row_holds tallied seen_after done same_answer heard link_holding running
starred = refl
