-- The sums in C's answer are those of the call.
use Rattle.std.specs.Prelude.{◌≡◌, refl}
use Rattle.protocol.specs.declared.Outcome.{Outcome}
use Rattle.protocol.specs.declared.Outcome.TheVariants.{Accepted, Discarded, Refused}
use Rattle.protocol.specs.Airtime.Statement.{own_of, relayed_of}
use Rattle.c_answers.specs.Numbers.{outcome_numbers}

pub sums_in_numbers : (o : Outcome) → ((outcome_numbers o).own ≡ own_of o) × ((outcome_numbers o).relayed ≡ relayed_of o)
unfolding outcome_numbers own_of relayed_of
sums_in_numbers (Accepted a b c own relayed) = (refl, refl)
sums_in_numbers (Discarded a b c own relayed) = (refl, refl)
sums_in_numbers (Refused r) = (refl, refl)
