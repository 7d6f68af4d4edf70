-- What the calls on the sets of faulty links answer, as numbers. Document 01: "Each returns its number".
use Rattle.std.specs.Prelude.{[], ◌∷◌, replicate}
use Rattle.faulty_sets.specs.declared.FaultyCount.{FaultyCount}
use Rattle.faulty_sets.specs.declared.FaultyCount.TheVariants as counted
use Rattle.faulty_sets.specs.declared.FaultySet.{FaultySet}
use Rattle.faulty_sets.specs.declared.FaultySet.TheVariants.{Links, Refused}
use Rattle.faulty_sets.specs.Answers.{no_link_pair}
use Rattle.faulty_sets.specs.Small.{small_faulty}
use Rattle.faulty_c.specs.declared.CountAnswer.{CountAnswer}
use Rattle.faulty_c.specs.declared.SetAnswer.{SetAnswer}

unfoldable pub count_numbers : FaultyCount → CountAnswer
count_numbers (counted.Sets c) = record { refusal = 0; count = c }
count_numbers (counted.Refused r) = record { refusal = r; count = 0 }

unfoldable pub set_numbers : FaultySet → SetAnswer
set_numbers (Links c p q) = record { refusal = 0; count = c; pairs = p ∷ (q ∷ []) }
set_numbers (Refused r) = record { refusal = r; count = 0; pairs = replicate small_faulty no_link_pair }
