-- `faulty_sets::links_of` meets its contract: the count, and the pair at each place.
use Prim.Native.Nat.{ℕ}
use mathlib.Core.Path.{◌≡◌}
use native.Mathlib.Omega.{arith}
use Rattle.link_sets.specs.declared.LinkPair.{LinkPair}
use Rattle.faulty_sets.specs.declared.FaultySet.TheVariants.{Links}
use Rattle.faulty_sets.specs.Answers.{links_answer}
use Rattle.faulty_sets.specs.Search.Laws.{chosen_count}
use Rattle.faulty_sets.proofs.links_of.Goals as goal

links_same : {a b : ℕ} {p q r s : LinkPair} → a ≡ b → p ≡ q → r ≡ s → Links a p r ≡ Links b q s
links_same e f g = cc

pub returns : goal.returns
unfolding links_answer
returns c =
    links_same (chosen_count c.args.chosen (omega (arith, c.requires))) c.chosen_at.ensures c.chosen_at-2.ensures
