-- `slots_taken::slots_taken` meets its contract: the certified identifiers are the own one and those that were announced.
use Prim.Native.Nat.{ℕ}
use mathlib.Core.Path.{ap₂, ◌∙◌}
use native.Mathlib.Omega.{arith}
use Rattle.slots_taken.specs.Taken.{slots_taken}
use Rattle.slots_taken.specs.Taken.Laws.{own_parts, some_certified, relayed_parts}
use Rattle.slots_taken.proofs.slots_taken.Goals as goal

pub overflow_sub-verified : goal.overflow_sub-verified
overflow_sub-verified c = omega (arith, c.certified_count-verified.ensures.0, some_certified c.args.base)

pub returns : goal.returns
unfolding slots_taken
returns c =
    let count = c.certified_count-verified.ensures.0 in
    let vote = c.vote_taken.ensures.0 in
    let b = c.args.base in
    ap₂ (λ (own relayed : ℕ). record { own = own; relayed = relayed })
    (c.own_taken.ensures ∙ own_parts b) (omega (arith, count, vote, relayed_parts b))
