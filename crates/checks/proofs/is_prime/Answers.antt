-- `checks::is_prime` meets its contract: the three conditions stand in the order of the definition. As many as n are certified, so
-- n is at most `most_bases` where it is squared.
-- n identifiers are certified
use Prim.Native.Nat.{ℕ, ◌+◌, ◌*◌, ◌≤◌}
use mathlib.Core.Path.{◌≡◌, sym, ap, ◌∙◌}
use mathlib.Core.Bool.{true}
use native.Mathlib.Omega.{arith}
use native.Mathlib.Nat.{mul-le-mul_right}
use borrow.Author.Tests.{eq-eqb, ne_eqb, le-leb, lt-leb}
use lib.ListN.{length}
use lib.Dec.{eqb, leb}
use Rattle.limits.specs.Limits.{most_bases}
use Rattle.protocol.specs.Steps.{prime_holds}
use Rattle.protocol.specs.Record.{certified, tally_sum}
use Rattle.lists.specs.Choice.Laws.{and_fails, and_goes_on}
use Rattle.checks.proofs.is_prime.Goals as goal

pub returns-then-certified_count-n : goal.returns-then-certified_count-n
unfolding prime_holds
returns-then-certified_count-n c = let b = c.args.base in
    and_fails _ (ne_eqb (length (certified b)) b.n (λ e. c.if-certified_count-n.true (c.certified_count.ensures.0 ∙ e)))

pub overflow_mul-n : goal.overflow_mul-n
overflow_mul-n c = let b = c.args.base in
    let small : b.n ≤ most_bases = omega (arith, c.certified_count.ensures.1, c.if-certified_count-n.false) in
    omega (arith, mul-le-mul_right b.n small)

pub returns-then-tally_sum-t : goal.returns-then-tally_sum-t
unfolding prime_holds
returns-then-tally_sum-t c = let full : let b = c.args.base in
    eqb (length (certified b)) b.n ≡ true = eq-eqb _ _ (sym c.certified_count.ensures.0 ∙ c.if-certified_count-n.false) in
    let b = c.args.base in
    and_goes_on full
    (and_fails _ (lt-leb (b.n * b.n) (tally_sum b + 2 * b.t) (omega (arith, c.tally_sum.ensures.0))))

pub returns : goal.returns
unfolding prime_holds
returns c = let full : let b = c.args.base in
    eqb (length (certified b)) b.n ≡ true = eq-eqb _ _ (sym c.certified_count.ensures.0 ∙ c.if-certified_count-n.false) in
    let b = c.args.base in
    and_goes_on full
    (and_goes_on (le-leb (b.n * b.n) (tally_sum b + 2 * b.t) (omega (arith, c.tally_sum.ensures.0)))
    (ap (λ (k : ℕ). leb k b.t) c.suspect_count.ensures))
