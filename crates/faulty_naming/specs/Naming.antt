-- `faulty a b` on the links that are named so far: "none twice", then number 15.
use Rattle.std.specs.Prelude.{ℕ, not, eqb}
use Rattle.lists.specs.Choice.{choose}
use Rattle.protocol.specs.Net.{good}
use Rattle.schedule.specs.Header.{faulty_refusal}
use Rattle.faulty_links.specs.declared.Faulty.{Faulty}
use Rattle.faulty_links.specs.Faulty.{pairs_of, marked_faulty}
use Rattle.faulty_naming.specs.declared.FaultyNamed.{FaultyNamed}
pub mod Limit
pub mod Laws

unfoldable pub naming_refusal : ℕ → Faulty → ℕ → ℕ → ℕ
naming_refusal t f a b = choose (not (good (pairs_of f) a b)) 13 (faulty_refusal t (pairs_of f))

unfoldable pub faulty_named : ℕ → Faulty → ℕ → ℕ → FaultyNamed
faulty_named t f a b =
    let r = naming_refusal t f a b in
    record { refusal = r; faulty = choose (eqb r 0) (marked_faulty f a b) f }
