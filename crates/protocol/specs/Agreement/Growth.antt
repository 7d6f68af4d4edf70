-- What a base has shown stays true as it grows: certified identifiers, the backing of its broadcasts, and what has been delivered to it.
use Rattle.std.specs.Prelude.{ℕ, ◌≤◌, ◌≡◌, ◌⊎◌, true, List}
use Rattle.lists.specs.Lists.{member}
use Rattle.frame.specs.Message.{Message, announce, verify, correct_final, verify_final}
use Rattle.protocol.specs.Agreement.Views.{View, Certified}

-- a message of base x has been delivered to b while b runs: an identifier may have been
-- announced on another link, and a Verify-Final may have been replaced since
abbrev pub Delivered : ℕ → View → ℕ → Message → Type 0
Delivered n b x (announce g) = 1 ≤ g → Certified n b g
Delivered n b x (verify g) = member g (b.verifies x) ≡ true
Delivered n b x (correct_final v) = b.correct x v ≡ true
Delivered n b x (verify_final v) = (b.vote x v ≡ true) ⊎ ((u : List ℕ) × (b.correct x u ≡ true))
