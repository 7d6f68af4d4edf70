-- A place is one of the links; one that is there stands for itself.
use Rattle.std.specs.Prelude.{ℕ, ◌<◌, ◌≡◌}
use Rattle.std.proofs.Common.{arith}
use Rattle.limits.specs.Limits.{most_links}
use Rattle.settling.specs.Settling.{within_links}

pub within_links_lem : (i : ℕ) → within_links i < most_links
unfolding within_links
within_links_lem i = omega arith

pub within_same : (i : ℕ) → i < most_links → within_links i ≡ i
unfolding within_links
within_same i h = omega (arith, h)
