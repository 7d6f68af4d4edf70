-- Laws of a record and its links.
use Rattle.std.specs.Prelude.{ℕ, ◌-◌, ◌≤◌, ◌≡◌, length}
use Rattle.std.proofs.Common.{arith}
use Rattle.std.proofs.Math.ListN.{get_or-eq_default}
use Rattle.limits.specs.Limits.{most_links}
use Rattle.limits.specs.Refusals.{NetSize}
use Rattle.protocol.specs.declared.Link.{Link}
use Rattle.protocol.specs.declared.Base.{Base}
use Rattle.protocol.specs.Links.{no_link}
use Rattle.protocol.specs.Record.{link_at, link_count}

-- ---- two records are one if their fields are
pub link_same : {k l : Link} → k.announce ≡ l.announce → k.verifies ≡ l.verifies → k.list ≡ l.list
    → k.verify_count ≡ l.verify_count → k.held ≡ l.held → k ≡ l
link_same a v s c h = λ i. record { announce = a i; verifies = v i; list = s i; verify_count = c i; held = h i }

pub base_same : {b c : Base} → b.n ≡ c.n → b.t ≡ c.t → b.state ≡ c.state → b.sent ≡ c.sent → b.own ≡ c.own
    → b.final_list ≡ c.final_list → b.links ≡ c.links → b ≡ c
base_same n t s v o f l = λ i. record { n = n i; t = t i; state = s i; sent = v i; own = o i; final_list = f i; links = l i }

-- ---- links
pub link_past : (b : Base) (i : ℕ) → length b.links ≤ i → link_at b i ≡ no_link
unfolding link_at
link_past b i h = get_or-eq_default b.links no_link {n = i} h

pub link_count_lem : (b : Base) → NetSize b.n → link_count b ≡ b.n - 1
unfolding link_count
link_count_lem b N = omega (arith, N.least, N.most)

-- a place of a base's links is a place of the array
pub link_room : (b : Base) → link_count b ≤ most_links
unfolding link_count
link_room b = omega arith

pub link_fewer : (b : Base) → link_count b ≤ b.n - 1
unfolding link_count
link_fewer b = omega arith
