-- What a record in memory always has: its arrays' lengths, and identifiers of 32 bits. In antt a list may have any length and hold any
-- number, so theorems about a record say both beside it. Every call keeps them.
use Rattle.std.specs.Prelude.{ℕ, ◌^◌, ◌<◌, ◌≡◌, length}
use Rattle.limits.specs.Limits.{most_bases, most_links, list_room}
use Rattle.protocol.specs.declared.Link.{Link}
use Rattle.protocol.specs.declared.Base.{Base}
use Rattle.protocol.specs.Record.{link_at}

pub record SizedLink (l : Link) : Type 0 where
  pub verifies : length l.verifies ≡ list_room
  pub list : length l.list ≡ most_bases

pub record Sized (b : Base) : Type 0 where
  pub final : length b.final_list ≡ most_bases
  pub links : length b.links ≡ most_links
  pub each : (i : ℕ) → i < most_links → SizedLink (link_at b i)

-- the identifiers that a base broadcasts of its own accord
pub record Words (b : Base) : Type 0 where
  pub own : b.own < 2 ^ 32
  pub announced : (i : ℕ) → i < most_links → (link_at b i).announce < 2 ^ 32
