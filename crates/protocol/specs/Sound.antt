-- "Rules of a sound record" (document 01, "What a base holds"), and numbers 1 to 4.
use Rattle.std.specs.Prelude.{ℕ, ◌+◌, ◌-◌, Bool, true, false, not, List, [], eqb, ltb, leb, take, drop, replicate}
use Rattle.limits.specs.Limits.{most_bases, most_links, list_room}
use Rattle.limits.specs.Refusals.{size_refusal, own_refusal}
use Rattle.lists.specs.Choice.{choose, and, or, first}
use Rattle.lists.specs.Lists.{nonzero, ascending, distinct, zeros, pad_to}
use Rattle.counting.specs.Sums.{all}
use Rattle.protocol.specs.declared.Link.{Link}
use Rattle.protocol.specs.declared.Base.{Base}
use Rattle.protocol.specs.Links.{verifies_of, used}
use Rattle.protocol.specs.Record.{link_at, certified}

-- n identifiers as kinds 3 and 4 demand, and "unused places zero"
unfoldable pub list_sound : ℕ → List ℕ → Bool
list_sound n l = and (nonzero (take n l)) (and (ascending (take n l)) (zeros (drop n l)))

-- "used identifiers above zero and unused places zero", "none twice"
unfoldable pub verifies_sound : Link → Bool
verifies_sound l = and (nonzero (verifies_of l)) (and (distinct (verifies_of l)) (zeros (drop l.verify_count l.verifies)))

-- "held lists as kinds 3 and 4 demand"
unfoldable pub held_sound : ℕ → Link → Bool
held_sound n l = choose (eqb l.held 0) (zeros l.list) (and (or (eqb l.held 3) (eqb l.held 4)) (list_sound n l.list))

-- "Announce and Verify together are at most n + 1"
unfoldable pub link_sound : ℕ → Link → Bool
link_sound n l = and (leb (used l) (n + 1)) (and (verifies_sound l) (held_sound n l))

unfoldable pub link_empty : Link → Bool
link_empty l =
    and (eqb l.announce 0) (and (eqb l.verify_count 0) (and (zeros l.verifies) (and (eqb l.held 0) (zeros l.list))))

-- a place of the array: a link of the base, or past its n - 1 links and empty
unfoldable pub place_sound : ℕ → ℕ → Link → Bool
place_sound n i l = choose (ltb i (n - 1)) (link_sound n l) (link_empty l)

unfoldable pub links_sound : Base → Bool
links_sound b = all most_links (λ i. place_sound b.n i (link_at b i))

unfoldable pub links_empty : Base → Bool
links_empty b = all most_links (λ i. link_empty (link_at b i))

-- "A base is idle (0), running (1), prime (2) or secondary (3). The last two mean stopped."
unfoldable pub idle : Base → Bool
idle b = eqb b.state 0

unfoldable pub stopped : Base → Bool
stopped b = leb 2 b.state

-- "the final list ascending and above zero when stopped, all zero otherwise"
unfoldable pub final_sound : Base → Bool
final_sound b = choose (stopped b) (list_sound b.n b.final_list) (zeros b.final_list)

-- "an idle base holds nothing from any link and has sent nothing"
unfoldable pub idle_sound : Base → Bool
idle_sound b = choose (idle b) (and (eqb b.sent 0) (links_empty b)) true

-- "no Announce identifier at two links or equal to the own one"
unfoldable pub announces_sound : Base → Bool
announces_sound b = distinct (certified b)

unfoldable pub sound : Base → Bool
sound b = and (leb b.state 3) (and (leb b.sent 1) (and (links_sound b) (and (announces_sound b) (and (final_sound b) (idle_sound b)))))

-- ---- numbers by which a record is turned down, in checking order; 0 for none
-- 1. n is not 2 to 16.
-- 2. t is above its limit.
-- 3. The own identifier is zero.
unfoldable pub setting_refusal : ℕ → ℕ → ℕ → ℕ
setting_refusal n t own = first (size_refusal n t) (own_refusal own)

-- 4. The record is not sound.
unfoldable pub record_refusal : Base → ℕ
record_refusal b =
    first (setting_refusal b.n b.t b.own)
    (choose (not (sound b)) 4
    0)

-- ---- an idle record
abbrev pub empty_link : Link
empty_link = record { announce = 0; verifies = replicate list_room 0; list = replicate most_bases 0; verify_count = 0; held = 0 }

unfoldable pub idle_base : ℕ → ℕ → ℕ → Base
idle_base n t own =
    record { n = n; t = t; state = 0; sent = 0; own = own; final_list = replicate most_bases 0; links = replicate most_links empty_link }
