-- What a message does to the link on which it arrives, by its kind and its identifiers in their array. Each test is that of the
-- message's step
-- (protocol/specs/Steps).
use Rattle.std.specs.Prelude.{ℕ, Bool, true, false, not, List, eqb, get_or}
use Rattle.lists.specs.Choice.{choose, or}
use Rattle.protocol.specs.declared.Link.{Link}
use Rattle.protocol.specs.Links.{announces, holds_verify, full}
use Rattle.protocol.specs.Steps.{with_announce, with_verify}
use Rattle.change.specs.Heard.{by_kind}
use Rattle.accepting.specs.declared.Accepted.{Accepted}
pub mod Laws

-- discarded, or accepted by a link that is then `after`
unfoldable pub unless_discarded : Bool → Link → Link → Accepted
unless_discarded discarded l after = choose discarded (record { accepted = false; link = l }) (record { accepted = true; link = after })

-- the array stored as it is
unfoldable pub with_array : Link → ℕ → List ℕ → Link
with_array l kind v =
    record { announce = l.announce; verifies = l.verifies; list = v; verify_count = l.verify_count; held = kind }

unfoldable pub on_announce_link : ℕ → Bool → Link → ℕ → Accepted
on_announce_link n certified l g = unless_discarded (or (announces l) (or certified (full n l))) l (with_announce l g)

unfoldable pub on_verify_link : ℕ → Link → ℕ → Accepted
on_verify_link n l g = unless_discarded (or (holds_verify l g) (full n l)) l (with_verify l g)

unfoldable pub on_vector_link : Bool → ℕ → Link → List ℕ → Accepted
on_vector_link discarded kind l v = unless_discarded discarded l (with_array l kind v)

unfoldable pub accepted_on : ℕ → Bool → Link → ℕ → List ℕ → Accepted
accepted_on n certified l kind ids =
    by_kind kind (on_announce_link n certified l (get_or ids 0 0)) (on_verify_link n l (get_or ids 0 0))
    (on_vector_link (eqb l.held 3) 3 l ids)
    (on_vector_link (not (eqb l.held 0)) 4 l ids)
    (record { accepted = false; link = l })
