-- What a line does to the header it does to the net that the header gives.
use Rattle.std.specs.Prelude.{ℕ, ◌≡◌, refl, length}
use Rattle.std.proofs.Common.{ap}
use Rattle.limits.specs.Limits.{most_bases}
use Rattle.net.specs.declared.Header.{Header}
use Rattle.net.specs.declared.StoredNet.{StoredNet}
use Rattle.net.specs.Header.{named_net, marked_net, begun_net}
use Rattle.base_identifiers.specs.Identifiers.{named_ids}
use Rattle.faulty_links.specs.Faulty.{marked_faulty}
use Rattle.net.specs.Header.Begun.{begun_named}
use Rattle.stored_walk.specs.State.{onward_net, onward_header}

pub named_onward : (h : Header) (b v next : ℕ) → length h.ids ≡ most_bases
    → begun_net (onward_header h (named_ids h.ids b v) h.faulty next) ≡ onward_net (begun_net h) (named_net (begun_net h) b v) next
unfolding begun_net onward_net
named_onward h b v next sized = ap (λ (w : StoredNet). onward_net (begun_net h) w next) (begun_named h sized b v)

pub marked_onward : (h : Header) (a b next : ℕ)
    → begun_net (onward_header h h.ids (marked_faulty h.faulty a b) next) ≡ onward_net (begun_net h) (marked_net (begun_net h) a b) next
unfolding begun_net onward_net
marked_onward h a b next = refl
