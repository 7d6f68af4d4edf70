-- A message is discarded, or the link holds it.
use Rattle.std.specs.Prelude.{ℕ, ◌+◌, ◌^◌, ◌≤◌, ◌<◌, ◌≡◌, Bool, true, false, List, length}
use Rattle.std.proofs.Common.{sym, ap, ◌∙◌, arith, leb-false}
use Rattle.std.proofs.Math.Seq.{set_out}
use Rattle.lists.specs.Choice.Laws.{choose_yes, choose_no}
use Rattle.protocol.specs.declared.Link.{Link}
use Rattle.protocol.specs.Links.{full, used}
use Rattle.protocol.specs.Steps.{with_verify}
use Rattle.accepting.specs.declared.Accepted.{Accepted}
use Rattle.accepting.specs.Accepting.{unless_discarded}

pub when_discarded : {t : Bool} (l after : Link) → t ≡ true
    → ◌≡◌ {A = Accepted} (record { accepted = false; link = l }) (unless_discarded t l after)
unfolding unless_discarded
when_discarded l after e = sym (choose_yes _ _ e)

pub when_accepted : {t : Bool} (l after : Link) → t ≡ false
    → ◌≡◌ {A = Accepted} (record { accepted = true; link = after }) (unless_discarded t l after)
unfolding unless_discarded
when_accepted l after e = sym (choose_no _ _ e)

-- ---- the count of a link that is not full
pub verify_counted : (n : ℕ) (l : Link) → full n l ≡ false → n < 256 → l.verify_count + 1 < 2 ^ 16
unfolding full used
verify_counted n l e h = omega (arith, leb-false (n + 1) (used l) e)

-- a Verify for which there is no place
pub verify_nowhere : (l : Link) (g : ℕ) → length l.verifies ≤ l.verify_count
    → ◌≡◌ {A = Link}
    (record { announce = l.announce; verifies = l.verifies; list = l.list; verify_count = l.verify_count + 1; held = l.held })
    (with_verify l g)
unfolding with_verify
verify_nowhere l g h =
    ap (λ (vs : List ℕ).
    record { announce = l.announce; verifies = vs; list = l.list; verify_count = l.verify_count + 1; held = l.held })
    (sym (set_out l.verifies l.verify_count g h))
