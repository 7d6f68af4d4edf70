-- `header::mark_faulty` meets its contract: the line is turned down by the number of its link, or the link is faulty.
-- 13 before the number that is left
use Prim.Native.Nat.{ℕ}
use mathlib.Core.Path.{◌≡◌, refl, sym, ap, ◌∙◌}
use mathlib.Core.Bool.{Bool, true, false}
use borrow.Author.Tests.{eq-eqb}
use Rattle.lists.specs.Choice.{choose}
use Rattle.lists.specs.Choice.Laws.{choose_yes}
use Rattle.faulty_links.specs.declared.Faulty.{Faulty}
use Rattle.faulty_links.specs.Faulty.{marked_faulty}
use Rattle.faulty_naming.specs.declared.FaultyNamed.{FaultyNamed}
use Rattle.faulty_naming.specs.Naming.{naming_refusal, faulty_named}
use Rattle.net.specs.Abstraction.{faulty_of}
use Rattle.net.specs.declared.Header.{Header}
use Rattle.net.specs.declared.StoredNet.{StoredNet}
use Rattle.net.specs.Header.{begun_net}
use Rattle.schedule.specs.Walk.{judged, mark_step}
use Rattle.stored_walk.specs.State.{onward_header, refused_net, replaying}
use Rattle.stored_walk.specs.State.Begun.{marked_onward}
use Rattle.stored_walk.specs.State.Laws.{judged_refused, judged_onward}
use Rattle.header.proofs.mark_faulty.Goals as goal

either : (again : Bool) (k : ℕ) (p q : StoredNet)
    → judged replaying (choose again 13 k) p q ≡ choose again (refused_net 13 p) (judged replaying k p q)
unfolding judged choose
either true k p q = refl
either false k p q = refl

module _ (h : Header) (a b next : ℕ) {named : FaultyNamed} (e : named ≡ faulty_named h.t h.faulty a b) where
  number : named.refusal ≡ naming_refusal h.t h.faulty a b
  unfolding faulty_named
  number = ap (λ (x : FaultyNamed). x.refusal) e

  marked : named.refusal ≡ 0 → named.faulty ≡ marked_faulty h.faulty a b
  unfolding faulty_named
  marked none = ap (λ (x : FaultyNamed). x.faulty) e ∙ choose_yes _ _ (eq-eqb _ 0 (sym number ∙ none))

  turned_down : (named.refusal ≡ 0 → ⊥) → {p : StoredNet} → p ≡ refused_net named.refusal (begun_net h)
      → p ≡ mark_step replaying a b next (begun_net h)
  unfolding mark_step naming_refusal faulty_of begun_net
  turned_down some q = judged_refused _ _ number some q ∙ either _ _ _ _

  goes_on : named.refusal ≡ 0 → {r : Header} → r ≡ onward_header h h.ids named.faulty next
      → begun_net r ≡ mark_step replaying a b next (begun_net h)
  unfolding mark_step naming_refusal faulty_of begun_net
  goes_on none q =
      judged_onward _ number none
      (ap begun_net (q ∙ ap (λ (f : Faulty). onward_header h h.ids f next) (marked none)) ∙ marked_onward h a b next)
      ∙ either _ _ _ _

pub returns-then-named-ne0 : goal.returns-then-named-ne0
returns-then-named-ne0 c = turned_down _ _ _ _ c.name_faulty-named.ensures c.if-named-ne0.true c.refuse.ensures

pub onward-requires : goal.onward-requires
onward-requires c = c.requires

pub returns : goal.returns
returns c = goes_on _ _ _ _ c.name_faulty-named.ensures
    c.if-named-ne0.false c.onward.ensures
