-- The invariant holds at the beginning: idle bases hold nothing, have broadcast nothing
-- and have been handed nothing, so each of its lines speaks of nobody.
use Rattle.std.specs.Prelude.{ℕ, ◌<◌, ◌≡◌, ◌≢◌, List}
use Rattle.std.proofs.Common.{sym, subst, arith}
use mathlib.Core.List.Memᴰ
use Rattle.frame.specs.Message.{Message}
use Rattle.protocol.specs.declared.Base.{Base}
use Rattle.lists.specs.Choice.Laws.{clash}
use Rattle.protocol.specs.Agreement.Views.{Said, ViewHolds}
use Rattle.protocol.specs.Agreement.Calls.{SoundView}
use Rattle.protocol.proofs.Agreement.Starting.{BlankView}
use Rattle.protocol.specs.Agreement.Invariant.{State, Invariant}
use Rattle.protocol.proofs.Agreement.Observers.{view}
use Rattle.protocol.proofs.Agreement.Observers.Steps.{sound_seen, blank_seen}
use Rattle.protocol.proofs.Agreement.Inner.{Member, Group, FreshGroup}

-- the group as the argument sees it
unfoldable pub seen : Group → State
seen N = record { base = λ x. view x (N.base x); log = N.log; handed = N.handed }

pub member_sound : (n t own x : ℕ) (b : Base) → x < n → Member n t own b → SoundView n x own (view x b)
member_sound n t own x b l M = subst (λ k. SoundView n x k (view x b)) M.own_is
    (subst (λ k. SoundView k x b.own (view x b)) M.n_is (sound_seen x b (subst (λ k. x < k) (sym M.n_is) l) M.refusal))

module _ (n t : ℕ) (faulty : ℕ → ℕ → ℕ) (id : ℕ → ℕ) (truth : List ℕ) (N : Group) (F : FreshGroup n t id N) where
  blank : (x : ℕ) → x < n → BlankView n x (view x (N.base x))
  blank x l = subst (λ k. BlankView k x (view x (N.base x))) (F.member x l).n_is
      (blank_seen x (N.base x) (subst (λ k. x < k) (sym (F.member x l).n_is) l) (F.member x l).refusal (F.idle x l))

  off : (x : ℕ) → x < n → ((seen N).base x).state ≡ 0
  unfolding seen
  off x l = (blank x l).idle

  unsent : (x : ℕ) → x < n → ((seen N).base x).sent ≡ 0
  unfolding seen
  unsent x l = (blank x l).unsent

  unsaid : (x : ℕ) (m : Message) → x < n → Said m ((seen N).log x) → ⊥
  unfolding seen
  unsaid x m l h = Memᴰ.not-nil (subst (Said m) (F.silent x l) h)

  unheard : (y x : ℕ) (m : Message) → y < n → x < n → x ≢ y → ViewHolds ((seen N).base y) x m → ⊥
  unfolding seen
  unheard y x m ly lx ne h = (blank y ly).nothing x m lx ne h

  pub invariant_begins : Invariant n t faulty id truth (seen N)
  invariant_begins = record {
    sound = λ x l. (unfold seen in member_sound n t (id x) x (N.base x) l (F.member x l));
    quiescent = λ x l. record {
      not_prime = λ e. absurd (omega (arith, off x l));
      not_secondary = λ v e. absurd (omega (arith, off x l));
      has_voted = λ v e. absurd (omega (arith, off x l));
    };
    backed = λ x m l h. absurd (unsaid x m l h);
    start_said = λ x l s. absurd (omega (arith, off x l));
    names_said = λ x y l k s. absurd (omega (arith, off x l));
    vote_said = λ x l s. absurd (omega (arith, unsent x l));
    vote_one = λ x v u l h. absurd (unsaid x _ l h);
    stop_said = λ x l s. absurd (omega (arith, off x l));
    heard = λ y x m ly lx ne good h. absurd (unheard y x m ly lx ne h);
    delivered = λ x y k lx ly ne good h. clash h (unfold seen in F.nothing x y k);
    final_true = λ x l s. absurd (omega (arith, off x l));
    prime_knows = λ x y l k s. absurd (omega (arith, off x l));
    prime_first = λ x l s. absurd (omega (arith, off x l));
  }
