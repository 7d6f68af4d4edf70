-- What taking a message in leaves alone: all but the link that it came on and whether a
-- Verify-Final was sent. So a property of every link is kept if the changed link has it.
use Rattle.std.specs.Prelude.{ℕ, ◌<◌, ◌≡◌, refl, ◌≢◌, List, length, set}
use Rattle.std.proofs.Common.{sym, ◌∙◌, subst, length-set, get_or-set_same, get_or-set_other}
use Rattle.std.proofs.Math.Decide.{ℕ_discrete}
use Rattle.frame.specs.Message.{Message}
use Rattle.protocol.specs.declared.Link.{Link}
use Rattle.protocol.specs.declared.Base.{Base}
use Rattle.protocol.specs.Links.{no_link}
use Rattle.protocol.specs.Record.{link_at}
use Rattle.protocol.specs.Steps.{with_link, with_sent, with_announce, with_verify, with_vector}
use Rattle.protocol.proofs.Steps.Cases.{holding_vector, Takes, takes_announce, takes_verify}
use Rattle.protocol.proofs.Steps.Cases.{takes_correct, takes_and_votes, takes_verify_final}

-- ---- links after one is stored
pub stored_same : (b : Base) (i : ℕ) (l : Link) → i < length b.links → link_at (with_link b i l) i ≡ l
unfolding link_at with_link
stored_same b i l h = get_or-set_same b.links i l no_link h

pub stored_other : (b : Base) (i : ℕ) (l : Link) (j : ℕ) → j ≢ i → link_at (with_link b i l) j ≡ link_at b j
unfolding link_at with_link
stored_other b i l j ne = get_or-set_other b.links i j l no_link ne

sent_link : (b : Base) (j : ℕ) → link_at (with_sent b) j ≡ link_at b j
unfolding link_at with_sent
sent_link b j = refl

-- ---- n, t and the own identifier
pub record SameSetting (b c : Base) : Type 0 where
  pub n : c.n ≡ b.n
  pub t : c.t ≡ b.t
  pub own : c.own ≡ b.own

-- all that is left alone while a message is taken in
pub record SameRest (b c : Base) : Type 0 where
  pub setting : SameSetting b c
  pub state : c.state ≡ b.state
  pub final : c.final_list ≡ b.final_list
  pub places : length c.links ≡ length b.links

-- a link is stored, and a Verify-Final may have been sent
takes_ind : (P : Base → Type 0) {b : Base} {i : ℕ} {m : Message} {c : Base} {said : List Message} → ((l : Link) → P (with_link b i l))
    → ((l : Link) → P (with_sent (with_link b i l))) → Takes b i m c said → P c
takes_ind P stored voted (takes_announce g p q r) = stored _
takes_ind P stored voted (takes_verify g p q) = stored _
takes_ind P stored voted (takes_correct v o p) = stored _
takes_ind P stored voted (takes_and_votes v o p) = voted _
takes_ind P stored voted (takes_verify_final v o) = stored _

pub takes_rest : {b : Base} {i : ℕ} {m : Message} {c : Base} {said : List Message} → Takes b i m c said → SameRest b c
unfolding with_link with_sent
takes_rest {b} {i} = takes_ind (SameRest b) (λ l. same l b.sent) (λ l. same l 1)
  where
    same : (l : Link) (sent : ℕ)
        → SameRest b (record {
          n = b.n;
          t = b.t;
          state = b.state;
          sent = sent;
          own = b.own;
          final_list = b.final_list;
          links = set b.links i l;
        })
    same l sent =
        record { setting = record { n = refl; t = refl; own = refl }; state = refl; final = refl; places = length-set b.links i l }

pub takes_other : {b : Base} {i : ℕ} {m : Message} {c : Base} {said : List Message} → Takes b i m c said → (j : ℕ) → j ≢ i
    → link_at c j ≡ link_at b j
takes_other {b} {i} T j ne = takes_ind (λ (c : Base). link_at c j ≡ link_at b j) (λ l. stored_other b i l j ne)
    (λ l. sent_link (with_link b i l) j ∙ stored_other b i l j ne) T

-- ---- the link that the message came on
unfoldable pub changed : {b : Base} {i : ℕ} {m : Message} {c : Base} {said : List Message} → Takes b i m c said → Link
changed {b} {i} (takes_announce g p q r) = with_announce (link_at b i) g
changed {b} {i} (takes_verify g p q) = with_verify (link_at b i) g
changed {b} {i} (takes_correct v o p) = with_vector (link_at b i) 3 v
changed {b} {i} (takes_and_votes v o p) = with_vector (link_at b i) 3 v
changed {b} {i} (takes_verify_final v o) = with_vector (link_at b i) 4 v

pub takes_changed : {b : Base} {i : ℕ} {m : Message} {c : Base} {said : List Message} (T : Takes b i m c said) → i < length b.links
    → link_at c i ≡ changed T
unfolding changed
takes_changed {b} {i} (takes_announce g p q r) h = stored_same b i _ h
takes_changed {b} {i} (takes_verify g p q) h = stored_same b i _ h
takes_changed {b} {i} (takes_correct v o p) h = stored_same b i _ h
takes_changed {b} {i} (takes_and_votes v o p) h = sent_link (holding_vector b i 3 v) i ∙ stored_same b i _ h
takes_changed {b} {i} (takes_verify_final v o) h = stored_same b i _ h

-- what holds of that link now, and held of each before, holds of each now
pub takes_each : (P : ℕ → Link → Type 0) {b : Base} {i : ℕ} {m : Message} {c : Base} {said : List Message} (k : ℕ) (T : Takes b i m c said)
    → i < length b.links
    → P i (changed T) → ((j : ℕ) → j < k → P j (link_at b j)) → (j : ℕ) → j < k → P j (link_at c j)
takes_each P {i = i} {c = c} k T h here before j l = elim (ℕ_discrete j i) [
  | yes e ↦ subst (λ (x : ℕ). P x (link_at c x)) (sym e) (subst (P i) (sym (takes_changed T h)) here)
  | no e ↦ subst (P j) (sym (takes_other T j e)) (before j l)
]
