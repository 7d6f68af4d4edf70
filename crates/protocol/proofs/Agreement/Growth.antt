-- What a base has shown stays true as it grows: certified identifiers, the backing of its broadcasts, and what has been delivered to it.
use Rattle.std.specs.Prelude.{ℕ, ◌≤◌, refl, List}
use Rattle.std.proofs.Common.{sym, ◌∙◌, inl, inr, le_refl, le_trans, arith}
use Rattle.counting.specs.Counts.{count_fewer}
use Rattle.frame.specs.Message.{Message, announce, verify, correct_final, verify_final}
use Rattle.protocol.specs.Agreement.Views.{View, Certified, corrects}
use Rattle.protocol.specs.Agreement.Calls.{Grows, Backed}
use Rattle.protocol.specs.Agreement.Growth.{Delivered}

pub grows_not : (b : View) → Grows b b
grows_not b = record {
  names = λ x h. refl;
  verifies = λ x g h. h;
  corrects = λ x v h. h;
  votes = λ x v h. inl h;
  state = le_refl b.state;
  sent = le_refl b.sent;
  stays = λ h. (refl, refl);
}

pub grows_then : {b c d : View} → Grows b c → Grows c d → Grows b d
grows_then {b} {c} {d} p q = record {
  names = λ x h. (let e = p.names x h in q.names x (omega (arith, e)) ∙ e);
  verifies = λ x g h. q.verifies x g (p.verifies x g h);
  corrects = λ x v h. q.corrects x v (p.corrects x v h);
  votes = λ x v h. elim (p.votes x v h) [ inl k ↦ q.votes x v k | inr k ↦ inr (k.0, q.corrects x k.0 k.1) ];
  state = le_trans p.state q.state;
  sent = le_trans p.sent q.sent;
  stays = λ h. (let e = p.stays h in let f = q.stays (omega (arith, e.0)) in (f.0 ∙ e.0, f.1 ∙ e.1));
}

module _ (n : ℕ) (b c : View) (w : Grows b c) where
  pub certified_grows : (g : ℕ) → 1 ≤ g → Certified n b g → Certified n c g
  certified_grows g above h = (h.0, h.1, h.2 ∙ sym (w.names h.0 (omega (arith, h.2))))

  pub corrects_grow : (v : List ℕ) → corrects n b v ≤ corrects n c v
  unfolding corrects
  corrects_grow v = count_fewer n (λ x. b.correct x v) (λ x. c.correct x v) (λ x l h. w.corrects x v h)

  pub backed_grows : (own : ℕ) (m : Message) → Backed n own b m → Backed n own c m
  backed_grows own (announce g) h = h
  backed_grows own (verify g) h = (h.0, certified_grows g h.0 h.1)
  backed_grows own (correct_final v) h = (le_trans h.0 w.state, (w.stays h.0).1 ∙ h.1)
  backed_grows own (verify_final v) h = (le_trans h.0 (corrects_grow v), le_trans h.1 w.sent)

  pub delivered_grows : (x : ℕ) (m : Message) → Delivered n b x m → Delivered n c x m
  delivered_grows x (announce g) h = λ above. certified_grows g above (h above)
  delivered_grows x (verify g) h = w.verifies x g h
  delivered_grows x (correct_final v) h = w.corrects x v h
  delivered_grows x (verify_final v) (inl h) = w.votes x v h
  delivered_grows x (verify_final v) (inr h) = inr (h.0, w.corrects x h.0 h.1)
