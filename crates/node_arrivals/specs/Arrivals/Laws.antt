-- A burst that cannot be read, one that the base's call turns down, and one that arrives.
use Rattle.std.specs.Prelude.{ℕ, ◌*◌, ◌≡◌, ◌≢◌, List, take, drop}
use Rattle.std.proofs.Math.Path.{refl, ap}
use Rattle.std.proofs.Common.{sym, ◌∙◌, eq-eqb, ne_eqb}
use Rattle.limits.specs.Limits.{output_room}
use Rattle.limits.specs.Refusals.{net_refusal}
use Rattle.limits.specs.Refusals.Laws.{net_passes}
use Rattle.lists.specs.Choice.Laws.{chosen_yes, chosen_no, first_none, first_passed}
use Rattle.frame.specs.Reading.{burst_refusal, read_refusal}
use Rattle.reader.specs.declared.Reading.TheVariants.{Message, Refused}
use Rattle.decoding.specs.Decoding.{id_array}
use Rattle.reader.specs.Answers.{reading_of}
use Rattle.reader.specs.Answers.Laws.{reading_refused}
use Rattle.reader.specs.Answers.Place.{body_there}
use Rattle.protocol.proofs.Sound.Laws.{record_passed}
use Rattle.protocol.specs.Steps.{arrival, arrival_refusal}
use Rattle.protocol.proofs.Steps.Answers.{arrival_number, arrival_refused}
use Rattle.protocol.specs.Net.{call_refusal}
use Rattle.hearing.specs.Hearing.{message_arrival}
use Rattle.hearing.specs.Hearing.Bursts.{read_heard}
use Rattle.node.specs.declared.Node.{Node}
use Rattle.node.specs.Node.{marked, node_after}
use Rattle.node_calls.specs.declared.NodeAnswer.{NodeAnswer}
use Rattle.node_calls.specs.Calls.{node_answer}
use Rattle.node_calls.specs.Calls.Laws.{after_unchanged}
use Rattle.node_arrivals.specs.Arrivals.{heard_burst}

module _ (u : Node) (link : ℕ) (bytes : List ℕ) (a k : ℕ) where
  -- the burst of a call that is not turned down was read
  call_read : call_refusal (arrival u.base link bytes output_room).answer ≡ 0 → read_refusal u.base.n bytes ≡ 0
  unfolding arrival_refusal read_refusal
  call_read z =
      let p = first_passed _ _ (sym (arrival_number u.base link bytes output_room) ∙ z) in
      let net : net_refusal u.base.n ≡ 0 = net_passes (record_passed u.base p.0).net in
      let burst : burst_refusal u.base.n bytes ≡ 0 = (first_passed _ _ (first_passed _ _ p.1).1).1 in
      first_none (burst_refusal u.base.n bytes) net ∙ burst

  pub burst_unread : {r : ℕ} → reading_of u.base.n bytes ≡ Refused r → u ≡ heard_burst u link bytes a k
  unfolding heard_burst
  burst_unread {r} e =
      let q = reading_refused u.base.n bytes r e in chosen_no _ (ne_eqb _ 0 (λ z. q.1 (sym q.0 ∙ call_read z))) refl

  -- what was read arrives
  module _ {kind count start : ℕ} (e : reading_of u.base.n bytes ≡ Message kind count start)
      {ids : List ℕ} (ei : ids ≡ id_array (take (4 * count) (drop start bytes)))
      {t : NodeAnswer} (et : t ≡ node_answer u (message_arrival u.base link 0 kind ids output_room)) where
    is_answer : t ≡ node_answer u (arrival u.base link bytes output_room)
    is_answer = et ∙ ap (node_answer u)
        (sym (read_heard u.base link bytes output_room _ _ _ e ids (ei ∙ ap id_array (body_there _ _ _ _ _ e))))

    its_number : t.refusal ≡ call_refusal (arrival u.base link bytes output_room).answer
    unfolding node_answer
    its_number = ap (λ (x : NodeAnswer). x.refusal) is_answer

    its_node : t.node ≡ node_after u (arrival u.base link bytes output_room)
    unfolding node_answer
    its_node = ap (λ (x : NodeAnswer). x.node) is_answer

    -- a call that is turned down leaves the base as it was
    pub burst_unheard : t.refusal ≢ 0 → t.node ≡ heard_burst u link bytes a k
    unfolding heard_burst
    burst_unheard some =
        let n : call_refusal (arrival u.base link bytes output_room).answer ≢ 0 = λ z. some (its_number ∙ z) in
        chosen_no _ (ne_eqb _ 0 n) (its_node ∙ after_unchanged u _ (arrival_refused u.base link bytes output_room n))

    pub burst_heard : t.refusal ≡ 0 → {m : Node} → m ≡ marked t.node a k → m ≡ heard_burst u link bytes a k
    unfolding heard_burst
    burst_heard none em = chosen_yes _ (eq-eqb _ 0 (sym its_number ∙ none)) (em ∙ ap (λ (x : Node). marked x a k) its_node)
