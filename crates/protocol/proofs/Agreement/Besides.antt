-- What holds besides in every history. A base broadcasts at most n + 3, keeps its n and t, and has state 2 or 3 exactly if it has broadcast
-- a Correct-Final. Its record and its links pass at every call, and every frame reads back as the message that was sent; so a start and a
-- carry are turned down for a short output alone, and a forgery for its burst besides.
use Prim.Native.Nat.{ℕ, zero, suc, ◌+◌, ◌-◌, ◌≤◌, ◌<◌}
use Rattle.std.specs.Prelude.{◌≡◌, ◌≢◌, ◌⊎◌, ◌↔◌, true, List, length}
use Rattle.std.proofs.Common.{sym, ◌∙◌, subst, inl, inr, arith}
use Rattle.std.proofs.Math.Path.{ap}
use Rattle.lists.specs.Choice.{first}
use Rattle.lists.specs.Choice.Laws.{first_none, first_last}
use Rattle.frame.specs.Message.{Valid}
use Rattle.protocol.specs.Sound.{record_refusal}
use Rattle.protocol.specs.Steps.{link_refusal, output_refusal, arrival_refusal, arrival}
use Rattle.protocol.proofs.Steps.Refusals.{link_near}
use Rattle.protocol.proofs.Steps.Answers.{start_number, arrival_number}
use Rattle.protocol.specs.Numbering.{link_to}
use Rattle.protocol.proofs.Numbering.Laws.{link_range}
use Rattle.protocol.specs.Net.{Net, Pair, starts, carry, forge, broadcast, call, event_refusal, call_refusal, has_stopped}
use Rattle.protocol.specs.Agreement.{BaseOf, ReadBack, Orderly, Order}
use Rattle.protocol.specs.Agreement.Invariant.{broadcast_at}
use Rattle.protocol.proofs.Agreement.Inner.{Group, Member}
use Rattle.protocol.proofs.Agreement.Inner.Life.{log_most}
use Rattle.protocol.proofs.Agreement.Outer.Faulty.{table}
use Rattle.protocol.proofs.Agreement.Outer.Frames.{length_encoded, said_at, reads_back, encoded_accepted}
use Rattle.protocol.proofs.Agreement.Outer.Follows.{Matches}
use Rattle.protocol.proofs.Agreement.Outer.Refusals.{carry_names_broadcast, carry_has_number, encoded_at}
use Rattle.frame.specs.Encoding.{encode}
use Rattle.frame.specs.Reading.{burst_refusal, message_of}
use Rattle.protocol.proofs.Agreement.Outer.Beginning.{each_base, ReachedNet, net_reached}
use Rattle.protocol.proofs.Agreement.Outer.Stopping.{state_stopped}
use Rattle.protocol.proofs.Agreement.Theorem.{state_end}

module _ {n t : ℕ} {faulty : List Pair} {id : ℕ → ℕ} {truth : List ℕ} {end : Net} (R : ReachedNet n t faulty id truth end) where
  abbrev N : Group
  N = R.follows.group

  matches : Matches n end N
  matches = R.follows.matches

  members : (x : ℕ) → x < n → Member n t (id x) (end.base (suc x))
  members x l = subst (Member n t (id x)) (sym (matches.base x l)) (R.invariant.member x l)

  -- ---- "A base broadcasts at most n + 3 in its life."
  log_few : (x : ℕ) → x < n → length (end.log (suc x)) ≤ n + 3
  log_few x l = omega (
    arith,
    ap length (matches.log x l),
    length_encoded (N.log x),
    log_most n t (table faulty) id truth R.premises R.follows.reached x l,
  )

  -- ---- "It has stopped once it has broadcast a Correct-Final; its state is then 2 or 3."
  stopped_exactly : (x : ℕ) → x < n → (has_stopped end (suc x) ≡ true) ↔ (((end.base (suc x)).state ≡ 2) ⊎ ((end.base (suc x)).state ≡ 3))
  stopped_exactly x l =
      (state_end R x l, λ s. state_stopped R.size matches R.invariant x l (high s))
    where
      high : ((end.base (suc x)).state ≡ 2) ⊎ ((end.base (suc x)).state ≡ 3) → 2 ≤ (end.base (suc x)).state
      high (inl e) = omega arith
      high (inr e) = omega arith

  -- ---- numbers 1 to 5
  n_kept : (b : ℕ) → BaseOf n b → (end.base b).n ≡ n
  n_kept = each_base n (λ b. (end.base b).n ≡ n) (λ x l. (members x l).n_is)

  record_accepted : (b : ℕ) → BaseOf n b → record_refusal (end.base b) ≡ 0
  record_accepted = each_base n (λ b. record_refusal (end.base b) ≡ 0) (λ x l. (members x l).refusal)

  link_accepted : (a b : ℕ) → BaseOf n a → BaseOf n b → a ≢ b → link_refusal (end.base b).n (link_to b a) ≡ 0
  link_accepted a b A B ne =
      let r = link_range n b a B.least B.most A.least A.most ne in
      link_near (end.base b).n (link_to b a) r.0 (omega (arith, r.1, n_kept b B, B.least, B.most))

  -- ---- frames
  frame_read : (x b k : ℕ) → x < n → BaseOf n b → k < length (end.log (suc x)) → ReadBack (end.base b).n (broadcast end (suc x) (suc k))
  frame_read x b k l B h = subst (λ m. ReadBack m (broadcast end (suc x) (suc k))) (sym (n_kept b B)) (record {
    message = broadcast_at (N.log x) k;
    written = is;
    accepted = ap (burst_refusal n) is ∙ encoded_accepted n R.size (broadcast_at (N.log x) k) sent;
    reads = ap message_of is ∙ reads_back n R.size (broadcast_at (N.log x) k) sent;
  })
    where
      below : k < length (N.log x)
      below = omega (arith, ap length (matches.log x l), length_encoded (N.log x))

      sent : Valid n (broadcast_at (N.log x) k)
      sent = R.invariant.valid x (broadcast_at (N.log x) k) l (said_at (N.log x) k below)

      is : broadcast end (suc x) (suc k) ≡ encode (broadcast_at (N.log x) k)
      is = encoded_at end (suc x) k (N.log x) (matches.log x l) below

  frame_of_lem : (a b k : ℕ) → BaseOf n a → BaseOf n b → 1 ≤ k → k ≤ length (end.log a) → ReadBack (end.base b).n (broadcast end a k)
  frame_of_lem zero b k A B one most = absurd (omega (arith, A.least))
  frame_of_lem (suc x) b zero A B one most = absurd (omega arith)
  frame_of_lem (suc x) b (suc k) A B one most = frame_read x b k A.most B most

  -- ---- calls: where record and link pass, the output and the burst are left
  start_turned_down : (b room : ℕ) → BaseOf n b → call_refusal (call end (starts b room)).answer ≡ output_refusal room
  unfolding call
  start_turned_down b room B = start_number (end.base b) room ∙ first_none (output_refusal room) (record_accepted b B)

  arrival_turned_down : (a b room : ℕ) (burst : List ℕ) → BaseOf n a → BaseOf n b → a ≢ b
      → call_refusal (arrival (end.base b) (link_to b a) burst room).answer
      ≡ first (output_refusal room) (burst_refusal (end.base b).n burst)
  unfolding arrival_refusal
  arrival_turned_down a b room burst A B ne = arrival_number (end.base b) (link_to b a) burst room
      ∙ first_none _ (record_accepted b B)
      ∙ first_none _ (link_accepted a b A B ne)

  -- a carry that 16 lets pass brings a frame that was broadcast
  carry_turned_down : (a b k room : ℕ) → BaseOf n a → BaseOf n b → a ≢ b → event_refusal faulty end (carry a b k room) ≡ 0
      → call_refusal (call end (carry a b k room)).answer ≡ output_refusal room
  unfolding call
  carry_turned_down a b zero room A B ne e = absurd (carry_has_number faulty end a b room e)
  carry_turned_down a b (suc k) room A B ne e = arrival_turned_down a b room (broadcast end a (suc k)) A B ne
      ∙ first_last (output_refusal room)
      (frame_of_lem a b (suc k) A B (omega arith) (carry_names_broadcast faulty end a b (suc k) room e)).accepted

  forge_turned_down : (a b room : ℕ) (bytes : List ℕ) → BaseOf n a → BaseOf n b → a ≢ b
      → call_refusal (call end (forge a b bytes room)).answer ≡ first (output_refusal room) (burst_refusal n bytes)
  unfolding call
  forge_turned_down a b room bytes A B ne = arrival_turned_down a b room bytes A B ne
      ∙ ap (λ m. first (output_refusal room) (burst_refusal m bytes)) (n_kept b B)

  in_order : Orderly n t faulty end
  in_order = record {
    life = each_base n (λ b. length (end.log b) ≤ n + 3) log_few;
    keeps_n = n_kept;
    keeps_t = each_base n (λ b. (end.base b).t ≡ t) (λ x l. (members x l).t_is);
    stops = each_base n (λ b. (has_stopped end b ≡ true) ↔ (((end.base b).state ≡ 2) ⊎ ((end.base b).state ≡ 3))) stopped_exactly;
    records = record_accepted;
    links = link_accepted;
    frames = frame_of_lem;
    start_call_lem = start_turned_down;
    carry_call_lem = carry_turned_down;
    forge_call = forge_turned_down;
  }

pub orderly : Order
orderly n t faulty W es S F p = in_order (net_reached n t faulty W S F es p)
