-- What a message does at a running base is what the code's parts say: it is discarded, or the link holds it and the base decides.
-- One law for each check, whatever was broadcast before it; one split for each kind of message.
use Prim.Native.Nat.{ℕ, ◌≤◌}
use Rattle.std.specs.Prelude.{◌≡◌, ◌⊎◌, Bool, true, false, length, take, get_or}
use Rattle.std.proofs.Math.Path.{refl, subst}
use Rattle.std.proofs.Common.{sym, ap, ◌∙◌, inl, inr, arith, length-take-le}
use Rattle.std.proofs.Math.Bool.{not}
use mathlib.Core.List.{List, [], ◌∷◌, ◌++◌, append-nil}
use Rattle.std.proofs.Math.Dec.{eqb}
use Rattle.limits.specs.Limits.{most_bases}
use Rattle.lists.specs.Choice.{choose, or}
use Rattle.lists.specs.Choice.Laws.{choose_yes, choose_no, or_false}
use Rattle.lists.specs.Lists.{member, sort, pad_to}
use Rattle.lists.specs.Lists.Laws.{pad_front}
use Rattle.lists.specs.Lists.Sorted.{length_sort}
use Rattle.frame.specs.Message.{Message, announce, verify, correct_final, verify_final, known, expected, holds_one, holds_all}
use Rattle.frame.proofs.Message.Laws.{Kind, known_is}
use Rattle.frame.specs.Reading.{message}
use Rattle.protocol.specs.declared.Link.{Link}
use Rattle.protocol.specs.declared.Base.{Base}
use Rattle.protocol.specs.Airtime.{own_slots}
use Rattle.protocol.proofs.Airtime.Laws.{nothing_not_own, verify_not_own, vote_not_own}
use Rattle.protocol.specs.Links.{announces, holds_verify, full}
use Rattle.protocol.specs.Record.{link_at, link_count, links, list_tally, correct_count, certified}
use Rattle.protocol.specs.Steps.{Done, accepts, discards, with_link, with_sent}
use Rattle.protocol.specs.Steps.{with_state, with_final, with_announce, with_verify, with_vector}
use Rattle.protocol.specs.Steps.{prime_holds, secondary_holds, stops, prime_check, secondary_check, on_announce, on_verify, votes, vote}
use Rattle.protocol.specs.Steps.{on_correct_final, on_verify_final, on_message}
use Rattle.protocol.proofs.Steps.Certified.{uncertified_other}
use Rattle.protocol.proofs.Steps.Checks.{prime_parts}
use Rattle.change.specs.Heard.{HoldsFirst, MessageIn, message_in}
use Rattle.change.specs.Heard.Laws.{kind_one, kind_two, kind_three, kind_four}
use Rattle.accepting.specs.declared.Accepted.{Accepted}
use Rattle.accepting.specs.Accepting.{unless_discarded, with_array, on_announce_link, on_verify_link, on_vector_link, accepted_on}
use Rattle.deciding.specs.declared.Decision.{Decision}
use Rattle.deciding.specs.Deciding.{runs_on, stops_with, prime_decision, secondary_decision, vote_decision, decision_of}
use Rattle.hearing.specs.Hearing.Decided.{decided_base, first_said, last_said, said_by}

-- ---- what a decision does
-- no frame before the check, or one of a kind that there is
abbrev pub FirstKind : ℕ → Type 0
FirstKind first = (first ≡ 0) ⊎ (known first ≡ true)

-- to the base and to what it broadcasts; a list that stops it has n identifiers, and a frame before the check is relayed
pub record DecidedAs (c : Base) (d : Decision) (ids : List ℕ) (k : Done) : Type 0 where
  pub done : k ≡ accepts (decided_base c d) (said_by c.n d ids)
  pub list : d.stops ≡ true → length (take c.n d.final_list) ≡ c.n
  pub first : FirstKind d.first
  pub not_own : own_slots c.own (first_said c.n d.first ids) ≡ 0

runs_decides : (c : Base) (first sent : ℕ) (ids : List ℕ) (said : List Message) → FirstKind first
    → first_said c.n first ids ≡ said → own_slots c.own said ≡ 0
    → DecidedAs c (runs_on c first sent) ids
    (accepts (record {
      n = c.n;
      t = c.t;
      state = c.state;
      sent = sent;
      own = c.own;
      final_list = c.final_list;
      links = c.links;
    }) said)
unfolding decided_base said_by last_said runs_on choose
runs_decides c first sent ids said F e o = record {
  first = F;
  not_own = ap (own_slots c.own) e ∙ o;
  done = ap (accepts _) (sym e ∙ sym (append-nil _));
  list = λ z. absurd (let q : ◌≡◌ {A = Bool} false true = z in let w : ◌≡◌ {A = ℕ} 0 1 = cc in omega arith);
}

stops_decides : (c : Base) (first sent state : ℕ) (ids list v : List ℕ) (said : List Message)
    → FirstKind first → first_said c.n first ids ≡ said → own_slots c.own said ≡ 0
    → list ≡ pad_to most_bases v → take c.n list ≡ v → length v ≡ c.n
    → DecidedAs c (stops_with first sent state list) ids
    (stops (record { n = c.n; t = c.t; state = c.state; sent = sent; own = c.own; final_list = c.final_list; links = c.links })
    state v said)
unfolding decided_base said_by last_said stops_with choose stops with_state with_final
stops_decides c first sent state ids list v said F e o p q l = record {
  first = F;
  not_own = ap (own_slots c.own) e ∙ o;
  done = λ j. accepts
      (record { n = c.n; t = c.t; state = state; sent = sent; own = c.own; final_list = sym p j; links = c.links })
      (sym e j ++ (correct_final (sym q j) ∷ []));
  list = λ _. ap length q ∙ l;
}

-- ---- the checks
module _ (c : Base) (first : ℕ) (ids : List ℕ) (said : List Message) (F : FirstKind first) (e : first_said c.n first ids ≡ said)
    (o : own_slots c.own said ≡ 0) where
  pub prime_decides : DecidedAs c (prime_decision c first) ids (prime_check c said)
  unfolding prime_check prime_decision choose
  prime_decides = go (prime_holds c) refl
    where
      v : List ℕ
      v = sort (certified c)

      go : (t : Bool) → prime_holds c ≡ t
          → DecidedAs c (choose t (stops_with first c.sent 2 (pad_to most_bases v)) (runs_on c first c.sent))
          ids (choose t (stops c 2 v said) (accepts c said))
      go true h =
          let l : length v ≡ c.n = length_sort (certified c) ∙ (prime_parts c h).count in
          stops_decides c first c.sent 2 ids (pad_to most_bases v) v said F e o refl (pad_front most_bases v c.n l) l
      go false h = runs_decides c first c.sent ids said F e o

  -- on the base with sent set
  pub secondary_decides : (sent : ℕ) → HoldsFirst c.n ids → length (take c.n ids) ≡ c.n
      → DecidedAs c (secondary_decision c first sent ids) ids
      (secondary_check
      (record { n = c.n; t = c.t; state = c.state; sent = sent; own = c.own; final_list = c.final_list; links = c.links })
      (take c.n ids) said)
  unfolding secondary_check secondary_decision secondary_holds list_tally correct_count links link_count link_at choose
  secondary_decides sent h l = go (secondary_holds c (take c.n ids))
    where
      x : Base
      x = record { n = c.n; t = c.t; state = c.state; sent = sent; own = c.own; final_list = c.final_list; links = c.links }

      go : (t : Bool)
          → DecidedAs c (choose t (stops_with first sent 3 ids) (runs_on c first sent))
          ids (choose t (stops x 3 (take c.n ids) said) (accepts x said))
      go true = stops_decides c first sent 3 ids ids (take c.n ids) said F e o h refl l
      go false = runs_decides c first sent ids said F e o

-- ---- a message, by its kind
-- it is discarded by a test, or the link is then `after`
record Split (b : Base) (i kind : ℕ) (ids : List ℕ) : Type 0 where
  pub dropped : Bool
  pub after : Link
  pub follows : Done
  pub accepted : accepted_on b.n (member (get_or ids 0 0) (certified b)) (link_at b i) kind ids ≡ unless_discarded dropped
      (link_at b i) after
  pub step : on_message b i (message_in b.n kind ids) ≡ choose dropped (discards b) follows
  pub decides : dropped ≡ false → DecidedAs (with_link b i after) (decision_of (with_link b i after) kind ids) ids follows

first_of_one : (ids : List ℕ) → get_or (take 1 ids) 0 0 ≡ get_or ids 0 0
first_of_one [] = refl
first_of_one (x ∷ ids) = refl

said_none : (n : ℕ) (ids : List ℕ) → first_said n 0 ids ≡ []
unfolding first_said choose
said_none n ids = refl

said_verify : (n : ℕ) (ids : List ℕ) → first_said n 2 ids ≡ verify (get_or ids 0 0) ∷ []
unfolding first_said choose message_in message expected holds_one or
said_verify n ids = ap (λ (g : ℕ). verify g ∷ []) (first_of_one ids)

said_vote : (n : ℕ) (ids : List ℕ) → first_said n 4 ids ≡ verify_final (take n ids) ∷ []
unfolding first_said choose message_in message expected holds_one or
said_vote n ids = refl

verify_first : FirstKind 2
unfolding known holds_one holds_all or
verify_first = inr refl

vote_first : FirstKind 4
unfolding known holds_one holds_all or
vote_first = inr refl

-- an array that holds the list
vector_link : (n kind : ℕ) (l : Link) (v : List ℕ) → HoldsFirst n v → with_vector l kind (take n v) ≡ with_array l kind v
unfolding with_vector with_array
vector_link n kind l v h = ap
    (λ (list : List ℕ).
    record { announce = l.announce; verifies = l.verifies; list = list; verify_count = l.verify_count; held = kind })
    (sym h)

module _ (b : Base) (i : ℕ) (ids : List ℕ) where
  split_announce : {kind : ℕ} → kind ≡ 1 → Split b i kind ids
  unfolding accepted_on on_announce_link decision_of message_in message expected holds_one or choose on_message on_announce with_link
  split_announce {kind} e =
      let after = with_announce (link_at b i) (get_or ids 0 0) in
      let c = with_link b i after in record {
        dropped = or (announces (link_at b i)) (or (member (get_or ids 0 0) (certified b)) (full b.n (link_at b i)));
        after = after;
        follows = prime_check c (verify (get_or ids 0 0) ∷ []);
        accepted = kind_one _ _ _ _ _ e;
        step = rw (e, first_of_one ids) refl;
        decides = λ kept. subst (λ (d : Decision). DecidedAs c d ids (prime_check c (verify (get_or ids 0 0) ∷ [])))
            (sym (kind_one _ _ _ _ _ e)) (prime_decides c 2 ids (verify (get_or ids 0 0) ∷ []) verify_first (said_verify b.n ids)
            (verify_not_own b.own (get_or ids 0 0)
            (uncertified_other b (get_or ids 0 0) (or_false _ _ (or_false (announces (link_at b i)) _ kept).1).0)));
      }

  split_verify : {kind : ℕ} → kind ≡ 2 → Split b i kind ids
  unfolding accepted_on on_verify_link decision_of message_in message expected holds_one or choose on_message on_verify with_link
  split_verify {kind} e =
      let after = with_verify (link_at b i) (get_or ids 0 0) in
      let c = with_link b i after in record {
        dropped = or (holds_verify (link_at b i) (get_or ids 0 0)) (full b.n (link_at b i));
        after = after;
        follows = prime_check c [];
        accepted = kind_two _ _ _ _ _ e;
        step = rw (e, first_of_one ids) refl;
        decides = λ _. subst (λ (d : Decision). DecidedAs c d ids (prime_check c [])) (sym (kind_two _ _ _ _ _ e))
            (prime_decides c 0 ids [] (inl refl) (said_none b.n ids) (nothing_not_own b.own));
      }

  module _ (h : HoldsFirst b.n ids) (l : length (take b.n ids) ≡ b.n) where
    -- the vote, then the check
    vote_decides : (c : Base) → c.n ≡ b.n → DecidedAs c (vote_decision c ids) ids
        (let d = vote c (take b.n ids) in secondary_check d.base (take b.n ids) d.says)
    unfolding vote vote_decision accepts with_sent choose
    vote_decides c n = subst
        (λ (m : ℕ). DecidedAs c (vote_decision c ids) ids (let d = vote c (take m ids) in secondary_check d.base (take m ids) d.says))
        n (go (votes c (take c.n ids)))
      where
        h' : HoldsFirst c.n ids
        h' = subst (λ (m : ℕ). HoldsFirst m ids) (sym n) h

        l' : length (take c.n ids) ≡ c.n
        l' = subst (λ (m : ℕ). length (take m ids) ≡ m) (sym n) l

        go : (t : Bool) → DecidedAs c (choose t (secondary_decision c 4 1 ids) (secondary_decision c 0 c.sent ids)) ids
            (let d = choose t (accepts (with_sent c) (verify_final (take c.n ids) ∷ [])) (accepts c []) in
            secondary_check d.base (take c.n ids) d.says)
        go true = secondary_decides c 4 ids (verify_final (take c.n ids) ∷ []) vote_first (said_vote c.n ids)
            (vote_not_own c.own (take c.n ids)) 1 h' l'
        go false = secondary_decides c 0 ids [] (inl refl) (said_none c.n ids) (nothing_not_own c.own) c.sent h' l'

    split_correct : {kind : ℕ} → kind ≡ 3 → Split b i kind ids
    unfolding accepted_on on_vector_link decision_of message_in message expected holds_one or choose on_message on_correct_final with_link
    split_correct {kind} e =
        let after = with_array (link_at b i) 3 ids in
        let c = with_link b i after in
        let next : Base → Done = λ x. let d = vote x (take b.n ids) in secondary_check d.base (take b.n ids) d.says in record {
          dropped = eqb (link_at b i).held 3;
          after = after;
          follows = next c;
          accepted = kind_three _ _ _ _ _ e;
          step = rw e (ap (λ (x : Link). choose (eqb (link_at b i).held 3) (discards b) (next (with_link b i x)))
              (vector_link b.n 3 (link_at b i) ids h));
          decides = λ _. subst (λ (d : Decision). DecidedAs c d ids (next c)) (sym (kind_three _ _ _ _ _ e)) (vote_decides c refl);
        }

    split_verify_final : {kind : ℕ} → kind ≡ 4 → Split b i kind ids
    unfolding accepted_on on_vector_link decision_of message_in message expected holds_one or choose on_message on_verify_final with_link
    split_verify_final {kind} e =
        let after = with_array (link_at b i) 4 ids in
        let c = with_link b i after in
        let next : Base → Done = λ x. secondary_check x (take b.n ids) [] in record {
          dropped = not (eqb (link_at b i).held 0);
          after = after;
          follows = next c;
          accepted = kind_four _ _ _ _ _ e;
          step = rw e (ap (λ (x : Link). choose (not (eqb (link_at b i).held 0)) (discards b) (next (with_link b i x)))
              (vector_link b.n 4 (link_at b i) ids h));
          decides = λ _. subst (λ (d : Decision). DecidedAs c d ids (next c)) (sym (kind_four _ _ _ _ _ e))
              (secondary_decides c 0 ids [] (inl refl) (said_none b.n ids) (nothing_not_own b.own) c.sent h l);
        }

-- kinds 3 and 4: the array holds n identifiers
vector_holds : (n kind : ℕ) (ids : List ℕ) → expected kind n ≡ n → HoldsFirst (expected kind n) ids → HoldsFirst n ids
vector_holds n kind ids e h = subst (λ (k : ℕ). HoldsFirst k ids) e h

holds_all_lem : {n kind : ℕ} → (kind ≡ 3) ⊎ (kind ≡ 4) → expected kind n ≡ n
unfolding expected holds_one or choose
holds_all_lem (inl e) = rw e refl
holds_all_lem (inr e) = rw e refl

split_message : (b : Base) (i kind : ℕ) (ids : List ℕ)
    → length ids ≡ most_bases → b.n ≤ most_bases → MessageIn b.n kind ids → Split b i kind ids
split_message b i kind ids l most M = go (known_is kind M.known)
  where
    long : length (take b.n ids) ≡ b.n
    long = length-take-le b.n ids (omega arith)

    go : Kind kind → Split b i kind ids
    go (inl e) = split_announce b i ids e
    go (inr (inl e)) = split_verify b i ids e
    go (inr (inr (inl e))) = split_correct b i ids (vector_holds b.n kind ids (holds_all_lem (inl e)) M.holds) long e
    go (inr (inr (inr e))) = split_verify_final b i ids (vector_holds b.n kind ids (holds_all_lem (inr e)) M.holds) long e

-- ---- what the code knows
unfolded_no : (t : Bool) (l after : Link) → (unless_discarded t l after).accepted ≡ false → t ≡ true
unfolding unless_discarded choose
unfolded_no true l after e = refl
unfolded_no false l after e = sym e

unfolded_kept : (t : Bool) (l after : Link) → (unless_discarded t l after).accepted ≡ false → (unless_discarded t l after).link ≡ l
unfolding unless_discarded choose
unfolded_kept true l after e = refl
unfolded_kept false l after e = absurd (let w : ◌≡◌ {A = ℕ} 0 1 = cc in omega arith)

unfolded_yes : (t : Bool) (l after : Link)
    → (unless_discarded t l after).accepted ≡ true → (t ≡ false) × ((unless_discarded t l after).link ≡ after)
unfolding unless_discarded choose
unfolded_yes true l after e = (sym e, absurd (let w : ◌≡◌ {A = ℕ} 0 1 = cc in omega arith))
unfolded_yes false l after e = (refl, refl)

module _ (b : Base) (i kind : ℕ)
    (ids : List ℕ) (z : length ids ≡ most_bases) (most : b.n ≤ most_bases) (M : MessageIn b.n kind ids) (a : Accepted)
    (p : a ≡ accepted_on b.n (member (get_or ids 0 0) (certified b)) (link_at b i) kind ids) where
  pub discarded_by_link : a.accepted ≡ false → on_message b i (message_in b.n kind ids) ≡ discards b
  discarded_by_link e =
      let S = split_message b i kind ids z most M in
      let q : a ≡ unless_discarded S.dropped (link_at b i) S.after = p ∙ S.accepted in
      S.step ∙ choose_yes _ _ (unfolded_no S.dropped (link_at b i) S.after (sym (ap (λ (x : Accepted). x.accepted) q) ∙ e))

  pub link_kept : a.accepted ≡ false → a.link ≡ link_at b i
  link_kept e =
      let S = split_message b i kind ids z most M in
      let q : a ≡ unless_discarded S.dropped (link_at b i) S.after = p ∙ S.accepted in
      ap (λ (x : Accepted). x.link) q
      ∙ unfolded_kept S.dropped (link_at b i) S.after (sym (ap (λ (x : Accepted). x.accepted) q) ∙ e)

  pub accepted_by_link : a.accepted ≡ true → let c = with_link b i a.link in
      DecidedAs c (decision_of c kind ids) ids (on_message b i (message_in b.n kind ids))
  accepted_by_link e =
      let S = split_message b i kind ids z most M in
      let q : a ≡ unless_discarded S.dropped (link_at b i) S.after = p ∙ S.accepted in
      let y = unfolded_yes S.dropped (link_at b i) S.after (sym (ap (λ (x : Accepted). x.accepted) q) ∙ e) in
      let k : S.after ≡ a.link = sym (ap (λ (x : Accepted). x.link) q ∙ y.1) in
      subst (λ (d : Done). let c = with_link b i a.link in DecidedAs c (decision_of c kind ids) ids d)
      (sym (S.step ∙ choose_no _ _ y.0))
      (subst (λ (x : Link). DecidedAs (with_link b i x) (decision_of (with_link b i x) kind ids) ids S.follows) k (S.decides y.0))
