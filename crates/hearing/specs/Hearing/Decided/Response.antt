-- The response to a message at a running base is what the message does there.
use Rattle.std.specs.Prelude.{ℕ, ◌≤◌, ◌≡◌, Bool, length}
use Rattle.std.proofs.Math.Path.{refl, ap, subst}
use Rattle.std.proofs.Common.{sym, ◌∙◌, arith}
use Rattle.std.proofs.Math.Bool.{true, false}
use mathlib.Core.List.{List, []}
use Rattle.std.proofs.lemmas.List.{set-get_or}
use Rattle.limits.specs.Limits.{most_bases}
use Rattle.limits.specs.Refusals.{NetSize}
use Rattle.lists.specs.Choice.Laws.{choose_yes, choose_no}
use Rattle.lists.specs.Lists.{sum_over}
use Rattle.frame.specs.Encoding.{over}
use Rattle.protocol.specs.declared.Link.{Link}
use Rattle.protocol.specs.declared.Base.{Base}
use Rattle.protocol.specs.Airtime.{own_slots, relayed_slots}
use Rattle.protocol.specs.Links.{no_link}
use Rattle.protocol.specs.Record.{link_at, link_count, certified}
use Rattle.protocol.specs.Steps.{discarded, Done, discards, with_link, with_state, on_message, encode_all, outcome_with, lengths, output_of}
use Rattle.protocol.specs.Steps.Cases.{begun}
use Rattle.change.specs.declared.Change.{Change}
use Rattle.change.specs.Change.{changed_base, Does}
use Rattle.change.specs.Change.Laws.{does_as}
use Rattle.change.specs.Heard.{MessageIn, message_in}
use Rattle.accepting.specs.declared.Accepted.{Accepted}
use Rattle.deciding.specs.declared.Decision.{Decision}
use Rattle.deciding.specs.Deciding.{runs_on, decision_of}
use Rattle.settling.specs.Settling.{accepted_at, decided_at}
use Rattle.responding.specs.Responding.{response_frames, response_outcome, response_change}
use Rattle.hearing.specs.Hearing.Decided.{decided_base}
use Rattle.hearing.specs.Hearing.Decided.Laws.{DecidedAs, discarded_by_link, accepted_by_link, link_kept}
use Rattle.hearing.specs.Hearing.Decided.Frames.{said_does, said_room_lem}

module _ (b : Base) (i kind : ℕ) (ids output : List ℕ)
    (N : NetSize b.n) (M : MessageIn b.n kind ids) (z : length ids ≡ most_bases) (a : Accepted) (D : Decision)
    (e : a ≡ accepted_at b i kind ids) (f : D ≡ decided_at b i a kind ids)
    (h : length (encode_all (on_message (begun b) i (message_in b.n kind ids)).says) ≤ length output)
    (r : Change) (after : List ℕ) (p : r ≡ response_change b.n i a D ids (length output))
    (q : after ≡ over (response_frames b.n a.accepted D ids (length output)) output) where
  links_at : List Link → Base
  links_at ls =
      record { n = b.n; t = b.t; state = 1; sent = b.sent; own = b.own; final_list = b.final_list; links = ls }

  m : Done
  m = on_message (begun b) i (message_in b.n kind ids)

  yes : a.accepted ≡ true → Does b m r output after
  unfolding m accepted_at decided_at response_frames response_outcome response_change with_link with_state link_at link_count
      certified changed_base decided_base
  yes t =
      let x = with_link (begun b) i a.link in
      let g : D ≡ decision_of x kind ids = f ∙ choose_yes _ _ t in
      let K = subst (λ (d : Decision). DecidedAs x d ids m) (sym g)
      (accepted_by_link (begun b) i kind ids z N.most M a e t) in
      does_as K.done
      (said_does b x D ids output K.first (omega (arith, N.least)) N.most z K.list K.not_own (said_room_lem _ _ _ K.done h)
      r after (ap (λ (c : Change). c.outcome) p ∙ choose_yes _ _ t) (q ∙ ap (λ (s : List ℕ). over s output) (choose_yes _ _ t))
      (ap (changed_base b) p))

  -- the record once the base runs, as it was but for that
  kept : a.accepted ≡ false → changed_base b r ≡ begun b
  unfolding links_at accepted_at decided_at response_change with_link with_state link_at link_count certified changed_base runs_on
  kept t =
      let g : D ≡ runs_on (begun b) 0 b.sent = f ∙ choose_no _ _ t in
      ap (changed_base b) p
      ∙ ap (λ (d : Decision). changed_base b (response_change b.n i a d ids (length output))) g
      ∙ ap (λ (l : Link). with_link (begun b) i l) (link_kept (begun b) i kind ids z N.most M a e t)
      ∙ ap links_at (set-get_or b.links i no_link)

  quiet : a.accepted ≡ false → r.outcome ≡ outcome_with b.own discarded []
  unfolding response_outcome response_change outcome_with lengths own_slots relayed_slots sum_over
  quiet t = ap (λ (c : Change). c.outcome) p ∙ choose_no _ _ t

  no : a.accepted ≡ false → Does b m r output after
  unfolding m accepted_at response_frames with_state link_at link_count certified discards output_of encode_all
  no t =
      does_as (discarded_by_link (begun b) i kind ids z N.most M a e t)
      (record {
        changes = record { outcome = quiet t; base = kept t };
        written = q ∙ ap (λ (s : List ℕ). over s output) (choose_no _ _ t);
      })

  pub response_does : Does b (on_message (begun b) i (message_in b.n kind ids)) r output after
  unfolding m
  response_does = go a.accepted refl
    where
      go : (t : Bool) → a.accepted ≡ t → Does b m r output after
      go true t = yes t
      go false t = no t
