-- Changes that set the state alone, and calls that do what another definition says.
use Rattle.std.specs.Prelude.{ℕ, ◌≤◌, ◌≡◌, List, length, get_or, set}
use Rattle.std.proofs.Math.Path.{sym}
use Rattle.std.proofs.Common.{ap, ◌∙◌, subst}
use Rattle.std.proofs.Math.Seq.{set_out}
use Rattle.std.proofs.lemmas.List.{set-get_or}
use Rattle.frame.proofs.Encoding.Laws.{over_nothing}
use Rattle.protocol.specs.declared.Link.{Link}
use Rattle.protocol.specs.declared.Base.{Base}
use Rattle.protocol.specs.declared.Outcome.{Outcome}
use Rattle.protocol.specs.Links.{no_link}
use Rattle.protocol.specs.Steps.{Done, refuses, discards, with_state, encode_all, output_of}
use Rattle.change.specs.declared.Change.{Change}
use Rattle.change.specs.Change.{changed_base, EndsAs, DoesAs}

-- ---- what the code makes
-- no place that there is
pub changed_nowhere : (b : Base) (c : Change) → length b.links ≤ c.place
    → ◌≡◌ {A = Base}
    (record { n = b.n; t = b.t; state = c.state; sent = c.sent; own = b.own; final_list = c.final_list; links = b.links })
    (changed_base b c)
unfolding changed_base
changed_nowhere b c h = ap
    (λ (ls : List Link).
    record { n = b.n; t = b.t; state = c.state; sent = c.sent; own = b.own; final_list = c.final_list; links = ls })
    (sym (set_out b.links c.place c.link h))

-- the link at a place set as it was
pub changed_state : (b : Base) (state : ℕ) (o : Outcome)
    → changed_base b (record {
      outcome = o;
      state = state;
      sent = b.sent;
      place = 0;
      link = get_or b.links 0 no_link;
      final_list = b.final_list;
    }) ≡ with_state b state
unfolding changed_base with_state
changed_state b state o = ap
    (λ (ls : List Link).
    record { n = b.n; t = b.t; state = state; sent = b.sent; own = b.own; final_list = b.final_list; links = ls })
    (set-get_or b.links 0 no_link)

-- ---- a call that does what another definition says
module _ {R : Type 0} {form : Outcome → R} {answer : R} {left : Base} where
  pub does_as : {d k : Done} {output after : List ℕ} → d ≡ k
      → DoesAs form k answer left output after → DoesAs form d answer left output after
  does_as {output = output} {after = after} e p = subst (λ (x : Done). DoesAs form x answer left output after) (sym e) p

  -- ---- a call that broadcasts nothing
  pub refuses_does : (b : Base) (r : ℕ) (output : List ℕ) → EndsAs form (refuses b r) answer left
      → DoesAs form (refuses b r) answer left output output
  unfolding output_of refuses encode_all
  refuses_does b r output p = record { changes = p; written = sym (over_nothing output) }

  pub discards_does : (d : Base) (output : List ℕ) → EndsAs form (discards d) answer left
      → DoesAs form (discards d) answer left output output
  unfolding output_of discards encode_all
  discards_does d output p = record { changes = p; written = sym (over_nothing output) }
