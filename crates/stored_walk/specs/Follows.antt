-- The program follows the schedule: its walk simulates the one that the schedule means, so that what it keeps at the end represents
-- what the schedule means, and the report that it prints is the one that `schedule/specs/Report` defines.
use Rattle.std.specs.Prelude.{ℕ, ◌+◌, ◌≤◌, ◌<◌, ◌≡◌, List, ◌++◌, eqb, length}
use Rattle.std.proofs.Math.Path.{refl, sym}
use Rattle.std.proofs.Common.{ap, ap₂, ◌∙◌, subst, eqb-true, lt-ltb, le-ltb}
use native.Mathlib.Omega.{arith}
use Rattle.limits.specs.Limits.{most_bases, longest_schedule}
use Rattle.limits.specs.Refusals.{size_refusal}
use Rattle.limits.specs.Refusals.Laws.{size_passed}
use Rattle.lists.specs.Choice.{choose}
use Rattle.lists.specs.Choice.Laws.{choose_yes, choose_no}
use Rattle.lines.specs.Lines.{net_line}
use Rattle.lines.specs.Lines.Found.{two_ind}
use Rattle.protocol.specs.Net.{Pair, good, Event, happens}
use Rattle.protocol.specs.Net as Nets
use Rattle.protocol.specs.Agreement.{Proper}
use Rattle.net.specs.declared.StoredNet.{StoredNet}
use Rattle.net.specs.Abstraction.{node_at, net_of, faulty_of, size}
use Rattle.net.specs.Header.{made_net, named_net, marked_net}
use Rattle.events.specs.Events.{moved, after}
use Rattle.representation.specs.Represents.{Represents, History}
use Rattle.representation.specs.Represents.Beginning.{represents_made, represents_named, represents_faulty}
use Rattle.representation.specs.Represents.Beginning.{represents_number, represents_waiting}
use Rattle.representation.specs.Represents.Histories.{represents_goes_on}
use Rattle.schedule.specs.Header.{id_refusal, faulty_refusal}
use Rattle.schedule.specs.Walk.{repeat, next_line, net_step, header_walk, lines_walk, walk}
use Rattle.schedule.specs.Meaning.{
  Progress,
  unread,
  refuse,
  onward,
  with_size,
  with_id,
  with_faulty,
  with_net,
  scheduled,
  header,
  whole_schedule,
  meaning,
}
use Rattle.schedule.proofs.Walk.Laws.{Unrefused}
use Rattle.schedule.proofs.Meaning.Laws.{judged_ind}
use Rattle.schedule.proofs.Meaning.Begins.{Whole, faulty_passed, faulty_begins, header_begins, ids_whole, begins_setting, begins_fresh}
use Rattle.schedule.proofs.Meaning.Continues.{Continues, lines_continue, lines_unrefused, whole_continues, header_unrefused, meaning_whole}
use Rattle.schedule.proofs.Simulation.{Invariants, Simulates, both, header_simulated, walk_simulated}
use Rattle.schedule.specs.Report.{base_lines, waiting_line, refused_line, report_of, report}
use Rattle.stored_walk.specs.State.{unread_net, refused_net, onward_net, replaying, report_net}

-- ---- what the schedule's own walk knows of itself
-- the bases of a header: none where its first line is turned down
sized_few : (s : List ℕ) → (net_step scheduled s unread).n ≤ most_bases
unfolding net_step
sized_few s =
    two_ind (λ (st : Progress). st.n ≤ most_bases) (net_line s unread.at) (λ _. Unit {0}) tt none
    (λ n t next _. judged_ind (λ (st : Progress). st.n ≤ most_bases) (size_refusal n t) unread (with_size n t (onward next unread))
    (λ e. some n t next (size_passed n t e).0.most) (λ _. unsized (size_refusal n t)))
  where
    unsized : (r : ℕ) → (refuse r unread).n ≤ most_bases
    unsized r = unfold refuse unread in omega arith

    none : (refuse 13 unread).n ≤ most_bases
    none = unsized 13

    some : (n t next : ℕ) → n ≤ most_bases → (with_size n t (onward next unread)).n ≤ most_bases
    some n t next h = unfold with_size in h

-- the history so far
abbrev InHistory : Progress → Type 0
InHistory st = History st.n st.t st.faulty st.net

-- what goes on from a whole header is a history
in_history : (begin st : Progress) → Whole begin → Continues begin st → InHistory st
in_history begin st B T =
    let h : History begin.n begin.t begin.faulty st.net = record {
      beginning = begin.net;
      events = T.events;
      setting = begins_setting begin B;
      fresh = begins_fresh begin B;
      proper = T.proper;
      now_is = sym T.net;
    } in
    subst (λ (n : ℕ). History n st.t st.faulty st.net) (sym T.n)
    (subst (λ (t : ℕ). History begin.n t st.faulty st.net) (sym T.t)
    (subst (λ (l : List Pair). History begin.n begin.t l st.net) (sym T.faulty) h))

lines_history : (s : List ℕ) (k : ℕ) → Unrefused scheduled InHistory (repeat k (next_line scheduled s) (header s))
lines_history s k e = in_history (header s) _ (header_begins s (lines_unrefused s (header s) k e)) (lines_continue s (header s) k e)

invariants : Invariants scheduled Whole InHistory
invariants = record { few = sized_few; ids = ids_whole; faulty = faulty_begins; lines = lines_history }

-- ---- the program's walk simulates it
pub record SameProgress (p : StoredNet) (st : Progress) : Type 0 where
  pub at : p.at ≡ st.at
  pub line : p.line ≡ st.line
  pub refusal : p.refusal ≡ st.refusal
  pub net : Represents p st.n st.t st.faulty st.net

-- how far the schedule is read is no part of the net that is stood for
placed : (w : StoredNet) (at line refusal : ℕ) {n t : ℕ} {faulty : List Pair} {W : Nets.Net} → Represents w n t faulty W → Represents
    (record { n = w.n; t = w.t; faulty = w.faulty; nodes = w.nodes; at = at; line = line; refusal = refusal }) n t faulty W
placed w at line refusal {faulty = faulty} S = record {
  record_n = S.record_n;
  record_t = S.record_t;
  links = links;
  abstracts = same ∙ S.abstracts;
  sized = record { nodes = S.sized.nodes; each = S.sized.each; pairs = S.sized.pairs };
}
  where
    now_at : StoredNet
    now_at = record { n = w.n; t = w.t; faulty = w.faulty; nodes = w.nodes; at = at; line = line; refusal = refusal }

    links : faulty_of now_at ≡ faulty
    links = alike ∙ S.links
      where
        alike : faulty_of now_at ≡ faulty_of w
        alike = unfold faulty_of in refl

    same : net_of now_at ≡ net_of w
    same = unfold net_of node_at in refl

refused_same : (r : ℕ) {p : StoredNet} {st : Progress} → SameProgress p st → SameProgress (refused_net r p) (refuse r st)
unfolding refused_net refuse
refused_same r {p} F = record { at = F.at; line = F.line; refusal = refl; net = placed p p.at p.line r F.net }

unread_same : SameProgress unread_net unread
unfolding made_net unread
unread_same = record { at = refl; line = refl; refusal = refl; net = represents_made 0 0 0 1 }

sized_same : (n t next : ℕ) → SameProgress (made_net n t next (unread_net.line + 1)) (with_size n t (onward next unread))
unfolding made_net with_size onward unread
sized_same n t next = record { at = refl; line = refl; refusal = refl; net = represents_made n t next 2 }

named_same : (b v next : ℕ) → 1 ≤ b → b ≤ most_bases → {p : StoredNet} {st : Progress} → SameProgress p st
    → SameProgress (onward_net p (named_net p b v) next) (with_id b v (onward next st))
unfolding onward_net with_id onward
named_same b v next least most {p} F = record {
  at = refl;
  line = ap (λ (k : ℕ). k + 1) F.line;
  refusal = F.refusal;
  net = placed (named_net p b v) next (p.line + 1) p.refusal (represents_named b v least most F.net);
}

-- where one link more may be named, there is room for it
marked_same : (a b next : ℕ) {p : StoredNet} {st : Progress} → Whole st → faulty_refusal st.t st.faulty ≡ 0 → SameProgress p st
    → SameProgress (onward_net p (marked_net p a b) next) (with_faulty a b (onward next st))
unfolding onward_net with_faulty onward
marked_same a b next {p} {st} B e F = record {
  at = refl;
  line = ap (λ (k : ℕ). k + 1) F.line;
  refusal = F.refusal;
  net = placed (marked_net p a b) next (p.line + 1) p.refusal
      (represents_faulty a b (omega (arith, faulty_passed st.t st.faulty e, B.limit, B.size.most)) F.net);
}

happened_same : (e : Event) (next : ℕ) {p : StoredNet} {st : Progress} → InHistory st → Proper st.n e → SameProgress p st
    → SameProgress (onward_net p (moved p e).net next) (with_net (happens st.faulty st.net e) (onward next st))
unfolding onward_net with_net onward moved
happened_same e next {p} H proper F = record {
  at = refl;
  line = ap (λ (k : ℕ). k + 1) F.line;
  refusal = F.refusal;
  net = placed (after p e) next (p.line + 1) p.refusal (represents_goes_on H e proper p F.net);
}

event_number_same : (e : Event) {p : StoredNet} {st : Progress} → SameProgress p st
    → (moved p e).refusal ≡ Nets.event_refusal st.faulty st.net e
unfolding moved
event_number_same e F = represents_number e F.net

simulates : Simulates replaying scheduled SameProgress Whole InHistory
simulates = record {
  begin = unread_same;
  at = λ F. F.at;
  refusal = λ F. F.refusal;
  refuse = λ r F. refused_same r F;
  n = λ F. F.net.record_n;
  t = λ F. F.net.record_t;
  sized = sized_same;
  id_number = λ v F. ap (λ (W : Nets.Net). id_refusal W v) F.net.abstracts;
  named = λ b v next least most F. named_same b v next least most F;
  is_good = λ a b F. ap (λ (l : List Pair). good l a b) F.net.links;
  faulty_number = λ F. ap₂ faulty_refusal F.net.record_t F.net.links;
  marked = λ a b next B e F. marked_same a b next B e F;
  event_number = λ e F. event_number_same e F;
  happened = λ e next H proper F. happened_same e next H proper F;
}

header_follows : (s : List ℕ) → SameProgress (header_walk replaying s) (header s)
header_follows s = header_simulated replaying scheduled SameProgress Whole InHistory simulates invariants s

whole_follows : (s : List ℕ) → SameProgress (walk replaying s) (meaning s)
whole_follows s = walk_simulated replaying scheduled SameProgress Whole InHistory simulates invariants s

-- ---- the bases of the net
few_bases : (s : List ℕ) → Unrefused scheduled (λ st. st.n ≤ most_bases) (meaning s)
few_bases s e =
    let m = meaning_whole s e in
    let w : (whole_schedule s).refusal ≡ 0 = ap (λ (st : Progress). st.refusal) (sym m) ∙ e in
    subst (λ (st : Progress). st.n ≤ most_bases) (sym m)
    (subst (λ (n : ℕ). n ≤ most_bases) (sym (whole_continues s w).n) (header_begins s (header_unrefused s w)).size.most)

pub header_few : (s : List ℕ) → (header_walk replaying s).refusal ≡ 0 → (header_walk replaying s).n ≤ most_bases
header_few s e = let F = header_follows s in omega (arith, F.net.record_n, (header_begins s (sym F.refusal ∙ e)).size.most)

pub state_few : (s : List ℕ) → (walk replaying s).refusal ≡ 0 → (walk replaying s).n ≤ most_bases
state_few s e = let F = whole_follows s in omega (arith, F.net.record_n, few_bases s (sym F.refusal ∙ e))

-- ---- the report
abbrev whole : StoredNet → List ℕ
whole p = base_lines p.n (net_of p) ++ waiting_line (Nets.waiting (size p) (faulty_of p) (net_of p))

whole_is : (p : StoredNet) (st : Progress) → st.n ≤ most_bases
    → SameProgress p st → whole p ≡ base_lines st.n st.net ++ waiting_line (Nets.waiting st.n st.faulty st.net)
whole_is p st h F =
    ap₂ (λ (x : List ℕ) (k : ℕ). x ++ waiting_line k) (ap₂ base_lines F.net.record_n F.net.abstracts) (represents_waiting h F.net)

report_follows : (p : StoredNet) (st : Progress) → Unrefused scheduled (λ x. x.n ≤ most_bases) st → SameProgress p st
    → report_net p ≡ report_of st
unfolding report_net report_of
report_follows p st few F =
    ap (λ (r : ℕ). choose (eqb r 0) (whole p) (refused_line p.refusal p.line)) F.refusal
    ∙ both ◌≡◌ (eqb st.refusal 0) (λ e. whole_is p st (few (eqb-true st.refusal 0 e)) F) (λ _. ap₂ refused_line F.refusal F.line)

pub report_is : (s : List ℕ) → report_net (walk replaying s) ≡ report s
unfolding report
report_is s = report_follows (walk replaying s) (meaning s) (few_bases s) (whole_follows s)

-- "A schedule exceeds 65,536 bytes (line 1 is named)"
pub long_report : (s : List ℕ) → longest_schedule < length s → refused_line 13 1 ≡ report s
long_report s h = long ∙ ap report_net walked ∙ report_is s
  where
    long : refused_line 13 1 ≡ report_net (refused_net 13 unread_net)
    long = unfold report_net refused_net made_net in sym (choose_no _ _ refl)

    walked : refused_net 13 unread_net ≡ walk replaying s
    walked = unfold walk in sym (choose_yes _ _ (lt-ltb longest_schedule (length s) h))

pub lines_report : (s : List ℕ) {begin : StoredNet} → length s ≤ longest_schedule → begin ≡ header_walk replaying s
    → report_net (repeat (length s) (next_line replaying s) begin) ≡ report s
lines_report s h e = ap (λ (w : StoredNet). report_net (repeat (length s) (next_line replaying s) w)) e ∙ ap report_net walked ∙ report_is s
  where
    walked : repeat (length s) (next_line replaying s) (header_walk replaying s) ≡ walk replaying s
    walked = unfold walk lines_walk in sym (choose_no _ _ (le-ltb longest_schedule (length s) h))
