-- Laws of the steps: which way a test takes them, when they are done, and how far a line's number goes.
use Rattle.std.specs.Prelude.{ℕ, zero, suc, ◌+◌, ◌-◌, ◌≤◌, ◌<◌, ◌≡◌, Bool, not, List, leb, length, drop}
use Rattle.std.proofs.Math.Path.{refl, sym}
use Rattle.std.proofs.Common.{ap, ◌∙◌, subst, add-one}
use Rattle.std.proofs.Math.Bool.{true, false}
use native.Mathlib.Omega.{arith}
use borrow.Author.Tests.{eq-eqb, ne_eqb, le-leb, lt-leb, eqb-true, eqb-false, ltb-true, ltb-false, leb-true}
use Rattle.std.proofs.Math.Dec.{eqb, ltb}
use Rattle.lists.specs.Choice.{and}
use Rattle.lists.specs.Choice.Laws.{choose_ind, choose_yes, choose_no, and_both, and_true, clash}
use Rattle.text.specs.declared.number.Number.{Number}
use Rattle.text.specs.declared.number.Number.TheVariants.{Value, Bad}
use Rattle.lines.specs.declared.bases.Two.{Two}
use Rattle.lines.specs.declared.bases.Two.TheVariants.{Both, Neither}
use Rattle.lines.specs.declared.event.Line.{Line}
use Rattle.lines.specs.declared.event.Line.TheVariants.{Start, Carry, Forge, Wrong}
use Rattle.lines.specs.Lines.Found.{EventFound, event_found}
use Rattle.lines.specs.Lines.{after_number, after_two, net_line, id_line, faulty_line, event_line}
use Rattle.protocol.specs.Net.{Event, starts, carry, forge, good, at, refusal}
use Rattle.net.specs.declared.StoredNet.{StoredNet}
use Rattle.node.specs.Node.{in_range}
use Rattle.net.specs.Abstraction.{with_node, net_of, faulty_of}
use Rattle.net.specs.Header.{made_net, named_net, marked_net}
use Rattle.schedule.specs.Header.{id_refusal, faulty_refusal}
use Rattle.events.specs.Events.{Moved, moved, after}
use Rattle.limits.specs.Refusals.{size_refusal}
use Rattle.schedule.specs.Walk.{
  judged,
  unless_refused,
  repeat,
  net_step,
  id_step,
  id_steps,
  mark_step,
  faulty_step,
  event_step,
  line_step,
  next_line,
}
use Rattle.schedule.proofs.Walk.Laws.{repeat_more, repeat_done}
use Rattle.limits.specs.Limits.{most_bases, output_room}
use Rattle.hexadecimal.specs.Hex.{hex_bytes}
use Rattle.stored_walk.specs.State.{
  most_lines,
  unread_net,
  refused_net,
  onward_net,
  advanced,
  HasBytes,
  line_moved,
  next_of,
  replaying,
  goes_on,
  line_after,
}

-- ---- which way
pub judged_refused : {r k : ℕ} {p : StoredNet} (before after : StoredNet)
    → r ≡ k → (r ≡ 0 → ⊥) → p ≡ refused_net r before → p ≡ judged replaying k before after
unfolding judged
judged_refused {r} {k} {p} before after e n q =
    q ∙ ap (λ (j : ℕ). refused_net j before) e ∙ sym (choose_no after (refused_net k before) (ne_eqb k 0 (λ z. n (e ∙ z))))

pub judged_onward : {r k : ℕ} {p after : StoredNet} (before : StoredNet)
    → r ≡ k → r ≡ 0 → p ≡ after → p ≡ judged replaying k before after
unfolding judged
judged_onward {r} {k} {p} {after} before e z q = q ∙ sym (choose_yes after (refused_net k before) (eq-eqb k 0 (sym e ∙ z)))

pub unless_stopped : (p next : StoredNet) → (p.refusal ≡ 0 → ⊥) → p ≡ unless_refused replaying p next
unfolding unless_refused
unless_stopped p next n = sym (choose_no next p (ne_eqb p.refusal 0 n))

pub unless_onward : (p : StoredNet) {q next : StoredNet} → p.refusal ≡ 0 → q ≡ next → q ≡ unless_refused replaying p next
unfolding unless_refused
unless_onward p {q} {next} z e = e ∙ sym (choose_yes next p (eq-eqb p.refusal 0 z))

-- ---- again and again
pub ids_more : (s : List ℕ) (b : ℕ) (first : StoredNet) {p q : StoredNet}
    → p ≡ id_steps replaying s b first → q ≡ id_step replaying s (b + 1) p → q ≡ id_steps replaying s (b + 1) first
unfolding id_steps
ids_more s b first e q = q ∙ ap (id_step replaying s (b + 1)) e
    ∙ ap (λ (j : ℕ). id_step replaying s j (id_steps replaying s b first)) (add-one b)
    ∙ ap (λ (j : ℕ). id_steps replaying s j first) (sym (add-one b))

pub ids_none : (s : List ℕ) (first : StoredNet) → first ≡ id_steps replaying s 0 first
unfolding id_steps
ids_none s first = refl

pub next_refused : (s : List ℕ) (p : StoredNet) → (p.refusal ≡ 0 → ⊥) → next_line replaying s p ≡ p
unfolding next_line unless_refused
next_refused s p n = choose_no _ _ (ne_eqb p.refusal 0 n)

pub next_ended : (s : List ℕ) (p : StoredNet) → p.refusal ≡ 0 → length s ≤ p.at → next_line replaying s p ≡ p
unfolding next_line unless_refused
next_ended s p z h = choose_yes _ _ (eq-eqb p.refusal 0 z) ∙ choose_yes _ _ (le-leb (length s) p.at h)

-- a line does to the net what `line_moved` says
line_advances : (s : List ℕ) (x : Line) (p : StoredNet) → line_step replaying s x p ≡ advanced p (line_moved s p x) (next_of x)
unfolding line_step event_step advanced line_moved next_of
line_advances s (Start b next) p = refl
line_advances s (Carry a b k next) p = refl
line_advances s (Forge a b at count next) p = refl
line_advances s Wrong p = judged_refused p (onward_net p p 0) refl (λ e. omega arith) refl

-- a line: turned down, or gone on from
line_next : (s : List ℕ) (p : StoredNet) (x : Line) (m : Moved)
    → p.refusal ≡ 0 → p.at < length s → x ≡ event_line p.n s p.at → m ≡ line_moved s p x
    → advanced p m (next_of x) ≡ next_line replaying s p
unfolding next_line unless_refused
line_next s p x m z h ex em =
    ap (λ (y : Moved). advanced p y (next_of x)) em ∙ sym (line_advances s x p)
    ∙ ap (λ (y : Line). line_step replaying s y p) ex
    ∙ sym (choose_yes _ _ (eq-eqb p.refusal 0 z) ∙ choose_no _ _ (lt-leb (length s) p.at h))

pub line_refused : (s : List ℕ) (p : StoredNet) (x : Line) (m : Moved)
    → p.refusal ≡ 0 → p.at < length s → x ≡ event_line p.n s p.at → m ≡ line_moved s p x
    → (m.refusal ≡ 0 → ⊥) → refused_net m.refusal p ≡ next_line replaying s p
unfolding advanced
line_refused s p x m z h ex em n = judged_refused p (onward_net p m.net (next_of x)) refl n refl ∙ line_next s p x m z h ex em

pub line_onward : (s : List ℕ) (p : StoredNet) (x : Line) (m : Moved)
    → p.refusal ≡ 0 → p.at < length s → x ≡ event_line p.n s p.at → m ≡ line_moved s p x
    → m.refusal ≡ 0 → onward_net p m.net (next_of x) ≡ next_line replaying s p
unfolding advanced
line_onward s p x m z h ex em e = judged_onward p refl e refl ∙ line_next s p x m z h ex em

-- ---- one line by itself
module _ (s : List ℕ) (p : StoredNet) where
  abbrev more : Bool
  more = goes_on (length s) p.n p.at p.line p.refusal

  pub line_stays : more ≡ false → p ≡ line_after s p
  unfolding line_after goes_on
  line_stays e = choose_ind (λ (q : StoredNet). p ≡ q) (and (leb p.n most_bases) (leb p.line most_lines))
      (λ t. go t (eqb p.refusal 0) refl (ltb p.at (length s)) refl) (λ _. refl)
    where
      go : and (leb p.n most_bases) (leb p.line most_lines) ≡ true
          → (x : Bool) → eqb p.refusal 0 ≡ x → (y : Bool) → ltb p.at (length s) ≡ y → p ≡ next_line replaying s p
      go t false a y b = sym (next_refused s p (eqb-false p.refusal 0 a))
      go t true a false b = sym (next_ended s p (eqb-true p.refusal 0 a) (ltb-false p.at (length s) b))
      go t true a true b = clash (and_both a (and_both b t)) e

  pub line_goes_on : more ≡ true → ((p.refusal ≡ 0) × (p.at < length s)) × ((p.n ≤ most_bases) × (p.line ≤ most_lines))
  unfolding goes_on
  line_goes_on e =
      let a = and_true (eqb p.refusal 0) _ e in
      let b = and_true (ltb p.at (length s)) _ a.1 in
      let c = and_true (leb p.n most_bases) (leb p.line most_lines) b.1 in (
        (eqb-true p.refusal 0 a.0, ltb-true p.at (length s) b.0),
        (leb-true p.n most_bases c.0, leb-true p.line most_lines c.1),
      )

  pub line_stopped : (p.refusal ≡ 0 → ⊥) → line_after s p ≡ p
  unfolding line_after
  line_stopped n = choose_ind (λ (q : StoredNet). q ≡ p) (and (leb p.n most_bases) (leb p.line most_lines))
      (λ _. next_refused s p n) (λ _. refl)

  pub line_after_lem : p.n ≤ most_bases → p.line ≤ most_lines → line_after s p ≡ next_line replaying s p
  unfolding line_after
  line_after_lem few near = choose_yes _ _ (and_both (le-leb p.n most_bases few) (le-leb p.line most_lines near))

-- a line keeps the number of bases
moved_n : (w : StoredNet) (e : Event) → (moved w e).net.n ≡ w.n
unfolding moved after with_node
moved_n w e = choose_ind (λ (x : StoredNet). x.n ≡ w.n) (eqb (refusal (faulty_of w) (net_of w) e) 0)
    (λ _. choose_ind (λ (x : StoredNet). x.n ≡ w.n) (in_range (at e) most_bases) (λ _. refl) (λ _. refl)) (λ _. refl)

line_moved_n : (s : List ℕ) (w : StoredNet) (x : Line) → (line_moved s w x).net.n ≡ w.n
unfolding line_moved
line_moved_n s w (Start b next) = moved_n w (starts b output_room)
line_moved_n s w (Carry a b k next) = moved_n w (carry a b k output_room)
line_moved_n s w (Forge a b i count next) = moved_n w (forge a b (hex_bytes count (drop i s)) output_room)
line_moved_n s w Wrong = refl

-- a line keeps the number of bases and takes one number at most
abbrev pub AtMostOneLine : StoredNet → StoredNet → Type 0
AtMostOneLine p q = (q.n ≡ p.n) × (q.line ≤ p.line + 1)

advanced_one_line : (p : StoredNet) (m : Moved) (next : ℕ) → m.net.n ≡ p.n → AtMostOneLine p (advanced p m next)
unfolding advanced judged onward_net refused_net
advanced_one_line p m next e = choose_ind (AtMostOneLine p) (eqb m.refusal 0) (λ _. (e, omega arith)) (λ _. (refl, omega arith))

pub next_one_line : (s : List ℕ) (p : StoredNet) → AtMostOneLine p (next_line replaying s p)
unfolding next_line unless_refused
next_one_line s p = choose_ind (AtMostOneLine p) (eqb p.refusal 0)
    (λ _. choose_ind (AtMostOneLine p) (leb (length s) p.at) (λ _. (refl, omega arith))
    (λ _. subst (AtMostOneLine p) (sym (line_advances s x p)) (advanced_one_line p _ (next_of x) (line_moved_n s p x))))
    (λ _. (refl, omega arith))
  where
    x : Line
    x = event_line p.n s p.at

-- ---- line numbers
abbrev Near : ℕ → StoredNet → Type 0
Near m p = p.line ≤ m + 1

refused_near : (m r : ℕ) (p : StoredNet) → p.line ≤ m → Near m (refused_net r p)
unfolding refused_net
refused_near m r p h = omega arith

onward_near : (m : ℕ) (p : StoredNet) (net : StoredNet) (next : ℕ) → p.line ≤ m → Near m (onward_net p net next)
unfolding onward_net
onward_near m p net next h = omega arith

judged_near : (m r : ℕ) (before after : StoredNet) → before.line ≤ m → Near m after → Near m (judged replaying r before after)
unfolding judged
judged_near m r before after h k = choose_ind (Near m) (eqb r 0) (λ _. k) (λ _. refused_near m r before h)

unless_near : (m : ℕ) (p next : StoredNet) → p.line ≤ m → Near m next → Near m (unless_refused replaying p next)
unfolding unless_refused
unless_near m p next h k = choose_ind (Near m) (eqb p.refusal 0) (λ _. k) (λ _. omega arith)

pub net_near : (s : List ℕ) → (net_step replaying s unread_net).line ≤ 2
unfolding net_step
net_near s = go (net_line s unread_net.at)
  where
    one : unread_net.line ≤ 1
    one = unfold made_net in omega arith

    two : (n t next : ℕ) → Near 1 (made_net n t next (unread_net.line + 1))
    two n t next = unfold made_net in omega arith

    go : (x : Two) → Near 1 (after_two x (refused_net 13 unread_net)
        (λ n t next. judged replaying (size_refusal n t) unread_net (made_net n t next (unread_net.line + 1))))
    go Neither = refused_near 1 13 unread_net one
    go (Both n t next) = judged_near 1 (size_refusal n t) unread_net (made_net n t next (unread_net.line + 1)) one (two n t next)

pub id_near : (s : List ℕ) (b m : ℕ) (p : StoredNet) → p.line ≤ m → (id_step replaying s b p).line ≤ m + 1
unfolding id_step
id_near s b m p h = unless_near m p _ h (go (id_line b s p.at))
  where
    go : (x : Number) → Near m (after_number
        x (refused_net 13 p) (λ v next. judged replaying (id_refusal (net_of p) v) p (onward_net p (named_net p b v) next)))
    go Bad = refused_near m 13 p h
    go (Value v next) = judged_near m (id_refusal (net_of p) v)
        p (onward_net p (named_net p b v) next) h (onward_near m p (named_net p b v) next h)

marked_near : (m : ℕ) (p : StoredNet) (a b next : ℕ) → p.line ≤ m → Near m (mark_step replaying a b next p)
unfolding mark_step
marked_near m p a b next h =
    choose_ind (Near m) (not (good (faulty_of p) a b)) (λ _. refused_near m 13 p h)
    (λ _. judged_near m (faulty_refusal p.t (faulty_of p))
    p (onward_net p (marked_net p a b) next) h (onward_near m p (marked_net p a b) next h))

pub faulty_near : (s : List ℕ) (m : ℕ) (p : StoredNet) → p.line ≤ m → (faulty_step replaying s p).line ≤ m + 1
unfolding faulty_step
faulty_near s m p h = unless_near m p _ h (go (faulty_line p.n s p.at))
  where
    go : (x : Two) → Near m (after_two x p (λ a b next. mark_step replaying a b next p))
    go Neither = omega arith
    go (Both a b next) = marked_near m p a b next h

pub ids_near : (s : List ℕ) (b m : ℕ) (p : StoredNet) → p.line ≤ m → (id_steps replaying s b p).line ≤ m + b
unfolding id_steps
ids_near s zero m p h = omega arith
ids_near s (suc b) m p h = omega (arith, id_near s (suc b) (m + b) (id_steps replaying s b p) (ids_near s b m p h))

pub faulties_near : (s : List ℕ) (k m : ℕ) (p : StoredNet) → p.line ≤ m → (repeat k (faulty_step replaying s) p).line ≤ m + k
unfolding repeat
faulties_near s zero m p h = omega arith
faulties_near s (suc k) m p h = omega (arith, faulty_near s (m + k) (repeat k (faulty_step replaying s) p) (faulties_near s k m p h))

-- ---- a line that has its form has its bytes
pub found_bytes : (n : ℕ) (s : List ℕ) (i : ℕ) → HasBytes s (event_line n s i)
found_bytes n s i = go (event_line n s i) (event_found n s i)
  where
    go : (x : Line) → EventFound n s i x → HasBytes s x
    go (Start b next) t = tt
    go (Carry a b k next) t = tt
    go (Forge a b at count next) t = (t.1.0, t.1.1.0)
    go Wrong t = tt
