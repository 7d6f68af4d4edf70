-- Two walks over one schedule: where each step keeps a relation between what the one keeps and what the other keeps, both walks end
-- in it. What the second walk knows of itself on the way, in its header and among its events, may be used.
use Prim.Native.Nat.{ℕ, zero, suc, ◌≤◌}
use Rattle.std.specs.Prelude.{◌≡◌, refl, Bool, true, false, not, List, eqb, ltb, leb, length, drop}
use Rattle.std.proofs.Common.{sym, ◌∙◌, arith}
use Rattle.std.proofs.Math.Path.{subst}
use borrow.Author.Tests.{eqb-true}
use Rattle.limits.specs.Limits.{most_bases, output_room, longest_schedule}
use Rattle.limits.specs.Refusals.{size_refusal}
use Rattle.lists.specs.Choice.{choose}
use Rattle.text.specs.declared.number.Number.{Number}
use Rattle.text.specs.declared.number.Number.TheVariants.{Value, Bad}
use Rattle.hexadecimal.specs.Hex.{hex_bytes}
use Rattle.lines.specs.declared.bases.Two.{Two}
use Rattle.lines.specs.declared.bases.Two.TheVariants.{Both, Neither}
use Rattle.lines.specs.declared.event.Line.{Line}
use Rattle.lines.specs.declared.event.Line.TheVariants.{Start, Carry, Forge, Wrong}
use Rattle.lines.specs.Lines.{after_number, after_two, net_line, id_line, faulty_line, event_line}
use Rattle.lines.specs.Lines.Found.{EventFound, event_found}
use Rattle.protocol.specs.Net.{Event, starts, carry, forge}
use Rattle.protocol.specs.Agreement.{Proper}
use Rattle.schedule.specs.Walk.{
  Walkable,
  repeat,
  judged,
  unless_refused,
  net_step,
  id_step,
  id_steps,
  mark_step,
  faulty_step,
  event_step,
  line_step,
  next_line,
  header_walk,
  lines_walk,
  walk,
}
use Rattle.schedule.proofs.Walk.Laws.{Unrefused}
use Rattle.schedule.proofs.Meaning.Continues.{proper_start, proper_carry, proper_forge}

-- ---- what is asked
-- the second walk by itself: H holds from the identifiers on, E of each line of events
pub record Invariants {Q : Type 0} (L : Walkable Q) (H E : Q → Type 0) : Type 0 where
  pub few : (s : List ℕ) → L.n (net_step L s L.begin) ≤ most_bases
  pub ids : (s : List ℕ) → Unrefused L H (id_steps L s (L.n (net_step L s L.begin)) (net_step L s L.begin))
  pub faulty : (s : List ℕ) (q : Q) → Unrefused L H q → Unrefused L H (faulty_step L s q)
  pub lines : (s : List ℕ) (k : ℕ) → Unrefused L E (repeat k (next_line L s) (header_walk L s))

-- each step keeps the relation
pub record Simulates {P Q : Type 0} (K : Walkable P) (L : Walkable Q) (R : P → Q → Type 0) (H E : Q → Type 0) : Type 0 where
  pub begin : R K.begin L.begin
  pub at : {p : P} {q : Q} → R p q → K.at p ≡ L.at q
  pub refusal : {p : P} {q : Q} → R p q → K.refusal p ≡ L.refusal q
  pub refuse : (r : ℕ) {p : P} {q : Q} → R p q → R (K.refuse r p) (L.refuse r q)
  pub n : {p : P} {q : Q} → R p q → K.n p ≡ L.n q
  pub t : {p : P} {q : Q} → R p q → K.t p ≡ L.t q
  pub sized : (n t next : ℕ) → R (K.sized n t next K.begin) (L.sized n t next L.begin)
  pub id_number : (v : ℕ) {p : P} {q : Q} → R p q → K.id_number v p ≡ L.id_number v q
  pub named : (b v next : ℕ) → 1 ≤ b → b ≤ most_bases → {p : P} {q : Q} → R p q → R (K.named b v next p) (L.named b v next q)
  pub is_good : (a b : ℕ) {p : P} {q : Q} → R p q → K.is_good a b p ≡ L.is_good a b q
  pub faulty_number : {p : P} {q : Q} → R p q → K.faulty_number p ≡ L.faulty_number q
  pub marked : (a b next : ℕ) {p : P} {q : Q} → H q → L.faulty_number q ≡ 0 → R p q → R (K.marked a b next p) (L.marked a b next q)
  pub event_number : (e : Event) {p : P} {q : Q} → R p q → K.event_number e p ≡ L.event_number e q
  pub happened : (e : Event) (next : ℕ) {p : P} {q : Q} → E q → Proper (L.n q) e → R p q → R (K.happened e next p) (L.happened e next q)

-- both choose by one test
pub both : {A B : Type 0} (R : A → B → Type 0) (t : Bool) {a b : A} {c d : B}
    → (t ≡ true → R a c) → (t ≡ false → R b d) → R (choose t a b) (choose t c d)
unfolding choose
both R true f g = f refl
both R false f g = g refl

module _ {P Q : Type 0} (K : Walkable P) (L : Walkable Q) (R : P → Q → Type 0) (H E : Q → Type 0) (S : Simulates K L R H E) where
  -- ---- one line
  judged_both : (r : ℕ) {k : ℕ} {p x : P} {q y : Q} → r ≡ k → R p q → (k ≡ 0 → R x y) → R (judged K r p x) (judged L k q y)
  unfolding judged
  judged_both r {k} {p} {x} {q} {y} e F G =
      subst (λ (j : ℕ). R (choose (eqb r 0) x (K.refuse r p)) (choose (eqb j 0) y (L.refuse j q))) e
      (both R (eqb r 0) (λ h. G (sym e ∙ eqb-true r 0 h)) (λ _. S.refuse r F))

  unless_both : {p x : P} {q y : Q} → R p q → (L.refusal q ≡ 0 → R x y) → R (unless_refused K p x) (unless_refused L q y)
  unfolding unless_refused
  unless_both {p} {x} {q} {y} F G =
      subst (λ (j : ℕ). R (choose (eqb (K.refusal p) 0) x p) (choose (eqb j 0) y q)) (S.refusal F)
      (both R (eqb (K.refusal p) 0) (λ h. G (sym (S.refusal F) ∙ eqb-true (K.refusal p) 0 h)) (λ _. F))

  -- ---- the header
  net_read : (x : Two)
      → R (after_two x (K.refuse 13 K.begin) (λ n t next. judged K (size_refusal n t) K.begin (K.sized n t next K.begin)))
      (after_two x (L.refuse 13 L.begin) (λ n t next. judged L (size_refusal n t) L.begin (L.sized n t next L.begin)))
  net_read Neither = S.refuse 13 S.begin
  net_read (Both n t next) = judged_both (size_refusal n t) refl S.begin (λ _. S.sized n t next)

  net_both : (s : List ℕ) → R (net_step K s K.begin) (net_step L s L.begin)
  unfolding net_step
  net_both s =
      subst (λ (i : ℕ). R (net_step K s K.begin)
      (after_two (net_line s i) (L.refuse 13 L.begin) (λ n t next. judged L (size_refusal n t) L.begin (L.sized n t next L.begin))))
      (S.at S.begin) (net_read (net_line s (K.at K.begin)))

  abbrev id_then : {A : Type 0} → Walkable A → ℕ → A → Number → A
  id_then M b a x = after_number x (M.refuse 13 a) (λ v next. judged M (M.id_number v a) a (M.named b v next a))

  id_read : (b : ℕ) → 1 ≤ b → b ≤ most_bases → (p : P) (q : Q) → R p q → (x : Number) → R (id_then K b p x) (id_then L b q x)
  id_read b least most p q F Bad = S.refuse 13 F
  id_read b least most p q F (Value v next) = judged_both (K.id_number v p) (S.id_number v F) F (λ _. S.named b v next least most F)

  id_both : (s : List ℕ) (b : ℕ) → 1 ≤ b → b ≤ most_bases → (p : P) (q : Q) → R p q → R (id_step K s b p) (id_step L s b q)
  unfolding id_step
  id_both s b least most p q F =
      unless_both F (λ _. subst (λ (i : ℕ). R (id_then K b p (id_line b s (K.at p))) (id_then L b q (id_line b s i))) (S.at F)
      (id_read b least most p q F (id_line b s (K.at p))))

  ids_both : (s : List ℕ) (b : ℕ) → b ≤ most_bases → (p : P) (q : Q) → R p q → R (id_steps K s b p) (id_steps L s b q)
  unfolding id_steps
  ids_both s zero h p q F = F
  ids_both s (suc b) h p q F = id_both s (suc b) (omega arith) h (id_steps K s b p) (id_steps L s b q) (ids_both s b (omega arith) p q F)

  mark_both : (a b next : ℕ) (p : P) (q : Q) → H q → R p q → R (mark_step K a b next p) (mark_step L a b next q)
  unfolding mark_step
  mark_both a b next p q h F =
      subst (λ (g : Bool). R (mark_step K a b next p)
      (choose (not g) (L.refuse 13 q) (judged L (L.faulty_number q) q (L.marked a b next q)))) (S.is_good a b F)
      (both R (not (K.is_good a b p)) (λ _. S.refuse 13 F)
      (λ _. judged_both (K.faulty_number p) (S.faulty_number F) F (λ e. S.marked a b next h e F)))

  abbrev faulty_then : {A : Type 0} → Walkable A → A → Two → A
  faulty_then M a x = after_two x a (λ i j next. mark_step M i j next a)

  faulty_read : (p : P) (q : Q) → H q → R p q → (x : Two) → R (faulty_then K p x) (faulty_then L q x)
  faulty_read p q h F Neither = F
  faulty_read p q h F (Both a b next) = mark_both a b next p q h F

  faulty_both : (s : List ℕ) (p : P) (q : Q) → Unrefused L H q → R p q → R (faulty_step K s p) (faulty_step L s q)
  unfolding faulty_step
  faulty_both s p q h F =
      unless_both F (λ none.
      subst (λ (i : ℕ). R (faulty_then K p (faulty_line (K.n p) s (K.at p))) (faulty_then L q (faulty_line (L.n q) s i))) (S.at F)
      (subst (λ (n : ℕ). R (faulty_then K p (faulty_line (K.n p) s (K.at p))) (faulty_then L q (faulty_line n s (K.at p)))) (S.n F)
      (faulty_read p q (h none) F (faulty_line (K.n p) s (K.at p)))))

  -- ---- the events
  event_both : (e : Event) (next : ℕ) (p : P) (q : Q) → E q → Proper (L.n q) e → R p q → R (event_step K e next p) (event_step L e next q)
  unfolding event_step
  event_both e next p q h proper F = judged_both (K.event_number e p) (S.event_number e F) F (λ _. S.happened e next h proper F)

  line_both : (s : List ℕ) (i : ℕ) (x : Line) (p : P) (q : Q)
      → EventFound (L.n q) s i x → E q → R p q → R (line_step K s x p) (line_step L s x q)
  unfolding line_step
  line_both s i (Start b next) p q found h F = event_both (starts b output_room) next p q h (proper_start (L.n q) b output_room found.0) F
  line_both s i (Carry a b k next) p q found h F =
      event_both (carry a b k output_room) next p q h (proper_carry (L.n q) a b k output_room found.0) F
  line_both s i (Forge a b at count next) p q found h F =
      event_both (forge a b (hex_bytes count (drop at s)) output_room)
      next p q h (proper_forge (L.n q) a b count output_room (drop at s) found.0) F
  line_both s i Wrong p q found h F = S.refuse 13 F

  read_both : (s : List ℕ) (p : P) (q : Q) → E q → R p q
      → R (line_step K s (event_line (K.n p) s (K.at p)) p) (line_step L s (event_line (L.n q) s (L.at q)) q)
  read_both s p q h F =
      subst (λ (i : ℕ). R (line_step K s (event_line (K.n p) s (K.at p)) p) (line_step L s (event_line (L.n q) s i) q)) (S.at F)
      (subst (λ (n : ℕ). R (line_step K s (event_line n s (K.at p)) p) (line_step L s (event_line (L.n q) s (K.at p)) q)) (sym (S.n F))
      (line_both s (K.at p) (event_line (L.n q) s (K.at p)) p q (event_found (L.n q) s (K.at p)) h F))

  next_both : (s : List ℕ) (p : P) (q : Q) → Unrefused L E q → R p q → R (next_line K s p) (next_line L s q)
  unfolding next_line
  next_both s p q h F =
      unless_both F (λ none.
      subst (λ (i : ℕ). R (choose (leb (length s) (K.at p)) p (line_step K s (event_line (K.n p) s (K.at p)) p))
      (choose (leb (length s) i) q (line_step L s (event_line (L.n q) s (L.at q)) q))) (S.at F)
      (both R (leb (length s) (K.at p)) (λ _. F) (λ _. read_both s p q (h none) F)))

  -- ---- the whole schedule
  module _ (I : Invariants L H E) (s : List ℕ) where
    faulties_both : (k : ℕ) (p : P) (q : Q) → Unrefused L H q → R p q
        → R (repeat k (faulty_step K s) p) (repeat k (faulty_step L s) q) × Unrefused L H (repeat k (faulty_step L s) q)
    unfolding repeat
    faulties_both zero p q h F = (F, h)
    faulties_both (suc k) p q h F =
        let before = faulties_both k p q h F in
        (faulty_both s _ _ before.1 before.0, I.faulty s _ before.1)

    ids_all : (p : P) (q : Q) → L.n q ≤ most_bases → R p q → R (id_steps K s (K.n p) p) (id_steps L s (L.n q) q)
    ids_all p q h F =
        subst (λ (k : ℕ). R (id_steps K s (K.n p) p) (id_steps L s k q)) (S.n F) (ids_both s (K.n p) (omega (arith, S.n F)) p q F)

    faulties_all : (p : P) (q : Q) → Unrefused L H q → R p q
        → R (repeat (suc (K.t p)) (faulty_step K s) p) (repeat (suc (L.t q)) (faulty_step L s) q)
    faulties_all p q h F =
        subst (λ (k : ℕ). R (repeat (suc (K.t p)) (faulty_step K s) p) (repeat (suc k) (faulty_step L s) q)) (S.t F)
        (faulties_both (suc (K.t p)) p q h F).0

    pub header_simulated : R (header_walk K s) (header_walk L s)
    unfolding header_walk
    header_simulated = faulties_all _ _ (I.ids s) (ids_all _ _ (I.few s) (net_both s))

    lines_both : (k : ℕ) → R (repeat k (next_line K s) (header_walk K s)) (repeat k (next_line L s) (header_walk L s))
    unfolding repeat
    lines_both zero = header_simulated
    lines_both (suc k) = next_both s _ _ (I.lines s k) (lines_both k)

    pub walk_simulated : R (walk K s) (walk L s)
    unfolding walk lines_walk
    walk_simulated = both R (ltb longest_schedule (length s)) (λ _. S.refuse 13 S.begin) (λ _. lines_both (length s))
