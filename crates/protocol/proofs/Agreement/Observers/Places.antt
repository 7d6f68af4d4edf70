-- The numbering of links, from 0: the place of the link to x, and x as the i-th base that is not the base itself, undo each other. So the
-- links of a base and the other bases of the net are the same in another order.
use Rattle.std.specs.Prelude.{ℕ, suc, ◌-◌, ◌≤◌, ◌<◌, ◌≡◌, refl, ◌≢◌, length}
use Rattle.std.proofs.Common.{sym, ap, ◌∙◌, subst, arith, lt-ltb, le-ltb, eq-eqb, ne_eqb}
use Rattle.std.proofs.Math.Decide.{dec_lt, ℕ_discrete}
use Rattle.lists.specs.Choice.Laws.{choose_yes, choose_no}
use Rattle.counting.specs.Gap.{skip, skip_low, skip_high}
use Rattle.protocol.specs.declared.Link.{Link}
use Rattle.protocol.specs.declared.Base.{Base}
use Rattle.protocol.specs.Links.{no_link}
use Rattle.protocol.specs.Record.{link_at}
use Rattle.protocol.specs.Numbering.{link_to}
use Rattle.protocol.specs.Steps.{with_link}
use Rattle.protocol.proofs.Steps.Laws.{stored_same, stored_other}
use Rattle.protocol.proofs.Agreement.Observers.{place_of, link_for}

-- ---- places
place_low : (me x : ℕ) → x < me → place_of me x ≡ x
unfolding place_of link_to
place_low me x h = let e = choose_yes (suc x) (suc x - 1) (lt-ltb (suc x) (suc me) (omega arith)) in omega arith

place_high : (me x : ℕ) → me ≤ x → place_of me x ≡ x - 1
unfolding place_of link_to
place_high me x h = let e = choose_no (suc x) (suc x - 1) (le-ltb (suc x) (suc me) (omega arith)) in omega arith

pub place_skip : (me i : ℕ) → place_of me (skip me i) ≡ i
place_skip me i = elim (dec_lt i me) [
  | yes h ↦ ap (place_of me) (skip_low me i h) ∙ place_low me i h
  | no h ↦ omega (arith, ap (place_of me) (skip_high me i (omega (arith, h))), place_high me (suc i) (omega (arith, h)))
]

pub skip_place : (me x : ℕ) → x ≢ me → skip me (place_of me x) ≡ x
skip_place me x ne = elim (dec_lt x me) [
  | yes h ↦ ap (skip me) (place_low me x h) ∙ skip_low me x h
  | no h ↦ omega (arith, ap (skip me) (place_high me x (omega (arith, h))), skip_high me (x - 1) (omega (arith, h, ne)), ne, h)
]

pub skip_other : (me i : ℕ) → skip me i ≢ me
skip_other me i = elim (dec_lt i me) [
  | yes h ↦ (let e = skip_low me i h in λ q. omega (arith, q))
  | no h ↦ (let e = skip_high me i (omega (arith, h)) in λ q. omega (arith, q, h))
]

pub skip_inside : (me i n : ℕ) → me < n → i < n - 1 → skip me i < n
skip_inside me i n l h = elim (dec_lt i me) [
  | yes k ↦ omega (arith, skip_low me i k)
  | no k ↦ omega (arith, skip_high me i (omega (arith, k)))
]

pub place_inside : (me x n : ℕ) → me < n → x < n → x ≢ me → place_of me x < n - 1
place_inside me x n lm lx ne = elim (dec_lt x me) [
  | yes h ↦ omega (arith, place_low me x h)
  | no h ↦ omega (arith, place_high me x (omega (arith, h)), ne, h)
]

pub place_apart : (me x y : ℕ) → x ≢ me → y ≢ me → place_of me x ≡ place_of me y → x ≡ y
place_apart me x y nx ny e = sym (skip_place me x nx) ∙ ap (skip me) e ∙ skip_place me y ny

-- the place is that of document 01's link number
pub place_link : (me x : ℕ) → link_to (suc me) (suc x) - 1 ≡ place_of me x
unfolding place_of
place_link me x = refl

-- ---- links
pub link_own : (me : ℕ) (b : Base) → link_for me b me ≡ no_link
unfolding link_for
link_own me b = choose_yes no_link (link_at b (place_of me me)) (eq-eqb me me refl)

pub link_other : (me : ℕ) (b : Base) (x : ℕ) → x ≢ me → link_for me b x ≡ link_at b (place_of me x)
unfolding link_for
link_other me b x ne = choose_no no_link (link_at b (place_of me x)) (ne_eqb x me ne)

pub link_skip : (me : ℕ) (b : Base) (i : ℕ) → link_for me b (skip me i) ≡ link_at b i
link_skip me b i = link_other me b (skip me i) (skip_other me i) ∙ ap (link_at b) (place_skip me i)

-- what holds of the base's own place, and of the link at each place, holds of the link to each base
pub link_each : (P : Link → Type 0) (me : ℕ) (b : Base) → P no_link → ((i : ℕ) → P (link_at b i)) → (x : ℕ) → P (link_for me b x)
link_each P me b own each x = elim (ℕ_discrete x me) [
  | yes e ↦ subst P (sym (ap (link_for me b) e ∙ link_own me b)) own
  | no e ↦ subst P (sym (link_other me b x e)) (each (place_of me x))
]

-- after a link is stored: the link to x is the one stored, every other is as it was
pub link_stored : (P : ℕ → Link → Type 0) (me : ℕ) (b : Base) (x : ℕ) (l : Link) → x ≢ me → place_of me x < length b.links
    → P x l → ((y : ℕ) → y ≢ x → P y (link_for me b y)) → (y : ℕ) → P y (link_for me (with_link b (place_of me x) l) y)
link_stored P me b x l ne fits here other y = go (ℕ_discrete y x) (ℕ_discrete y me)
  where
    go : Dec (y ≡ x) → Dec (y ≡ me) → P y (link_for me (with_link b (place_of me x) l) y)
    go (yes e) d = rw e (subst (P x) (sym (link_other me (with_link b (place_of me x) l) x ne ∙ stored_same b (place_of me x) l fits)) here)
    go (no e) (yes q) = subst (P y)
        (ap (link_for me b) q ∙ link_own me b
        ∙ sym (ap (link_for me (with_link b (place_of me x) l)) q ∙ link_own me (with_link b (place_of me x) l))) (other y e)
    go (no e) (no q) = subst (P y)
        (link_other me b y q
        ∙ sym (link_other me (with_link b (place_of me x) l) y q
        ∙ stored_other b (place_of me x) l (place_of me y) (λ r. e (place_apart me y x q ne r)))) (other y e)
