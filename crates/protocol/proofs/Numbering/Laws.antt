-- The two numberings undo each other, and stay within a net: link k of a base goes to
-- another base, and each other base is at the end of one link.
use Rattle.std.specs.Prelude.{ℕ, ◌+◌, ◌-◌, ◌≤◌, ◌<◌, ◌≡◌, ◌≢◌}
use Rattle.std.proofs.Common.{sym, ap, ◌∙◌, arith, lt-ltb, le-ltb}
use Rattle.std.proofs.Math.Decide.{dec_lt}
use Rattle.lists.specs.Choice.Laws.{choose_yes, choose_no}
use Rattle.protocol.specs.Numbering.{base_at, link_to}

-- ---- the two cases of each
base_below : (b k : ℕ) → k < b → base_at b k ≡ k
unfolding base_at
base_below b k h = choose_yes _ _ (lt-ltb k b h)

base_above : (b k : ℕ) → b ≤ k → base_at b k ≡ k + 1
unfolding base_at
base_above b k h = choose_no _ _ (le-ltb k b h)

link_below : (b a : ℕ) → a < b → link_to b a ≡ a
unfolding link_to
link_below b a h = choose_yes _ _ (lt-ltb a b h)

link_above : (b a : ℕ) → b ≤ a → link_to b a ≡ a - 1
unfolding link_to
link_above b a h = choose_no _ _ (le-ltb a b h)

-- ---- they undo each other
pub link_of_base : (b k : ℕ) → link_to b (base_at b k) ≡ k
link_of_base b k = elim (dec_lt k b) [
  | yes h ↦ ap (link_to b) (base_below b k h) ∙ link_below b k h
  | no h ↦ omega (arith, ap (link_to b) (base_above b k (omega (arith, h))), link_above b (k + 1) (omega (arith, h)))
]

pub base_of_link : (b a : ℕ) → 1 ≤ a → a ≢ b → base_at b (link_to b a) ≡ a
base_of_link b a one other = elim (dec_lt a b) [
  | yes h ↦ ap (base_at b) (link_below b a h) ∙ base_below b a h
  | no h ↦ omega (arith, ap (base_at b) (link_above b a (omega (arith, h))), base_above b (a - 1) (omega (arith, h, other)))
]

-- two bases at the ends of one link are one
pub link_injective : (b a c : ℕ) → 1 ≤ a → 1 ≤ c → a ≢ b → c ≢ b → link_to b a ≡ link_to b c → a ≡ c
link_injective b a c one_a one_c other_a other_c e =
    sym (base_of_link b a one_a other_a) ∙ ap (base_at b) e ∙ base_of_link b c one_c other_c

-- ---- they stay within a net of n bases
pub link_range : (n b a : ℕ) → 1 ≤ b → b ≤ n → 1 ≤ a → a ≤ n → a ≢ b → (1 ≤ link_to b a) × (link_to b a ≤ n - 1)
link_range n b a one_b most_b one_a most_a other = elim (dec_lt a b) [
  | yes h ↦ (let e = link_below b a h in (omega arith, omega arith))
  | no h ↦ (let e = link_above b a (omega (arith, h)) in (omega (arith, h, other), omega arith))
]

pub base_range : (n b k : ℕ) → 1 ≤ k → k ≤ n - 1 → (1 ≤ base_at b k) × (base_at b k ≤ n)
base_range n b k one most = elim (dec_lt k b) [
  | yes h ↦ (let e = base_below b k h in (omega arith, omega arith))
  | no h ↦ (let e = base_above b k (omega (arith, h)) in (omega arith, omega arith))
]

-- no link goes to the base itself
pub base_other : (b k : ℕ) → base_at b k ≢ b
base_other b k = elim (dec_lt k b) [
  | yes h ↦ (let e = base_below b k h in λ q. omega (arith, q))
  | no h ↦ (let e = base_above b k (omega (arith, h)) in λ q. omega (arith, q, h))
]
