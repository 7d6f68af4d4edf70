-- What a test of bases tells.
use Rattle.std.specs.Prelude.{ℕ, ◌≤◌, ◌≡◌, true, not, eqb, leb}
use Rattle.std.proofs.Common.{leb-true, le-leb}
use Rattle.std.proofs.lemmas.Bool.{eqb-false, not-true}
use Rattle.lists.specs.Choice.{and}
use Rattle.lists.specs.Choice.Laws.{and_true, and_both}
use Rattle.lines.specs.Lines.{is_base, two_bases}

pub net_base_range : (n b : ℕ) → is_base n b ≡ true → (1 ≤ b) × (b ≤ n)
unfolding is_base
net_base_range n b e = let p = and_true (leb 1 b) (leb b n) e in (leb-true 1 b p.0, leb-true b n p.1)

pub is_base_lem : (n b : ℕ) → 1 ≤ b → b ≤ n → is_base n b ≡ true
unfolding is_base
is_base_lem n b some most = and_both (le-leb 1 b some) (le-leb b n most)

pub two_range : (n a b : ℕ) → two_bases n a b ≡ true → (is_base n a ≡ true) × ((is_base n b ≡ true) × (a ≡ b → ⊥))
unfolding two_bases
two_range n a b e =
    let p = and_true (is_base n a) (and (is_base n b) (not (eqb a b))) e in
    let q = and_true (is_base n b) (not (eqb a b)) p.1 in
    (p.0, (q.0, eqb-false a b (not-true (eqb a b) q.1)))

pub two_most : (n a b : ℕ) → two_bases n a b ≡ true → (a ≤ n) × (b ≤ n)
two_most n a b e = let p = two_range n a b e in ((net_base_range n a p.0).1, (net_base_range n b p.1.0).1)
