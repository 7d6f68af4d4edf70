-- Each number is given exactly where its sentence holds: what a size or an identifier that passes is, and that such a one passes.
use Rattle.std.specs.Prelude.{◌≡◌, refl, ℕ, ◌≤◌, ltb}
use Rattle.std.proofs.Common.{◌∙◌, arith, le-ltb, ltb-false, ne_eqb}
use Rattle.std.proofs.lemmas.Bool.{eqb-false}
use Rattle.lists.specs.Choice.{choose, or}
use Rattle.lists.specs.Choice.Laws.{passes, passed, or_neither, or_false, first_none, first_passed}
use Rattle.limits.specs.Limits.{fewest_bases, most_bases, most_faulty}
use Rattle.limits.specs.Refusals.{net_refusal, size_refusal, own_refusal, NetSize}

pub net_passes : {n : ℕ} → NetSize n → net_refusal n ≡ 0
unfolding net_refusal
net_passes {n} N = passes 1 (or_neither (le-ltb n fewest_bases N.least) (le-ltb most_bases n N.most)) refl

pub net_passed : (n : ℕ) → net_refusal n ≡ 0 → NetSize n
unfolding net_refusal
net_passed n e =
    let p = or_false (ltb n fewest_bases) (ltb most_bases n) (passed _ 0 _ e).0 in
    record { least = ltb-false n fewest_bases p.0; most = ltb-false most_bases n p.1 }

pub size_passes : {n t : ℕ} → NetSize n → t ≤ most_faulty n → size_refusal n t ≡ 0
unfolding size_refusal
size_passes {n} {t} N few = first_none _ (net_passes N) ∙ passes 2 (le-ltb (most_faulty n) t few) refl

pub size_passed : (n t : ℕ) → size_refusal n t ≡ 0 → NetSize n × (t ≤ most_faulty n)
unfolding size_refusal
size_passed n t e =
    let p = first_passed (net_refusal n) (choose (ltb (most_faulty n) t) 2 0) e in
    (net_passed n p.0, ltb-false (most_faulty n) t (passed _ 1 _ p.1).0)

pub own_passes : {own : ℕ} → 1 ≤ own → own_refusal own ≡ 0
unfolding own_refusal
own_passes {own} some = passes 3 (ne_eqb own 0 (λ e. omega arith)) refl

pub own_passed : (own : ℕ) → own_refusal own ≡ 0 → 1 ≤ own
unfolding own_refusal
own_passed own e = omega (arith, eqb-false own 0 (passed _ 2 _ e).0)
