-- What a record counts over its links is what its view counts over the bases: the base itself adds nothing, and each other base has one
-- link. So the tally of a list counts each base at most once.
use Rattle.std.specs.Prelude.{ℕ, suc, ◌-◌, ◌<◌, ◌≡◌, refl, Bool, false, List}
use Rattle.std.proofs.Math.Path.{sym, ap, subst}
use Rattle.std.proofs.Common.{◌∙◌}
use native.Mathlib.Omega.{arith}
use Rattle.limits.specs.Refusals.{NetSize}
use Rattle.lists.specs.Choice.{and, or}
use Rattle.counting.specs.Sums.{bit, sum}
use Rattle.counting.specs.Sums.Laws.{sum_cong}
use Rattle.counting.specs.Counts.{count, bit_no}
use Rattle.counting.specs.Gap.{skip, sum_skip}
use Rattle.protocol.specs.declared.Link.{Link}
use Rattle.protocol.specs.declared.Base.{Base}
use Rattle.protocol.specs.Links.{no_link, holds_vector, holds_correct, holds_verify_final, holds_list}
use Rattle.protocol.specs.Record.{link_at, link_count, links, list_tally, correct_count}
use Rattle.protocol.proofs.Record.Laws.{link_count_lem}
use Rattle.protocol.specs.Agreement.Views.{corrects, holds_of, tally_of}
use Rattle.protocol.proofs.Agreement.Observers.{link_for, view}
use Rattle.protocol.proofs.Agreement.Observers.Places.{link_own, link_skip}

-- a net's base: one of its n bases
pub record Inside (me : ℕ) (b : Base) : Type 0 where
  pub net : NetSize b.n
  pub inside : me < b.n

module _ (me : ℕ) (b : Base) (H : Inside me b) where
  pub net_size : suc (b.n - 1) ≡ b.n
  net_size = omega (arith, H.inside)

  -- a sum over the links is a sum over the bases, the base itself left out
  pub links_sum : (f : Link → ℕ) → sum (link_count b) (λ i. f (link_at b i)) ≡ sum (b.n - 1) (λ i. f (link_for me b (skip me i)))
  links_sum f = ap (λ k. sum k (λ i. f (link_at b i))) (link_count_lem b H.net)
      ∙ sum_cong (b.n - 1) (λ i. f (link_at b i)) (λ i. f (link_for me b (skip me i))) (λ i l. ap f (sym (link_skip me b i)))

  pub links_seen : (p : Link → Bool) → p no_link ≡ false → links b p ≡ count b.n (λ x. p (link_for me b x))
  unfolding links count
  links_seen p none = subst (λ k. sum (link_count b) (λ i. bit (p (link_at b i))) ≡ sum k (λ x. bit (p (link_for me b x)))) net_size
      (omega (
        arith,
        links_sum (λ l. bit (p l)),
        sum_skip (b.n - 1) me (λ x. bit (p (link_for me b x))) (omega (arith, H.inside)),
        ap (λ l. bit (p l)) (link_own me b),
        bit_no none,
      ))

  pub corrects_seen : (v : List ℕ) → corrects b.n (view me b) v ≡ correct_count b v
  unfolding corrects view correct_count holds_correct holds_vector and
  corrects_seen v = sym (links_seen (λ l. holds_correct b.n l v) refl)

  pub tally_seen : (v : List ℕ) → tally_of b.n (view me b) v ≡ list_tally b v
  unfolding tally_of holds_of view list_tally holds_list holds_correct holds_verify_final holds_vector and or
  tally_seen v = sym (links_seen (λ l. holds_list b.n l v) refl)
