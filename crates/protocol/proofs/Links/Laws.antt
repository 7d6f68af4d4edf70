-- Laws of one link: whether it announces, how much it holds, and what it does not hold.
use Rattle.std.specs.Prelude.{ℕ, ◌≤◌, ◌≡◌, refl, ◌≢◌, Bool, true, false, not, List, take}
use Rattle.std.proofs.Common.{ap, ◌∙◌, arith, eqb-true, eq-eqb, ne_eqb}
use Rattle.std.proofs.lemmas.Bool.{eqb-false, not-true, not-false}
use Rattle.lists.specs.Choice.{and}
use Rattle.lists.specs.Lists.{member, same_list}
use Rattle.protocol.specs.declared.Link.{Link}
use Rattle.protocol.specs.Links.{announces, verifies_of, holds_verify, holds_vector, holds_correct, used}

pub announces_some : (l : Link) → announces l ≡ true → 1 ≤ l.announce
unfolding announces
announces_some l e = go (eqb-false l.announce 0 (not-true _ e))
  where
    go : (l.announce ≡ 0 → ⊥) → 1 ≤ l.announce
    go h = omega (arith, h)

pub announces_none : (l : Link) → announces l ≡ false → l.announce ≡ 0
unfolding announces
announces_none l e = eqb-true l.announce 0 (not-false _ e)

pub some_announces : (l : Link) → 1 ≤ l.announce → announces l ≡ true
unfolding announces
some_announces l h = ap not (ne_eqb l.announce 0 (λ e. omega (arith, e)))

-- the Verifies are among what it holds
pub count_used : (l : Link) → l.verify_count ≤ used l
unfolding used
count_used l = omega arith

-- ---- what a link does not hold
pub no_verify : (l : Link) (g : ℕ) → l.verify_count ≡ 0 → holds_verify l g ≡ false
unfolding holds_verify verifies_of
no_verify l g e = ap (λ (k : ℕ). member g (take k l.verifies)) e ∙ (unfold member in refl)

pub no_announce : (l : Link) → l.announce ≡ 0 → announces l ≡ false
unfolding announces
no_announce l e = ap not (eq-eqb l.announce 0 e)

pub no_vector : (n kind : ℕ) (l : Link) (v : List ℕ) → l.held ≢ kind → holds_vector n kind l v ≡ false
unfolding holds_vector and
no_vector n kind l v ne = ap (λ (t : Bool). and t (same_list (take n l.list) v)) (ne_eqb l.held kind ne)

pub no_correct : (n : ℕ) (l : Link) (v : List ℕ) → l.held ≡ 0 → holds_correct n l v ≡ false
unfolding holds_correct
no_correct n l v e = no_vector n 3 l v (λ q. omega (arith, q))
