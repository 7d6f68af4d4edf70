-- The marks of carries: one is set, and every other stays as it was.
use Rattle.std.specs.Prelude.{ℕ, ◌-◌, ◌<◌, ◌≡◌, refl, Bool, true, false, eqb, get_or, set}
use Rattle.std.proofs.Math.Path.{sym, ap}
use Rattle.std.proofs.Common.{◌∙◌, arith, eq-eqb, ne_eqb, length-set, get_or-set_same, get_or-set_other}
use Rattle.std.proofs.Math.Bool.{not}
use mathlib.Core.List.{List}
use Rattle.std.proofs.Math.Decide.{ℕ_discrete}
use Rattle.limits.specs.Limits.{most_bases}
use Rattle.lists.specs.Choice.{and, or}
use Rattle.lists.specs.Choice.Laws.{choose_yes, choose_ind, and_both, and_no, and_fails, or_first}
use Rattle.node.specs.declared.Node.{Node}
use Rattle.node.specs.Node.{most_broadcasts, mark_room, in_range, mark_place, log_of, heard_by, marked}
use Rattle.node.specs.Node.Memory.{SizedNode}
use Rattle.node.specs.Node.Within.{within_range}

-- ---- what a mark leaves alone
pub marked_base : (v : Node) (a k : ℕ) → (marked v a k).base ≡ v.base
unfolding marked
marked_base v a k = choose_ind (λ (u : Node). u.base ≡ v.base) _ (λ _. refl) (λ _. refl)

pub marked_log : (v : Node) (a k : ℕ) → log_of (marked v a k) ≡ log_of v
unfolding marked
marked_log v a k = choose_ind (λ (u : Node). log_of u ≡ log_of v) _ (λ _. (unfold log_of in refl)) (λ _. refl)

pub marked_sized : (v : Node) (a k : ℕ) → SizedNode v → SizedNode (marked v a k)
unfolding marked
marked_sized v a k Z =
    choose_ind SizedNode _ (λ _. record { frames = Z.frames; heard = length-set v.heard (mark_place a k) 1 ∙ Z.heard }) (λ _. Z)

-- ---- each mark has its own place
place_below : (a k : ℕ) → in_range a most_bases ≡ true → in_range k most_broadcasts ≡ true → mark_place a k < mark_room
unfolding mark_place
place_below a k A K = omega (arith, within_range a most_bases A, within_range k most_broadcasts K)

own_place : (a k x j : ℕ) → in_range a most_bases ≡ true → in_range k most_broadcasts ≡ true
    → in_range x most_bases ≡ true → in_range j most_broadcasts ≡ true → mark_place x j ≡ mark_place a k → (x ≡ a) × (j ≡ k)
unfolding mark_place
own_place a k x j A K X J e =
    let ra = within_range a most_bases A in
    let rk = within_range k most_broadcasts K in
    let rx = within_range x most_bases X in
    let rj = within_range j most_broadcasts J in
    (omega arith, omega arith)

-- ---- the mark is set
and_same : (p : Bool) {q r : Bool} → (p ≡ true → q ≡ r) → and p q ≡ and p r
unfolding and
and_same true f = f refl
and_same false f = refl

pub heard_same : (v u : Node) (x j : ℕ) → (in_range x most_bases ≡ true → in_range j most_broadcasts ≡ true
    → get_or u.heard (mark_place x j) 0 ≡ get_or v.heard (mark_place x j) 0) → heard_by u x j ≡ heard_by v x j
unfolding heard_by
heard_same v u x j f =
    and_same (in_range x most_bases) (λ X. and_same (in_range j most_broadcasts) (λ J. ap (λ (m : ℕ). not (eqb m 0)) (f X J)))

module _ (v : Node) (a k : ℕ) (A : in_range a most_bases ≡ true) (K : in_range k most_broadcasts ≡ true) (Z : SizedNode v) where
  is_set : (marked v a k).heard ≡ set v.heard (mark_place a k) 1
  unfolding marked
  is_set = ap (λ (u : Node). u.heard) (choose_yes _ _ (and_both A K))

  here : heard_by (marked v a k) a k ≡ true
  unfolding heard_by
  here = and_both A (and_both K (ap (λ (h : List ℕ). not (eqb (get_or h (mark_place a k) 0) 0)) is_set
      ∙ ap (λ (m : ℕ). not (eqb m 0)) (get_or-set_same v.heard (mark_place a k) 1 0 (omega (arith, place_below a k A K, Z.heard)))))

  elsewhere : (x j : ℕ) → ((x ≡ a) × (j ≡ k) → ⊥) → heard_by (marked v a k) x j ≡ heard_by v x j
  elsewhere x j apart = heard_same v (marked v a k) x j
      (λ X J. ap (λ (h : List ℕ). get_or h (mark_place x j) 0) is_set
      ∙ get_or-set_other v.heard (mark_place a k) (mark_place x j) 1 0 (λ e. apart (own_place a k x j A K X J e)))

  pub marked_heard : (x j : ℕ) → heard_by (marked v a k) x j ≡ or (and (eqb x a) (eqb j k)) (heard_by v x j)
  marked_heard x j = elim (ℕ_discrete x a) [
    | yes p ↦ elim (ℕ_discrete j k) [
      | yes q ↦ rw (p, q) (here ∙ sym (or_first _ (and_both (eq-eqb a a refl) (eq-eqb k k refl))))
      | no q ↦ elsewhere x j (λ s. q s.1)
          ∙ sym (ap (λ (t : Bool). or t (heard_by v x j)) (ap (and (eqb x a)) (ne_eqb j k q) ∙ and_no (eqb x a)) ∙ (unfold or in refl))
    ]
    | no p ↦ elsewhere x j (λ s. p s.0)
        ∙ sym (ap (λ (t : Bool). or t (heard_by v x j)) (sym (and_fails (eqb j k) (ne_eqb x a p))) ∙ (unfold or in refl))
  ]
