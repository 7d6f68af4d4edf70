-- "The leader is the largest identifier of the final list." (document 01, "The steps"): it is one of the list, and none is above it. Of an
-- ascending list it is the last; the final list of a sound record that has stopped is such a list.
use Rattle.std.specs.Prelude.{ℕ, suc, ◌-◌, ◌≤◌, ◌<◌, ◌≡◌, ◌⊎◌, true, List, [], ◌∷◌, leb, length, get_or}
use Rattle.std.proofs.Math.Path.{refl}
use Rattle.std.proofs.Common.{sym, ap, ◌∙◌, inl, inr, arith, leb-true, leb-false, length-take-le}
use Rattle.lists.specs.Lists.Sets.{member_head, member_tail, member_cases}
use Rattle.lists.specs.Choice.Laws.{choose_ind, clash}
use Rattle.lists.specs.Lists.{ascending, member}
use Rattle.lists.specs.Lists.Sorted.{ascending_tail}
use Rattle.protocol.specs.declared.Base.{Base}
use Rattle.protocol.specs.Record.{final_list}
use Rattle.protocol.specs.Record.Memory.{Sized}
use Rattle.protocol.specs.Sound.{stopped, record_refusal}
use Rattle.protocol.proofs.Sound.Laws.{sound_parts, final_stopped, record_passed}
use Rattle.protocol.specs.Steps.{leader_of}
use Rattle.protocol.proofs.Steps.Decided.{Roster}

leader_cons : (P : ℕ → Type 0) (x : ℕ) (l : List ℕ) → (x ≤ leader_of l → P (leader_of l)) → (leader_of l ≤ x → P x) → P (leader_of (x ∷ l))
unfolding leader_of
leader_cons P x l tail head =
    choose_ind P (leb x (leader_of l)) (λ e. tail (leb-true x (leader_of l) e)) (λ e. head (less (leb-false x (leader_of l) e)))
  where
    less : leader_of l < x → leader_of l ≤ x
    less h = omega arith

leader_one : (x : ℕ) → leader_of (x ∷ []) ≡ x
leader_one x = leader_cons (λ (k : ℕ). k ≡ x) x [] (λ h. omega (arith, h, none)) (λ _. refl)
  where
    none : leader_of [] ≡ 0
    none = unfold leader_of in refl

pub leader_member : (x : ℕ) (l : List ℕ) → member (leader_of (x ∷ l)) (x ∷ l) ≡ true
leader_member x [] = ap (λ (k : ℕ). member k (x ∷ [])) (leader_one x) ∙ member_head x []
leader_member x (y ∷ l) = leader_cons (λ (k : ℕ). member k (x ∷ (y ∷ l)) ≡ true) x (y ∷ l)
    (λ _. member_tail (leader_of (y ∷ l)) x (y ∷ l) (leader_member y l)) (λ _. member_head x (y ∷ l))

pub leader_most : (l : List ℕ) (x : ℕ) → member x l ≡ true → x ≤ leader_of l
leader_most [] x e = clash e (unfold member in refl)
leader_most (y ∷ l) x e = go (member_cases x y l e) (leader_most l x)
  where
    go : (y ≡ x) ⊎ (member x l ≡ true) → (member x l ≡ true → x ≤ leader_of l) → x ≤ leader_of (y ∷ l)
    go (inl p) r = leader_cons (λ (k : ℕ). x ≤ k) y l (λ h. omega (arith, p)) (λ h. omega (arith, p))
    go (inr p) r = leader_cons (λ (k : ℕ). x ≤ k) y l (λ h. r p) (λ h. omega (arith, r p))

pub leader_last : (l : List ℕ) → ascending l ≡ true → leader_of l ≡ get_or l (length l - 1) 0
leader_last [] e = unfold leader_of in refl
leader_last (x ∷ []) e = leader_one x
leader_last (x ∷ (y ∷ l)) e = go (ascending_tail x (y ∷ l) e) (leader_last (y ∷ l))
  where
    last : get_or (x ∷ (y ∷ l)) (length (x ∷ (y ∷ l)) - 1) 0 ≡ get_or (y ∷ l) (length (y ∷ l) - 1) 0
    last =
        let e : length (x ∷ (y ∷ l)) - 1 ≡ suc (length (y ∷ l) - 1) = omega arith in
        ap (λ (k : ℕ). get_or (x ∷ (y ∷ l)) k 0) e

    go : (x < y) × (ascending (y ∷ l) ≡ true) → (ascending (y ∷ l) ≡ true → leader_of (y ∷ l) ≡ get_or (y ∷ l) (length (y ∷ l) - 1) 0)
        → leader_of (x ∷ (y ∷ l)) ≡ get_or (x ∷ (y ∷ l)) (length (x ∷ (y ∷ l)) - 1) 0
    go p r = leader_cons (λ (k : ℕ). k ≡ get_or (x ∷ (y ∷ l)) (length (x ∷ (y ∷ l)) - 1) 0) x (y ∷ l) (λ _. r p.1 ∙ sym last)
        (λ h. absurd (omega (arith, h, p.0, leader_most (y ∷ l) y (member_head y l))))

pub final_roster : (b : Base) → Sized b → record_refusal b ≡ 0 → stopped b ≡ true → Roster b.n (final_list b)
unfolding final_list
final_roster b S e halted =
    let A = record_passed b e in
    let F = final_stopped b (sound_parts b A.sound).final halted in
    record {
      count = length-take-le b.n b.final_list (omega (arith, S.final, A.net.most));
      above_zero = F.above_zero;
      ascends = F.ascends;
    }
