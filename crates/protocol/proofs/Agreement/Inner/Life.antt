-- What a base of the group has broadcast is what its record has spent: the two frames of its start, a Verify for each identifier announced,
-- a Verify-Final and a Correct-Final at most. So a log holds at most n + 3 messages.
use Rattle.std.specs.Prelude.{ℕ, ◌+◌, ◌≤◌, ◌<◌, ◌≡◌, List, length}
use Rattle.std.proofs.Common.{sym, ap, ◌∙◌, arith, length-append}
use Rattle.lists.specs.Lists.Sums.{sum_over_ones}
use Rattle.protocol.specs.declared.Base.{Base}
use Rattle.protocol.specs.Sound.{idle}
use Rattle.protocol.specs.Steps.{Done, start_step, arrival_step}
use Rattle.protocol.proofs.Steps.Life.{one_each, one_each_weigh, spent, spent_most, idle_spent}
use Rattle.protocol.proofs.Steps.Life.{Paid, start_step_paid, arrival_step_paid}
use Rattle.protocol.specs.Agreement.Invariant.{Premises}
use Rattle.protocol.proofs.Agreement.Observers.{place_of}
use Rattle.protocol.proofs.Agreement.Inner.{Group, group_after, ReachedGroup, fresh, group_starts, group_arrives}
use Rattle.protocol.proofs.Agreement.Inner.Moves.{called_each, member_heard}
use Rattle.protocol.proofs.Agreement.Inner.Theorem.{GroupInvariant, group_invariant}

-- a step's messages are as many as its record has more
step_count : (b : Base) (d : Done) → Paid one_each (λ _. 1) b d → spent one_each b + length d.says ≡ spent one_each d.base
step_count b d p = omega (arith, p, sum_over_ones d.says)

module _ (n t : ℕ) (faulty : ℕ → ℕ → ℕ) (id : ℕ → ℕ) (truth : List ℕ) (P : Premises n t faulty id truth) where
  log_spent : {N : Group} → ReachedGroup n t faulty id N → (x : ℕ) → x < n → spent one_each (N.base x) ≡ length (N.log x)
  log_spent (fresh {N = N} F) = λ x l.
      idle_spent one_each (N.base x) (F.member x l).refusal (F.idle x l) ∙ ap length (sym (F.silent x l))
  log_spent (group_starts {N = N} R y y_in) =
      called_each N y (start_step (N.base y)) N.handed (λ x b log. x < n → spent one_each b ≡ length log)
      (λ l. omega (
        arith,
        step_count (N.base y) (start_step (N.base y))
            (start_step_paid one_each (λ _. 1) (N.base y) (one_each_weigh (N.base y).own (N.base y).n)),
        log_spent R y y_in,
        length-append (N.log y) (start_step (N.base y)).says,
      ))
      (λ x ne l. log_spent R x l)
  log_spent (group_arrives {N = N} R x y m handed x_in y_in ne w source newly) = go (group_invariant n t faulty id truth P R) (log_spent R)
    where
      go : GroupInvariant n t faulty id truth N → ((z : ℕ) → z < n → spent one_each (N.base z) ≡ length (N.log z))
          → (z : ℕ) → z < n
          → spent one_each ((group_after N y (arrival_step (N.base y) (place_of y x) m) handed).base z)
          ≡ length ((group_after N y (arrival_step (N.base y) (place_of y x) m) handed).log z)
      go S before = called_each N y (arrival_step (N.base y) (place_of y x) m) handed (λ z b log. z < n → spent one_each b ≡ length log)
          (λ l. omega (
            arith,
            step_count (N.base y) (arrival_step (N.base y) (place_of y x) m)
                (arrival_step_paid one_each (λ _. 1) (N.base y) (place_of y x) m (one_each_weigh (N.base y).own (N.base y).n)
                (S.member y y_in).sized (member_heard n t y y_in (id y) (N.base y) (S.member y y_in) x x_in ne m w)),
            before y y_in,
            length-append (N.log y) (arrival_step (N.base y) (place_of y x) m).says,
          ))
          (λ z d l. before z l)

  pub log_most : {N : Group} → ReachedGroup n t faulty id N → (x : ℕ) → x < n → length (N.log x) ≤ n + 3
  log_most {N} R x l = let M = (group_invariant n t faulty id truth P R).member x l in
      omega (arith, log_spent R x l, M.n_is, spent_most one_each (N.base x))
