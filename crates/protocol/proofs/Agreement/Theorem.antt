-- Agreement (demand 3), proved: the net after any list of events follows a group that was reached, where the inner theorem holds; its
-- stopped bases are those with a frame of kind 3 in their log, and at rest is a net whose bases are started and where nothing waits.
use Rattle.std.specs.Prelude.{ℕ, suc, ◌≤◌, ◌<◌, ◌≡◌, ◌≢◌, ◌⊎◌, true, List, length}
use Rattle.std.proofs.Common.{sym, ◌∙◌, subst, arith}
use Rattle.std.proofs.Math.Path.{ap}
use Rattle.lists.specs.Lists.{sort}
use Rattle.frame.specs.Message.{correct_final}
use Rattle.protocol.specs.declared.Base.{Base}
use Rattle.protocol.specs.Record.{final_list}
use Rattle.protocol.specs.Steps.{leader_of}
use Rattle.protocol.specs.Net.{Net, Pair, run, has_stopped, waiting, leader_named}
use Rattle.protocol.specs.Agreement.{true_identifiers, Agreement}
use Rattle.protocol.proofs.Agreement.Cases.{prime_or_secondary}
use Rattle.protocol.specs.Agreement.Views.{Said}
use Rattle.protocol.proofs.Agreement.Inner.{Group, Agrees}
use Rattle.protocol.proofs.Agreement.Inner.Theorem.{inner}
use Rattle.protocol.proofs.Agreement.Outer.Faulty.{table, table_good}
use Rattle.protocol.proofs.Agreement.Outer.Truth.{true_of, leader_sort}
use Rattle.protocol.proofs.Agreement.Outer.Frames.{length_encoded}
use Rattle.protocol.proofs.Agreement.Outer.Follows.{Matches}
use Rattle.protocol.proofs.Agreement.Outer.Waiting.{nothing_waits}
use Rattle.protocol.proofs.Agreement.Outer.Stopping.{stopped_said, said_stopped}
use Rattle.protocol.proofs.Agreement.Outer.Beginning.{each_base, ReachedNet, net_reached, started_run}

module _ {n t : ℕ} {faulty : List Pair} {id : ℕ → ℕ} {truth : List ℕ} {end : Net} (R : ReachedNet n t faulty id truth end) where
  abbrev N : Group
  N = R.follows.group

  matches : Matches n end N
  matches = R.follows.matches

  agrees : Agrees n (table faulty) truth N
  agrees = inner n t (table faulty) id truth R.premises R.follows.reached

  -- what a base that has stopped has said
  said : (x : ℕ) → x < n → has_stopped end (suc x) ≡ true → (v : List ℕ) × Said (correct_final v) (N.log x)
  said = stopped_said R.size matches R.invariant

  pub state_end : (x : ℕ) → x < n → has_stopped end (suc x) ≡ true → ((end.base (suc x)).state ≡ 2) ⊎ ((end.base (suc x)).state ≡ 3)
  state_end x l h =
      let w = said x l h in
      let s = agrees.states x w.0 l w.1 in
      subst (λ (b : Base). (b.state ≡ 2) ⊎ (b.state ≡ 3)) (sym (matches.base x l)) (prime_or_secondary (N.base x).state s.0 s.1)

  final_end : (x : ℕ) → x < n → has_stopped end (suc x) ≡ true → final_list (end.base (suc x)) ≡ truth
  final_end x l h =
      let w = said x l h in
      ap final_list (matches.base x l) ∙ (agrees.finals x w.0 l w.1).1

  ends : ((x : ℕ) → x < n → 1 ≤ (end.base (suc x)).state) → waiting n faulty end ≡ 0 → (x : ℕ) → x < n → has_stopped end (suc x) ≡ true
  ends runs none x l = said_stopped R.size matches R.invariant x truth l (agrees.ends group_runs handed x l)
    where
      group_runs : (y : ℕ) → y < n → 1 ≤ (N.base y).state
      group_runs y k = subst (λ (b : Base). 1 ≤ b.state) (matches.base y k) (runs y k)

      handed : (y z k : ℕ) → y < n → z < n → y ≢ z → table faulty y z ≡ 0 → k < length (N.log y) → N.handed y z k ≡ true
      handed y z k ly lz ne g h = sym (matches.carried y z k)
          ∙ nothing_waits n faulty end none y z k ly lz ne (table_good faulty y z g)
          (omega (arith, ap length (matches.log y ly), length_encoded (N.log y)))

pub agreement : Agreement
agreement n t faulty W es S F p = record {
  state = each_base n (λ b. has_stopped end b ≡ true → ((end.base b).state ≡ 2) ⊎ ((end.base b).state ≡ 3)) (state_end R);
  final = each_base n (λ b. has_stopped end b ≡ true → final_list (end.base b) ≡ right) (final_end R);
  leader = each_base n (λ b. has_stopped end b ≡ true → leader_named end b ≡ leader_of (true_identifiers n W)) leader_end;
  ends = λ all_started none.
      each_base n (λ b. has_stopped end b ≡ true) (ends R (started_run n t faulty W S F es p all_started) none);
}
  where
    end : Net
    end = run faulty W es

    right : List ℕ
    right = sort (true_identifiers n W)

    R : ReachedNet n t faulty (true_of W) right end
    R = net_reached n t faulty W S F es p

    leader_end : (x : ℕ) → x < n → has_stopped end (suc x) ≡ true → leader_named end (suc x) ≡ leader_of (true_identifiers n W)
    leader_end x l h = unfold leader_named in ap leader_of (final_end R x l h) ∙ leader_sort (true_identifiers n W)
