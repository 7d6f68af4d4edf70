-- From the statement to the inner theorem: its premises hold, the net at the beginning follows
-- a fresh group, and so the net after any list of events follows a group that was reached.
use Rattle.std.specs.Prelude.{ℕ, zero, suc, ◌+◌, ◌*◌, ◌≤◌, ◌<◌, ◌≡◌, refl, true, false, List, []}
use Rattle.std.proofs.Common.{inr, arith}
use Rattle.limits.specs.Refusals.{NetSize}
use Rattle.lists.specs.Lists.{sort}
use Rattle.protocol.specs.declared.Base.{Base}
use Rattle.protocol.specs.Record.Memory.{Words}
use Rattle.protocol.specs.Sound.{idle, idle_sound}
use Rattle.protocol.proofs.Sound.Laws.{record_passed, sound_parts, idle_place}
use Rattle.protocol.specs.Net.{Net, Pair, Event, run, started}
use Rattle.protocol.specs.Agreement.{BaseOf, Setting, Fresh, AllProper, true_identifiers}
use Rattle.protocol.specs.Agreement.Invariant.{Premises}
use Rattle.protocol.proofs.Agreement.Inner.{Group, fresh}
use Rattle.protocol.proofs.Agreement.Inner.Theorem.{GroupInvariant, group_invariant}
use Rattle.protocol.proofs.Agreement.Outer.Faulty.{table, table_symmetric, table_total}
use Rattle.protocol.proofs.Agreement.Outer.Truth.{true_of, truth_listed}
use Rattle.protocol.proofs.Agreement.Outer.Follows.{Follows}
use Rattle.protocol.proofs.Agreement.Outer.History.{run_follows, started_runs}

-- "t is at most (n − 2) / 2 rounded down": so n is at least 2t + 2, which is all that the argument asks of n
enough_bases : (n t : ℕ) (faulty : List Pair) → Setting n t faulty → 2 * t + 2 ≤ n
enough_bases n t faulty S = omega (arith, S.limit, S.size.least)

-- a base of the net is base x + 1, for an x below n
pub each_base : (n : ℕ) (Q : ℕ → Type 0) → ((x : ℕ) → x < n → Q (suc x)) → (b : ℕ) → BaseOf n b → Q b
each_base n Q h zero B = absurd (omega (arith, B.least))
each_base n Q h (suc x) B = h x B.most

pub base_numbered : {n : ℕ} (x : ℕ) → x < n → BaseOf n (suc x)
base_numbered x l = record { least = omega arith; most = l }

-- what is known of the net after a list of events
pub record ReachedNet (n t : ℕ) (faulty : List Pair) (id : ℕ → ℕ) (truth : List ℕ) (W : Net) : Type 0 where
  pub size : NetSize n
  pub premises : Premises n t (table faulty) id truth
  pub follows : Follows n t faulty id W
  pub invariant : GroupInvariant n t (table faulty) id truth follows.group

module _ (n t : ℕ) (faulty : List Pair) (W : Net) (S : Setting n t faulty) (F : Fresh n t W) where
  -- ---- the premises of the inner theorem
  abbrev pub truth : List ℕ
  truth = sort (true_identifiers n W)

  premises : Premises n t (table faulty) (true_of W) truth
  premises = record {
    symmetric = table_symmetric faulty;
    few_faulty = omega (arith, table_total n faulty, S.few_faulty);
    enough = enough_bases n t faulty S;
    ids_apart = apart;
    ids_above_zero = λ x l. (record_passed (W.base (suc x)) (F.sound (suc x) (base_numbered x l))).own;
    truth_lists = truth_listed W n apart;
  }
    where
      apart : (x y : ℕ) → x < n → y < n → true_of W x ≡ true_of W y → x ≡ y
      apart x y lx ly e = let q = F.different (suc x) (suc y) (base_numbered x lx) (base_numbered y ly) e in cc

  -- ---- the beginning
  -- an idle record announces nothing
  words : (x : ℕ) → x < n → Words (W.base (suc x))
  words x l = record { own = F.word (suc x) B; announced = λ i k. omega (arith, (idle_place b parts (F.idle (suc x) B) i k).announce) }
    where
      B : BaseOf n (suc x)
      B = base_numbered x l

      b : Base
      b = W.base (suc x)

      parts : idle_sound (W.base (suc x)) ≡ true
      parts = (sound_parts (W.base (suc x)) (record_passed (W.base (suc x)) (F.sound (suc x) B)).sound).idle

  beginning : Group
  beginning = record { base = λ x. W.base (suc x); log = λ x. []; handed = λ x y k. false }

  pub follows_beginning : Follows n t faulty (true_of W) W
  unfolding beginning
  follows_beginning = record {
    group = beginning;
    reached = fresh (record {
      member = λ x l. record {
        n_is = F.record_n (suc x) (base_numbered x l);
        t_is = F.record_t (suc x) (base_numbered x l);
        own_is = refl;
        refusal = F.sound (suc x) (base_numbered x l);
        sized = F.sized (suc x) (base_numbered x l);
        words = words x l;
      };
      idle = λ x l. F.idle (suc x) (base_numbered x l);
      silent = λ x l. refl;
      nothing = λ x y k. refl;
    });
    matches = record {
      base = λ x l. refl;
      log = λ x l. F.silent (suc x) (base_numbered x l);
      carried = λ x y k. F.uncarried (suc x) (suc y) (suc k);
    };
  }

  -- ---- after any list of events
  pub net_reached : (es : List Event) → AllProper n es → ReachedNet n t faulty (true_of W) truth (run faulty W es)
  net_reached es p = record {
    size = S.size;
    premises = premises;
    follows = follows;
    invariant = group_invariant n t (table faulty) (true_of W) truth premises follows.reached;
  }
    where
      follows : Follows n t faulty (true_of W) (run faulty W es)
      follows = run_follows n t faulty (true_of W) truth S.size premises W es follows_beginning p

  pub started_run : (es : List Event) → AllProper n es → ((b : ℕ) → BaseOf n b → started faulty W es b ≡ true) → (x : ℕ) → x < n
      → 1 ≤ ((run faulty W es).base (suc x)).state
  started_run es p all x l =
      started_runs n t faulty (true_of W) truth S.size premises W es (suc x) follows_beginning p (inr (all (suc x) (base_numbered x l)))
