-- Histories after which every base has been started and nothing waits, so that the premise of
-- the statement's last part is met: document 01's worked example, and four bases with a faulty
-- link. Examples/Theorem computes both; by the statement every base of theirs has stopped.
use Rattle.std.specs.Prelude.{ℕ, suc, ◌-◌, ◌*◌, ◌^◌, Bool, true, not, List, [], ◌∷◌, ◌++◌, map, eqb, ltb, leb, length}
use Rattle.limits.specs.Limits.{fewest_bases, most_bases, most_faulty, output_room}
use Rattle.lists.specs.Choice.{and}
use Rattle.counting.specs.Sums.{all}
use Rattle.frame.specs.Message.{announce}
use Rattle.frame.specs.Encoding.{encode}
use Rattle.protocol.specs.Net.{Net, Pair, Event, starts, carry, forge, run, started, waiting}
use Rattle.protocol.specs.Agreement.Premise.{idle_net}
pub mod Theorem

pub record Example : Type 0 where
  pub n : ℕ
  pub t : ℕ
  pub faulty : List Pair
  -- the identifier of each base
  pub id : ℕ → ℕ
  pub events : List Event

-- ---- several events on a line, each with room for its output
unfoldable pub starts_at : List ℕ → List Event
starts_at bases = map (λ b. starts b output_room) bases

-- a's broadcasts of these numbers, carried to each of these bases
unfoldable pub carries : ℕ → List ℕ → List ℕ → List Event
carries a [] numbers = []
carries a (b ∷ bases) numbers = map (λ k. carry a b k output_room) numbers ++ carries a bases numbers

-- ---- document 01's worked example, bases 500 and 300; and then what it leaves waiting
unfoldable pub worked_example : Example
worked_example = record {
  n = 2;
  t = 0;
  faulty = [];
  id = λ b. 700 - 200 * b;
  events =
      starts_at (1 ∷ 2 ∷ [])
      ++ carries 1 (2 ∷ []) (1 ∷ 2 ∷ [])
      ++ carries 2 (1 ∷ []) (1 ∷ 2 ∷ 3 ∷ [])
      ++ carries 1 (2 ∷ []) (3 ∷ [])
      -- "waiting 2"
      ++ carries 1 (2 ∷ []) (4 ∷ [])
      ++ carries 2 (1 ∷ []) (4 ∷ []);
}

-- ---- bases 10, 20, 30 and 40; nothing that bases 1 and 2 broadcast comes through
-- between them, and base 2 hears a stranger as if from base 1
unfoldable pub faulty_link_example : Example
faulty_link_example = record {
  n = 4;
  t = 1;
  faulty = record { one = 1; other = 2 } ∷ [];
  id = λ b. 10 * b;
  events =
      starts_at (1 ∷ 2 ∷ 3 ∷ 4 ∷ [])
      ++ forge 1 2 (encode (announce 99)) output_room ∷ []
      ++ carries 1 (3 ∷ 4 ∷ []) (1 ∷ 2 ∷ [])
      ++ carries 2 (3 ∷ 4 ∷ []) (1 ∷ 2 ∷ [])
      ++ carries 3 (1 ∷ 2 ∷ 4 ∷ []) (1 ∷ 2 ∷ [])
      ++ carries 4 (1 ∷ 2 ∷ 3 ∷ []) (1 ∷ 2 ∷ [])
      -- a Verify of each identifier that was announced to a base
      ++ carries 1 (3 ∷ 4 ∷ []) (3 ∷ 4 ∷ [])
      ++ carries 2 (3 ∷ 4 ∷ []) (3 ∷ 4 ∷ 5 ∷ [])
      ++ carries 3 (1 ∷ 2 ∷ 4 ∷ []) (3 ∷ 4 ∷ 5 ∷ [])
      ++ carries 4 (1 ∷ 2 ∷ 3 ∷ []) (3 ∷ 4 ∷ 5 ∷ [])
      -- bases 3 and 4 are prime: their Correct-Final
      ++ carries 3 (1 ∷ 2 ∷ 4 ∷ []) (6 ∷ [])
      ++ carries 4 (1 ∷ 2 ∷ 3 ∷ []) (6 ∷ [])
      -- so bases 1 and 2 are secondary: their Verify-Final and Correct-Final
      ++ carries 1 (3 ∷ 4 ∷ []) (5 ∷ 6 ∷ [])
      ++ carries 2 (3 ∷ 4 ∷ []) (6 ∷ 7 ∷ []);
}

-- ---- what the statement asks for, as a test
unfoldable pub base_test : ℕ → ℕ → Bool
base_test n b = and (leb 1 b) (leb b n)

unfoldable pub bases_test : ℕ → ℕ → ℕ → Bool
bases_test n a b = and (base_test n a) (and (base_test n b) (not (eqb a b)))

unfoldable pub bytes_test : List ℕ → Bool
bytes_test [] = true
bytes_test (x ∷ l) = and (ltb x 256) (bytes_test l)

unfoldable pub proper_test : ℕ → Event → Bool
proper_test n (starts b room) = base_test n b
proper_test n (carry a b k room) = bases_test n a b
proper_test n (forge a b bytes room) = and (bases_test n a b) (bytes_test bytes)

unfoldable pub all_proper_test : ℕ → List Event → Bool
all_proper_test n [] = true
all_proper_test n (e ∷ es) = and (proper_test n e) (all_proper_test n es)

unfoldable pub identifier_test : ℕ → Bool
identifier_test g = and (leb 1 g) (ltb g (2 ^ 32))

-- of the bases 1 to n
unfoldable pub identifiers_test : ℕ → (ℕ → ℕ) → Bool
identifiers_test n id = all n (λ x. and (identifier_test (id (suc x))) (all x (λ y. not (eqb (id (suc x)) (id (suc y))))))

unfoldable pub setting_test : ℕ → ℕ → List Pair → Bool
setting_test n t faulty = and (and (leb fewest_bases n) (leb n most_bases)) (and (leb t (most_faulty n)) (leb (length faulty) t))

unfoldable pub given_test : Example → Bool
given_test x = and (setting_test x.n x.t x.faulty) (and (identifiers_test x.n x.id) (all_proper_test x.n x.events))

-- ---- the net at its beginning and at its end
unfoldable pub example_begins : Example → Net
example_begins x = idle_net x.n x.t x.id

unfoldable pub example_ends : Example → Net
example_ends x = run x.faulty (example_begins x) x.events

-- every base has been started, and nothing waits
unfoldable pub at_rest : Example → Bool
at_rest x =
    and (all x.n (λ b. started x.faulty (example_begins x) x.events (suc b)))
    (eqb (waiting x.n x.faulty (example_ends x)) 0)

-- the states of these bases at the end
unfoldable pub end_states : Example → List ℕ → List ℕ
end_states x bases = map (λ b. ((example_ends x).base b).state) bases
