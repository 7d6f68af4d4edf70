-- What the agreement argument sees of a base. Nothing above this file and the laws in Observers looks
-- into a record, so a record that holds the same in another way changes those laws alone. Bases are
-- numbered from 0 here, so that sums run over 0 .. n - 1: x stands for base x + 1 of document 01.
use Rattle.std.specs.Prelude.{ℕ, ◌+◌, ◌*◌, ◌≤◌, ◌<◌, ◌≡◌, Bool, true, not, eqb}
use mathlib.Core.List.{List, Memᴰ}
use Rattle.lists.specs.Choice.{and, or}
use Rattle.lists.specs.Lists.{member, ascending}
use Rattle.counting.specs.Sums.{bit, pairs}
use Rattle.counting.specs.Counts.{count}
use Rattle.counting.specs.Degrees.{total}
use Rattle.counting.specs.Pigeonhole.{Met}
use Rattle.frame.specs.Message.{Message, announce, verify, correct_final, verify_final}

pub record View : Type 0 where
  -- idle (0), running (1), prime (2) or secondary (3)
  pub state : ℕ
  -- whether a Verify-Final was sent: 1, or 0
  pub sent : ℕ
  pub final : List ℕ
  -- the identifier that the base has for base x: its own for itself, else the one announced on the link to x; zero for none
  pub named : ℕ → ℕ
  -- the Verify identifiers held on the link to x
  pub verifies : ℕ → List ℕ
  -- whether the link to x holds Correct-Final v
  pub correct : ℕ → List ℕ → Bool
  -- whether the link to x holds Verify-Final v
  pub vote : ℕ → List ℕ → Bool

-- a message is in a log
abbrev pub Said : Message → List Message → Type 0
Said m log = Memᴰ m log

-- the link to x holds a message
abbrev pub ViewHolds : View → ℕ → Message → Type 0
ViewHolds b x (announce g) = (1 ≤ g) × (b.named x ≡ g)
ViewHolds b x (verify g) = member g (b.verifies x) ≡ true
ViewHolds b x (correct_final v) = b.correct x v ≡ true
ViewHolds b x (verify_final v) = b.vote x v ≡ true

-- "Certified: the own identifier and every accepted Announce identifier."
abbrev pub Certified : ℕ → View → ℕ → Type 0
Certified n b g = Met n b.named g

-- ---- the two counts of a list
-- the number of links that hold Correct-Final v
unfoldable pub corrects : ℕ → View → List ℕ → ℕ
corrects n b v = count n (λ x. b.correct x v)

-- "The tally of a list is the number of links holding a vector message with it."
unfoldable pub holds_of : View → List ℕ → ℕ → Bool
holds_of b v x = or (b.correct x v) (b.vote x v)

unfoldable pub tally_of : ℕ → View → List ℕ → ℕ
tally_of n b v = count n (holds_of b v)

-- ---- suspect pairs
-- the link to x lacks a Verify of what the base has for y; "For a pair with the own identifier, only the other's link is looked at."
unfoldable pub lacks : ℕ → View → ℕ → ℕ → Bool
lacks me b x y = and (not (eqb x me)) (not (member (b.named y) (b.verifies x)))

-- "A pair of certified identifiers is suspect if the link that announced either lacks a Verify of the other."
unfoldable pub suspect : ℕ → View → ℕ → ℕ → ℕ
suspect me b x y = bit (and (not (eqb x y)) (or (lacks me b x y) (lacks me b y x)))

-- ---- the two checks
-- "n identifiers are certified; their tallies sum to at least n² − 2t; at most t pairs are suspect."
pub record Prime (n t me : ℕ) (b : View) : Type 0 where
  pub all_named : (x : ℕ) → x < n → 1 ≤ b.named x
  pub tallies : n * n ≤ n + total n (λ x y. bit (member (b.named y) (b.verifies x))) + 2 * t
  pub few_suspects : pairs n (suspect me b) ≤ t

-- "The tally of V is at least t + 1 and two links hold Correct-Final V."
pub record Secondary (n t : ℕ) (b : View) (v : List ℕ) : Type 0 where
  pub tally : t < tally_of n b v
  pub two : 2 ≤ corrects n b v

-- v is "the certified ones sorted"
pub record Lists (n : ℕ) (c : ℕ → ℕ) (v : List ℕ) : Type 0 where
  pub ascends : ascending v ≡ true
  pub only : (g : ℕ) → member g v ≡ true → Met n c g
  pub all : (x : ℕ) → x < n → member (c x) v ≡ true
