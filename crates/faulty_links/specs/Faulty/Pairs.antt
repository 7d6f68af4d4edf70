-- Whether a link is good, pair by pair.
use Rattle.std.specs.Prelude.{ℕ, ◌+◌, ◌<◌, min, ◌≡◌, Bool, true, false, List, length, get_or, drop}
use Rattle.std.proofs.Common.{sym, ap, ◌∙◌, arith, drop-cons}
use Rattle.std.proofs.Math.Numerals.{add-one}
use Rattle.std.proofs.Math.Seq.{drop-length}
use Rattle.lists.specs.Choice.{and}
use Rattle.lists.specs.Lists.Laws.{taken_length, taken_at}
use Rattle.protocol.specs.Net.{Pair, joins, good}
use Rattle.faulty_links.specs.declared.Faulty.{Faulty}
use Rattle.faulty_links.specs.Faulty.{faulty_room, pair_of, pairs_of, no_pair}

-- ---- how many are named
pub pairs_named : (f : Faulty) → length f.pairs ≡ faulty_room → {r : ℕ} → r ≡ min f.count faulty_room → r ≡ length (pairs_of f)
unfolding pairs_of
pairs_named f e least = least
    ∙ sym (taken_length pair_of f.count f.pairs ∙ ap (min f.count) e)

pub pair_there : (f : Faulty) (i : ℕ) → i < length (pairs_of f)
    → pair_of (get_or f.pairs i no_pair) ≡ get_or (pairs_of f) i (pair_of no_pair)
unfolding pairs_of
pair_there f i h = taken_at pair_of f.count f.pairs i no_pair h

pub joined_there : (f : Faulty) (i a b : ℕ) → i < length (pairs_of f)
    → {r : Bool} → r ≡ joins (pair_of (get_or f.pairs i no_pair)) a b → joins (get_or (pairs_of f) i (pair_of no_pair)) a b ≡ r
joined_there f i a b h e = ap (λ (p : Pair). joins p a b) (sym (pair_there f i h)) ∙ sym e

-- ---- one pair after another
module _ (l : List Pair) (a b i : ℕ) (none : Pair) where
  pub good_broken : i < length l → joins (get_or l i none) a b ≡ true → good (drop i l) a b ≡ false
  unfolding good and
  good_broken h e = rw (drop-cons l i none h, e)

  pub good_next : i < length l → joins (get_or l i none) a b ≡ false → good (drop i l) a b ≡ good (drop (i + 1) l) a b
  unfolding good and
  good_next h e = rw (drop-cons l i none h, e, add-one i)

pub good_end : (l : List Pair) (a b i : ℕ) → i ≡ length l → good (drop i l) a b ≡ true
unfolding good
good_end l a b i e = rw (e, drop-length l)
