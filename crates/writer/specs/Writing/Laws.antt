-- Which number a write is turned down by, test by test, and what one that is not turned down is.
use Rattle.std.specs.Prelude.{◌≡◌, true, List, ℕ, ◌≤◌, ◌<◌, length}
use Rattle.std.proofs.Common.{◌∙◌, lt-ltb, le-ltb, ltb-false}
use Rattle.limits.specs.Limits.{most_bases, frame_bytes}
use Rattle.limits.specs.Refusals.{net_refusal}
use Rattle.limits.specs.Refusals.Laws.{net_passed}
use Rattle.lists.specs.Choice.{first}
use Rattle.lists.specs.Choice.Laws.{choose_yes, choose_no, passed, first_none, first_given, first_passed}
use Rattle.frame.specs.Message.{known, expected, length_of}
use Rattle.frame.specs.Reading.{kind_refusal, list_refusal}
use Rattle.frame.proofs.Reading.Laws.{kind_passed, kind_size}
use Rattle.frame_room.specs.Room.{frame_fits}
use Rattle.frame_room.specs.Room.Laws.{fits}
use Rattle.writer.specs.Writing.{write_refusal}

-- ---- the number of a write
module _ (n kind : ℕ) (ids : List ℕ) (room : ℕ) where
  pub write_outside : (net_refusal n ≡ 0 → ⊥) → write_refusal n kind ids room ≡ net_refusal n
  unfolding write_refusal
  write_outside h = first_given _ h

  module _ (z : net_refusal n ≡ 0) where
    pub write_short : room < length_of kind n → write_refusal n kind ids room ≡ 6
    unfolding write_refusal
    write_short h = first_none _ z ∙ choose_yes 6 _ (lt-ltb room (length_of kind n) h)

    module _ (h : length_of kind n ≤ room) where
      pub write_message : write_refusal n kind ids room ≡ first (kind_refusal n kind (length ids)) (list_refusal ids)
      unfolding write_refusal
      write_message = first_none _ z ∙ choose_no 6 _ (le-ltb room (length_of kind n) h)

      pub write_kind : (kind_refusal n kind (length ids) ≡ 0 → ⊥) → write_refusal n kind ids room ≡ kind_refusal n kind (length ids)
      write_kind e = write_message ∙ first_given _ e

      pub write_list : kind_refusal n kind (length ids) ≡ 0 → write_refusal n kind ids room ≡ list_refusal ids
      write_list e = write_message ∙ first_none _ e

-- ---- what a write that is not turned down writes
pub record WritePassed (n kind : ℕ) (ids : List ℕ) (room : ℕ) : Type 0 where
  pub kind_known : known kind ≡ true
  pub count : length ids ≡ expected kind n
  pub list : list_refusal ids ≡ 0
  pub few : n ≤ most_bases
  pub size : length_of kind n ≡ frame_bytes (length ids)
  pub fit : frame_fits n kind (length ids) room ≡ true

pub write_passed : (n kind : ℕ) (ids : List ℕ) (room : ℕ) → write_refusal n kind ids room ≡ 0 → WritePassed n kind ids room
unfolding write_refusal
write_passed n kind ids room e =
    let p1 = first_passed (net_refusal n) _ e in
    let p6 = passed _ 5 _ p1.1 in
    let p8 = first_passed _ _ p6.1 in
    let k = kind_passed n kind (length ids) p8.0 in
    record {
      kind_known = k.0;
      count = k.1;
      list = p8.1;
      few = (net_passed n p1.0).most;
      size = kind_size n kind (length ids) p8.0;
      fit = fits n kind (length ids) room p8.0 (ltb-false room (length_of kind n) p6.0);
    }
