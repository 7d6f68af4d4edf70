-- A record as the argument sees it. The files below tie the view to the record: what is counted over links is counted over bases, the
-- checks hold of the record exactly if they hold of its view, and the steps of document 01 are calls as the argument knows them.
use Rattle.std.specs.Prelude.{ℕ, suc, ◌-◌, eqb}
use Rattle.lists.specs.Choice.{choose}
use Rattle.frame.specs.Message.{Message}
use Rattle.protocol.specs.declared.Link.{Link}
use Rattle.protocol.specs.declared.Base.{Base}
use Rattle.protocol.specs.Links.{no_link, verifies_of, holds_correct, holds_verify_final}
use Rattle.protocol.specs.Record.{link_at, final_list}
use Rattle.protocol.specs.Numbering.{link_to}
use Rattle.protocol.specs.Steps.{Done}
use Rattle.protocol.specs.Agreement.Views.{View}
use Rattle.protocol.specs.Agreement.Calls.{message_input, ViewCall}
pub mod Checks
pub mod Counts
pub mod Endings
pub mod LinkChanges
pub mod Messages
pub mod Names
pub mod Places
pub mod Steps
pub mod Stores

-- the place, from 0, of base me's link to base x; both bases are numbered from 0 here
unfoldable pub place_of : ℕ → ℕ → ℕ
place_of me x = link_to (suc me) (suc x) - 1

-- that link, and one that holds nothing for the base itself
unfoldable pub link_for : ℕ → Base → ℕ → Link
link_for me b x = choose (eqb x me) no_link (link_at b (place_of me x))

unfoldable pub view : ℕ → Base → View
view me b = record {
  state = b.state;
  sent = b.sent;
  final = final_list b;
  named = λ x. choose (eqb x me) b.own (link_for me b x).announce;
  verifies = λ x. verifies_of (link_for me b x);
  correct = λ x v. holds_correct b.n (link_for me b x) v;
  vote = λ x v. holds_verify_final b.n (link_for me b x) v;
}

-- d is what becomes of a message m that arrives at the base me, whose record is b, on its link to base x
abbrev pub ArrivalCall : ℕ → Base → ℕ → Message → Done → Type 0
ArrivalCall me b x m d = ViewCall b.n b.t me b.own (message_input x m) (view me b) (view me d.base) d.says
