-- What a call on a base does, as the code hands it on: not the record after the call, but what is to be set in it.
use Rattle.std.specs.Prelude.{ℕ, ◌≡◌, List, set}
use Rattle.protocol.specs.declared.Base.{Base}
use Rattle.protocol.specs.declared.Outcome.{Outcome}
use Rattle.protocol.specs.Steps.{Done, outcome_of, output_of}
use Rattle.change.specs.declared.Change.{Change}
pub mod Laws

unfoldable pub changed_base : Base → Change → Base
changed_base b c = record {
  n = b.n;
  t = b.t;
  state = c.state;
  sent = c.sent;
  own = b.own;
  final_list = c.final_list;
  links = set b.links c.place c.link;
}

-- the answer, in the form that the call gives it, and the record are those of d
pub record EndsAs {R : Type 0} (form : Outcome → R) (d : Done) (answer : R) (left : Base) : Type 0 where
  pub outcome : answer ≡ form (outcome_of d)
  pub base : left ≡ d.base

-- and so is the output
pub record DoesAs {R : Type 0} (form : Outcome → R) (d : Done) (answer : R) (left : Base) (output after : List ℕ) : Type 0 where
  pub changes : EndsAs form d answer left
  pub written : after ≡ output_of d output

-- the same of a call that hands a change on: the record is the one with the change made
abbrev pub ChangeOf : Base → Done → Change → Type 0
ChangeOf b d c = EndsAs (λ o. o) d c.outcome (changed_base b c)

abbrev pub Does : Base → Done → Change → List ℕ → List ℕ → Type 0
Does b d c output after = DoesAs (λ o. o) d c.outcome (changed_base b c) output after
