-- `message_lists::list_refusal` meets its contract: each return is the definition at what the two tests ensured.
-- a test of a list's whole front is the test of the list
use Prim.Native.Nat.{ℕ}
use mathlib.Core.List.{List}
use mathlib.Core.Bool.{Bool}
use mathlib.Core.Path.{◌≡◌, ap, sym, ◌∙◌}
use lib.Seq.{take-length}
use lib.ListN.{length, take}
use Rattle.lists.specs.Lists.{nonzero, ascending}
use Rattle.frame.specs.Reading.{list_refusal}
use Rattle.lists.specs.Choice.{choose}
use Rattle.message_lists.proofs.list_refusal.Goals as goal

whole : (f : List ℕ → Bool) (s : List ℕ) {r t : Bool} → r ≡ f (take (length s) s) → r ≡ t → f s ≡ t
whole f s p q = sym (ap f (take-length s)) ∙ sym p ∙ q

pub returns-then-not-none_zero : goal.returns-then-not-none_zero
unfolding list_refusal choose
returns-then-not-none_zero c =
    let a = c.args in
    let s = a.ids.now in simp (whole nonzero s c.none_zero.ensures (c.if-not-none_zero.true))

pub returns-then-not-ascends : goal.returns-then-not-ascends
unfolding list_refusal choose
returns-then-not-ascends c =
    let a = c.args in
    let none-zero = c.none_zero in
    let s = a.ids.now in
    simp (
      whole nonzero s none-zero.ensures (c.if-not-none_zero.false),
      whole ascending s c.ascends.ensures (c.if-not-ascends.true),
    )

pub returns : goal.returns
unfolding list_refusal choose
returns c =
    let a = c.args in
    let none-zero = c.none_zero in
    let s = a.ids.now in
    simp (
      whole nonzero s none-zero.ensures (c.if-not-none_zero.false),
      whole ascending s c.ascends.ensures (c.if-not-ascends.false),
    )
