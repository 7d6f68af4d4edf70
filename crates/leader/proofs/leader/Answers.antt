-- `leader::leader` meets its contract: the number, or whether the base has stopped, or the leader of its final list.
use Prim.Native.Nat.{◌≤◌}
use mathlib.Core.Path.{◌≡◌, refl, sym, ap, ◌∙◌}
use native.Mathlib.Omega.{arith}
use borrow.Author.Tests.{eq-eqb, ne_eqb, le-leb, lt-leb}
use lib.ListN.{length, take}
use lib.Seq.{length-take-le}
use Rattle.protocol.proofs.Sizes.{base_sized}
use Rattle.protocol.specs.Steps.{leader_answer}
use Rattle.protocol.proofs.Sound.Laws.{record_passed}
use Rattle.protocol.specs.Sound.{record_refusal, stopped}
use Rattle.protocol.specs.Record.{final_list}
use Rattle.lists.specs.Choice.Laws.{chosen_yes, chosen_no}
use Rattle.protocol.specs.declared.Leader.TheVariants as leads
use Rattle.leader.proofs.leader.Goals as goal

pub returns-then-refusal-ne0 : goal.returns-then-refusal-ne0
unfolding leader_answer
returns-then-refusal-ne0 c = let e = c.record_refusal-refusal.ensures in
    chosen_no _ (ne_eqb _ 0 (λ z. c.if-refusal-ne0.true (e ∙ z))) (ap leads.Refused e)

pub returns-then-base-lt-PRIME : goal.returns-then-base-lt-PRIME
unfolding leader_answer stopped
returns-then-base-lt-PRIME c = let passed : record_refusal c.args.base ≡ 0 =
    sym c.record_refusal-refusal.ensures ∙ c.if-refusal-ne0.false in
    chosen_yes _ (eq-eqb _ 0 passed) (chosen_no _ (lt-leb 2 _ c.if-base-lt-PRIME.true) refl)

pub slice_bounds-list-end : goal.slice_bounds-list-end
slice_bounds-list-end c = let passed : record_refusal c.args.base ≡ 0 = sym c.record_refusal-refusal.ensures ∙ c.if-refusal-ne0.false in
    let room : let b = c.args.base in b.n ≤ length b.final_list = let b = c.args.base in
    omega (arith, (record_passed b passed).net.most, (base_sized b _ c.well_formed.0).final) in
    room

pub slice_bounds-leader_of-end : goal.slice_bounds-leader_of-end
slice_bounds-leader_of-end c = let passed : record_refusal c.args.base ≡ 0 =
    sym c.record_refusal-refusal.ensures ∙ c.if-refusal-ne0.false in
    let room : let b = c.args.base in b.n ≤ length b.final_list = let b = c.args.base in
    omega (arith, (record_passed b passed).net.most, (base_sized b _ c.well_formed.0).final) in
    let front : let b = c.args.base in length (take b.n b.final_list) ≡ b.n = let b = c.args.base in length-take-le b.n b.final_list room in
    sym front

pub returns : goal.returns
unfolding leader_answer stopped final_list
returns c = let passed : record_refusal c.args.base ≡ 0 = sym c.record_refusal-refusal.ensures ∙ c.if-refusal-ne0.false in
    chosen_yes _ (eq-eqb _ 0 passed)
    (chosen_yes _ (le-leb 2 _ c.if-base-lt-PRIME.false) (ap leads.Is c.leader_of.ensures))
