-- `faulty_naming::name_faulty` meets its contract: "none twice", then number 15.
use Rattle.faulty_naming.specs.Naming.Laws.{named_twice, one_too_many, named_faulty}
use Rattle.faulty_naming.proofs.name_faulty.Goals as goal

pub returns-then-refusal-ne0 : goal.returns-then-refusal-ne0
returns-then-refusal-ne0 c = one_too_many _ _ _ _ c.is_good.ensures c.if-is_good.true
    c.faulty_refusal-refusal.ensures c.if-refusal-ne0.true

pub returns-then-is_good : goal.returns-then-is_good
returns-then-is_good c = named_faulty _ _ _ _ c.is_good.ensures c.if-is_good.true
    c.faulty_refusal-refusal.ensures c.if-refusal-ne0.false c.marked_faulty.ensures

pub returns : goal.returns
returns c = named_twice _ _ _ _ c.is_good.ensures c.if-is_good.false
