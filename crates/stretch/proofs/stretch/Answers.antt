-- `stretch::stretch` meets its contract: a message that was read has its body's place, and 4 × count bytes from there are in the burst.
-- the burst was read as a message
use mathlib.Core.Path.{◌≡◌, refl, sym, ◌∙◌}
use native.Mathlib.Omega.{arith}
use Rattle.reader.specs.declared.Reading.TheVariants.{Message}
use Rattle.reader.specs.Answers.{reading_of}
use Rattle.reader.specs.Answers.Place.{body_inside, body_between, start_there, refused_stretch}
use Rattle.stretch.proofs.stretch.Goals as goal

pub returns-in_default : goal.returns-in_default
returns-in_default c =
    let q = refused_stretch _ _ _ (sym c.read.ensures ∙ c.in_default.is) in
    (sym q.0, (refl, omega (arith, q.1)))

pub overflow_mul-result : goal.overflow_mul-result
overflow_mul-result c = let read_as : let a = c.args in
    reading_of a.n a.burst.now ≡ Message c.in-Message.kind c.in-Message.count c.in-Message.start = sym c.read.ensures ∙ c.in-Message.is in
    omega (arith, body_inside _ _ _ _ _ read_as)

pub overflow_add-result : goal.overflow_add-result
overflow_add-result c = let read_as : let a = c.args in
    reading_of a.n a.burst.now ≡ Message c.in-Message.kind c.in-Message.count c.in-Message.start = sym c.read.ensures ∙ c.in-Message.is in
    omega (arith, body_inside _ _ _ _ _ read_as)

pub slice_bounds-result-end-2 : goal.slice_bounds-result-end-2
slice_bounds-result-end-2 c = let read_as : let a = c.args in
    reading_of a.n a.burst.now ≡ Message c.in-Message.kind c.in-Message.count c.in-Message.start = sym c.read.ensures ∙ c.in-Message.is in
    omega (arith, body_inside _ _ _ _ _ read_as)

pub returns : goal.returns
returns c = let read_as : let a = c.args in
    reading_of a.n a.burst.now ≡ Message c.in-Message.kind c.in-Message.count c.in-Message.start = sym c.read.ensures ∙ c.in-Message.is in
    let m = read_as in
    (body_between _ _ _ _ _ m, (refl, omega (arith, start_there _ _ _ _ _ m)))
