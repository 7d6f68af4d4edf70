-- `readings::read_numbers` meets its contract, by the case of the reading.
use Prim.Native.Nat.{ℕ}
use mathlib.Core.List.{List}
use mathlib.Core.Path.{◌≡◌, sym, ap, ◌∙◌}
use Rattle.reader.specs.declared.Reading.{Reading}
use Rattle.reader.specs.declared.Reading.TheVariants.{Message}
use Rattle.decoding.specs.Decoding.{id_array}
use Rattle.reader.specs.Answers.{reading_of}
use Rattle.readings.specs.ReadNumbers.{read_numbers}
use Rattle.reader.specs.Answers.Place.{body_there, refused_none}
use Rattle.readings.proofs.read_numbers.Goals as goal

alike : {x y : Reading} {a b : List ℕ} → x ≡ y → a ≡ b → read_numbers x a ≡ read_numbers y b
alike p q = λ i. read_numbers (p i) (q i)

pub returns-in-Message : goal.returns-in-Message
unfolding read_numbers
returns-in-Message c = let message : let a = c.args in
    reading_of a.n a.burst.now ≡ Message c.in-Message.kind c.in-Message.count c.in-Message.start = sym c.read.ensures ∙ c.in-Message.is in
    sym
    (alike message
    (ap id_array (sym (body_there _ _ _ _ _ message)) ∙ sym c.identifiers_at.ensures))

pub returns-in-Refused : goal.returns-in-Refused
unfolding read_numbers
returns-in-Refused c = let e = sym c.read.ensures ∙ c.in-Refused.is in sym (alike e (refused_none _ _ _ e))
