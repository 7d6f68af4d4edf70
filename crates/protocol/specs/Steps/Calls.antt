-- The calls on one base over its life, whatever they are and however they end: the record keeps its
-- sizes, its n, t and own identifier, and stays sound. Once it has stopped it never changes again, nor
-- does one that is turned down.
use Rattle.std.specs.Prelude.{ℕ, List, [], ◌∷◌, ◌++◌}
use Rattle.lists.specs.Lists.{Below}
use Rattle.frame.specs.Message.{Message}
use Rattle.protocol.specs.declared.Base.{Base}
use Rattle.protocol.specs.Steps.{Done, start, arrival}

-- a call, with its data: a start with the length of its output; an arrival with its link number, its burst and the length of its output
pub data Call : Type 0 where
  start_call : ℕ → Call
  arrival_call : ℕ → List ℕ → ℕ → Call

-- a burst is made of bytes
abbrev pub CallBytes : Call → Type 0
CallBytes (start_call room) = Unit {0}
CallBytes (arrival_call link burst room) = Below 256 burst

unfoldable pub called : Base → Call → Done
called b (start_call room) = start b room
called b (arrival_call link burst room) = arrival b link burst room

-- ---- a whole life
abbrev pub AllBytes : List Call → Type 0
AllBytes [] = Unit {0}
AllBytes (c ∷ calls) = CallBytes c × AllBytes calls

-- the record after the calls, each on the record that the one before left
unfoldable pub after_calls : Base → List Call → Base
after_calls b [] = b
after_calls b (c ∷ calls) = after_calls (called b c).base calls

-- all that is broadcast
unfoldable pub life : Base → List Call → List Message
life b [] = []
life b (c ∷ calls) = (called b c).says ++ life (called b c).base calls
