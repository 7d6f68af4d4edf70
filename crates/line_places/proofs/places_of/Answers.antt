-- `line_places::places_of` meets its contract: the line decides.
use mathlib.Core.Path.{refl}
use Rattle.stored_walk.specs.State.{next_of}
use Rattle.stored_walk.specs.Reaching.{sender_of, receiver_of}
use Rattle.line_places.proofs.places_of.Goals as goal

pub returns-in-Start : goal.returns-in-Start
unfolding sender_of receiver_of next_of
returns-in-Start c = record {
  from_value = rw c.in-Start.is c.place_of.ensures;
  to_value =
      rw c.in-Start.is c.place_of-in-Start.ensures;
  next_value = rw c.in-Start.is refl;
}

pub returns-in-Carry : goal.returns-in-Carry
unfolding sender_of receiver_of next_of
returns-in-Carry c = record {
  from_value = rw c.in-Carry.is c.place_of-in-Carry.ensures;
  to_value =
      rw c.in-Carry.is c.place_of-in-Carry-2.ensures;
  next_value = rw c.in-Carry.is refl;
}

pub returns-in-Forge : goal.returns-in-Forge
unfolding sender_of receiver_of next_of
returns-in-Forge c = record {
  from_value = rw c.in-Forge.is c.place_of-in-Forge.ensures;
  to_value =
      rw c.in-Forge.is c.place_of-in-Forge-2.ensures;
  next_value = rw c.in-Forge.is refl;
}

pub returns-in-Wrong : goal.returns-in-Wrong
unfolding sender_of receiver_of next_of
returns-in-Wrong c = record {
  from_value = rw c.in-Wrong.is c.place_of-in-Wrong.ensures;
  to_value =
      rw c.in-Wrong.is c.place_of-in-Wrong-2.ensures;
  next_value = rw c.in-Wrong.is refl;
}
