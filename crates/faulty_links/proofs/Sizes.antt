-- What owning the faulty links tells of their array: in memory it has the length of its type.
use mathlib.Core.Path.{◌≡◌}
use mathlib.Core.List.{List}
use lib.ListN.{length, length-map}
use denote.Laws.{Is}
use mir.Val.{Val}
use Rattle.faulty_links.specs.declared.Faulty.{Faulty}
use Rattle.faulty_links.specs.Faulty.{faulty_room}
use Rattle.faulty_links.specs.contracts.Faulty as F

pub faulty_sized : (f : Faulty) (vs : List Val) → Is F.the_row f vs → length f.pairs ≡ faulty_room
faulty_sized f vs p = p.1.1.1.0.1.0.1
