-- What owning a header tells of its identifiers: in memory the array has the length of its type.
use mathlib.Core.Path.{◌≡◌}
use mathlib.Core.List.{List}
use lib.ListN.{length, length-map}
use denote.Laws.{Is}
use mir.Val.{Val}
use Rattle.net.specs.declared.Header.{Header}
use Rattle.limits.specs.Limits.{most_bases}
use Rattle.net.specs.contracts.Header as H

pub header_sized : (h : Header) (vs : List Val) → Is H.the_row h vs → length h.ids ≡ most_bases
header_sized h vs p = p.1.1.1.1.0.1.0.1
