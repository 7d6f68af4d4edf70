-- The identifiers of a body as an array (document 01, "Frames, read from the end").
use Rattle.std.specs.Prelude.{List, ℕ, ◌/◌, min, length}
use Rattle.limits.specs.Limits.{most_bases}
use Rattle.lists.specs.Lists.{pad_to}
use Rattle.frame.specs.Reading.{identifiers}
pub mod Laws

-- the identifiers of a body in an array of their room; of a longer stretch its first ones
unfoldable pub id_array : List ℕ → List ℕ
id_array s = pad_to most_bases (identifiers (min most_bases (length s / 4)) s)
