-- What owning a link or a base tells of the lengths of its arrays: in memory they are those of the types. A proof of a function that is
-- handed a record cites `base_sized` at what it knows of that parameter.
use Prim.Native.Nat.{ℕ, zero, suc, ◌<◌}
use mathlib.Core.Path.{◌≡◌}
use mathlib.Core.List.{List, [], ◌∷◌, map}
use native.Mathlib.Omega.{arith}
use lib.ListN.{length, get_or, length-map}
use denote.Array.{each}
use denote.Laws.{Is}
use denote.Shadow.{shadow}
use mir.Val.{Val}
use Rattle.limits.specs.Limits.{most_links}
use Rattle.protocol.specs.declared.Link.{Link}
use Rattle.protocol.specs.declared.Base.{Base}
use Rattle.protocol.specs.Record.{link_at}
use Rattle.protocol.specs.Record.Memory.{SizedLink, Sized}
use Rattle.protocol.specs.contracts.Link as L
use Rattle.protocol.specs.contracts.Base as B

pub link_sized : (l : Link) (vs : List Val) → Is L.the_row l vs → SizedLink l
link_sized l vs p = record { verifies = p.1.1.1.0.1.0.1; list = p.1.1.1.1.0.1.0.1 }

links_sized : (ls : List Link) (us : List Val)
    → shadow (each (L.the_row).Denot (L.the_row).own_val ls us) → (i : ℕ) (d : Link) → i < length ls
    → SizedLink (get_or ls i d)
links_sized [] us p i d h = absurd (omega arith)
links_sized (l ∷ ls) [] p i d h = absurd p
links_sized (l ∷ ls) (u ∷ us) p zero d h = link_sized l (u ∷ []) p.0
links_sized (l ∷ ls) (u ∷ us) p (suc i) d h = links_sized ls us p.1 i d (omega arith)

pub base_sized : (b : Base) (vs : List Val) → Is B.the_row b vs → Sized b
unfolding link_at
base_sized b vs p =
    let q = p.1.1.1.1.1.1.1.1.0 in
    let all : length b.links ≡ most_links = q.1.0.1 in
    record {
      final = p.1.1.1.1.1.1.1.0.1.0.1;
      links = all;
      each = λ i h. links_sized b.links q.0 q.1.1 i _ (omega arith);
    }
