-- What owning an array of u32 tells of its elements.
use Prim.Native.Nat.{ℕ, zero, suc, ◌^◌}
use mathlib.Core.List.{List, [], ◌∷◌}
use native.Mathlib.Omega.{arith}
use denote.Array.{each}
use denote.Builtin.{u32}
use denote.Shadow.{shadow}
use mir.Val.{Val}
use Rattle.lists.specs.Lists.{Below}

pub array_words : (xs : List ℕ) (us : List Val) → shadow (each u32.Denot u32.own_val xs us) → Below (2 ^ 32) xs
array_words [] us p i = omega arith
array_words (x ∷ xs) [] p i = absurd p
array_words (x ∷ xs) (u ∷ us) p zero = p.0.1
array_words (x ∷ xs) (u ∷ us) p (suc i) = array_words xs us p.1 i
