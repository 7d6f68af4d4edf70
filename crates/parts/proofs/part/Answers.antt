-- A start behind the end leaves nothing; a part that reaches the end is what is left.
use mathlib.Core.Path.{◌≡◌, sym, ap, ◌∙◌}
use mathlib.Core.List.{List, []}
use Prim.Native.Nat.{ℕ, ◌+◌, ◌-◌, ◌≤◌}
use lib.ListN.{length, take, drop, length-drop, drop_of_length-le}
use lib.Seq.{take_all, take-nil}
use native.Mathlib.Omega.{arith}
use Rattle.parts.proofs.part.Goals as goal

nothing_left : (s : List ℕ) (from len : ℕ) → length s ≤ from → take len (drop from s) ≡ []
nothing_left s from len h = ap (take len) (drop_of_length-le s h) ∙ take-nil len

all_left : (s : List ℕ) (from len : ℕ) → length s - from ≤ len → take (length s - from) (drop from s) ≡ take len (drop from s)
all_left s from len h =
    let d : length (drop from s) ≡ length s - from = length-drop from s in
    take_all (length s - from) (drop from s) (omega arith) ∙ sym (take_all len (drop from s) (omega arith))

so_many : (s : List ℕ) (from len : ℕ) → take (from + len - from) (drop from s) ≡ take len (drop from s)
so_many s from len =
    let k : from + len - from ≡ len = omega arith in
    ap (λ (i : ℕ). take i (drop from s)) k

pub returns-then-s-from : goal.returns-then-s-from
returns-then-s-from c =
    let a = c.args in
    sym (nothing_left a.s.now a.from a.len (omega arith))

pub returns-then-rest-len : goal.returns-then-rest-len
returns-then-rest-len c =
    let a = c.args in
    all_left a.s.now a.from a.len (omega arith)

pub returns : goal.returns
returns c =
    let a = c.args in
    so_many a.s.now a.from a.len
