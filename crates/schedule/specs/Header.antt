-- Numbers by which a line of a schedule's header is turned down. Those of `net n t`, 1 and 2, are `size_refusal` of `limits`.
use Rattle.std.specs.Prelude.{ℕ, zero, suc, Bool, false, List, eqb, leb, length}
use Rattle.limits.specs.Limits.{most_bases}
use Rattle.limits.specs.Refusals.{own_refusal}
use Rattle.lists.specs.Choice.{choose, or, first}
use Rattle.protocol.specs.Net.{Net, Pair}

-- ---- `id b v`
-- whether one of the bases 1 to k has the identifier v
unfoldable pub owned : ℕ → Net → ℕ → Bool
owned zero W v = false
owned (suc k) W v = or (eqb (W.base (suc k)).own v) (owned k W v)

-- 3, then 14. Two bases have one identifier.
unfoldable pub id_refusal : Net → ℕ → ℕ
id_refusal W v =
    first (own_refusal v)
    (choose (owned most_bases W v) 14
    0)

-- ---- `faulty a b`
-- 15. More than t links are named faulty: where t are named already, one more is too many.
unfoldable pub faulty_refusal : ℕ → List Pair → ℕ
faulty_refusal t faulty = choose (leb t (length faulty)) 15 0
