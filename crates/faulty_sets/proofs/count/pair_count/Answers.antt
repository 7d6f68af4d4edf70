-- `faulty_sets::count::pair_count` meets its contract: of a small net the product is small.
use native.Mathlib.Omega.{arith}
use Rattle.faulty_sets.specs.Small.Laws.{products_few}
use Rattle.faulty_sets.proofs.count.pair_count.Goals as goal

pub overflow_mul-result : goal.overflow_mul-result
overflow_mul-result c = omega (arith, products_few c.args.n c.requires.1)
