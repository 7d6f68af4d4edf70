-- `net::made::idle_nodes` meets its contract. Invariant: the first i nodes are those of the first i identifiers.
use Prim.Native.Nat.{◌-◌}
use mathlib.Core.Path.{◌≡◌, refl, ◌∙◌}
use native.Mathlib.Omega.{arith}
use lib.ListN.{length, length-replicate, length-set}
use Rattle.limits.specs.Limits.{most_bases}
use Rattle.node.specs.declared.Node.{Node}
use Rattle.net.specs.Header.{idle_node}
use Rattle.net.specs.Header.Filled.{filled_more, filled_all}
use Rattle.net.proofs.made.idle_nodes.Goals as goal

pub loop-i-init : goal.loop-i-init
loop-i-init c = (omega arith, (length-replicate {A = Node} most_bases c.empty_node-first.result, refl))

pub loop-i-preserved : goal.loop-i-preserved
loop-i-preserved c =
    let z : length c.args.ids ≡ most_bases = c.well_formed.1.1.0.1.0.1 in (
      omega (arith, c.loop-i-test.true),
      (
        length-set c.loop-i.nodes c.loop-i.i c.idle_node-node.result ∙ c.loop-i.invariant.1.0,
        filled_more (idle_node c.args.n c.args.t) c.args.ids c.loop-i.nodes c.loop-i.i 0
            (omega (arith, z, c.loop-i-test.true)) (omega (arith, c.loop-i.invariant.1.0, c.loop-i-test.true))
            c.loop-i.invariant.1.1 c.idle_node-node.ensures,
      ),
    )

pub returns : goal.returns
returns c =
    let z : length c.args.ids ≡ most_bases = c.well_formed.1.1.0.1.0.1 in
    filled_all (idle_node c.args.n c.args.t) c.args.ids c.loop-i.nodes c.loop-i.i
    (omega (arith, z, c.loop-i-test.false)) (omega (arith, c.loop-i.invariant.1.0, c.loop-i-test.false)) c.loop-i.invariant.1.1
