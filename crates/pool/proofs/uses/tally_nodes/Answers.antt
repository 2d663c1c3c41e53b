-- `pool::uses::tally_nodes` meets its contract: the children of the nodes below i are tallied. Assumes nothing.
use native.Mathlib.Omega.{arith}
use Rattle.pool.specs.Shapes.{child_uses_in}
use Rattle.pool.proofs.Tally.{nodes-none, nodes-more, all-tallied}
use Rattle.pool.proofs.uses.tally_nodes.Goals as goal

pub loop-i-init : goal.loop-i-init
loop-i-init c = (omega arith, nodes-none _ _)

pub tally_children-requires : goal.tally_children-requires
tally_children-requires c = omega arith

pub loop-i-smaller : goal.loop-i-smaller
loop-i-smaller c = omega arith

pub loop-i-preserved : goal.loop-i-preserved
loop-i-preserved c = (omega arith, nodes-more _ _ c.loop-i.invariant.1 c.tally_children.ensures)

pub returns : goal.returns
returns c = all-tallied (child_uses_in _) c.loop-i.invariant.0 c.loop-i-test.false c.loop-i.invariant.1
