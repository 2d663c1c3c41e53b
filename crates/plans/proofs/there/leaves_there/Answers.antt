-- `plans::there::leaves_there` meets its contract: what the nodes before i read is there. Assumes nothing.
use mathlib.Core.Path.{refl}
use native.Mathlib.Omega.{arith}
use Rattle.plans.specs.Agreement.{node_there, leaves_there}
use Rattle.plans.specs.Every.{every-next, every-fails, every-ends}
use Rattle.plans.specs.Places.{node-same}
use Rattle.plans.proofs.there.leaves_there.Goals as goal

pub loop-i-init : goal.loop-i-init
loop-i-init c = (omega arith, refl)

pub kind_at-requires : goal.kind_at-requires
kind_at-requires c = omega (arith, c.requires, c.loop-i-test.true)

pub id-requires : goal.id-requires
id-requires c = omega (arith, c.requires, c.loop-i-test.true)

pub leaf_there-requires : goal.leaf_there-requires
leaf_there-requires c = tt

pub returns-then-not-leaf_there : goal.returns-then-not-leaf_there
unfolding leaves_there
returns-then-not-leaf_there c = every-fails (node_there c.args.nodes.now c.args.cms c.args.qs) _ c.loop-i.i c.loop-i-test.true (node-same c.args.nodes.now c.args.cms c.args.qs c.loop-i.i c.kind_at.ensures c.id.ensures c.leaf_there.ensures c.if-not-leaf_there.true)

pub loop-i-smaller : goal.loop-i-smaller
loop-i-smaller c = omega (arith, c.loop-i-test.true)

pub loop-i-preserved : goal.loop-i-preserved
loop-i-preserved c = (omega (arith, c.loop-i-test.true), every-next (node_there c.args.nodes.now c.args.cms c.args.qs) c.loop-i.i c.loop-i.invariant.1 (node-same c.args.nodes.now c.args.cms c.args.qs c.loop-i.i c.kind_at.ensures c.id.ensures c.leaf_there.ensures c.if-not-leaf_there.false))

pub returns : goal.returns
unfolding leaves_there
returns c = every-ends (node_there c.args.nodes.now c.args.cms c.args.qs) c.loop-i.invariant.0 (omega (arith, c.loop-i-test.false)) c.loop-i.invariant.1
