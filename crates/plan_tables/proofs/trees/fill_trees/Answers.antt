-- `plan_tables::trees::fill_trees` meets its contract: the trees of the records before k are listed. Assumes nothing.
use native.Mathlib.Omega.{arith}
use Rattle.plan_tables.specs.Listed.{listed-none}
use Rattle.plan_tables.proofs.Treed.{trees-room, trees-next, trees-all}
use Rattle.plan_tables.proofs.trees.fill_trees.Goals as goal

pub loop-k-init : goal.loop-k-init
loop-k-init c = (omega arith, listed-none c.args.trees.now)

pub offset_bounds-sections-k : goal.offset_bounds-sections-k
offset_bounds-sections-k c = omega (arith, c.requires.0, c.requires.1, c.loop-k-test.true)

pub bounds-sections-k : goal.bounds-sections-k
bounds-sections-k c = omega (arith, c.requires.0, c.requires.1, c.loop-k-test.true)

pub offset_bounds-positions-k : goal.offset_bounds-positions-k
offset_bounds-positions-k c = omega (arith, c.requires.0, c.requires.1, c.loop-k-test.true)

pub bounds-positions-k : goal.bounds-positions-k
bounds-positions-k c = omega (arith, c.requires.0, c.requires.1, c.loop-k-test.true)

pub offset_bounds-dims-k : goal.offset_bounds-dims-k
offset_bounds-dims-k c = omega (arith, c.requires.0, c.requires.1, c.loop-k-test.true)

pub bounds-dims-k : goal.bounds-dims-k
bounds-dims-k c = omega (arith, c.requires.0, c.requires.1, c.loop-k-test.true)

pub put_tree-n-requires : goal.put_tree-n-requires
put_tree-n-requires c = omega (arith, trees-room c.args.sections.now c.args.dims.now c.args.positions.now c.args.count (omega (arith, c.requires.0, c.requires.1)) c.loop-k.invariant.1 c.loop-k-test.true, c.requires.1, c.loop-k-test.true)

pub loop-k-smaller : goal.loop-k-smaller
loop-k-smaller c = omega (arith, c.requires.0, c.requires.1, c.loop-k-test.true)

pub loop-k-preserved : goal.loop-k-preserved
loop-k-preserved c = (omega (arith, c.loop-k-test.true), trees-next c.args.sections.now c.args.dims.now c.args.positions.now c.args.count (omega (arith, c.requires.0, c.requires.1)) c.loop-k.invariant.1 c.loop-k-test.true c.put_tree-n.ensures)

pub returns : goal.returns
returns c = trees-all c.args.sections.now c.args.dims.now c.args.positions.now c.args.count (omega (arith, c.requires.0, c.requires.1)) c.loop-k.k c.loop-k.invariant.1 (omega (arith, c.loop-k-test.false, c.loop-k.invariant.0))
