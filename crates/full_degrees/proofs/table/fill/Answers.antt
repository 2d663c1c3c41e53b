-- `full_degrees::table::fill` meets its contract: up to node i the table is right. Assumes nothing.
use native.Mathlib.Omega.{arith}
use Rattle.full_degrees.proofs.Nodes.{upto-none, upto-asks, upto-more, upto_all}
use Rattle.full_degrees.proofs.table.fill.Goals as goal

pub loop-i-init : goal.loop-i-init
loop-i-init c = (omega arith, λ l rank a. upto-none a c.requires.0)

pub tree_degree-requires : goal.tree_degree-requires
tree_degree-requires c = let P = c.requires.1 in (P.0, c.args.n, c.args.m, P.1, upto-asks P.2 (c.loop-i.invariant.1 P.0 P.1 P.2) c.loop-i-test.true)

pub loop-i-smaller : goal.loop-i-smaller
loop-i-smaller c = omega (arith, c.loop-i-test.true)

pub loop-i-preserved : goal.loop-i-preserved
loop-i-preserved c = (omega (arith, c.loop-i-test.true), λ l rank a. upto-more a (c.loop-i.invariant.1 l rank a) c.loop-i-test.true (c.tree_degree.ensures l c.args.n c.args.m rank (upto-asks a (c.loop-i.invariant.1 l rank a) c.loop-i-test.true)))

pub returns : goal.returns
returns c = λ l rank a. upto_all a (c.loop-i.invariant.1 l rank a) c.loop-i-test.false
