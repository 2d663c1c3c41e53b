-- `map_records::lookups::map_lookups` meets its contract: the first i pu are mapped. Assumes nothing.
use mathlib.Core.Path.{sym, ◌∙◌}
use native.Mathlib.Omega.{arith}
use Rattle.pool.specs.Tabled.{tabled}
use Rattle.pool.specs.Ranking.{Tabling}
use Rattle.map_records.specs.Mapping.{lookups}
use Rattle.map_records.proofs.Pairs.{state-at, begun-at}
use Rattle.map_records.proofs.lookups.map_lookups.Goals as goal

pub pu_count-count-requires : goal.pu_count-count-requires
pu_count-count-requires c = c.requires.4.ready.planned.whole.0

pub loop-i-init : goal.loop-i-init
loop-i-init c = (omega arith, λ l k m rank a. a.state)

pub map_lookup-n-requires : goal.map_lookup-n-requires
map_lookup-n-requires c = (omega (arith, c.loop-i-test.true, c.pu_count-count.ensures.is), (c.requires.0, c.requires.1, c.requires.2, c.requires.3, begun-at c.requires.4 (c.loop-i.invariant.1 c.requires.0 c.requires.1 c.requires.2 c.requires.3 c.requires.4)))

pub loop-i-smaller : goal.loop-i-smaller
loop-i-smaller c = omega (arith, c.loop-i-test.true)

pub loop-i-preserved : goal.loop-i-preserved
loop-i-preserved c = (omega (arith, c.loop-i-test.true, c.pu_count-count.ensures.is), λ l k m rank a. c.map_lookup-n.ensures l k m rank (begun-at a (c.loop-i.invariant.1 l k m rank a)))

pub shape_of-cmdims : goal.shape_of-cmdims
shape_of-cmdims c = (c.loop-i.invariant.1 c.requires.0 c.requires.1 c.requires.2 c.requires.3 c.requires.4).holds.cm_size ∙ sym c.requires.4.state.holds.cm_size

pub shape_of-seen : goal.shape_of-seen
shape_of-seen c = (c.loop-i.invariant.1 c.requires.0 c.requires.1 c.requires.2 c.requires.3 c.requires.4).tells.full ∙ sym c.requires.4.state.tells.full

pub returns : goal.returns
returns c = λ l k m rank a. state-at (lookups c.args.plan.now (tabled (Tabling c.args.nodes.now l c.args.expressions.now k m))) (c.loop-i.invariant.1 l k m rank a) (omega (arith, c.loop-i-test.false, c.loop-i.invariant.0, c.pu_count-count.ensures.is))
