-- `degree_search::candidate::tick_all` meets its contract: k of n times are done. Assumes nothing.
use native.Mathlib.Omega.{arith}
use Rattle.degree_search.proofs.Folds.{ticking_first, ticked_all, first-over, second-over, ticking_on}
use Rattle.degree_search.proofs.candidate.tick_all.Goals as goal

pub loop-k-init : goal.loop-k-init
loop-k-init c = (omega arith, ticking_first c.args.tally.now c.args.n c.requires)

pub enter-requires : goal.enter-requires
enter-requires c = c.loop-k.invariant.1.held.whole

pub returns-then-not-enter : goal.returns-then-not-enter
returns-then-not-enter c = first-over c.loop-k.invariant.1 c.loop-k-test.true c.enter.ensures c.if-not-enter.true

pub enter-requires-in-loop-k : goal.enter-requires-in-loop-k
enter-requires-in-loop-k c = c.enter.ensures.held.whole

pub returns-then-not-enter-2 : goal.returns-then-not-enter-2
returns-then-not-enter-2 c = second-over c.loop-k.invariant.1 c.loop-k-test.true c.enter.ensures c.if-not-enter.false c.enter-in-loop-k.ensures c.if-not-enter-2.true

pub loop-k-smaller : goal.loop-k-smaller
loop-k-smaller c = omega (arith, c.loop-k-test.true)

pub loop-k-preserved : goal.loop-k-preserved
loop-k-preserved c = (omega (arith, c.loop-k-test.true), ticking_on c.loop-k.invariant.1 c.loop-k-test.true c.enter.ensures c.if-not-enter.false c.enter-in-loop-k.ensures c.if-not-enter-2.false)

pub returns : goal.returns
returns c = ticked_all c.loop-k.invariant.1 c.loop-k-test.false
