-- `planning::records::some_none` meets its contract: no record before i is without a dimension. Assumes nothing.
use mathlib.Core.Path.{sym}
use native.Mathlib.Omega.{arith}
use Rattle.planning.proofs.Tables.{none_first, none-next, some-none-at, none-ends}
use Rattle.planning.proofs.records.some_none.Goals as goal

pub loop-i-init : goal.loop-i-init
loop-i-init c = (omega arith, none_first c.args.dims.now)

pub offset_bounds-dims-i : goal.offset_bounds-dims-i
offset_bounds-dims-i c = omega (arith, c.requires.0, c.requires.1, c.loop-i-test.true)

pub bounds-dims-i : goal.bounds-dims-i
bounds-dims-i c = omega (arith, c.requires.0, c.requires.1, c.loop-i-test.true)

pub returns-then-dims-i-eq0 : goal.returns-then-dims-i-eq0
returns-then-dims-i-eq0 c = sym (some-none-at c.args.dims.now c.loop-i.i _ c.loop-i-test.true (omega (arith, c.requires.0, c.requires.1, c.loop-i-test.true)) c.if-dims-i-eq0.true)

pub loop-i-smaller : goal.loop-i-smaller
loop-i-smaller c = omega (arith, c.loop-i-test.true)

pub loop-i-preserved : goal.loop-i-preserved
loop-i-preserved c = (omega (arith, c.loop-i-test.true), none-next c.args.dims.now c.loop-i.i (omega (arith, c.requires.0, c.requires.1, c.loop-i-test.true)) c.loop-i.invariant.1 c.if-dims-i-eq0.false)

pub returns : goal.returns
returns c = none-ends c.args.dims.now c.loop-i.invariant.0 (omega (arith, c.loop-i-test.false)) c.loop-i.invariant.1
