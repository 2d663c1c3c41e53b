-- `pool::cycle::mark` meets its contract. Assumes nothing.
use Rattle.pool.proofs.Spread.{reach-new, reach-old}
use Rattle.pool.proofs.cycle.mark.Goals as goal

pub returns-then-marks-v-eq0 : goal.returns-then-marks-v-eq0
returns-then-marks-v-eq0 c = reach-new c.args.marks.now c.args.v c.if-marks-v-eq0.true

pub returns-else-marks-v-eq0 : goal.returns-else-marks-v-eq0
returns-else-marks-v-eq0 c = reach-old c.args.marks.now c.args.v c.if-marks-v-eq0.false
