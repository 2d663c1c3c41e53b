-- `step_dimensions::step::note_step` meets its contract.
-- Assumes nothing.
use Rattle.step_dimensions.specs.Laws.Steps.{noted-temporary, noted_other}
use Rattle.step_dimensions.proofs.step.note_step.Goals as goal

pub returns-then-dest-eq-TMP : goal.returns-then-dest-eq-TMP
returns-then-dest-eq-TMP c = noted-temporary _ c.args.s c.if-dest-eq-TMP.true

pub returns-else-dest-eq-TMP : goal.returns-else-dest-eq-TMP
returns-else-dest-eq-TMP c = noted_other _ c.args.s c.if-dest-eq-TMP.false
