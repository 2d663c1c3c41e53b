-- `evaluator_step::step::read_count` meets its contract.
-- Assumes nothing.
use Rattle.evaluator_step.specs.Laws.Steps.{count-needed, count-few}
use Rattle.evaluator_step.proofs.step.read_count.Goals as goal

pub returns-then-needed-s : goal.returns-then-needed-s
returns-then-needed-s c = count-needed c.args.s _ c.sources_needed-needed.ensures c.if-needed-s.true

pub returns : goal.returns
returns c = count-few c.args.s _ c.sources_needed-needed.ensures c.if-needed-s.false
