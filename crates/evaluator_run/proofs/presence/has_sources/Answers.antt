-- `evaluator_run::presence::has_sources` meets its contract: each way through the code is one law.
-- Assumes nothing.
use mathlib.Core.Path.{ap, refl}
use Rattle.evaluator_step.specs.Laws.Steps.{gives_none, gives_one, gives-two, gives-no-first, gives-no-second}
use Rattle.evaluator_run.specs.Presence.{is_known}
use Rattle.evaluator_run.specs.Laws.Marks.{mark-some, mark-none, has-third}
use Rattle.evaluator_run.proofs.presence.has_sources.Goals as goal

pub returns-then-count-eq0 : goal.returns-then-count-eq0
returns-then-count-eq0 c = ap is_known (gives_none _ _ c.args.s _ c.read_count-count.ensures c.if-count-eq0.true)

pub returns-then-not-has_value : goal.returns-then-not-has_value
returns-then-not-has_value c = ap is_known (gives-no-first _ _ c.args.s _ c.read_count-count.ensures c.if-count-eq0.false (mark-none _ _ _ _ _ c.has_value.ensures c.if-not-has_value.true))

pub returns-then-count-eq1 : goal.returns-then-count-eq1
returns-then-count-eq1 c = ap is_known (gives_one _ _ c.args.s _ c.read_count-count.ensures c.if-count-eq0.false _ (mark-some _ _ _ _ _ c.has_value.ensures c.if-not-has_value.false) c.if-count-eq1.true)

pub returns-then-not-has_value-2 : goal.returns-then-not-has_value-2
returns-then-not-has_value-2 c = ap is_known (gives-no-second _ _ c.args.s _ c.read_count-count.ensures c.if-count-eq0.false _ (mark-some _ _ _ _ _ c.has_value.ensures c.if-not-has_value.false) (mark-none _ _ _ _ _ c.has_value-2.ensures c.if-not-has_value-2.true) c.if-count-eq1.false)

pub returns-then-count-eq2 : goal.returns-then-count-eq2
returns-then-count-eq2 c = ap is_known (gives-two _ _ c.args.s _ c.read_count-count.ensures c.if-count-eq0.false _ _ _ (mark-some _ _ _ _ _ c.has_value.ensures c.if-not-has_value.false) (mark-some _ _ _ _ _ c.has_value-2.ensures c.if-not-has_value-2.false) c.if-count-eq2.true refl)

pub returns : goal.returns
returns c = has-third _ _ _ c.args.s _ c.read_count-count.ensures c.if-count-eq0.false (mark-some _ _ _ _ _ c.has_value.ensures c.if-not-has_value.false) (mark-some _ _ _ _ _ c.has_value-2.ensures c.if-not-has_value-2.false) c.if-count-eq1.false c.if-count-eq2.false _ c.has_value-3.ensures
