-- `dimensions::pass::decide_list` meets its contract: the records before k have their dimensions, and left the temporaries as they stand.
-- Assumes nothing.
use mathlib.Core.Path.{refl, ◌∙◌, ap}
use native.Mathlib.Omega.{arith}
use Rattle.kinds.specs.AnswerLaws.{passed-on}
use Rattle.lists.specs.Laws.{record_in}
use Rattle.dimensions.specs.Answers.{decided_says}
use Rattle.dimensions.specs.Laws.Passes.{decide-begin, decide-next, decide-stop, decide-end}
use Rattle.dimensions.proofs.pass.decide_list.Goals as goal

pub loop-k-init : goal.loop-k-init
loop-k-init c = decide-begin _ _ _

pub decide_step-requires : goal.decide_step-requires
decide_step-requires c = record_in c.args.list.now c.loop-k.k c.loop-k-test.true

pub returns-in_err-decide_step : goal.returns-in_err-decide_step
returns-in_err-decide_step c = ap (λ r. decided_says r c.decide_step.new.temporaries) (passed-on _ c.from_residual.ensures.1) ∙ decide-stop _ _ _ _ _ c.loop-k.invariant _ refl c.decide_step.result _ c.decide_step.ensures _ c.in_err-decide_step.was c.loop-k-test.true

pub loop-k-preserved : goal.loop-k-preserved
loop-k-preserved c = decide-next _ _ _ _ _ c.loop-k.invariant _ refl c.decide_step.result _ c.decide_step.ensures c.in_ok-decide_step.was

pub returns : goal.returns
returns c = decide-end _ _ _ _ _ c.loop-k.invariant c.loop-k.auto.k-end (omega arith)
