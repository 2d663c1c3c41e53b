-- `evaluator::evaluate::evaluate` meets its contract: a refusal while reading, or what comes of what was read.
-- Assumes nothing.
use Rattle.std.proofs.lemmas.Result.{err_from_is_err_and}
use Rattle.requests.specs.Reads.{of-slice, whole-asked}
use Rattle.evaluator.specs.Laws.Evaluates.{unread-told, read_told}
use Rattle.evaluator.proofs.evaluate.evaluate.Goals as goal

pub evaluate_read-requires : goal.evaluate_read-requires
evaluate_read-requires c = let a = whole-asked (of-slice c.fill.ensures) c.in_ok-c.was in record { nodes = a.nodes; expressions = a.expressions }

pub returns-in_err-c : goal.returns-in_err-c
returns-in_err-c c = let p = err_from_is_err_and c.from_residual.result c.from_residual.ensures.1 in rw (p.1, p.2) (unread-told (of-slice c.fill.ensures) _ _ _ _ c.in_err-c.was)

pub returns : goal.returns
returns c = read_told (of-slice c.fill.ensures) _ _ _ _ c.in_ok-c.was c.evaluate_read.ensures
