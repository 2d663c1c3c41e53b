-- `requests::run::run` meets its contract: each need is one law of specs/Reads.antt.
-- Assumes nothing.
use Rattle.std.proofs.lemmas.Result.{err_from_is_err_and}
use Rattle.requests.specs.Reads.{of-slice, whole-asked, refused-run, ran-run}
use Rattle.requests.proofs.run.run.Goals as goal

pub whole_run-requires : goal.whole_run-requires
whole_run-requires c = whole-asked (of-slice c.fill.ensures) c.in_ok-c.was

pub returns : goal.returns
returns c = ran-run (of-slice c.fill.ensures) c.in_ok-c.was _ _ _ c.whole_run.ensures

pub returns-in_err-c : goal.returns-in_err-c
returns-in_err-c c = let p = err_from_is_err_and c.from_residual.result c.from_residual.ensures.1 in rw (p.1, p.2) (refused-run (of-slice c.fill.ensures) c.in_err-c.was _)
