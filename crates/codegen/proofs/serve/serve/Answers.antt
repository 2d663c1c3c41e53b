-- `codegen::serve::serve` meets its contract: each need is one lemma of proofs/Judges.antt.
-- Assumes nothing.
use Rattle.std.proofs.lemmas.Result.{err_from_is_err_and}
use Rattle.requests.specs.Reads.{of-slice, whole-asked}
use Rattle.codegen.proofs.Judges.{refused-served, read-served}
use Rattle.codegen.proofs.serve.serve.Goals as goal

pub serve_read-requires : goal.serve_read-requires
serve_read-requires c = whole-asked (of-slice c.fill.ensures) c.in_ok-c.was

pub returns : goal.returns
returns c = read-served (of-slice c.fill.ensures) _ _ _ c.in_ok-c.was c.serve_read.ensures

pub returns-in_err-c : goal.returns-in_err-c
returns-in_err-c c = let p = err_from_is_err_and c.from_residual.result c.from_residual.ensures.1 in rw (p.1, p.2) (refused-served (of-slice c.fill.ensures) _ _ _ c.in_err-c.was)
