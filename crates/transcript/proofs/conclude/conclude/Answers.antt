-- `transcript::conclude::conclude` meets its contract: each need is one lemma of proofs/Concludes.antt.
-- Assumes nothing.
use Rattle.std.proofs.lemmas.Result.{err_from_is_err_and}
use Rattle.requests.specs.Reads.{of-text, whole-asked}
use Rattle.transcript.proofs.Concludes.{unread, ran}
use Rattle.transcript.proofs.conclude.conclude.Goals as goal

pub whole_run-requires : goal.whole_run-requires
whole_run-requires c = whole-asked (of-text (c.finish.ensures c.requires.0 c.requires.1)) c.in_ok-c.was

pub returns : goal.returns
returns c = λ t f. ran t (of-text (c.finish.ensures t f)) c.in_ok-c.was _ _ _ c.whole_run.ensures

pub returns-in_err-c : goal.returns-in_err-c
returns-in_err-c c = λ t f. let p = err_from_is_err_and c.from_residual.result c.from_residual.ensures.1 in rw (p.1, p.2) (unread t (of-text (c.finish.ensures t f)) c.in_err-c.was _)
