-- `transcript::lines::output_line` meets its contract: each need is one lemma of proofs/Numbered.antt.
-- Assumes nothing.
use Rattle.transcript.proofs.Numbered.{refusal-put, step-put, counter-put}
use Rattle.transcript.proofs.lines.output_line.Goals as goal

pub returns-then-s-ne-NONE : goal.returns-then-s-ne-NONE
returns-then-s-ne-NONE c = refusal-put _ _ _ _ _ c.if-s-ne-NONE.true c.refusal_line.ensures

pub returns-then-k-s : goal.returns-then-k-s
returns-then-k-s c = step-put _ _ _ _ _ c.if-s-ne-NONE.false c.if-k-s.true c.nth_step.ensures c.step_line.ensures

pub returns : goal.returns
returns c = counter-put _ _ _ _ _ c.if-s-ne-NONE.false c.if-k-s.false c.counter_line.ensures
