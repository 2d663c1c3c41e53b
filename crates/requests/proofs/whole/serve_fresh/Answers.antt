-- `requests::whole::serve_fresh` meets its contract: each need is one lemma of proofs/Wholes.antt.
-- Assumes nothing.
use mathlib.Core.Path.{refl}
use Rattle.std.proofs.lemmas.Result.{err_from_is_err_and}
use Rattle.requests.proofs.Wholes.{replicate-zero, generate-asks, stopped, some-steps, made}
use Rattle.requests.proofs.whole.serve_fresh.Goals as goal

pub generate-requires : goal.generate-requires
generate-requires c = (c.requires.0, c.requires.1, generate-asks _ _ c.requires.0 c.requires.1 c.requires.2 refl refl)

pub overflow_sub-result : goal.overflow_sub-result
overflow_sub-result c = some-steps _ _ c.requires.0 c.requires.1 c.requires.2 _ (replicate-zero 1024) _ _ _ _ _ c.generate.result (c.generate.ensures c.requires.0 c.requires.1 (generate-asks _ _ c.requires.0 c.requires.1 c.requires.2 refl refl)) c.in_ok-made.was

pub returns : goal.returns
returns c = λ b A a. made _ _ b A a _ (replicate-zero 1024) _ _ _ _ _ c.generate.result (c.generate.ensures b A (generate-asks _ _ b A a refl refl)) c.in_ok-made.was

pub returns-in_err-made : goal.returns-in_err-made
returns-in_err-made c = λ b A a. let p = err_from_is_err_and c.from_residual.result c.from_residual.ensures.1 in rw (p.1, p.2) (stopped _ _ b A a _ (replicate-zero 1024) _ _ _ _ _ c.generate.result (c.generate.ensures b A (generate-asks _ _ b A a refl refl)) c.in_err-made.was)
