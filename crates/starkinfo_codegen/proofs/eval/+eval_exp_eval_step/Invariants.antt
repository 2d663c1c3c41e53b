-- `starkinfo_codegen::eval::eval_exp` and `eval_step` meet their contracts: each need is one lemma of proofs/Emits.antt. The measure is the node.
-- Assumes nothing.
use Prim.Native.Nat.{◌+◌, ◌*◌}
use Rattle.starkinfo_codegen.proofs.Calls.{rank}
use Rattle.starkinfo_codegen.proofs.eval.+eval_exp_eval_step.Given as goal

abbrev pub decreases-eval_exp : goal.decreases-eval_exp
decreases-eval_exp l = 2 * rank l.i + 1

abbrev pub decreases-eval_step : goal.decreases-eval_step
decreases-eval_step l = 2 * rank l.i
