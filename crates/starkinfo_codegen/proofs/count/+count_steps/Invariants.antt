-- `starkinfo_codegen::count::count_steps` meets its contract: each need is one lemma of proofs/Calls.antt. The measure is the node.
-- Assumes nothing.
use Rattle.starkinfo_codegen.proofs.Calls.{rank}
use Rattle.starkinfo_codegen.proofs.count.+count_steps.Given as goal

abbrev pub decreases-count_steps : goal.decreases-count_steps
decreases-count_steps l = rank l.i
