-- `starkinfo_codegen::out::first_out` meets its contract: each need is one lemma of proofs/Outs.antt. The measure is the node.
-- Assumes nothing.
use Rattle.starkinfo_codegen.proofs.Calls.{rank}
use Rattle.starkinfo_codegen.proofs.out.+first_out.Given as goal

abbrev pub decreases-first_out : goal.decreases-first_out
decreases-first_out l = rank l.i
