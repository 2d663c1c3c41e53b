-- `starkinfo_codegen::count::block_size` meets its contract: each need is one lemma of proofs/Blocks.antt.
-- Assumes nothing.
use native.Mathlib.Omega.{arith}
use Rattle.starkinfo_codegen.proofs.Blocks.{size-asks, size-of}
use Rattle.starkinfo_codegen.proofs.count.block_size.Goals as goal

pub count_steps-requires : goal.count_steps-requires
count_steps-requires c = (c.requires.0, size-asks c.args.nodes.now c.requires.0 c.args.fused c.args.root c.requires.1 c.requires.2)

pub returns : goal.returns
returns c = λ b p h. size-of c.args.nodes.now b c.args.fused c.args.root p h (c.count_steps.ensures b (size-asks c.args.nodes.now b c.args.fused c.args.root p h)) (λ z. omega (arith, z, c.max.ensures)) (λ z. omega (arith, z, c.max.ensures))
