-- `starkinfo_codegen::block::block` meets its contract: each need is one lemma of proofs/Blocks.antt.
-- Assumes nothing.
use native.Mathlib.Omega.{arith}
use mathlib.Core.Path.{refl}
use Rattle.starkinfo_codegen.proofs.Blocks.{eval-asks, leaf-asks, copy_gives, last-room, dest-room, into_gives}
use Rattle.starkinfo_codegen.proofs.block.block.Goals as goal

pub eval_step-steps-requires : goal.eval_step-steps-requires
eval_step-steps-requires c = ((c.requires.0, eval-asks c.args.nodes.now c.requires.0 c.args.fused c.args.row c.args.t c.args.root c.args.e c.requires.1), (leaf-asks c.args.nodes.now c.requires.0 c.args.fused c.args.row c.args.t c.args.root c.args.e c.requires.1).0)

pub returns-then-steps-eq0 : goal.returns-then-steps-eq0
returns-then-steps-eq0 c = λ b a. copy_gives c.args.nodes.now b c.args.fused c.args.row c.args.t c.args.root c.args.e a (c.eval_step-steps.ensures b (eval-asks c.args.nodes.now b c.args.fused c.args.row c.args.t c.args.root c.args.e a)) c.if-steps-eq0.true c.leaf_reference-leaf.ensures c.plain-cell.ensures c.copy_step.ensures c.put_nth_step.ensures

pub overflow_add-last : goal.overflow_add-last
overflow_add-last c = let k = last-room c.args.nodes.now c.requires.0 c.args.fused c.args.row c.args.t c.args.root c.args.e c.requires.1 (c.eval_step-steps.ensures c.requires.0 (eval-asks c.args.nodes.now c.requires.0 c.args.fused c.args.row c.args.t c.args.root c.args.e c.requires.1)) c.if-steps-eq0.false refl in omega (arith, k.0, k.1)

pub overflow_mul-last : goal.overflow_mul-last
overflow_mul-last c = let k = last-room c.args.nodes.now c.requires.0 c.args.fused c.args.row c.args.t c.args.root c.args.e c.requires.1 (c.eval_step-steps.ensures c.requires.0 (eval-asks c.args.nodes.now c.requires.0 c.args.fused c.args.row c.args.t c.args.root c.args.e c.requires.1)) c.if-steps-eq0.false c.eval_step-steps.auto.list in omega (arith, k.0, k.1)

pub overflow_add-last-2 : goal.overflow_add-last-2
overflow_add-last-2 c = let k = last-room c.args.nodes.now c.requires.0 c.args.fused c.args.row c.args.t c.args.root c.args.e c.requires.1 (c.eval_step-steps.ensures c.requires.0 (eval-asks c.args.nodes.now c.requires.0 c.args.fused c.args.row c.args.t c.args.root c.args.e c.requires.1)) c.if-steps-eq0.false c.eval_step-steps.auto.list in omega (arith, k.0, k.1)

pub put_reference-requires : goal.put_reference-requires
put_reference-requires c = dest-room c.args.nodes.now c.requires.0 c.args.fused c.args.row c.args.t c.args.root c.args.e c.requires.1 (c.eval_step-steps.ensures c.requires.0 (eval-asks c.args.nodes.now c.requires.0 c.args.fused c.args.row c.args.t c.args.root c.args.e c.requires.1)) c.if-steps-eq0.false c.eval_step-steps.auto.list

pub returns : goal.returns
returns c = λ b a. into_gives c.args.nodes.now b c.args.fused c.args.row c.args.t c.args.root c.args.e a (c.eval_step-steps.ensures b (eval-asks c.args.nodes.now b c.args.fused c.args.row c.args.t c.args.root c.args.e a)) c.if-steps-eq0.false refl c.plain-cell.ensures c.put_reference.ensures
