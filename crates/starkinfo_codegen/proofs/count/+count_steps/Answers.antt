-- `starkinfo_codegen::count::count_steps` meets its contract: each need is one lemma of proofs/Calls.antt. The measure is the node.
-- Assumes nothing.
use native.Mathlib.Omega.{arith}
use mathlib.Core.Path.{refl, sym}
use Rattle.starkinfo_codegen.proofs.Calls.{taken-past, operation-asks, leaf-taken, total, falls-first, falls-second, falls-third, count-first, count-second, count-third}
use Rattle.starkinfo_codegen.proofs.count.+count_steps.Goals as goal
use Rattle.starkinfo_codegen.proofs.Reading.{does_step, no_step}

pub returns-then-i-ge-NODE_LIMIT : goal.returns-then-i-ge-NODE_LIMIT
returns-then-i-ge-NODE_LIMIT t c = λ b a. sym (taken-past c.args.nodes.now b c.args.fused c.args.i c.if-i-ge-NODE_LIMIT.true)

pub operation_of-requires : goal.operation_of-requires
operation_of-requires t c = operation-asks c.args.nodes.now c.requires.0 c.args.fused c.requires.1.pool c.args.i c.if-i-ge-NODE_LIMIT.false c.requires.1.there

pub returns-in_default : goal.returns-in_default
returns-in_default t c = λ b a. sym (leaf-taken c.args.nodes.now b c.args.fused a.pool c.args.i c.if-i-ge-NODE_LIMIT.false a.there _ refl (no_step _ _ _ c.operation_of.ensures c.in_default.is))

pub count_steps-a-requires : goal.count_steps-a-requires
count_steps-a-requires t c = (omega (arith, falls-first c.args.nodes.now c.requires.0 c.args.fused c.requires.1.pool c.args.i c.if-i-ge-NODE_LIMIT.false c.requires.1.there _ (does_step _ _ _ c.operation_of.ensures c.in-Some.is).0 (does_step _ _ _ c.operation_of.ensures c.in-Some.is).1), (c.requires.0, count-first c.args.nodes.now c.requires.0 c.args.fused c.args.i c.requires.1 c.if-i-ge-NODE_LIMIT.false _ (does_step _ _ _ c.operation_of.ensures c.in-Some.is).0 (does_step _ _ _ c.operation_of.ensures c.in-Some.is).1))

pub count_steps-b-requires : goal.count_steps-b-requires
count_steps-b-requires t c = (omega (arith, falls-second c.args.nodes.now c.requires.0 c.args.fused c.requires.1.pool c.args.i c.if-i-ge-NODE_LIMIT.false c.requires.1.there _ (does_step _ _ _ c.operation_of.ensures c.in-Some.is).0 (does_step _ _ _ c.operation_of.ensures c.in-Some.is).1), (c.requires.0, count-second c.args.nodes.now c.requires.0 c.args.fused c.args.i c.requires.1 c.if-i-ge-NODE_LIMIT.false _ (does_step _ _ _ c.operation_of.ensures c.in-Some.is).0 (does_step _ _ _ c.operation_of.ensures c.in-Some.is).1))

pub count_steps-c-requires : goal.count_steps-c-requires
count_steps-c-requires t c = (omega (arith, falls-third c.args.nodes.now c.requires.0 c.args.fused c.requires.1.pool c.args.i c.if-i-ge-NODE_LIMIT.false c.requires.1.there _ (does_step _ _ _ c.operation_of.ensures c.in-Some.is).0 (does_step _ _ _ c.operation_of.ensures c.in-Some.is).1), (c.requires.0, count-third c.args.nodes.now c.requires.0 c.args.fused c.args.i c.requires.1 c.if-i-ge-NODE_LIMIT.false _ (does_step _ _ _ c.operation_of.ensures c.in-Some.is).0 (does_step _ _ _ c.operation_of.ensures c.in-Some.is).1))

pub overflow_add-result : goal.overflow_add-result
overflow_add-result t c = omega (arith, c.requires.1.few, total c.args.nodes.now c.requires.0 c.args.fused c.requires.1.pool c.args.i c.if-i-ge-NODE_LIMIT.false c.requires.1.there _ (does_step _ _ _ c.operation_of.ensures c.in-Some.is).0 (does_step _ _ _ c.operation_of.ensures c.in-Some.is).1, c.count_steps-a.ensures c.requires.0 (count-first c.args.nodes.now c.requires.0 c.args.fused c.args.i c.requires.1 c.if-i-ge-NODE_LIMIT.false _ (does_step _ _ _ c.operation_of.ensures c.in-Some.is).0 (does_step _ _ _ c.operation_of.ensures c.in-Some.is).1), c.count_steps-b.ensures c.requires.0 (count-second c.args.nodes.now c.requires.0 c.args.fused c.args.i c.requires.1 c.if-i-ge-NODE_LIMIT.false _ (does_step _ _ _ c.operation_of.ensures c.in-Some.is).0 (does_step _ _ _ c.operation_of.ensures c.in-Some.is).1), c.count_steps-c.ensures c.requires.0 (count-third c.args.nodes.now c.requires.0 c.args.fused c.args.i c.requires.1 c.if-i-ge-NODE_LIMIT.false _ (does_step _ _ _ c.operation_of.ensures c.in-Some.is).0 (does_step _ _ _ c.operation_of.ensures c.in-Some.is).1))

pub overflow_add-result-2 : goal.overflow_add-result-2
overflow_add-result-2 t c = omega (arith, c.requires.1.few, total c.args.nodes.now c.requires.0 c.args.fused c.requires.1.pool c.args.i c.if-i-ge-NODE_LIMIT.false c.requires.1.there _ (does_step _ _ _ c.operation_of.ensures c.in-Some.is).0 (does_step _ _ _ c.operation_of.ensures c.in-Some.is).1, c.count_steps-a.ensures c.requires.0 (count-first c.args.nodes.now c.requires.0 c.args.fused c.args.i c.requires.1 c.if-i-ge-NODE_LIMIT.false _ (does_step _ _ _ c.operation_of.ensures c.in-Some.is).0 (does_step _ _ _ c.operation_of.ensures c.in-Some.is).1), c.count_steps-b.ensures c.requires.0 (count-second c.args.nodes.now c.requires.0 c.args.fused c.args.i c.requires.1 c.if-i-ge-NODE_LIMIT.false _ (does_step _ _ _ c.operation_of.ensures c.in-Some.is).0 (does_step _ _ _ c.operation_of.ensures c.in-Some.is).1), c.count_steps-c.ensures c.requires.0 (count-third c.args.nodes.now c.requires.0 c.args.fused c.args.i c.requires.1 c.if-i-ge-NODE_LIMIT.false _ (does_step _ _ _ c.operation_of.ensures c.in-Some.is).0 (does_step _ _ _ c.operation_of.ensures c.in-Some.is).1))

pub overflow_add-result-3 : goal.overflow_add-result-3
overflow_add-result-3 t c = omega (arith, c.requires.1.few, total c.args.nodes.now c.requires.0 c.args.fused c.requires.1.pool c.args.i c.if-i-ge-NODE_LIMIT.false c.requires.1.there _ (does_step _ _ _ c.operation_of.ensures c.in-Some.is).0 (does_step _ _ _ c.operation_of.ensures c.in-Some.is).1, c.count_steps-a.ensures c.requires.0 (count-first c.args.nodes.now c.requires.0 c.args.fused c.args.i c.requires.1 c.if-i-ge-NODE_LIMIT.false _ (does_step _ _ _ c.operation_of.ensures c.in-Some.is).0 (does_step _ _ _ c.operation_of.ensures c.in-Some.is).1), c.count_steps-b.ensures c.requires.0 (count-second c.args.nodes.now c.requires.0 c.args.fused c.args.i c.requires.1 c.if-i-ge-NODE_LIMIT.false _ (does_step _ _ _ c.operation_of.ensures c.in-Some.is).0 (does_step _ _ _ c.operation_of.ensures c.in-Some.is).1), c.count_steps-c.ensures c.requires.0 (count-third c.args.nodes.now c.requires.0 c.args.fused c.args.i c.requires.1 c.if-i-ge-NODE_LIMIT.false _ (does_step _ _ _ c.operation_of.ensures c.in-Some.is).0 (does_step _ _ _ c.operation_of.ensures c.in-Some.is).1))

pub returns : goal.returns
returns t c = λ b a. omega (arith, total c.args.nodes.now b c.args.fused a.pool c.args.i c.if-i-ge-NODE_LIMIT.false a.there _ (does_step _ _ _ c.operation_of.ensures c.in-Some.is).0 (does_step _ _ _ c.operation_of.ensures c.in-Some.is).1, c.count_steps-a.ensures b (count-first c.args.nodes.now b c.args.fused c.args.i a c.if-i-ge-NODE_LIMIT.false _ (does_step _ _ _ c.operation_of.ensures c.in-Some.is).0 (does_step _ _ _ c.operation_of.ensures c.in-Some.is).1), c.count_steps-b.ensures b (count-second c.args.nodes.now b c.args.fused c.args.i a c.if-i-ge-NODE_LIMIT.false _ (does_step _ _ _ c.operation_of.ensures c.in-Some.is).0 (does_step _ _ _ c.operation_of.ensures c.in-Some.is).1), c.count_steps-c.ensures b (count-third c.args.nodes.now b c.args.fused c.args.i a c.if-i-ge-NODE_LIMIT.false _ (does_step _ _ _ c.operation_of.ensures c.in-Some.is).0 (does_step _ _ _ c.operation_of.ensures c.in-Some.is).1))
