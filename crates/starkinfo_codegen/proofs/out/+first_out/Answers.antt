-- `starkinfo_codegen::out::first_out` meets its contract: each need is one lemma of proofs/Outs.antt. The measure is the node.
-- Assumes nothing.
use native.Mathlib.Omega.{arith}
use mathlib.Core.Path.{refl}
use Rattle.starkinfo_codegen.proofs.Calls.{operation-asks, falls-first, falls-second, falls-third}
use Rattle.starkinfo_codegen.proofs.Outs.{past-gives, leaf-gives, out_first, out-second, out-third, first-blamed, second-blamed, third-blamed}
use Rattle.starkinfo_codegen.proofs.out.+first_out.Goals as goal
use Rattle.starkinfo_codegen.proofs.Reading.{does_step, no_step}

pub returns-then-i-ge-NODE_LIMIT : goal.returns-then-i-ge-NODE_LIMIT
returns-then-i-ge-NODE_LIMIT t c = λ b a. past-gives c.args.nodes.now b c.args.fused c.args.row c.args.i a c.if-i-ge-NODE_LIMIT.true

pub operation_of-requires : goal.operation_of-requires
operation_of-requires t c = operation-asks c.args.nodes.now c.requires.0 c.args.fused c.requires.1.pool c.args.i c.if-i-ge-NODE_LIMIT.false c.requires.1.there

pub returns-in_default : goal.returns-in_default
returns-in_default t c = λ b a. leaf-gives c.args.nodes.now b c.args.fused c.args.row c.args.i a c.if-i-ge-NODE_LIMIT.false _ refl (no_step _ _ _ c.operation_of.ensures c.in_default.is) c.leaf_out.result (c.leaf_out.ensures b.literals)

pub first_out-requires : goal.first_out-requires
first_out-requires t c = (omega (arith, falls-first c.args.nodes.now c.requires.0 c.args.fused c.requires.1.pool c.args.i c.if-i-ge-NODE_LIMIT.false c.requires.1.there _ (does_step _ _ _ c.operation_of.ensures c.in-Some.is).0 (does_step _ _ _ c.operation_of.ensures c.in-Some.is).1), (c.requires.0, out_first c.args.nodes.now c.requires.0 c.args.fused c.args.row c.args.i c.requires.1 c.if-i-ge-NODE_LIMIT.false _ (does_step _ _ _ c.operation_of.ensures c.in-Some.is).0 (does_step _ _ _ c.operation_of.ensures c.in-Some.is).1))

pub returns-in-Some-first_out : goal.returns-in-Some-first_out
returns-in-Some-first_out t c = λ b a. first-blamed c.args.nodes.now b c.args.fused c.args.row c.args.i a c.if-i-ge-NODE_LIMIT.false _ (does_step _ _ _ c.operation_of.ensures c.in-Some.is).0 (does_step _ _ _ c.operation_of.ensures c.in-Some.is).1 (c.first_out.ensures b (out_first c.args.nodes.now b c.args.fused c.args.row c.args.i a c.if-i-ge-NODE_LIMIT.false _ (does_step _ _ _ c.operation_of.ensures c.in-Some.is).0 (does_step _ _ _ c.operation_of.ensures c.in-Some.is).1)) c.in-Some-first_out.is

pub first_out-requires-2 : goal.first_out-requires-2
first_out-requires-2 t c = (omega (arith, falls-second c.args.nodes.now c.requires.0 c.args.fused c.requires.1.pool c.args.i c.if-i-ge-NODE_LIMIT.false c.requires.1.there _ (does_step _ _ _ c.operation_of.ensures c.in-Some.is).0 (does_step _ _ _ c.operation_of.ensures c.in-Some.is).1), (c.requires.0, out-second c.args.nodes.now c.requires.0 c.args.fused c.args.row c.args.i c.requires.1 c.if-i-ge-NODE_LIMIT.false _ (does_step _ _ _ c.operation_of.ensures c.in-Some.is).0 (does_step _ _ _ c.operation_of.ensures c.in-Some.is).1))

pub returns-in-Some-first_out-2 : goal.returns-in-Some-first_out-2
returns-in-Some-first_out-2 t c = λ b a. second-blamed c.args.nodes.now b c.args.fused c.args.row c.args.i a c.if-i-ge-NODE_LIMIT.false _ (does_step _ _ _ c.operation_of.ensures c.in-Some.is).0 (does_step _ _ _ c.operation_of.ensures c.in-Some.is).1 (c.first_out.ensures b (out_first c.args.nodes.now b c.args.fused c.args.row c.args.i a c.if-i-ge-NODE_LIMIT.false _ (does_step _ _ _ c.operation_of.ensures c.in-Some.is).0 (does_step _ _ _ c.operation_of.ensures c.in-Some.is).1)) c.in_default-first_out.is (c.first_out-2.ensures b (out-second c.args.nodes.now b c.args.fused c.args.row c.args.i a c.if-i-ge-NODE_LIMIT.false _ (does_step _ _ _ c.operation_of.ensures c.in-Some.is).0 (does_step _ _ _ c.operation_of.ensures c.in-Some.is).1)) c.in-Some-first_out-2.is

pub first_out-requires-3 : goal.first_out-requires-3
first_out-requires-3 t c = (omega (arith, falls-third c.args.nodes.now c.requires.0 c.args.fused c.requires.1.pool c.args.i c.if-i-ge-NODE_LIMIT.false c.requires.1.there _ (does_step _ _ _ c.operation_of.ensures c.in-Some.is).0 (does_step _ _ _ c.operation_of.ensures c.in-Some.is).1), (c.requires.0, out-third c.args.nodes.now c.requires.0 c.args.fused c.args.row c.args.i c.requires.1 c.if-i-ge-NODE_LIMIT.false _ (does_step _ _ _ c.operation_of.ensures c.in-Some.is).0 (does_step _ _ _ c.operation_of.ensures c.in-Some.is).1))

pub returns : goal.returns
returns t c = λ b a. third-blamed c.args.nodes.now b c.args.fused c.args.row c.args.i a c.if-i-ge-NODE_LIMIT.false _ (does_step _ _ _ c.operation_of.ensures c.in-Some.is).0 (does_step _ _ _ c.operation_of.ensures c.in-Some.is).1 (c.first_out.ensures b (out_first c.args.nodes.now b c.args.fused c.args.row c.args.i a c.if-i-ge-NODE_LIMIT.false _ (does_step _ _ _ c.operation_of.ensures c.in-Some.is).0 (does_step _ _ _ c.operation_of.ensures c.in-Some.is).1)) c.in_default-first_out.is (c.first_out-2.ensures b (out-second c.args.nodes.now b c.args.fused c.args.row c.args.i a c.if-i-ge-NODE_LIMIT.false _ (does_step _ _ _ c.operation_of.ensures c.in-Some.is).0 (does_step _ _ _ c.operation_of.ensures c.in-Some.is).1)) c.in_default-first_out-2.is c.first_out-3.result (c.first_out-3.ensures b (out-third c.args.nodes.now b c.args.fused c.args.row c.args.i a c.if-i-ge-NODE_LIMIT.false _ (does_step _ _ _ c.operation_of.ensures c.in-Some.is).0 (does_step _ _ _ c.operation_of.ensures c.in-Some.is).1))
