-- `starkinfo_codegen::eval::eval_exp` and `eval_step` meet their contracts: each need is one lemma of proofs/Emits.antt. The measure is the node.
-- Assumes nothing.
use native.Mathlib.Omega.{arith}
use mathlib.Core.Path.{refl, sym, ◌∙◌}
use Rattle.starkinfo_codegen.proofs.Calls.{operation-asks, falls-first, falls-second, falls-third}
use Rattle.starkinfo_codegen.proofs.Emits.{past-gives, bare-gives, leaf-gives, first-asks, second-asks, third-asks, put-room, ends, own-asks, does-gives}
use Rattle.starkinfo_codegen.proofs.eval.+eval_exp_eval_step.Goals as goal
use Rattle.starkinfo_codegen.proofs.eval.+eval_exp_eval_step.Goals.{eval_exp-then-i-ge-NODE_LIMIT-via-then-i-ge-NODE_LIMIT, eval_exp-then-i-ge-NODE_LIMIT-via-else-i-ge-NODE_LIMIT+then-count_of-eq0}
use Rattle.starkinfo_codegen.proofs.Reading.{does_step, no_step}

pub eval_exp-returns-then-i-ge-NODE_LIMIT : goal.eval_exp-returns-then-i-ge-NODE_LIMIT
eval_exp-returns-then-i-ge-NODE_LIMIT t c = λ b a. elim c.then-i-ge-NODE_LIMIT.branch [
  | eval_exp-then-i-ge-NODE_LIMIT-via-then-i-ge-NODE_LIMIT w ↦ past-gives c.args.nodes.now b c.args.fused c.args.row c.args.at c.args.t c.args.i c.args.list.now a w.if-i-ge-NODE_LIMIT.true
  | eval_exp-then-i-ge-NODE_LIMIT-via-else-i-ge-NODE_LIMIT+then-count_of-eq0 w ↦ bare-gives c.args.nodes.now b c.args.fused c.args.row c.args.at c.args.t c.args.i c.args.list.now a w.if-i-ge-NODE_LIMIT.false (sym w.count_of.ensures ∙ w.if-count_of-eq0.true)
]

pub eval_step-operation_of-requires : goal.eval_step-operation_of-requires
eval_step-operation_of-requires t c = operation-asks c.args.nodes.now c.requires.0.0 c.args.fused c.requires.0.1.pool c.args.i c.requires.1 c.requires.0.1.there

pub eval_step-returns-in_default : goal.eval_step-returns-in_default
eval_step-returns-in_default t c = λ b a. leaf-gives c.args.nodes.now b c.args.fused c.args.row c.args.at c.args.t c.args.i c.args.list.now a c.requires.1 _ refl (no_step _ _ _ c.operation_of.ensures c.in_default.is)

pub eval_step-eval_exp-a-requires : goal.eval_step-eval_exp-a-requires
eval_step-eval_exp-a-requires t c = (omega (arith, falls-first c.args.nodes.now c.requires.0.0 c.args.fused c.requires.0.1.pool c.args.i c.requires.1 c.requires.0.1.there _ (does_step _ _ _ c.operation_of.ensures c.in-Some.is).0 (does_step _ _ _ c.operation_of.ensures c.in-Some.is).1), (c.requires.0.0, first-asks c.args.nodes.now c.requires.0.0 c.args.fused c.args.row c.args.at c.args.t c.args.i c.args.list.now c.requires.0.1 c.requires.1 _ (does_step _ _ _ c.operation_of.ensures c.in-Some.is).0 (does_step _ _ _ c.operation_of.ensures c.in-Some.is).1))

pub eval_step-overflow_add-at : goal.eval_step-overflow_add-at
eval_step-overflow_add-at t c = let k = second-asks c.args.nodes.now c.requires.0.0 c.args.fused c.args.row c.args.at c.args.t c.args.i c.args.list.now c.requires.0.1 c.requires.1 _ (does_step _ _ _ c.operation_of.ensures c.in-Some.is).0 (does_step _ _ _ c.operation_of.ensures c.in-Some.is).1 c.eval_exp-a.ensures in omega (arith, k.fits, k.temporaries)

pub eval_step-overflow_add-t : goal.eval_step-overflow_add-t
eval_step-overflow_add-t t c = let k = second-asks c.args.nodes.now c.requires.0.0 c.args.fused c.args.row c.args.at c.args.t c.args.i c.args.list.now c.requires.0.1 c.requires.1 _ (does_step _ _ _ c.operation_of.ensures c.in-Some.is).0 (does_step _ _ _ c.operation_of.ensures c.in-Some.is).1 c.eval_exp-a.ensures in omega (arith, k.fits, k.temporaries)

pub eval_step-eval_exp-b-requires : goal.eval_step-eval_exp-b-requires
eval_step-eval_exp-b-requires t c = (omega (arith, falls-second c.args.nodes.now c.requires.0.0 c.args.fused c.requires.0.1.pool c.args.i c.requires.1 c.requires.0.1.there _ (does_step _ _ _ c.operation_of.ensures c.in-Some.is).0 (does_step _ _ _ c.operation_of.ensures c.in-Some.is).1), (c.requires.0.0, second-asks c.args.nodes.now c.requires.0.0 c.args.fused c.args.row c.args.at c.args.t c.args.i c.args.list.now c.requires.0.1 c.requires.1 _ (does_step _ _ _ c.operation_of.ensures c.in-Some.is).0 (does_step _ _ _ c.operation_of.ensures c.in-Some.is).1 c.eval_exp-a.ensures))

pub eval_step-overflow_add-at-2 : goal.eval_step-overflow_add-at-2
eval_step-overflow_add-at-2 t c = let k = third-asks c.args.nodes.now c.requires.0.0 c.args.fused c.args.row c.args.at c.args.t c.args.i c.args.list.now c.requires.0.1 c.requires.1 _ (does_step _ _ _ c.operation_of.ensures c.in-Some.is).0 (does_step _ _ _ c.operation_of.ensures c.in-Some.is).1 c.eval_exp-a.ensures c.eval_exp-b.ensures in omega (arith, k.fits, k.temporaries)

pub eval_step-overflow_add-at-3 : goal.eval_step-overflow_add-at-3
eval_step-overflow_add-at-3 t c = let k = third-asks c.args.nodes.now c.requires.0.0 c.args.fused c.args.row c.args.at c.args.t c.args.i c.args.list.now c.requires.0.1 c.requires.1 _ (does_step _ _ _ c.operation_of.ensures c.in-Some.is).0 (does_step _ _ _ c.operation_of.ensures c.in-Some.is).1 c.eval_exp-a.ensures c.eval_exp-b.ensures in omega (arith, k.fits, k.temporaries)

pub eval_step-overflow_add-t-2 : goal.eval_step-overflow_add-t-2
eval_step-overflow_add-t-2 t c = let k = third-asks c.args.nodes.now c.requires.0.0 c.args.fused c.args.row c.args.at c.args.t c.args.i c.args.list.now c.requires.0.1 c.requires.1 _ (does_step _ _ _ c.operation_of.ensures c.in-Some.is).0 (does_step _ _ _ c.operation_of.ensures c.in-Some.is).1 c.eval_exp-a.ensures c.eval_exp-b.ensures in omega (arith, k.fits, k.temporaries)

pub eval_step-overflow_add-t-3 : goal.eval_step-overflow_add-t-3
eval_step-overflow_add-t-3 t c = let k = third-asks c.args.nodes.now c.requires.0.0 c.args.fused c.args.row c.args.at c.args.t c.args.i c.args.list.now c.requires.0.1 c.requires.1 _ (does_step _ _ _ c.operation_of.ensures c.in-Some.is).0 (does_step _ _ _ c.operation_of.ensures c.in-Some.is).1 c.eval_exp-a.ensures c.eval_exp-b.ensures in omega (arith, k.fits, k.temporaries)

pub eval_step-eval_exp-c-requires : goal.eval_step-eval_exp-c-requires
eval_step-eval_exp-c-requires t c = (omega (arith, falls-third c.args.nodes.now c.requires.0.0 c.args.fused c.requires.0.1.pool c.args.i c.requires.1 c.requires.0.1.there _ (does_step _ _ _ c.operation_of.ensures c.in-Some.is).0 (does_step _ _ _ c.operation_of.ensures c.in-Some.is).1), (c.requires.0.0, third-asks c.args.nodes.now c.requires.0.0 c.args.fused c.args.row c.args.at c.args.t c.args.i c.args.list.now c.requires.0.1 c.requires.1 _ (does_step _ _ _ c.operation_of.ensures c.in-Some.is).0 (does_step _ _ _ c.operation_of.ensures c.in-Some.is).1 c.eval_exp-a.ensures c.eval_exp-b.ensures))

pub eval_step-overflow_add-before : goal.eval_step-overflow_add-before
eval_step-overflow_add-before t c = let k = ends c.args.nodes.now c.requires.0.0 c.args.fused c.args.row c.args.at c.args.t c.args.i c.args.list.now c.requires.0.1 c.requires.1 _ (does_step _ _ _ c.operation_of.ensures c.in-Some.is).0 (does_step _ _ _ c.operation_of.ensures c.in-Some.is).1 c.eval_exp-a.ensures c.eval_exp-b.ensures c.eval_exp-c.ensures in omega (arith, k.0, k.1)

pub eval_step-overflow_add-before-2 : goal.eval_step-overflow_add-before-2
eval_step-overflow_add-before-2 t c = let k = ends c.args.nodes.now c.requires.0.0 c.args.fused c.args.row c.args.at c.args.t c.args.i c.args.list.now c.requires.0.1 c.requires.1 _ (does_step _ _ _ c.operation_of.ensures c.in-Some.is).0 (does_step _ _ _ c.operation_of.ensures c.in-Some.is).1 c.eval_exp-a.ensures c.eval_exp-b.ensures c.eval_exp-c.ensures in omega (arith, k.0, k.1)

pub eval_step-overflow_add-at-4 : goal.eval_step-overflow_add-at-4
eval_step-overflow_add-at-4 t c = let k = ends c.args.nodes.now c.requires.0.0 c.args.fused c.args.row c.args.at c.args.t c.args.i c.args.list.now c.requires.0.1 c.requires.1 _ (does_step _ _ _ c.operation_of.ensures c.in-Some.is).0 (does_step _ _ _ c.operation_of.ensures c.in-Some.is).1 c.eval_exp-a.ensures c.eval_exp-b.ensures c.eval_exp-c.ensures in omega (arith, k.0, k.1)

pub eval_step-put_own-requires-clause-own : goal.eval_step-put_own-requires-clause-own
eval_step-put_own-requires-clause-own t c = own-asks c.args.nodes.now c.requires.0.0 c.args.fused c.args.row c.args.at c.args.t c.args.i c.args.list.now c.requires.0.1 c.requires.1 _ (does_step _ _ _ c.operation_of.ensures c.in-Some.is).0 (does_step _ _ _ c.operation_of.ensures c.in-Some.is).1 c.eval_exp-a.ensures c.eval_exp-b.ensures c.eval_exp-c.ensures

pub eval_step-put_own-requires-clause-room : goal.eval_step-put_own-requires-clause-room
eval_step-put_own-requires-clause-room t c = put-room c.args.nodes.now c.requires.0.0 c.args.fused c.args.row c.args.at c.args.t c.args.i c.args.list.now c.requires.0.1 c.requires.1 _ (does_step _ _ _ c.operation_of.ensures c.in-Some.is).0 (does_step _ _ _ c.operation_of.ensures c.in-Some.is).1 c.eval_exp-a.ensures c.eval_exp-b.ensures c.eval_exp-c.ensures

pub eval_step-overflow_add-result : goal.eval_step-overflow_add-result
eval_step-overflow_add-result t c = let k = ends c.args.nodes.now c.requires.0.0 c.args.fused c.args.row c.args.at c.args.t c.args.i c.args.list.now c.requires.0.1 c.requires.1 _ (does_step _ _ _ c.operation_of.ensures c.in-Some.is).0 (does_step _ _ _ c.operation_of.ensures c.in-Some.is).1 c.eval_exp-a.ensures c.eval_exp-b.ensures c.eval_exp-c.ensures in omega (arith, k.0, k.1)

pub eval_step-returns : goal.eval_step-returns
eval_step-returns t c = λ b a. does-gives c.args.nodes.now b c.args.fused c.args.row c.args.at c.args.t c.args.i c.args.list.now a c.requires.1 _ (does_step _ _ _ c.operation_of.ensures c.in-Some.is).0 (does_step _ _ _ c.operation_of.ensures c.in-Some.is).1 c.eval_exp-a.ensures c.eval_exp-b.ensures c.eval_exp-c.ensures refl c.put_own.ensures
