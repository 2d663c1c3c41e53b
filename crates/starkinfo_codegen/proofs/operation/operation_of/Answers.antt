-- `starkinfo_codegen::operation::operation_of` meets its contract: each kind of the `match` is of one class.
-- Assumes nothing.
use native.Mathlib.Omega.{arith}
use mathlib.Core.Path.{◌∙◌, sym, ap, ap₂}
use mathlib.Core.Logic.{inl, inr}
use Rattle.kinds.specs.OpBytes as op
use Rattle.starkinfo_codegen.specs.Operations.{literal, nothing, operation, fused_of}
use Rattle.starkinfo_codegen.proofs.Reading.{by_kind, by-fused, by-pair, by-leaf, fused-steps, is_step, steps_as}
use Rattle.starkinfo_codegen.specs.declared.operation.Operation.{Operation}
use Rattle.starkinfo_codegen.proofs.operation.operation_of.Goals as goal

pub returns-then-fused : goal.returns-then-fused
returns-then-fused c = (c.find_muladd.ensures ∙ ap₂ (fused_of c.args.nodes.now) c.first_child-a.ensures c.second_child-b.ensures ∙ sym (by-fused c.args.nodes.now c.args.fused c.args.i (sym c.kind_of-kind.ensures ∙ c.in-1.is) c.if-fused.true), steps_as c.find_muladd.ensures (fused-steps c.args.nodes.now _ _))

pub returns-else-fused : goal.returns-else-fused
returns-else-fused c = (c.new.ensures ∙ ap₂ (λ a b. operation op.add a b nothing) c.first_child-a.ensures c.second_child-b.ensures ∙ sym (by-fused c.args.nodes.now c.args.fused c.args.i (sym c.kind_of-kind.ensures ∙ c.in-1.is) c.if-fused.false), is_step c.new.ensures (omega arith))

pub returns-in-4 : goal.returns-in-4
returns-in-4 c = (c.new-in-4.ensures ∙ ap₂ (λ a b. operation op.muladd a b c.third_child.result) c.first_child-a.ensures c.second_child-b.ensures ∙ ap (operation op.muladd _ _) c.third_child.ensures ∙ sym (by_kind c.args.nodes.now c.args.fused c.args.i 4 (sym c.kind_of-kind.ensures ∙ c.in-4.is)), is_step c.new-in-4.ensures (omega arith))

pub returns-in-5 : goal.returns-in-5
returns-in-5 c = (c.new-in-5.ensures ∙ ap (λ a. operation op.add a literal nothing) c.first_child-a.ensures ∙ sym (by_kind c.args.nodes.now c.args.fused c.args.i 5 (sym c.kind_of-kind.ensures ∙ c.in-5.is)), is_step c.new-in-5.ensures (omega arith))

pub returns-in-6 : goal.returns-in-6
returns-in-6 c = (c.new-in-6.ensures ∙ ap (λ a. operation op.mul a literal nothing) c.first_child-a.ensures ∙ sym (by_kind c.args.nodes.now c.args.fused c.args.i 6 (sym c.kind_of-kind.ensures ∙ c.in-6.is)), is_step c.new-in-6.ensures (omega arith))

pub returns-in-7 : goal.returns-in-7
returns-in-7 c = (c.new-in-7.ensures ∙ ap (λ a. operation op.sub literal a nothing) c.first_child-a.ensures ∙ sym (by_kind c.args.nodes.now c.args.fused c.args.i 7 (sym c.kind_of-kind.ensures ∙ c.in-7.is)), is_step c.new-in-7.ensures (omega arith))

pub returns-in-2-to-3 : goal.returns-in-2-to-3
returns-in-2-to-3 c = (c.new-in-2-to-3.ensures ∙ ap₂ (λ a b. operation c.kind_of-kind.result a b nothing) c.first_child-a.ensures c.second_child-b.ensures ∙ sym (by-pair c.args.nodes.now c.args.fused c.args.i c.kind_of-kind.result (sym c.kind_of-kind.ensures) c.in-2-to-3.in_default-own.rest.0.0.0.0.1 c.in-2-to-3.if-kind-lt1-own.false c.in-2-to-3.if-kind-lt4-own.true), is_step c.new-in-2-to-3.ensures (omega (arith, c.in-2-to-3.if-kind-lt1-own.false)))

pub returns-in_default : goal.returns-in_default
returns-in_default c =
    let r = c.in_default.in_default-own.rest in
    ap (λ (o : Operation). o.op)
    (by-leaf c.args.nodes.now c.args.fused c.args.i c.kind_of-kind.result (sym c.kind_of-kind.ensures) r.0.0.0.1 r.0.0.1 r.0.1 r.1 (inl (omega arith)))

pub returns-in_default-2 : goal.returns-in_default-2
returns-in_default-2 c =
    let r = c.in_default.in_default-own.rest in
    ap (λ (o : Operation). o.op)
    (by-leaf c.args.nodes.now c.args.fused c.args.i c.kind_of-kind.result (sym c.kind_of-kind.ensures) r.0.0.0.1 r.0.0.1 r.0.1 r.1 (inr (omega arith)))
