-- `starkinfo_codegen::operation::find_muladd` meets its contract: the tests are those of `fused_of`.
-- Assumes nothing.
use mathlib.Core.Path.{◌∙◌, sym}
use Rattle.starkinfo_codegen.proofs.Reading.{fused-first, fused-second, fused-neither}
use Rattle.starkinfo_codegen.proofs.operation.find_muladd.Goals as goal

pub returns-then-kind_of-eq-MUL : goal.returns-then-kind_of-eq-MUL
returns-then-kind_of-eq-MUL c = c.product.ensures ∙ sym (fused-first c.args.nodes.now c.args.a c.args.b (sym c.kind_of.ensures ∙ c.if-kind_of-eq-MUL.true))

pub returns-then-kind_of-eq-MUL-2 : goal.returns-then-kind_of-eq-MUL-2
returns-then-kind_of-eq-MUL-2 c = c.product-then-kind_of-eq-MUL-2.ensures ∙ sym (fused-second c.args.nodes.now c.args.a c.args.b (λ e. c.if-kind_of-eq-MUL.false (c.kind_of.ensures ∙ e)) (sym c.kind_of-2.ensures ∙ c.if-kind_of-eq-MUL-2.true))

pub returns : goal.returns
returns c = c.new.ensures ∙ sym (fused-neither c.args.nodes.now c.args.a c.args.b (λ e. c.if-kind_of-eq-MUL.false (c.kind_of.ensures ∙ e)) (λ e. c.if-kind_of-eq-MUL-2.false (c.kind_of-2.ensures ∙ e)))
