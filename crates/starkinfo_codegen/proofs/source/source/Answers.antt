-- `starkinfo_codegen::source::source` meets its contract: the tests are those of `source_in`.
-- Assumes nothing.
use borrow.Author.Tests.{eq-eqb, ne_eqb}
use Rattle.starkinfo_codegen.specs.Sources.{source_in}
use Rattle.starkinfo_codegen.proofs.source.source.Goals as goal

pub returns-then-operand-eq-LITERAL : goal.returns-then-operand-eq-LITERAL
unfolding source_in
returns-then-operand-eq-LITERAL c = simp (eq-eqb _ _ c.if-operand-eq-LITERAL.true) c.number.ensures

pub returns-then-operand-eq-NOTHING : goal.returns-then-operand-eq-NOTHING
unfolding source_in
returns-then-operand-eq-NOTHING c = simp (ne_eqb _ _ c.if-operand-eq-LITERAL.false, eq-eqb _ _ c.if-operand-eq-NOTHING.true) c.blank.ensures

pub returns-then-taken-eq0 : goal.returns-then-taken-eq0
unfolding source_in
returns-then-taken-eq0 c = simp (ne_eqb _ _ c.if-operand-eq-LITERAL.false, ne_eqb _ _ c.if-operand-eq-NOTHING.false, eq-eqb _ _ c.if-taken-eq0.true) c.leaf_reference.ensures

pub returns : goal.returns
unfolding source_in
returns c = simp (ne_eqb _ _ c.if-operand-eq-LITERAL.false, ne_eqb _ _ c.if-operand-eq-NOTHING.false, ne_eqb _ _ c.if-taken-eq0.false) c.plain.ensures
