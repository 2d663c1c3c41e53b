-- `readable::block::block_end` meets its contract. The invariant: no step that was passed writes an exp. The measure is what is left.
-- Assumes nothing.
use borrow.Author.Count.{below_more}
use mathlib.Core.Path.{ap, sym, ◌∙◌}
use native.Mathlib.Omega.{arith}
use Rattle.readable.proofs.block.block_end.Goals as goal

pub returns-then-dest-eq-EXP : goal.returns-then-dest-eq-EXP
returns-then-dest-eq-EXP c = record { after = c.loop-k.invariant.0; within = c.loop-k.invariant.1; none_before = c.loop-k.invariant.2; writes_exp = λ h. ap (λ s. s.dest.kind) (sym c.nth_step.ensures) ∙ c.if-dest-eq-EXP.true }

pub loop-k-preserved : goal.loop-k-preserved
loop-k-preserved c = (omega (arith, c.loop-k.invariant.0), omega (arith, c.loop-k-test.true), below_more _ _ c.loop-k.invariant.2 (λ h e. c.if-dest-eq-EXP.false (ap (λ s. s.dest.kind) c.nth_step.ensures ∙ e)))
