-- `readable::tree::binding_of` meets its contract: the two products are told apart, and the sums are a range.
-- Assumes nothing.
use native.Mathlib.Omega.{arith}
use borrow.Author.Tests.{ne_eqb}
use Rattle.kinds.specs.Range.{within, value-over, within_in, within-above}
use Rattle.readable.specs.Binding.{binding}
use Rattle.readable.proofs.tree.binding_of.Goals as goal

pub returns-in-3 : goal.returns-in-3
unfolding binding within
returns-in-3 c = value-over binding 1 3 3 tt c.args.kind (omega arith)

pub returns-in-6 : goal.returns-in-6
unfolding binding within
returns-in-6 c = value-over binding 1 6 6 tt c.args.kind (omega arith)

pub returns-in-1-to-5 : goal.returns-in-1-to-5
unfolding binding
returns-in-1-to-5 c = simp (ne_eqb _ _ c.in-1-to-5.in_default-own.rest.0.1, ne_eqb _ _ c.in-1-to-5.in_default-own.rest.1, within_in 1 5 c.args.kind (omega arith, omega arith))

pub returns-in_default : goal.returns-in_default
unfolding binding within
returns-in_default c = value-over binding 2 0 0 tt c.args.kind (omega arith)

pub returns-in_default-2 : goal.returns-in_default-2
unfolding binding
returns-in_default-2 c = simp (ne_eqb _ _ c.in_default.in_default-own.rest.0.1, ne_eqb _ _ c.in_default.in_default-own.rest.1, within-above 1 5 c.args.kind (omega arith))
