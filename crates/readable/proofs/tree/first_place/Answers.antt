-- `readable::tree::first_place` meets its contract.
-- Assumes nothing.
use native.Mathlib.Omega.{arith}
use borrow.Author.Tests.{ne_eqb}
use Rattle.kinds.specs.Range.{value-over}
use Rattle.readable.specs.Binding.{first_place}
use Rattle.readable.proofs.tree.first_place.Goals as goal

pub returns-in-7 : goal.returns-in-7
unfolding first_place
returns-in-7 c = value-over first_place 0 7 7 tt c.args.kind (omega arith)

pub returns-in-4 : goal.returns-in-4
unfolding first_place
returns-in-4 c = value-over first_place 1 4 4 tt c.args.kind (omega arith)

pub returns-in_default : goal.returns-in_default
unfolding first_place
returns-in_default c = simp (ne_eqb _ _ c.in_default.in_default-own.rest.0.1, ne_eqb _ _ c.in_default.in_default-own.rest.1) c.binding_of.ensures
