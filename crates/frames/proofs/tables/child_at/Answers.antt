-- `frames::tables::child_at` meets its contract.
-- Assumes nothing.
use borrow.Author.Tests.{ne_eqb}
use Rattle.frames.specs.Tables.{child_in}
use Rattle.frames.proofs.tables.child_at.Goals as goal

pub returns-in-0 : goal.returns-in-0
unfolding child_in
returns-in-0 c = simp c.in-0.is

pub returns-in-1 : goal.returns-in-1
unfolding child_in
returns-in-1 c = simp c.in-1.is

pub returns-in_default : goal.returns-in_default
unfolding child_in
returns-in_default c = simp (ne_eqb _ _ c.in_default.in_default-own.rest.0.1, ne_eqb _ _ c.in_default.in_default-own.rest.1)
