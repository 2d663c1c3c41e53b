-- `frames::node::sign_of` meets its contract.
-- Assumes nothing.
use native.Mathlib.Omega.{arith}
use Rattle.frames.specs.Nodes.{sign_of}
use Rattle.frames.specs.Sizes.{size-with}
use Rattle.frames.proofs.Tests.{via}
use Rattle.frames.proofs.node.sign_of.Goals as goal

pub bounds-f-at : goal.bounds-f-at
bounds-f-at c = omega (arith, c.requires, size-with _ c.args.count (via c.carries_literal.ensures c.if-carries_literal.true))

pub returns-then-carries_literal : goal.returns-then-carries_literal
unfolding sign_of
returns-then-carries_literal c = simp (via c.carries_literal.ensures c.if-carries_literal.true)

pub returns-else-carries_literal : goal.returns-else-carries_literal
unfolding sign_of
returns-else-carries_literal c = simp (via c.carries_literal.ensures c.if-carries_literal.false)
