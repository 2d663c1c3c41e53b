-- `frames::node::magnitude_of` meets its contract.
-- Assumes nothing.
use native.Mathlib.Omega.{arith}
use Rattle.frames.specs.Nodes.{magnitude_of}
use Rattle.frames.specs.Sizes.{size-with}
use Rattle.frames.proofs.Tests.{via}
use Rattle.frames.proofs.node.magnitude_of.Goals as goal

pub u64_at-requires : goal.u64_at-requires
u64_at-requires c = omega (arith, c.requires, size-with _ c.args.count (via c.carries_literal.ensures c.if-carries_literal.true))

pub returns-then-carries_literal : goal.returns-then-carries_literal
unfolding magnitude_of
returns-then-carries_literal c = simp (via c.carries_literal.ensures c.if-carries_literal.true) c.u64_at.ensures

pub returns-else-carries_literal : goal.returns-else-carries_literal
unfolding magnitude_of
returns-else-carries_literal c = simp (via c.carries_literal.ensures c.if-carries_literal.false)
