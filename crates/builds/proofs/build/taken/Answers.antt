-- `builds::build::taken` meets its contract.
-- Assumes nothing.
use mathlib.Core.Path.{sym, ◌∙◌}
use Rattle.builds.proofs.Tests.{skipped, not-skipped}
use Rattle.builds.proofs.build.taken.Goals as goal

pub returns-then-skips : goal.returns-then-skips
returns-then-skips c = skipped c.args.blocks.now _ _ _ _ _ c.in_e.ensures c.block_of-block.ensures (sym c.skips.ensures ∙ c.if-skips.true)

pub returns : goal.returns
returns c = not-skipped c.args.blocks.now _ _ _ _ _ c.in_e.ensures c.block_of-block.ensures (sym c.skips.ensures ∙ c.if-skips.false)
