-- `context::load::load_blocks` meets its contract: the words of the blocks before k are written.
-- Assumes nothing.
use mathlib.Core.Path.{◌∙◌, ap}
use native.Mathlib.Omega.{arith}
use Rattle.context.specs.Tables.{word_of}
use Rattle.context.proofs.Stores.{words-none, words_more, words-all}
use Rattle.context.proofs.load.load_blocks.Goals as goal

pub blocks_of-n-requires : goal.blocks_of-n-requires
blocks_of-n-requires c = omega (arith, c.requires)

pub loop-k-init : goal.loop-k-init
loop-k-init c = (c.blocks_of-n.ensures.is, omega arith, words-none _ _)

pub entry_at-requires : goal.entry_at-requires
entry_at-requires c = omega (arith, c.requires)

pub offset_bounds-blocks-k : goal.offset_bounds-blocks-k
offset_bounds-blocks-k c = omega (arith, c.requires)

pub bounds-blocks-k : goal.bounds-blocks-k
bounds-blocks-k c = omega (arith, c.requires)

pub loop-k-smaller : goal.loop-k-smaller
loop-k-smaller c = omega (arith, c.requires)

pub loop-k-preserved : goal.loop-k-preserved
loop-k-preserved c = (c.loop-k.invariant.0, omega arith, words_more _ _ _ _ _ c.loop-k.invariant.2 (c.into.ensures ∙ ap word_of c.entry_at.ensures))

pub returns : goal.returns
returns c = words-all _ _ _ _ _ c.loop-k.invariant.0 c.loop-k.invariant.1 c.loop-k-test.false c.loop-k.invariant.2
