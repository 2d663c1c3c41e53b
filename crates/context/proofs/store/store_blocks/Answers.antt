-- `context::store::store_blocks` meets its contract: what is left, written after what stands, is the whole.
-- Assumes nothing.
use native.Mathlib.Omega.{arith}
use Rattle.context.proofs.Stores.{all_left, less_left, none_left}
use Rattle.context.proofs.store.store_blocks.Goals as goal

pub loop-k-init : goal.loop-k-init
loop-k-init c = all_left _ _ _ _ c.requires.forward

pub offset_bounds-blocks-k : goal.offset_bounds-blocks-k
offset_bounds-blocks-k c = omega (arith, c.requires, c.loop-k.invariant.inside)

pub bounds-blocks-k : goal.bounds-blocks-k
bounds-blocks-k c = omega (arith, c.requires, c.loop-k.invariant.inside)

pub entry_of-requires : goal.entry_of-requires
entry_of-requires c = c.requires.steps16 _ c.loop-k.invariant.ahead c.loop-k-test.true

pub put_entry-requires : goal.put_entry-requires
put_entry-requires c = omega (arith, c.requires, c.loop-k.invariant.inside)

pub loop-k-smaller : goal.loop-k-smaller
loop-k-smaller c = omega (arith, c.requires, c.loop-k.invariant.inside)

pub loop-k-preserved : goal.loop-k-preserved
loop-k-preserved c = less_left _ _ _ _ _ _ _ _ (omega (arith, c.requires.full, c.requires.few)) c.loop-k.invariant c.loop-k-test.true c.entry_of.ensures c.put_entry.ensures

pub shape_of-context : goal.shape_of-context
shape_of-context c = c.loop-k.invariant.size

pub returns : goal.returns
returns c = none_left _ _ _ _ _ _ c.loop-k.invariant c.loop-k-test.false
