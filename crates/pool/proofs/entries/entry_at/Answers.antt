-- `pool::entries::entry_at` meets its contract. Assumes nothing.
use mathlib.Core.Path.{◌∙◌}
use native.Mathlib.Omega.{arith}
use Rattle.pool.specs.Entries.{entries-few, entry_at}
use Rattle.pool.proofs.entries.entry_at.Goals as goal

pub overflow_mul-q : goal.overflow_mul-q
overflow_mul-q c = omega (arith, c.requires, c.well_formed, entries-few c.args.table.now)

pub u16_at-requires : goal.u16_at-requires
u16_at-requires c = omega (arith, c.requires, entries-few c.args.table.now)

pub returns : goal.returns
returns c = c.u16_at.ensures ∙ entry_at c.args.table.now c.args.q c.requires
