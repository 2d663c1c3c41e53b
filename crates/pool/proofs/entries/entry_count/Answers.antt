-- `pool::entries::entry_count` meets its contract. Assumes nothing.
use Rattle.pool.specs.Entries.{entries-half}
use Rattle.pool.proofs.entries.entry_count.Goals as goal

pub returns : goal.returns
returns c = entries-half c.args.table.now
