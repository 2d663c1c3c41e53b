-- `plan_tables::rules::fill_rules` meets its contract. Assumes nothing.
use Rattle.pool.specs.Entries.{entries_in}
use Rattle.pool.specs.Ranking.{Tabling}
use Rattle.plan_tables.specs.Rules.{by_columns}
use Rattle.plan_tables.proofs.Ruled.{used_asks, ims_ask, rules_filled}
use Rattle.plan_tables.proofs.rules.fill_rules.Goals as goal

pub fill_columns-requires : goal.fill_columns-requires
fill_columns-requires c = (c.requires.0, c.requires.1, c.requires.2, c.requires.3, used_asks c.requires.4 c.args.in_n c.columns_in-used.ensures)

pub fill_intermediates-requires : goal.fill_intermediates-requires
fill_intermediates-requires c = (c.requires.4.ready.planned.whole, (c.requires.2, by_columns (Tabling c.args.nodes.now c.requires.0 c.args.expressions.now c.requires.1 c.requires.2) (entries_in c.args.table.now) c.args.cmdims.now c.args.columns.now c.columns_in-used.result c.args.rules.now, c.args.rules.now, ims_ask c.requires.4 c.args.in_n c.args.cmdims.now c.columns_in-used.ensures (c.fill_columns.ensures c.requires.0 c.requires.1 c.requires.2 c.requires.3 (used_asks c.requires.4 c.args.in_n c.columns_in-used.ensures))))

pub returns : goal.returns
returns c = λ l n m rank a. rules_filled a c.args.in_n c.args.cmdims.now c.columns_in-used.ensures (c.fill_intermediates.ensures m (by_columns (Tabling c.args.nodes.now l c.args.expressions.now n m) (entries_in c.args.table.now) c.args.cmdims.now c.args.columns.now c.columns_in-used.result c.args.rules.now) c.args.rules.now (ims_ask a c.args.in_n c.args.cmdims.now c.columns_in-used.ensures (c.fill_columns.ensures l n m rank (used_asks a c.args.in_n c.columns_in-used.ensures))))
