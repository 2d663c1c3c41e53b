-- `plan_tables::columns::column_expressions` meets its contract. Assumes nothing.
use Rattle.frames.specs.Order.{expression_limit}
use Rattle.plan_tables.proofs.Growing.{mark-asks}
use Rattle.plan_tables.proofs.columns.column_expressions.Goals as goal

pub mark_intermediates-requires : goal.mark_intermediates-requires
mark_intermediates-requires c = (expression_limit, mark-asks c.args.plan.now c.requires)

pub lookup_columns-lookups-requires : goal.lookup_columns-lookups-requires
lookup_columns-lookups-requires c = (c.requires, c.mark_intermediates.ensures expression_limit (mark-asks c.args.plan.now c.requires))

pub returns : goal.returns
returns c = c.product_columns.ensures c.args.columns.now c.lookup_columns-lookups.ensures
