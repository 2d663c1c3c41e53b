-- `plans::count::fits` meets its contract. Assumes nothing.
use Rattle.plans.specs.Plan.{number_limit}
use Rattle.plans.specs.Counts.{all-asks, too_many_lem, room_for_all, by-columns}
use Rattle.plans.proofs.count.fits.Goals as goal

pub returns-then-pairs-gt-RECORD_LIMIT : goal.returns-then-pairs-gt-RECORD_LIMIT
returns-then-pairs-gt-RECORD_LIMIT c = too_many_lem c.args.plan.now c.pair_records-pairs.ensures c.if-pairs-gt-RECORD_LIMIT.true

pub returns-then-pairs-most_columns-le-RECORD_LIMIT : goal.returns-then-pairs-most_columns-le-RECORD_LIMIT
returns-then-pairs-most_columns-le-RECORD_LIMIT c = room_for_all c.args.plan.now c.pair_records-pairs.ensures c.most_columns.ensures c.if-pairs-most_columns-le-RECORD_LIMIT.true

pub mark_intermediates-requires : goal.mark_intermediates-requires
mark_intermediates-requires c = (number_limit, all-asks c.args.plan.now c.requires)

pub count_lookups-lookups-requires : goal.count_lookups-lookups-requires
count_lookups-lookups-requires c = (c.requires, c.mark_intermediates.ensures number_limit (all-asks c.args.plan.now c.requires))

pub returns : goal.returns
returns c = by-columns c.args.plan.now c.pair_records-pairs.ensures c.count_products-columns.ensures
