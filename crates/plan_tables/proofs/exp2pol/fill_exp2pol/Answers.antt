-- `plan_tables::exp2pol::fill_exp2pol` meets its contract. Assumes nothing.
use Rattle.plan_tables.specs.Records.{by_places}
use Rattle.plan_tables.proofs.Placed.{columns-ask, ims_ask, records-filled}
use Rattle.plan_tables.proofs.exp2pol.fill_exp2pol.Goals as goal

pub place_columns-requires : goal.place_columns-requires
place_columns-requires c = (c.requires.0, columns-ask c.requires.1)

pub place_intermediates-requires : goal.place_intermediates-requires
place_intermediates-requires c = (c.requires.1.planned, (c.requires.1.planned.whole, (c.requires.0, by_places c.args.columns.now c.args.temporaries.now c.args.count c.args.exp2pol.now, c.args.exp2pol.now, ims_ask c.requires.1 c.args.temporaries.now c.args.cms.now (c.place_columns.ensures c.requires.0 (columns-ask c.requires.1)))))

pub returns : goal.returns
returns c = λ n a. records-filled a c.args.temporaries.now c.args.cms.now (c.place_intermediates.ensures n (by_places c.args.columns.now c.args.temporaries.now c.args.count c.args.exp2pol.now) c.args.exp2pol.now (ims_ask a c.args.temporaries.now c.args.cms.now (c.place_columns.ensures n (columns-ask a))))
