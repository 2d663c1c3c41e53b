-- `planning::pool_plan::plan_admitted` meets its contract: each way through the code is one law of proofs/Admitted.antt. Assumes nothing.
use Rattle.planning.proofs.Admitted.{headed, bits-refuse, counts-refuse, all-asks, sized, few, cm-same, dims-refuse, planned-told}
use Rattle.planning.proofs.pool_plan.plan_admitted.Goals as goal

pub bits_good-requires : goal.bits_good-requires
bits_good-requires c = headed c.requires.3

pub returns-then-not-bits_good : goal.returns-then-not-bits_good
returns-then-not-bits_good c = λ l n rank a. rw c.into.ensures (bits-refuse a c.bits_good.ensures c.if-not-bits_good.true)

pub counts_agree-requires : goal.counts_agree-requires
counts_agree-requires c = headed c.requires.3

pub returns-then-not-counts_agree : goal.returns-then-not-counts_agree
returns-then-not-counts_agree c = λ l n rank a. rw c.into-then-not-counts_agree.ensures (counts-refuse a c.bits_good.ensures c.if-not-bits_good.false c.counts_agree.ensures c.if-not-counts_agree.true)

pub map_all-records-requires : goal.map_all-records-requires
map_all-records-requires c = (c.requires.0, c.requires.1, c.args.m, c.requires.2, all-asks c.requires.3 c.bits_good.ensures c.if-not-bits_good.false c.counts_agree.ensures c.if-not-counts_agree.false)

pub some_none-requires : goal.some_none-requires
some_none-requires c = (sized c.requires.3 c.bits_good.ensures c.if-not-bits_good.false c.counts_agree.ensures c.if-not-counts_agree.false (c.map_all-records.ensures c.requires.0 c.requires.1 c.args.m c.requires.2 (all-asks c.requires.3 c.bits_good.ensures c.if-not-bits_good.false c.counts_agree.ensures c.if-not-counts_agree.false)), few c.requires.3 c.bits_good.ensures c.if-not-bits_good.false c.counts_agree.ensures c.if-not-counts_agree.false (c.map_all-records.ensures c.requires.0 c.requires.1 c.args.m c.requires.2 (all-asks c.requires.3 c.bits_good.ensures c.if-not-bits_good.false c.counts_agree.ensures c.if-not-counts_agree.false)))

pub shape_of-cmdims-then-some_none : goal.shape_of-cmdims-then-some_none
shape_of-cmdims-then-some_none c = cm-same c.requires.3 c.bits_good.ensures c.if-not-bits_good.false c.counts_agree.ensures c.if-not-counts_agree.false (c.map_all-records.ensures c.requires.0 c.requires.1 c.args.m c.requires.2 (all-asks c.requires.3 c.bits_good.ensures c.if-not-bits_good.false c.counts_agree.ensures c.if-not-counts_agree.false))

pub returns-then-some_none : goal.returns-then-some_none
returns-then-some_none c = λ l n rank a. rw c.into-then-some_none.ensures (dims-refuse a c.bits_good.ensures c.if-not-bits_good.false c.counts_agree.ensures c.if-not-counts_agree.false (c.map_all-records.ensures l n c.args.m rank (all-asks a c.bits_good.ensures c.if-not-bits_good.false c.counts_agree.ensures c.if-not-counts_agree.false)) c.some_none.ensures c.if-some_none.true)

pub shape_of-cmdims : goal.shape_of-cmdims
shape_of-cmdims c = cm-same c.requires.3 c.bits_good.ensures c.if-not-bits_good.false c.counts_agree.ensures c.if-not-counts_agree.false (c.map_all-records.ensures c.requires.0 c.requires.1 c.args.m c.requires.2 (all-asks c.requires.3 c.bits_good.ensures c.if-not-bits_good.false c.counts_agree.ensures c.if-not-counts_agree.false))

pub returns : goal.returns
returns c = λ l n rank a. planned-told a c.bits_good.ensures c.if-not-bits_good.false c.counts_agree.ensures c.if-not-counts_agree.false (c.map_all-records.ensures l n c.args.m rank (all-asks a c.bits_good.ensures c.if-not-bits_good.false c.counts_agree.ensures c.if-not-counts_agree.false)) c.some_none.ensures c.if-some_none.false
