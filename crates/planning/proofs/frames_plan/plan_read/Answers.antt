-- `planning::frames_plan::plan_read` meets its contract: the refusal of an argument, or what comes of the pool (proofs/Readings.antt). Assumes nothing.
use Rattle.pool.specs.Ranking.{Tabling}
use Rattle.planning.proofs.Readings.{no-plan-told, whole, too_many-told, ill-formed-told, fitting, pool-told, pool-asked}
use Rattle.planning.proofs.frames_plan.plan_read.Goals as goal

pub returns-then-not-is_plan : goal.returns-then-not-is_plan
returns-then-not-is_plan c = λ l. rw c.into.ensures (no-plan-told c.args.plan.now c.args.well_formed (Tabling c.args.nodes.now l c.args.expressions.now c.args.c.nodes c.args.c.expressions) c.is_plan.ensures c.if-not-is_plan.true)

pub fits-requires : goal.fits-requires
fits-requires c = whole c.args.plan.now c.is_plan.ensures c.if-not-is_plan.false

pub returns-then-not-fits : goal.returns-then-not-fits
returns-then-not-fits c = λ l. rw c.into-then-not-fits.ensures (too_many-told c.args.plan.now c.args.well_formed (Tabling c.args.nodes.now l c.args.expressions.now c.args.c.nodes c.args.c.expressions) c.is_plan.ensures c.if-not-is_plan.false c.fits.ensures c.if-not-fits.true)

pub returns-then-not-well_formed : goal.returns-then-not-well_formed
returns-then-not-well_formed c = λ l. rw c.into-then-not-well_formed.ensures (ill-formed-told c.args.plan.now c.args.well_formed (Tabling c.args.nodes.now l c.args.expressions.now c.args.c.nodes c.args.c.expressions) c.is_plan.ensures c.if-not-is_plan.false c.fits.ensures c.if-not-fits.false c.if-not-well_formed.true)

pub plan_pool-requires : goal.plan_pool-requires
plan_pool-requires c = pool-asked (fitting c.args.plan.now c.is_plan.ensures c.if-not-is_plan.false c.fits.ensures c.if-not-fits.false) c.requires

pub returns : goal.returns
returns c = λ l. pool-told c.args.plan.now c.args.well_formed (Tabling c.args.nodes.now l c.args.expressions.now c.args.c.nodes c.args.c.expressions) c.is_plan.ensures c.if-not-is_plan.false c.fits.ensures c.if-not-fits.false c.if-not-well_formed.false (c.plan_pool.ensures l)
