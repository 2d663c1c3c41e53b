-- `planning::shape::all_there` meets its contract (proofs/There.antt). Assumes nothing.
use Rattle.pool.specs.Ranking.{Tabling}
use Rattle.planning.proofs.There.{name_lost, leaves-decide}
use Rattle.planning.proofs.shape.all_there.Goals as goal

pub names_there-requires : goal.names_there-requires
names_there-requires c = c.requires.whole

pub returns-then-not-names_there : goal.returns-then-not-names_there
returns-then-not-names_there c = λ l x. name_lost c.args.plan.now (Tabling c.args.nodes.now l x c.args.n c.args.m) c.names_there.ensures c.if-not-names_there.true

pub cm_count-requires : goal.cm_count-requires
cm_count-requires c = c.requires.whole.0

pub q2exp_count-requires : goal.q2exp_count-requires
q2exp_count-requires c = c.requires.whole.0

pub leaves_there-requires : goal.leaves_there-requires
leaves_there-requires c = c.requires.nodes

pub returns : goal.returns
returns c = λ l x. leaves-decide c.args.plan.now (Tabling c.args.nodes.now l x c.args.n c.args.m) c.names_there.ensures c.if-not-names_there.false c.cm_count.ensures.is c.q2exp_count.ensures.is c.leaves_there.ensures
