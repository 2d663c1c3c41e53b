-- `planning::shape::plan_shape` meets its contract: the pool's own refusal, or what the plan finds (proofs/There.antt). Assumes nothing.
use mathlib.Core.Path.{sym, ◌∙◌, ap}
use Rattle.std.proofs.lemmas.Result.{err_from_is_err_and}
use Rattle.pool.specs.Admitting.{shape_says}
use Rattle.planning.proofs.There.{stops, fine, lost}
use Rattle.planning.proofs.shape.plan_shape.Goals as goal

pub shape_of-requires : goal.shape_of-requires
shape_of-requires c = (c.requires.nodes, c.requires.expressions)

pub all_there-requires : goal.all_there-requires
all_there-requires c = c.requires

pub returns-then-all_there : goal.returns-then-all_there
returns-then-all_there c = λ l. fine c.args.plan.now _ (ap shape_says (sym c.in_ok-shape_of.was) ∙ c.shape_of.ensures l) (c.all_there.ensures l c.args.expressions.now) c.if-all_there.true

pub returns : goal.returns
returns c = λ l. rw c.into.ensures (lost c.args.plan.now _ (ap shape_says (sym c.in_ok-shape_of.was) ∙ c.shape_of.ensures l) (c.all_there.ensures l c.args.expressions.now) c.if-all_there.false)

pub returns-in_err-shape_of : goal.returns-in_err-shape_of
returns-in_err-shape_of c = λ l. let p = err_from_is_err_and c.from_residual.result c.from_residual.ensures.1 in rw (p.1, p.2) (stops c.args.plan.now _ (ap shape_says (sym c.in_err-shape_of.was) ∙ c.shape_of.ensures l))
