-- `planning::pool_plan::plan_pool` meets its contract: a refusal of the shape, or what comes of a pool that has one (proofs/Pooled.antt). Assumes nothing.
use mathlib.Core.Path.{refl, sym, ◌∙◌, ap}
use mathlib.Core.List.{[]}
use Rattle.std.proofs.lemmas.Result.{err_from_is_err_and}
use Rattle.pool.specs.Ranking.{Tabling}
use Rattle.pool.specs.Admitting.{shape_says}
use Rattle.planning.proofs.Pooled.{shape-asked, shape-told, shaped-asks, shaped-told}
use Rattle.planning.proofs.pool_plan.plan_pool.Goals as goal

pub plan_shape-requires : goal.plan_shape-requires
plan_shape-requires c = shape-asked c.requires

pub q2exp_at-requires : goal.q2exp_at-requires
q2exp_at-requires c = c.requires.fitting.whole.0

pub plan_shaped-requires : goal.plan_shaped-requires
plan_shaped-requires c = ([], _, (shaped-asks c.requires c.args.nodes.now c.args.expressions.now [] (ap shape_says (sym c.in_ok-plan_shape.was) ∙ c.plan_shape.ensures []) c.q2exp_at.ensures.is))

pub returns : goal.returns
returns c = λ l. shaped-told c.requires c.args.nodes.now c.args.expressions.now l (ap shape_says (sym c.in_ok-plan_shape.was) ∙ c.plan_shape.ensures l) (c.plan_shaped.ensures l _ (shaped-asks c.requires c.args.nodes.now c.args.expressions.now l (ap shape_says (sym c.in_ok-plan_shape.was) ∙ c.plan_shape.ensures l) c.q2exp_at.ensures.is))

pub returns-in_err-plan_shape : goal.returns-in_err-plan_shape
returns-in_err-plan_shape c = λ l. let p = err_from_is_err_and c.from_residual.result c.from_residual.ensures.1 in rw (p.1, p.2) (shape-told c.args.plan.now (Tabling _ l _ _ _) (ap shape_says (sym c.in_err-plan_shape.was) ∙ c.plan_shape.ensures l) refl)
