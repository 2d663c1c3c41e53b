-- `plan_walks::query::query_planned` meets its contract: the walk with the plan's trees (proofs/Queries.antt). Assumes nothing.
use mathlib.Core.Path.{refl}
use Rattle.std.proofs.lemmas.Result.{err_from_is_err_and}
use native.Mathlib.Omega.{arith}
use lib.ListN.{length-take}
use Rattle.plan_walks.proofs.Queries.{trees-asked, trees-room, trees_are, told_as, queried-planned}
use Rattle.plan_walks.proofs.query.query_planned.Goals as goal

pub fill_trees-n-requires : goal.fill_trees-n-requires
fill_trees-n-requires c = trees-asked c.requires.4 c.requires.5

pub slice_bounds-trees-end : goal.slice_bounds-trees-end
slice_bounds-trees-end c = trees-room c.requires.4 c.requires.5 refl c.fill_trees-n.ensures

pub slice_bounds-fix_query_code-end : goal.slice_bounds-fix_query_code-end
slice_bounds-fix_query_code-end c = simp length-take (omega (arith, trees-room c.requires.4 c.requires.5 refl c.fill_trees-n.ensures))

pub returns : goal.returns
returns c = λ b w x cs z a. queried-planned z (trees_are z a refl c.fill_trees-n.ensures) c.fix_query_code.ensures (told_as c.in_ok-fix_query_code.was refl)

pub returns-in_err-fix_query_code : goal.returns-in_err-fix_query_code
returns-in_err-fix_query_code c = λ b w x cs z a. queried-planned z (trees_are z a refl c.fill_trees-n.ensures) c.fix_query_code.ensures (let p = err_from_is_err_and c.from_residual.result c.from_residual.ensures.1 in rw (p.1, p.2) (told_as c.in_err-fix_query_code.was refl))
