-- `plan_walks::dimension::dimension` meets its contract: no plan, or dimensions by it (proofs/Entries.antt). Assumes nothing.
use mathlib.Core.Path.{refl}
use mathlib.Core.List.{[], ◌∷◌}
use native.Mathlib.Omega.{arith}
use lib.ListN.{length-take}
use Rattle.std.proofs.lemmas.Result.{err_from_is_err_and}
use Rattle.plan_walks.specs.Dimension.{dimension_by}
use Rattle.plan_walks.proofs.Entries.{unplanned-walk, standing, in_tables, dims_in, dims-fit, planned-walk, own_is}
use Rattle.plan_walks.proofs.dimension.dimension.Goals as goal

pub plan_frames-requires : goal.plan_frames-requires
plan_frames-requires c = record { nodes = refl; expressions = refl; blank = record { sections = refl; dims = refl; cm_dims = refl } }

pub slice_bounds-dims-end : goal.slice_bounds-dims-end
slice_bounds-dims-end c = dims-fit c.plan_frames.ensures c.in_ok-k.was

pub slice_bounds-dimension_planned-end : goal.slice_bounds-dimension_planned-end
slice_bounds-dimension_planned-end c = simp length-take (omega (arith, dims-fit c.plan_frames.ensures c.in_ok-k.was))

pub dimension_planned-requires : goal.dimension_planned-requires
dimension_planned-requires c = (_, _, _, standing c.plan_frames.ensures c.in_ok-k.was, in_tables c.plan_frames.ensures c.in_ok-k.was, dims_in c.plan_frames.ensures c.in_ok-k.was)

pub returns-in_err-k : goal.returns-in_err-k
returns-in_err-k c = let p = err_from_is_err_and c.from_residual.result c.from_residual.ensures.1 in rw (p.1, p.2) (own_is c.good_lists-well_formed.ensures (unplanned-walk c.plan_frames.ensures (dimension_by c.args.dim_x (c.args.first.now ∷ c.args.i.now ∷ c.args.last.now ∷ []) c.args.plan.now) _ c.in_err-k.was))

pub returns : goal.returns
returns c = own_is c.good_lists-well_formed.ensures (planned-walk c.plan_frames.ensures c.in_ok-k.was (dimension_by c.args.dim_x (c.args.first.now ∷ c.args.i.now ∷ c.args.last.now ∷ []) c.args.plan.now) (c.dimension_planned.ensures _ _ _ (standing c.plan_frames.ensures c.in_ok-k.was) (in_tables c.plan_frames.ensures c.in_ok-k.was) (dims_in c.plan_frames.ensures c.in_ok-k.was)))
