-- `plan_walks::dimension::dimension_first` meets its contract: no plan, or dimensions by it (proofs/Entries.antt). Assumes nothing.
use mathlib.Core.Path.{refl}
use mathlib.Core.List.{[], ◌∷◌}
use native.Mathlib.Omega.{arith}
use lib.ListN.{length-take}
use Rattle.std.proofs.lemmas.Result.{err_from_is_err_and}
use Rattle.dimensions.specs.Answers.{first_dim_x}
use Rattle.plan_walks.specs.Dimension.{dimension_by}
use Rattle.plan_walks.proofs.Entries.{unplanned-walk, standing, in_tables, dims_in, dims-fit, planned-walk, own_is}
use Rattle.plan_walks.proofs.dimension.dimension_first.Goals as goal

pub plan_frames-requires : goal.plan_frames-requires
plan_frames-requires c = record { nodes = refl; expressions = refl; blank = record { sections = refl; dims = refl; cm_dims = refl } }

pub slice_bounds-dims-end : goal.slice_bounds-dims-end
slice_bounds-dims-end c = dims-fit c.plan_frames.ensures c.in_ok-k.was

pub slice_bounds-first_planned-end : goal.slice_bounds-first_planned-end
slice_bounds-first_planned-end c = simp length-take (omega (arith, dims-fit c.plan_frames.ensures c.in_ok-k.was))

pub first_planned-requires : goal.first_planned-requires
first_planned-requires c = (_, _, _, standing c.plan_frames.ensures c.in_ok-k.was, in_tables c.plan_frames.ensures c.in_ok-k.was, dims_in c.plan_frames.ensures c.in_ok-k.was)

pub returns-in_err-k : goal.returns-in_err-k
returns-in_err-k c = let p = err_from_is_err_and c.from_residual.result c.from_residual.ensures.1 in rw (p.1, p.2) (own_is c.good_list-well_formed.ensures (unplanned-walk c.plan_frames.ensures (dimension_by first_dim_x (c.args.first.now ∷ []) c.args.plan.now) _ c.in_err-k.was))

pub returns : goal.returns
returns c = own_is c.good_list-well_formed.ensures (planned-walk c.plan_frames.ensures c.in_ok-k.was (dimension_by first_dim_x (c.args.first.now ∷ []) c.args.plan.now) (c.first_planned.ensures _ _ _ (standing c.plan_frames.ensures c.in_ok-k.was) (in_tables c.plan_frames.ensures c.in_ok-k.was) (dims_in c.plan_frames.ensures c.in_ok-k.was)))
