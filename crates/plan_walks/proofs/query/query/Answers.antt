-- `plan_walks::query::query` meets its contract: no plan, or the walk by it (proofs/Entries.antt). Assumes nothing.
use mathlib.Core.Path.{refl}
use native.Mathlib.Omega.{arith}
use lib.ListN.{drop, replicate, length-take}
use Rattle.std.proofs.lemmas.Result.{err_from_is_err_and}
use Rattle.plan_walks.specs.Query.{query_by}
use Rattle.plans.specs.Columns.{record_limit}
use Rattle.plan_walks.proofs.Queries.{zeros-front}
use Rattle.plan_walks.proofs.Entries.{unplanned-walk, standing, sections-fit, dims-fit, records-fit, placed_in, planned-walk, own_is}
use Rattle.plan_walks.proofs.query.query.Goals as goal

pub plan_frames-requires : goal.plan_frames-requires
plan_frames-requires c = record { nodes = refl; expressions = refl; blank = record { sections = refl; dims = refl; cm_dims = refl } }

pub slice_bounds-sections-end : goal.slice_bounds-sections-end
slice_bounds-sections-end c = sections-fit c.plan_frames.ensures c.in_ok-k.was

pub slice_bounds-map_section-end : goal.slice_bounds-map_section-end
slice_bounds-map_section-end c = simp length-take (omega (arith, sections-fit c.plan_frames.ensures c.in_ok-k.was))

pub slice_bounds-dims-end : goal.slice_bounds-dims-end
slice_bounds-dims-end c = dims-fit c.plan_frames.ensures c.in_ok-k.was

pub slice_bounds-map_section-end-2 : goal.slice_bounds-map_section-end-2
slice_bounds-map_section-end-2 c = simp length-take (omega (arith, dims-fit c.plan_frames.ensures c.in_ok-k.was))

pub slice_bounds-positions-end : goal.slice_bounds-positions-end
slice_bounds-positions-end c = records-fit c.plan_frames.ensures c.in_ok-k.was

pub slice_bounds-map_section-end-3 : goal.slice_bounds-map_section-end-3
slice_bounds-map_section-end-3 c = simp length-take (omega (arith, records-fit c.plan_frames.ensures c.in_ok-k.was))

pub query_planned-requires : goal.query_planned-requires
query_planned-requires c = (_, _, _, _, standing c.plan_frames.ensures c.in_ok-k.was, (placed_in c.plan_frames.ensures c.in_ok-k.was (drop c.in_ok-k.k.records (replicate record_limit 0)) (zeros-front _ record_limit (records-fit c.plan_frames.ensures c.in_ok-k.was)) refl c.map_section.ensures c.map_section.auto.positions))

pub returns-in_err-k : goal.returns-in_err-k
returns-in_err-k c = let p = err_from_is_err_and c.from_residual.result c.from_residual.ensures.1 in rw (p.1, p.2) (own_is c.good_lists-well_formed.ensures (unplanned-walk c.plan_frames.ensures (query_by c.args.first.now c.args.i.now c.args.last.now) _ c.in_err-k.was))

pub returns : goal.returns
returns c = own_is c.good_lists-well_formed.ensures (planned-walk c.plan_frames.ensures c.in_ok-k.was (query_by c.args.first.now c.args.i.now c.args.last.now) (c.query_planned.ensures _ _ _ _ (standing c.plan_frames.ensures c.in_ok-k.was) (placed_in c.plan_frames.ensures c.in_ok-k.was (drop c.in_ok-k.k.records (replicate record_limit 0)) (zeros-front _ record_limit (records-fit c.plan_frames.ensures c.in_ok-k.was)) refl c.map_section.ensures c.map_section.auto.positions)))
