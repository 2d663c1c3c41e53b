-- `plan_map::map::map` meets its contract: no plan, or the answer of one (proofs/Answering.antt). Assumes nothing.
use mathlib.Core.Path.{refl}
use Rattle.std.proofs.lemmas.Result.{err_from_is_err_and}
use Rattle.planning.specs.Laws.Drawn.{pool_in, drawn}
use Rattle.plan_map.proofs.Answering.{unplanned-map, planned-map}
use Rattle.plan_map.proofs.map.map.Goals as goal

pub plan_frames-requires : goal.plan_frames-requires
plan_frames-requires c = record { nodes = refl; expressions = refl; blank = record { sections = refl; dims = refl; cm_dims = refl } }

pub map_planned-requires : goal.map_planned-requires
map_planned-requires c = (pool_in c.plan_frames.ensures, drawn c.plan_frames.ensures c.in_ok-k.was)

pub returns-in_err-k : goal.returns-in_err-k
returns-in_err-k c = let p = err_from_is_err_and c.from_residual.result c.from_residual.ensures.1 in rw (p.1, p.2) (unplanned-map c.plan_frames.ensures c.args.out.now c.in_err-k.was)

pub returns : goal.returns
returns c = planned-map c.plan_frames.ensures c.args.out.now c.in_ok-k.was (c.map_planned.ensures (pool_in c.plan_frames.ensures) (drawn c.plan_frames.ensures c.in_ok-k.was))
