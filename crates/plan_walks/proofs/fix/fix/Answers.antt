-- `plan_walks::fix::fix` meets its contract: no plan, or fixing by it (proofs/Entries.antt). Assumes nothing.
use mathlib.Core.Path.{refl}
use Rattle.std.proofs.lemmas.Result.{err_from_is_err_and}
use Rattle.plan_walks.specs.Fix.{is_n, fix_by}
use Rattle.plan_walks.proofs.Entries.{unplanned-walk, standing, in_tables, planned-walk, own_is}
use Rattle.plan_walks.proofs.fix.fix.Goals as goal

pub plan_frames-requires : goal.plan_frames-requires
plan_frames-requires c = record { nodes = refl; expressions = refl; blank = record { sections = refl; dims = refl; cm_dims = refl } }

pub fix_planned-requires : goal.fix_planned-requires
fix_planned-requires c = (standing c.plan_frames.ensures c.in_ok-k.was, in_tables c.plan_frames.ensures c.in_ok-k.was)

pub returns-in_err-k : goal.returns-in_err-k
returns-in_err-k c = let p = err_from_is_err_and c.from_residual.result c.from_residual.ensures.1 in rw (p.1, p.2) (own_is c.is_segment-well_formed.ensures (unplanned-walk c.plan_frames.ensures (fix_by c.args.counter c.args.first.now c.args.i.now c.args.last.now (is_n c.args.domain) c.args.plan.now) _ c.in_err-k.was))

pub returns : goal.returns
returns c = own_is c.is_segment-well_formed.ensures (planned-walk c.plan_frames.ensures c.in_ok-k.was (fix_by c.args.counter c.args.first.now c.args.i.now c.args.last.now (is_n c.args.domain) c.args.plan.now) (c.fix_planned.ensures (standing c.plan_frames.ensures c.in_ok-k.was) (in_tables c.plan_frames.ensures c.in_ok-k.was)))
