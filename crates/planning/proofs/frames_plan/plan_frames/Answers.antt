-- `planning::frames_plan::plan_frames` meets its contract: a refusal while reading, or what comes of what was read (proofs/Readings.antt). Assumes nothing.
use mathlib.Core.Path.{refl}
use Rattle.std.proofs.lemmas.Result.{err_from_is_err_and}
use Rattle.planning.proofs.Readings.{refused-told, read_asked, read_told}
use Rattle.planning.proofs.frames_plan.plan_frames.Goals as goal

pub fill-requires : goal.fill-requires
fill-requires c = record { nodes = c.requires.nodes; literals = refl; expressions = c.requires.expressions; requests = refl }

pub plan_read-requires : goal.plan_read-requires
plan_read-requires c = read_asked c.fill.ensures c.in_ok-c.was c.requires

pub returns : goal.returns
returns c = read_told c.fill.ensures c.args.plan.now c.args.well_formed c.in_ok-c.was c.plan_read.ensures

pub returns-in_err-c : goal.returns-in_err-c
returns-in_err-c c = let p = err_from_is_err_and c.from_residual.result c.from_residual.ensures.1 in rw (p.1, p.2) (refused-told c.fill.ensures c.args.plan.now c.args.well_formed c.in_err-c.was)
