-- `codegen::build::build_code` meets its contract: each need is one lemma of proofs/Builds.antt.
-- Assumes nothing.
use Rattle.std.proofs.lemmas.Result.{err_from_is_err_and}
use Rattle.requests.specs.Reads.{of-slice, whole-asked}
use Rattle.codegen.specs.Building.{lists}
use Rattle.codegen.proofs.Builds.{refused-built, read-built}
use Rattle.codegen.proofs.build.build_code.Goals as goal

pub build_read-requires : goal.build_read-requires
build_read-requires c = let a = whole-asked (of-slice c.fill.ensures) c.in_ok-c.was in (a.nodes, a.expressions)

pub returns : goal.returns
returns c = read-built (of-slice c.fill.ensures) _ _ (lists c.args.first.now c.args.i.now c.args.last.now) c.in_ok-c.was c.build_read.ensures

pub returns-in_err-c : goal.returns-in_err-c
returns-in_err-c c = let p = err_from_is_err_and c.from_residual.result c.from_residual.ensures.1 in rw (p.1, p.2) (refused-built (of-slice c.fill.ensures) _ _ (lists c.args.first.now c.args.i.now c.args.last.now) c.in_err-c.was)
