-- `constraint_build::fit::fit_list` meets its contract: each need is one lemma of proofs/Fits.antt. Assumes nothing.
use Rattle.std.proofs.lemmas.Result.{err_from_is_err_and}
use Rattle.codegen.specs.Building.{lists}
use Rattle.constraint_build.specs.Both.{lent}
use Rattle.constraint_build.proofs.Fits.{fit-refused, measure-asked, fitted}
use Rattle.constraint_build.proofs.fit.fit_list.Goals as goal

pub measure-room-requires : goal.measure-room-requires
measure-room-requires c = let S = c in measure-asked (lent S.args.context.now S.args.list.now (lists S.args.first.now S.args.i.now S.args.last.now)) S.requires.2 c.plan_list.new.marks c.plan_list.new.words c.plan_list.new.jobs c.plan_list.result c.plan_list.ensures S.args.closes c.in_ok-n.was

pub returns-in_err-n : goal.returns-in_err-n
returns-in_err-n c = let S = c in λ b A a. let p = err_from_is_err_and c.from_residual.result c.from_residual.ensures.1 in rw (p.1, p.2) (fit-refused (lent S.args.context.now S.args.list.now (lists S.args.first.now S.args.i.now S.args.last.now)) a c.plan_list.new.marks c.plan_list.new.words c.plan_list.new.jobs c.plan_list.result c.plan_list.ensures S.args.closes c.in_err-n.was _)

pub returns : goal.returns
returns c = let S = c in λ b A a. fitted (lent S.args.context.now S.args.list.now (lists S.args.first.now S.args.i.now S.args.last.now)) a c.plan_list.new.marks c.plan_list.new.words c.plan_list.new.jobs c.plan_list.result c.plan_list.ensures S.args.closes c.in_ok-n.was c.measure-room.ensures
