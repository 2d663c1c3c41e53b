-- `codegen::build::build_read` meets its contract: each need is one lemma of proofs/Builds.antt.
-- Assumes nothing.
use mathlib.Core.Path.{refl}
use Rattle.std.proofs.lemmas.Result.{err_from_is_err_and}
use Rattle.requests.specs.Admitted.{judged_as}
use Rattle.codegen.specs.Building.{lists}
use Rattle.std.specs.Prelude.{Err}
use Rattle.codegen.proofs.Builds.{bad-context, pool-refused, judged-built, rest_of}
use Rattle.codegen.proofs.build.build_read.Goals as goal

pub returns-then-not-is_good : goal.returns-then-not-is_good
returns-then-not-is_good c = λ ls. rw c.into.ensures (bad-context _ _ c.args.c c.args.context.now c.args.list.now (lists c.args.first.now c.args.i.now c.args.last.now) c.is_good.ensures c.if-not-is_good.true ls)

pub build_context-requires : goal.build_context-requires
build_context-requires c = record { few = c.requires.1; good = c.is_good.ensures.0 c.if-not-is_good.false }

pub returns : goal.returns
returns c = λ ls. judged-built _ _ c.args.c c.args.context.now c.args.list.now (lists c.args.first.now c.args.i.now c.args.last.now) c.is_good.ensures c.if-not-is_good.false ls (judged_as _ _ c.args.c ls (c.admit.ensures ls) refl c.in_ok-admit.was) (c.build_context.ensures _ (rest_of ls c.args.expressions.now c.args.c) refl refl)

pub returns-in_err-admit : goal.returns-in_err-admit
returns-in_err-admit c = λ ls. let p = err_from_is_err_and c.from_residual.result c.from_residual.ensures.1 in rw (p.1, p.2) (pool-refused _ _ c.args.c c.args.context.now c.args.list.now (lists c.args.first.now c.args.i.now c.args.last.now) c.is_good.ensures c.if-not-is_good.false ls (judged_as _ _ c.args.c ls (c.admit.ensures ls) refl c.in_err-admit.was) (Err _) refl)
