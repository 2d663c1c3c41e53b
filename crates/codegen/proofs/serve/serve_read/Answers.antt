-- `codegen::serve::serve_read` meets its contract: each need is one lemma of proofs/Judges.antt.
-- Assumes nothing.
use mathlib.Core.Path.{refl}
use mathlib.Core.List.{[]}
use Rattle.std.proofs.lemmas.Result.{err_from_is_err_and}
use Rattle.requests.specs.Admitted.{rest, judged_as, acyclic}
use Rattle.std.specs.Prelude.{Err}
use Rattle.codegen.proofs.Judges.{bad-result, bad-context, pool-refused, serve-asks, result-good, judged-served}
use Rattle.codegen.proofs.serve.serve_read.Goals as goal

pub returns-then-not-is_good : goal.returns-then-not-is_good
returns-then-not-is_good c = λ ls. rw c.into.ensures (bad-result _ _ _ _ c.requires _ c.args.context.now c.args.list.now c.is_good.ensures c.if-not-is_good.true ls)

pub returns-then-not-is_good-2 : goal.returns-then-not-is_good-2
returns-then-not-is_good-2 c = λ ls. rw c.into-then-not-is_good-2.ensures (bad-context _ _ _ _ c.requires _ c.args.context.now c.args.list.now c.is_good.ensures c.if-not-is_good.false c.is_good-2.ensures c.if-not-is_good-2.true ls)

pub serve_wanted-requires : goal.serve_wanted-requires
serve_wanted-requires c = let v = judged_as _ _ c.args.c [] (c.admit.ensures []) refl c.in_ok-admit.was in ((rest _ _ _ _ c.requires [], acyclic _ _ _ _ c.requires [] v, serve-asks _ _ _ _ c.requires _ c.args.context.now c.args.list.now c.is_good.ensures c.if-not-is_good.false c.is_good-2.ensures c.if-not-is_good-2.false [] v), result-good _ _ _ _ c.requires _ c.args.context.now c.args.list.now c.is_good.ensures c.if-not-is_good.false c.is_good-2.ensures c.if-not-is_good-2.false)

pub returns : goal.returns
returns c = λ ls. let v = judged_as _ _ c.args.c ls (c.admit.ensures ls) refl c.in_ok-admit.was in judged-served _ _ _ _ c.requires _ c.args.context.now c.args.list.now c.is_good.ensures c.if-not-is_good.false c.is_good-2.ensures c.if-not-is_good-2.false ls v (c.serve_wanted.ensures (rest _ _ _ _ c.requires ls) (acyclic _ _ _ _ c.requires ls v) (serve-asks _ _ _ _ c.requires _ c.args.context.now c.args.list.now c.is_good.ensures c.if-not-is_good.false c.is_good-2.ensures c.if-not-is_good-2.false ls v) (result-good _ _ _ _ c.requires _ c.args.context.now c.args.list.now c.is_good.ensures c.if-not-is_good.false c.is_good-2.ensures c.if-not-is_good-2.false))

pub returns-in_err-admit : goal.returns-in_err-admit
returns-in_err-admit c = λ ls. let p = err_from_is_err_and c.from_residual.result c.from_residual.ensures.1 in rw (p.1, p.2) (pool-refused _ _ _ _ c.requires _ c.args.context.now c.args.list.now c.is_good.ensures c.if-not-is_good.false c.is_good-2.ensures c.if-not-is_good-2.false ls (judged_as _ _ c.args.c ls (c.admit.ensures ls) refl c.in_err-admit.was) (Err _) refl)
