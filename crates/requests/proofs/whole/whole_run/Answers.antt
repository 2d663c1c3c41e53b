-- `requests::whole::whole_run` meets its contract: each need is one lemma of proofs/Wholes.antt.
-- Assumes nothing.
use mathlib.Core.Path.{refl}
use mathlib.Core.List.{[]}
use Rattle.std.proofs.lemmas.Result.{err_from_is_err_and}
use Rattle.requests.specs.Admitted.{rest, judged_as, acyclic, fresh-asks}
use Rattle.requests.proofs.Wholes.{pool-refused, pool-served}
use Rattle.std.specs.Prelude.{Err}
use Rattle.requests.proofs.whole.whole_run.Goals as goal

pub serve_fresh-requires : goal.serve_fresh-requires
serve_fresh-requires c = let v = judged_as _ _ c.args.c [] (c.admit.ensures []) refl c.in_ok-admit.was in (rest _ _ _ _ c.requires [], acyclic _ _ _ _ c.requires [] v, fresh-asks _ _ _ _ c.requires [] v)

pub returns : goal.returns
returns c = λ ls. let v = judged_as _ _ c.args.c ls (c.admit.ensures ls) refl c.in_ok-admit.was in pool-served _ _ _ _ c.requires ls v _ _ _ (c.serve_fresh.ensures (rest _ _ _ _ c.requires ls) (acyclic _ _ _ _ c.requires ls v) (fresh-asks _ _ _ _ c.requires ls v))

pub returns-in_err-admit : goal.returns-in_err-admit
returns-in_err-admit c = λ ls. let p = err_from_is_err_and c.from_residual.result c.from_residual.ensures.1 in rw (p.1, p.2) (pool-refused _ _ _ _ c.requires ls (judged_as _ _ c.args.c ls (c.admit.ensures ls) refl c.in_err-admit.was) _ (Err _) refl)
