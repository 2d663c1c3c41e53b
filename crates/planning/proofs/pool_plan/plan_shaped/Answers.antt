-- `planning::pool_plan::plan_shaped` meets its contract: the verdict's refusal, or what comes of an admitted pool (proofs/Shaped.antt). Assumes nothing.
use mathlib.Core.Path.{refl}
use Rattle.std.proofs.lemmas.Result.{err_from_is_err_and}
use Rattle.planning.proofs.Shaped.{starts_in, refused-told, rank, admitted-asks, admitted-told}
use Rattle.planning.proofs.pool_plan.plan_shaped.Goals as goal

pub ranked-requires : goal.ranked-requires
ranked-requires c = (c.requires.0, c.requires.1, starts_in c.requires.2)

pub plan_admitted-requires : goal.plan_admitted-requires
plan_admitted-requires c = (c.requires.0, c.requires.1, rank c.requires.2 (c.ranked.ensures c.requires.0 c.requires.1 (starts_in c.requires.2)) c.in_ok-ranked.was, admitted-asks c.requires.2 (c.ranked.ensures c.requires.0 c.requires.1 (starts_in c.requires.2)) c.in_ok-ranked.was)

pub returns : goal.returns
returns c = λ l n a. admitted-told a (c.ranked.ensures l n (starts_in a)) c.in_ok-ranked.was (c.plan_admitted.ensures l n (rank a (c.ranked.ensures l n (starts_in a)) c.in_ok-ranked.was) (admitted-asks a (c.ranked.ensures l n (starts_in a)) c.in_ok-ranked.was))

pub returns-in_err-ranked : goal.returns-in_err-ranked
returns-in_err-ranked c = λ l n a. let p = err_from_is_err_and c.from_residual.result c.from_residual.ensures.1 in rw (p.1, p.2) (refused-told a (c.ranked.ensures l n (starts_in a)) c.in_err-ranked.was)
