-- `degree_search::candidate::candidate` meets its contract. Assumes nothing.
use mathlib.Core.Path.{refl}
use native.Mathlib.Omega.{arith}
use Rattle.std.proofs.lemmas.Result.{err_from_is_err_and}
use Rattle.degree_search.proofs.Folds.{tick-asks, candidate-over, candidate-refused, candidate-gives}
use Rattle.degree_search.proofs.candidate.candidate.Goals as goal

pub overflow_sub-identities : goal.overflow_sub-identities
overflow_sub-identities c = omega (arith, c.requires.3.some)

pub tick_all-requires : goal.tick_all-requires
tick_all-requires c = c.requires.3.holds.whole

pub returns-then-not-tick_all : goal.returns-then-not-tick_all
returns-then-not-tick_all c = λ l n rank a cut vc. candidate-over a cut vc refl c.tick_all.ensures c.if-not-tick_all.true

pub read_identities-requires : goal.read_identities-requires
read_identities-requires c = let P = c.requires in (P.0, P.1, P.2, tick-asks P.3 c.tick_all.ensures)

pub returns : goal.returns
returns c = λ l n rank a cut vc. candidate-gives a cut vc refl c.tick_all.ensures c.if-not-tick_all.false (c.read_identities.ensures l n rank (tick-asks a c.tick_all.ensures)) c.in_ok-largest.was c.top.ensures

pub returns-in_err-largest : goal.returns-in_err-largest
returns-in_err-largest c = λ l n rank a cut vc. let p = err_from_is_err_and c.from_residual.result c.from_residual.ensures.1 in rw (p.1, p.2) (candidate-refused a cut vc refl c.tick_all.ensures c.if-not-tick_all.false (c.read_identities.ensures l n rank (tick-asks a c.tick_all.ensures)) c.in_err-largest.was)
