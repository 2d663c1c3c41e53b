-- `degree_search::candidate::read_identities` meets its contract: what is left to read, after the first k, is all that there is. Assumes nothing.
use mathlib.Core.Path.{refl}
use native.Mathlib.Omega.{arith}
use Rattle.std.proofs.lemmas.Result.{err_from_is_err_and}
use Rattle.degree_search.proofs.Folds.{reading-first, read_all, next-asks, reading-on, read-refused}
use Rattle.degree_search.proofs.candidate.read_identities.Goals as goal

pub loop-k-init : goal.loop-k-init
loop-k-init c = λ l n rank a. reading-first a

pub identity-requires : goal.identity-requires
identity-requires c = let P = c.requires in (P.0, P.1, P.2, next-asks P.3 (c.loop-k.invariant P.0 P.1 P.2 P.3) c.loop-k-test.true refl)

pub loop-k-smaller : goal.loop-k-smaller
loop-k-smaller c = omega (arith, c.loop-k-test.true)

pub loop-k-preserved : goal.loop-k-preserved
loop-k-preserved c = λ l n rank a. reading-on a (c.loop-k.invariant l n rank a) c.loop-k-test.true refl (c.identity.ensures l n rank (next-asks a (c.loop-k.invariant l n rank a) c.loop-k-test.true refl)) c.in_ok-largest.was

pub returns : goal.returns
returns c = λ l n rank a. read_all a (c.loop-k.invariant l n rank a) c.loop-k-test.false

pub returns-in_err-largest : goal.returns-in_err-largest
returns-in_err-largest c = λ l n rank a. let p = err_from_is_err_and c.from_residual.result c.from_residual.ensures.1 in rw (p.1, p.2) (read-refused a (c.loop-k.invariant l n rank a) c.loop-k-test.true refl (c.identity.ensures l n rank (next-asks a (c.loop-k.invariant l n rank a) c.loop-k-test.true refl)) c.in_err-largest.was)
