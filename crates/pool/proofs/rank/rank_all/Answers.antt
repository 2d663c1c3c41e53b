-- `pool::rank::rank_all` meets its contract: every expression before e is ranked and none is being followed. Assumes nothing.
use native.Mathlib.Omega.{arith}
use Rattle.pool.proofs.Ranks.{cycle-is}
use Rattle.pool.proofs.AllRanks.{begin, asks, advance, finish}
use Rattle.pool.proofs.rank.rank_all.Goals as goal

pub loop-e-init : goal.loop-e-init
loop-e-init c = λ l n a. (omega arith, begin _ _ a)

pub visit-requires : goal.visit-requires
visit-requires c = let P = c.requires in (P.0, P.1, c.args.m, asks _ _ (c.loop-e.invariant P.0 P.1 P.2).1 c.loop-e-test.true)

pub returns-in_err-done : goal.returns-in_err-done
returns-in_err-done c = λ l n a. rw c.from_residual.ensures (cycle-is _ _ (c.visit.ensures l n _ (asks _ _ (c.loop-e.invariant l n a).1 c.loop-e-test.true)) c.in_err-done.was)

pub loop-e-smaller : goal.loop-e-smaller
loop-e-smaller c = omega arith

pub loop-e-preserved : goal.loop-e-preserved
loop-e-preserved c = λ l n a. (omega arith, advance _ _ (c.loop-e.invariant l n a).1 (c.visit.ensures l n _ (asks _ _ (c.loop-e.invariant l n a).1 c.loop-e-test.true)) c.in_ok-done.was)

pub returns : goal.returns
returns c = λ l n a. finish _ _ (c.loop-e.invariant l n a).1 c.loop-e-test.false
