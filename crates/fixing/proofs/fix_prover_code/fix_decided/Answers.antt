-- `fixing::fix_prover_code::fix_decided` meets its contract: each way through the code is one law of specs/Laws/Whole.antt.
-- Assumes nothing.
use native.Mathlib.Omega.{arith}
use mathlib.Core.Path.{refl, ap}
use Rattle.lent_lists.specs.Verdicts.{verdict_no}
use Rattle.fixing.specs.Laws.Whole.{answer-full, answer-done}
use Rattle.fixing.proofs.fix_prover_code.fix_decided.Goals as goal

pub returns-then-next-gt-LAST_COUNTER : goal.returns-then-next-gt-LAST_COUNTER
returns-then-next-gt-LAST_COUNTER c = answer-full _ _ _ _ _ _ _ refl (ap verdict_no c.requires) 65536 refl _ c.give_lists-next.ensures (λ k. omega (arith, c.slice_known-1.given k)) (λ k. omega (arith, c.slice_known-2-1.given k)) (λ k. omega (arith, c.slice_known-3-1.given k)) c.if-next-gt-LAST_COUNTER.true

pub returns : goal.returns
returns c = answer-done _ _ _ _ _ _ _ refl (ap verdict_no c.requires) 65536 refl _ c.give_lists-next.ensures (λ k. omega (arith, c.slice_known-1.given k)) (λ k. omega (arith, c.slice_known-2-1.given k)) (λ k. omega (arith, c.slice_known-3-1.given k)) c.if-next-gt-LAST_COUNTER.false _ _ _ c.fix_lists.ensures
