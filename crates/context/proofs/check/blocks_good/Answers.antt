-- `context::check::blocks_good` meets its contract: the test of each block is one of `all`.
-- Assumes nothing.
use native.Mathlib.Omega.{arith}
use Rattle.std.proofs.Common.{ℕ, rules, tests}
use Rattle.std.proofs.lemmas.Iterator.{YieldsList-from_range, cases_from_all}
use Rattle.context.specs.Context.{blocks_in, Block}
use Rattle.context.proofs.Tells.{each_so}
use Rattle.context.proofs.check.blocks_good.Goals as goal

pub returns : goal.returns
returns c =
    let P = λ (k : ℕ). Block c.args.context.now c.args.m k in
    let n = blocks_in c.args.context.now in
    each_so P n _ (cases_from_all _ _ _ P (λ k. P k → ⊥) c.all.ensures.ran (YieldsList-from_range 0 n n (search rules) (omega arith)) (λ x q k. search (rules, tests)) (λ x q k. search (rules, tests)))
