-- `pool::cycle::first_reached` meets its contract. Assumes nothing.
use mathlib.Core.Path.{◌≡◌}
use mathlib.Core.Bool.{true, false}
use lib.Dec.{eqb}
use lib.ListN.{take}
use native.Mathlib.Omega.{arith}
use borrow.Author.Rules.{rules}
use borrow.Author.Tests.{tests}
use Rattle.std.proofs.lemmas.Iterator.{IsFirst-from_position, YieldsList-from_slice}
use Rattle.pool.proofs.Firsts.{first_in}
use Rattle.pool.proofs.cycle.first_reached.Goals as goal

pub returns : goal.returns
returns c =
    first_in (λ b. eqb b 1) _ _ _ (omega (arith, c.requires, c.told-marks))
    (IsFirst-from_position _ _ _ (λ b. eqb b 1 ≡ true) (λ b. eqb b 1 ≡ false) c.position.ensures.ran (YieldsList-from_slice (take c.args.m c.args.marks.now) cc)
    (λ x q k. search (rules, tests)) (λ x q k. search (rules, tests)))
