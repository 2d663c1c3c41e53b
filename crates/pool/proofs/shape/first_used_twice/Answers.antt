-- `pool::shape::first_used_twice` meets its contract. Assumes nothing.
use mathlib.Core.Path.{◌≡◌}
use mathlib.Core.Bool.{true, false}
use lib.Dec.{leb}
use lib.ListN.{take}
use native.Mathlib.Omega.{arith}
use borrow.Author.Rules.{rules}
use borrow.Author.Tests.{tests}
use Rattle.std.proofs.lemmas.Iterator.{IsFirst-from_position, YieldsList-from_slice}
use Rattle.pool.proofs.Firsts.{first_in}
use Rattle.pool.proofs.shape.first_used_twice.Goals as goal

pub returns : goal.returns
returns c =
    first_in (λ b. leb 2 b) _ _ _ (omega (arith, c.requires, c.told-uses))
    (IsFirst-from_position _ _ _ (λ b. leb 2 b ≡ true) (λ b. leb 2 b ≡ false) c.position.ensures.ran (YieldsList-from_slice (take c.args.n c.args.uses.now) cc)
    (λ x q k. search (rules, tests)) (λ x q k. search (rules, tests)))
