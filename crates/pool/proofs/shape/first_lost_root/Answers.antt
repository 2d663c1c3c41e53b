-- `pool::shape::first_lost_root` meets its contract. Assumes nothing.
use mathlib.Core.Path.{◌≡◌}
use mathlib.Core.Bool.{true, false}
use borrow.Author.Rules.{rules}
use borrow.Author.Tests.{tests}
use Rattle.std.proofs.lemmas.Iterator.{first_from_Range}
use Rattle.pool.proofs.Firsts.{first_by}
use Rattle.pool.specs.Shapes.{lost_root_in}
use Rattle.pool.proofs.shape.first_lost_root.Goals as goal

pub returns : goal.returns
returns c =
    first_by (lost_root_in c.args.expressions.now c.args.n) _ _
    (first_from_Range _ _ _ _ (λ i. lost_root_in c.args.expressions.now c.args.n i ≡ true) (λ i. lost_root_in c.args.expressions.now c.args.n i ≡ false) c.find.ensures.ran
    (λ x q k. search (rules, tests)) (λ x q k. search (rules, tests)))
