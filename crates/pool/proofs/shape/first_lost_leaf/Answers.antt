-- `pool::shape::first_lost_leaf` meets its contract. Assumes nothing.
use mathlib.Core.Path.{◌≡◌}
use mathlib.Core.Bool.{true, false}
use borrow.Author.Rules.{rules}
use borrow.Author.Tests.{tests}
use Rattle.std.proofs.lemmas.Iterator.{first_from_Range}
use Rattle.pool.proofs.Firsts.{first_by}
use Rattle.pool.specs.Shapes.{lost_in}
use Rattle.pool.proofs.shape.first_lost_leaf.Goals as goal

pub returns : goal.returns
returns c =
    first_by (lost_in c.args.nodes.now c.args.expressions) _ _
    (first_from_Range _ _ _ _ (λ i. lost_in c.args.nodes.now c.args.expressions i ≡ true) (λ i. lost_in c.args.nodes.now c.args.expressions i ≡ false) c.find.ensures.ran
    (λ x q k. search (rules, tests)) (λ x q k. search (rules, tests)))
