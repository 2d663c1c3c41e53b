-- `pool::shape::first_late_child` meets its contract. Assumes nothing.
use mathlib.Core.Path.{◌≡◌}
use mathlib.Core.Bool.{true, false}
use borrow.Author.Rules.{rules}
use borrow.Author.Tests.{tests}
use Rattle.std.proofs.lemmas.Iterator.{first_from_Range}
use Rattle.pool.proofs.Firsts.{first_by}
use Rattle.pool.specs.Shapes.{late_in}
use Rattle.pool.proofs.shape.first_late_child.Goals as goal

pub returns : goal.returns
returns c =
    first_by (late_in c.args.nodes.now) _ _
    (first_from_Range _ _ _ _ (λ i. late_in c.args.nodes.now i ≡ true) (λ i. late_in c.args.nodes.now i ≡ false) c.find.ensures.ran
    (λ x q k. search (rules, tests)) (λ x q k. search (rules, tests)))
