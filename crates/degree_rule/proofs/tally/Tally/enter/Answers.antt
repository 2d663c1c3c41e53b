-- `degree_rule::tally::Tally::enter` meets its contract. Assumes nothing.
use native.Mathlib.Omega.{arith}
use Rattle.degree_rule.proofs.Counts.{over, counts, room-left}
use Rattle.degree_rule.proofs.tally.Tally.enter.Goals as goal

pub returns-then-self : goal.returns-then-self
returns-then-self c = over c.args.self.now c.requires c.if-self.true

pub overflow_add-self : goal.overflow_add-self
overflow_add-self c = omega (arith, room-left c.args.self.now c.requires c.if-self.false)

pub returns : goal.returns
returns c = counts c.args.self.now c.requires c.if-self.false
