-- `builds::build::skips` meets its contract: list by list.
-- Assumes nothing.
use Rattle.builds.proofs.Tests.{first-skips, last-skips, i-skips-not, i-skips}
use Rattle.builds.proofs.build.skips.Goals as goal

pub returns-in-First : goal.returns-in-First
returns-in-First c = first-skips _ _ c.in-First.is

pub returns-then-inside : goal.returns-then-inside
returns-then-inside c = i-skips _ _ c.in-I.is c.if-inside.true

pub returns-else-inside : goal.returns-else-inside
returns-else-inside c = i-skips-not _ _ c.in-I.is c.if-inside.false

pub returns-in-Last : goal.returns-in-Last
returns-in-Last c = last-skips _ _ c.in-Last.is
