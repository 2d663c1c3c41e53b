-- `evaluator_run::presence::has_value` meets its contract.
-- Assumes nothing.
use borrow.Author.Tests.{eq-eqb}
use native.Mathlib.Omega.{arith}
use mathlib.Core.Path.{◌∙◌}
use Rattle.evaluator_run.specs.Laws.Marks.{known-some, has-number, has-mark, has-given}
use Rattle.evaluator_run.proofs.presence.has_value.Goals as goal

pub returns-then-r-eq-NUMBER : goal.returns-then-r-eq-NUMBER
returns-then-r-eq-NUMBER c = has-number _ _ _ c.args.r c.if-r-eq-NUMBER.true

pub bounds-seen-at : goal.bounds-seen-at
bounds-seen-at c = omega (arith, c.slot-at.ensures.small)

pub returns-then-seen-at-eq-MARKED : goal.returns-then-seen-at-eq-MARKED
returns-then-seen-at-eq-MARKED c = eq-eqb _ _ c.if-seen-at-eq-MARKED.true ∙ has-mark _ _ _ c.args.r c.if-r-eq-NUMBER.false _ c.slot-at.ensures.is c.if-seen-at-eq-MARKED.true

pub before-requires : goal.before-requires
before-requires c = record { lends = c.requires; in_ids = omega (arith, c.well_formed); in_byte = omega (arith, c.well_formed) }

pub returns-else-seen-at-eq-MARKED : goal.returns-else-seen-at-eq-MARKED
returns-else-seen-at-eq-MARKED c = c.is_some.ensures ∙ known-some c.before-else-seen-at-eq-MARKED.result ∙ has-given _ _ _ c.args.r c.if-r-eq-NUMBER.false _ c.slot-at.ensures.is c.if-seen-at-eq-MARKED.false c.before-else-seen-at-eq-MARKED.result c.before-else-seen-at-eq-MARKED.ensures
