-- `evaluator_run::presence::class` meets its contract: each arm of the `match` is one case of `class_no`.
-- Assumes nothing.
use borrow.Author.Tests.{ne_eqb}
use Rattle.evaluator_run.specs.Presence.{class_no}
use Rattle.evaluator_run.proofs.presence.class.Goals as goal

pub returns-in-16 : goal.returns-in-16
unfolding class_no
returns-in-16 c = rw c.in-16.is

pub returns-in-18 : goal.returns-in-18
unfolding class_no
returns-in-18 c = rw c.in-18.is

pub returns-in-19 : goal.returns-in-19
unfolding class_no
returns-in-19 c = rw c.in-19.is

pub returns-in-32 : goal.returns-in-32
unfolding class_no
returns-in-32 c = rw c.in-32.is

pub returns-in-33 : goal.returns-in-33
unfolding class_no
returns-in-33 c = rw c.in-33.is

pub returns-in-34 : goal.returns-in-34
unfolding class_no
returns-in-34 c = rw c.in-34.is

pub returns-in_default : goal.returns-in_default
unfolding class_no
returns-in_default c = simp (ne_eqb _ _ c.in_default.in_default-own.rest.0.0.0.0.0.1, ne_eqb _ _ c.in_default.in_default-own.rest.0.0.0.0.1, ne_eqb _ _ c.in_default.in_default-own.rest.0.0.0.1, ne_eqb _ _ c.in_default.in_default-own.rest.0.0.1, ne_eqb _ _ c.in_default.in_default-own.rest.0.1, ne_eqb _ _ c.in_default.in_default-own.rest.1)
