-- `evaluator_cells::given::before` meets its contract: each arm of the `match` is one case of `before_in`.
-- Assumes nothing.
use borrow.Author.Tests.{ne_eqb}
use Rattle.evaluator_cells.specs.Before.{before_in}
use Rattle.evaluator_cells.proofs.given.before.Goals as goal

pub returns-in-16 : goal.returns-in-16
unfolding before_in
returns-in-16 c = rw c.in-16.is c.row_at.ensures

pub returns-in-17 : goal.returns-in-17
unfolding before_in
returns-in-17 c = rw c.in-17.is c.row_at-in-17.ensures

pub returns-in-19 : goal.returns-in-19
unfolding before_in
returns-in-19 c = rw c.in-19.is c.row_at-in-19.ensures

pub returns-in-21 : goal.returns-in-21
unfolding before_in
returns-in-21 c = rw c.in-21.is c.word_at.ensures

pub returns-in-22 : goal.returns-in-22
unfolding before_in
returns-in-22 c = rw c.in-22.is c.word_at-in-22.ensures

pub returns-in-23 : goal.returns-in-23
unfolding before_in
returns-in-23 c = rw c.in-23.is c.word_at-in-23.ensures

pub returns-in-24 : goal.returns-in-24
unfolding before_in
returns-in-24 c = rw c.in-24.is c.word_at-in-24.ensures

pub returns-in-25 : goal.returns-in-25
unfolding before_in
returns-in-25 c = rw c.in-25.is c.word_at-in-25.ensures

pub returns-in-26 : goal.returns-in-26
unfolding before_in
returns-in-26 c = rw c.in-26.is c.word_at-in-26.ensures

pub returns-in_default : goal.returns-in_default
unfolding before_in
returns-in_default c = simp (ne_eqb _ _ c.in_default.in_default-own.rest.0.0.0.0.0.0.0.0.1, ne_eqb _ _ c.in_default.in_default-own.rest.0.0.0.0.0.0.0.1, ne_eqb _ _ c.in_default.in_default-own.rest.0.0.0.0.0.0.1, ne_eqb _ _ c.in_default.in_default-own.rest.0.0.0.0.0.1, ne_eqb _ _ c.in_default.in_default-own.rest.0.0.0.0.1, ne_eqb _ _ c.in_default.in_default-own.rest.0.0.0.1, ne_eqb _ _ c.in_default.in_default-own.rest.0.0.1, ne_eqb _ _ c.in_default.in_default-own.rest.0.1, ne_eqb _ _ c.in_default.in_default-own.rest.1)
