-- What the numbers of an answer are made from: columns that fit, and counts that agree.
-- Assumes nothing: these are definitions.
use Rattle.std.specs.Prelude.{ℕ, ◌+◌, ◌≤◌}
use Rattle.constraint_pool.specs.declared.judge.Columns.{Columns}

pub record NumbersAsked (c : Columns) (members : ℕ) : Type 0 where
  pub columns : c.commitments + members + c.quotients ≤ 65536
  pub counts : c.n_cm1 + c.n_cm2 ≤ c.commitments
