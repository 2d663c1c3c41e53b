-- A PLAN THAT IS DRAWN UP: what an entry point knows of it, by its pool and by the tables that hold its records, whatever tables hold the pool.
-- Assumes nothing: these are definitions.
use Rattle.std.specs.Prelude.{ℕ, ◌≤◌, ◌≡◌, true, List, length}
use Rattle.frames.specs.Order.{expression_limit}
use Rattle.pool.specs.Pool.{Pool}
use Rattle.plans.specs.Agreement.{names_there, bits_good}
use Rattle.map_records.specs.Mapping.{mapped, quotient_dim}
use Rattle.map_records.specs.Tables as records
use Rattle.map_records.specs.Tables.{Holds}
use Rattle.planning.specs.declared.answer.Plan.{Plan}

pub record Drawn (b : List ℕ) (p : Pool) (ss ds cs : List ℕ) (k : Plan) : Type 0 where
  pub planned : records.Planned b
  pub bits : bits_good b ≡ true
  pub names : names_there b k.expressions ≡ true
  pub few : k.expressions ≤ expression_limit
  pub expressions : length p.expressions ≡ k.expressions
  pub holds : Holds ss ds cs k.records (mapped b p)
  pub quotient : k.q_dim ≡ quotient_dim b p
