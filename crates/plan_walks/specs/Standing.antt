-- A plan that stands in an entry point's tables, whatever the literals of its pool.
-- Assumes nothing: these are definitions.
use Rattle.std.specs.Prelude.{ℕ, ◌≡◌, List}
use Rattle.pool.specs.Tabled.{Tables, tabled}
use Rattle.pool.specs.Ranking.{Tabling}
use Rattle.map_records.specs.Mapping.{mapped}
use Rattle.planning.specs.Planning.{Planned, planned}
use Rattle.planning.specs.Answers.{Stands}
use Rattle.planning.specs.declared.answer.Plan.{Plan}

pub record Standing (b w x cs : List ℕ) : Type 0 where
  pub literals : List ℕ
  pub node_count : ℕ
  pub sections : List ℕ
  pub dims : List ℕ
  pub plan : Plan
  pub stands : Stands b (Tabling w literals x node_count plan.expressions) sections dims cs plan

module _ {b w x cs : List ℕ} (z : Standing b w x cs) where
  abbrev pub tables : Tables
  tables = Tabling w z.literals x z.node_count z.plan.expressions

  -- the pool with its plan
  abbrev pub planned_in : Planned
  planned_in = planned (tabled tables) (mapped b (tabled tables))

-- the records are counted, and their sections stand in a table
pub record Tabled {b w x cs : List ℕ} (z : Standing b w x cs) (ss : List ℕ) (records : ℕ) : Type 0 where
  pub sections_is : z.sections ≡ ss
  pub records_is : z.plan.records ≡ records
