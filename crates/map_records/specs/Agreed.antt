-- There are fewer cm than a plan may have. Assumes nothing.
use Rattle.std.specs.Prelude.{ℕ, ◌<◌, List}
use Rattle.std.proofs.Common.{arith}
use Rattle.plans.specs.Agreement.{cm_count}
use Rattle.plans.specs.Passed.{counts-agree}
use Rattle.map_records.specs.Mapping.{cm_limit}
use Rattle.map_records.specs.Tables.{Planned}

-- each cm has two records
pub few-cms : (b : List ℕ) → Planned b → cm_count b < cm_limit
few-cms b h = let c = counts-agree b h.agree in omega (arith, c.second, c.third, c.fourth, h.fits)
