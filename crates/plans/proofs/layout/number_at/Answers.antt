-- `plans::layout::number_at` meets its contract. Assumes nothing.
use native.Mathlib.Omega.{arith}
use Rattle.plans.specs.Plan.{number_at}
use Rattle.plans.proofs.layout.number_at.Goals as goal

pub returns : goal.returns
unfolding number_at
returns c = record { is = c.u16_at.ensures; low = omega (arith, c.u16_at.type_inv) }
