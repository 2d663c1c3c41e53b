-- `plan_tables::offsets::section_size` meets its contract. Assumes nothing.
use mathlib.Core.Path.{refl}
use native.Mathlib.Omega.{arith}
use Rattle.plan_tables.proofs.Summed.{size-most}
use Rattle.plan_tables.proofs.offsets.section_size.Goals as goal

pub overflow_mul-result : goal.overflow_mul-result
overflow_mul-result c = omega (arith, size-most c.args.rows c.args.width c.requires (omega (arith, c.well_formed)))

pub returns : goal.returns
returns c = record { is = refl; most = size-most c.args.rows c.args.width c.requires (omega (arith, c.well_formed)) }
