-- `step_dimensions::lent::Lent::write_dims` meets its contract.
-- Assumes nothing.
use native.Mathlib.Omega.{arith}
use lib.ListN.{get_or}
use Rattle.kinds.specs.KindLaws.{sources-small}
use Rattle.kinds.specs.Steps.{step_at}
use Rattle.step_dimensions.specs.Laws.Written.{dims-written}
use Rattle.step_dimensions.proofs.lent.Lent.write_dims.Goals as goal

pub put_dims-dim-requires : goal.put_dims-dim-requires
put_dims-dim-requires c = (c.requires, omega (arith, c.sources_needed-needed.ensures, sources-small (get_or c.args.list.now c.args.at 0)))

pub returns : goal.returns
unfolding step_at
returns c = dims-written _ _ c.args.list.now c.args.at (λ i. (c.slice_known-2-1.given i).fits) _ c.sources_needed-needed.ensures _ _ c.put_dims-dim.ensures _ c.note_dim.ensures _ c.put_u16.ensures
