-- `step_dimensions::lent::Lent::step_dim` meets its contract.
-- Assumes nothing.
use native.Mathlib.Omega.{arith}
use lib.ListN.{get_or}
use Rattle.kinds.specs.KindLaws.{sources-small}
use Rattle.kinds.specs.References.{ref_at}
use Rattle.kinds.specs.Steps.{step_at}
use Rattle.step_dimensions.specs.Laws.Known.{sizes-known}
use Rattle.step_dimensions.proofs.lent.Lent.step_dim.Goals as goal

pub sources_dim-requires : goal.sources_dim-requires
sources_dim-requires c = (c.requires, omega (arith, c.sources_needed-needed.ensures, sources-small (get_or c.args.list.now c.args.at 0)))

pub returns : goal.returns
unfolding step_at ref_at
returns c = sizes-known _ _ c.args.list.now c.args.at _ c.sources_needed-needed.ensures c.if-needed-eq0.false c.if-list-at.false _ c.is_destination.ensures c.if-not-is_destination.false _ c.sources_dim.ensures
